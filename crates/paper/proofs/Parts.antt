-- A list that stands in another from a place on.
use Prim.Native.Nat.{ℕ, zero, suc, ◌+◌, ◌-◌, ◌<◌}
use native.Mathlib.Omega.{arith}
use native.Mathlib.Decide.{dec_lt}
use mathlib.Core.Path.{◌≡◌, sym, ◌∙◌, ap, subst}
use mathlib.Core.List.{List, [], ◌∷◌, ◌++◌}
use lib.ListN.{length, get_or, take, drop, length-append, length-take, length-drop, get_or-append}
use lib.Seq.{get_or-append-add, get_or-take, get_or-drop, ext_get_or}

-- s stands in f from p on
pub record Stands (f : List ℕ) (p : ℕ) (s : List ℕ) : Type 0 where
  pub at : (i : ℕ) → i < length s → get_or f (p + i) 0 ≡ get_or s i 0

pub stands_self : (f : List ℕ) → Stands f 0 f
stands_self f = record { at = λ i h. ap (λ (k : ℕ). get_or f k 0) (omega arith) }

module _ (f : List ℕ) (p : ℕ) where
  pub stands_left : (s t : List ℕ) → Stands f p (s ++ t) → Stands f p s
  stands_left s t h = record { at = λ i l. h.at i (omega (arith, length-append s t)) ∙ get_or-append s t 0 i l }

  pub stands_right : (s t : List ℕ) → Stands f p (s ++ t) → Stands f (p + length s) t
  stands_right s t h =
      record {
        at = λ i l. ap (λ (k : ℕ). get_or f k 0) (omega arith) ∙ h.at (length s + i) (omega (arith, length-append s t)) ∙ get_or-append-add s t i 0;
      }

  pub stands_take : (n : ℕ) (s : List ℕ) → Stands f p s → Stands f p (take n s)
  stands_take n s h =
      record { at = λ i l. h.at i (omega (arith, length-take n s)) ∙ sym (get_or-take n s i 0 (omega (arith, length-take n s))) }

  pub stands_drop : (n : ℕ) (s : List ℕ) → Stands f p s → Stands f (p + n) (drop n s)
  stands_drop n s h =
      record { at = λ i l. ap (λ (k : ℕ). get_or f k 0) (omega arith) ∙ h.at (n + i) (omega (arith, length-drop n s)) ∙ sym (get_or-drop n s i 0) }

  pub stands_move : {q : ℕ} {s : List ℕ} → q ≡ p → Stands f q s → Stands f p s
  stands_move {q} {s} e h = subst (λ (r : ℕ). Stands f r s) e h

  pub stands_both : (s t : List ℕ) → Stands f p s → Stands f (p + length s) t → Stands f p (s ++ t)
  stands_both s t a b = record { at = go }
    where
      go : (i : ℕ) → i < length (s ++ t) → get_or f (p + i) 0 ≡ get_or (s ++ t) i 0
      go i l =
          elim (dec_lt i (length s)) [
            | yes h ↦ a.at i h ∙ sym (get_or-append s t 0 i h)
            | no n ↦
                let e : i ≡ length s + (i - length s) = omega arith in
                let q : p + i ≡ p + length s + (i - length s) = omega arith in
                let m : i - length s < length t = omega (arith, length-append s t) in
                rw (← q, ← e) at (b.at (i - length s) m ∙ sym (get_or-append-add s t (i - length s) 0))
          ]

  -- a list without its first
  pub stands_tail : (x : ℕ) (s : List ℕ) → Stands f p (x ∷ s) → Stands f (p + 1) s
  stands_tail x s h = stands_right (x ∷ []) s h

  pub stands_cons : (x : ℕ) (s : List ℕ) → get_or f p 0 ≡ x → Stands f (p + 1) s → Stands f p (x ∷ s)
  stands_cons x s e h = stands_both (x ∷ []) s (record { at = go }) h
    where
      go : (i : ℕ) → i < 1 → get_or f (p + i) 0 ≡ get_or (x ∷ []) i 0
      go zero l = ap (λ (k : ℕ). get_or f k 0) (omega arith) ∙ e
      go (suc i) l = absurd (omega arith)

pub stands_empty : (f : List ℕ) (p : ℕ) → Stands f p []
stands_empty f p = record { at = λ i l. absurd (omega arith) }

-- what stands at the start and is as long is the whole
pub stands_whole : (f s : List ℕ) → Stands f 0 s → length s ≡ length f → s ≡ f
stands_whole f s h e = ext_get_or 0 s f e (λ i l. sym (h.at i l) ∙ ap (λ (k : ℕ). get_or f k 0) (omega arith))
