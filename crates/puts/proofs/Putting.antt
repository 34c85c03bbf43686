-- Texts put one after another are one text, and a loop that puts them is done when nothing is left.
use Prim.Native.Nat.{ℕ, suc, ◌+◌}
use native.Mathlib.Omega.{arith}
use native.Mathlib.Nat.{add-zero}
use mathlib.Core.Path.{◌≡◌, refl, sym, ◌∙◌, ap, subst}
use mathlib.Core.List.{List, [], ◌∷◌, ◌++◌}
use lib.ListN.{length, set, drop, length-append}
use lib.Seq.{sets, length-sets, sets-eq}
use Rattle.puts.specs.Put.{Fits, Put}

sets_append : (l : List ℕ) (at : ℕ) (s t : List ℕ) → sets l at (s ++ t) ≡ sets (sets l at s) (at + length s) t
sets_append l at [] t = rw (add-zero at)
sets_append l at (x ∷ s) t =
    let e : at + suc (length s) ≡ suc at + length s = omega arith in
    rw e (sets_append _ (suc at) s t)

pub put_length : {l m : List ℕ} {at to : ℕ} {s : List ℕ} → Put l at s to m → length m ≡ length l
put_length {l} {m} {at} {to} {s} p = ap length p.list ∙ length-sets l at s

pub put_one : {l : List ℕ} {at x : ℕ} → Put l at (x ∷ []) (at + 1) (set l at x)
put_one = record { list = refl; place = refl }

-- where a text and then another fit, the first fits, and after it the second
pub first_fits : (s t : List ℕ) {l : List ℕ} {at : ℕ} → Fits l at (s ++ t) → Fits l at s
first_fits s t h = record { room = omega (arith, length-append s t, h.room) }

pub then_fits : (t : List ℕ) {l m s : List ℕ} {at to : ℕ} → Put l at s to m → Fits l at (s ++ t) → Fits m to t
then_fits t {l} {m} {s} p h = record { room = omega (arith, length-append s t, h.room, put_length p, p.place) }

-- a text that is the same fits as well
pub fits_as : {l s t : List ℕ} {at : ℕ} → s ≡ t → Fits l at s → Fits l at t
fits_as {l} {s} {t} {at} e h = subst (λ (text : List ℕ). Fits l at text) e h

pub put_then : {l m n s t : List ℕ} {at to end : ℕ} → Put l at s to m → Put m to t end n → Put l at (s ++ t) end n
put_then {l} {m} {n} {s} {t} {at} p q =
    record {
      list = q.list ∙ rw (p.list, p.place) (sym (sets_append l at s t));
      place = omega (arith, length-append s t, p.place, q.place);
    }

-- at the start of a list: the text, then what was there
pub put_whole : {l m s : List ℕ} {to : ℕ} → Fits l 0 s → Put l 0 s to m → (to ≡ length s) × (m ≡ s ++ drop to l)
put_whole {l} {m} {s} {to} h p =
    let e : to ≡ length s = omega (arith, p.place) in
    let z : 0 + length s ≡ length s = omega arith in
    (e, p.list ∙ sets-eq s l 0 h.room ∙ rw (z, e))

-- Of a text that is put from `at` on, `rest` is left, to be put from `to` on.
pub record Left (old : List ℕ) (at : ℕ) (text : List ℕ) (l : List ℕ) (to : ℕ) (rest : List ℕ) : Type 0 where
  pub list : sets old at text ≡ sets l to rest
  pub place : at + length text ≡ to + length rest
  pub kept : length l ≡ length old

module _ {old : List ℕ} {at : ℕ} {text : List ℕ} where
  pub left_start : Left old at text old at text
  left_start = record { list = refl; place = refl; kept = refl }

  pub left_end : {l : List ℕ} {to : ℕ} → Left old at text l to [] → Put old at text to l
  left_end f = record { list = sym f.list; place = omega (arith, f.place) }

  -- what is left fits
  pub left_fits : {l : List ℕ} {to : ℕ} {rest : List ℕ} → Fits old at text → Left old at text l to rest → Fits l to rest
  left_fits h f = record { room = omega (arith, h.room, f.place, f.kept) }

  pub left_more : {l m rest : List ℕ} {to next : ℕ} {s : List ℕ} → Put l to s next m → Left old at text l to (s ++ rest) → Left old at text m next rest
  left_more {l} {m} {rest} {to} {next} {s} p f =
      record {
        list = f.list ∙ sets_append l to s rest ∙ rw (p.list, p.place);
        place = omega (arith, f.place, p.place, length-append s rest);
        kept = put_length p ∙ f.kept;
      }
