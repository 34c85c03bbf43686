-- A legal state of the paper is k legal lines and empty ones after them.
use Prim.Native.Nat.{ℕ, suc, ◌+◌, ◌-◌, ◌≤◌}
use mathlib.Core.Path.{◌≡◌, refl, sym, ◌∙◌, ap}
use mathlib.Core.Logic.{◌≢◌}
use mathlib.Core.List.{List, [], ◌∷◌, ◌++◌}
use native.Mathlib.Decide.{ℕ_discrete, dec_le}
use native.Mathlib.Omega.{arith}
use lib.ListN.{length, get_or, take, drop, length-append, length-drop, take-append-drop}
use lib.Seq.{length-take-le, get_or-drop, get_or-append-add}
use Rattle.paper.specs.declared.SetState.{SetState}
use Rattle.paper.specs.Machines.{none, line_of}
use Rattle.paper.specs.Runs.{LegalSet}
use Rattle.paper.proofs.Says.{says_true, says_is}
use Rattle.paper.proofs.States.{Legal, LegalBits, Distinct, says_legal, line_at}
use Rattle.theory.proofs.Count.{sum, cnt, one_yes, one_no, cnt_append}
use Rattle.theory.proofs.Ideal.{Apart, LegalLines}
use Rattle.theory.proofs.Lines.{in_line}
use Rattle.theory.proofs.Ways.{alone}

-- "no block stands in two lines", by lines and by count
distinct_apart : (l : List ℕ) → Distinct l → Apart l
unfolding sum
distinct_apart [] a x n = omega arith
distinct_apart (y ∷ l) a x n =
    let r = distinct_apart l (λ i j g e. a (suc i) (suc j) (omega arith) e) x n in
    elim (ℕ_discrete y x) [
      | yes p ↦
          elim (dec_le 1 (cnt x l)) [
            | yes i ↦ absurd (n (sym p ∙ a 0 (suc (line_of l x)) (omega arith) (p ∙ sym (line_at l x none (in_line x l i)))))
            | no o ↦ omega (arith, one_yes x y p)
          ]
      | no q ↦ omega (arith, one_no x y q)
    ]

apart_distinct : (l : List ℕ) → Apart l → Distinct l
apart_distinct l v i j g e =
    elim (ℕ_discrete (get_or l i none) none) [ yes p ↦ p | no n ↦ absurd (omega (arith, alone l (get_or l i none) i j v n refl (sym e))) ]

cnt_empty : (x : ℕ) (l : List ℕ) → x ≢ none → ((i : ℕ) → get_or l i none ≡ none) → cnt x l ≡ 0
cnt_empty x l n h =
    elim (dec_le 1 (cnt x l)) [ yes i ↦ absurd (n (sym (line_at l x none (in_line x l i)) ∙ h (line_of l x))) | no o ↦ omega arith ]

-- a legal state is k legal lines, and empty ones after them
module _ (p k : ℕ) (most : k ≤ 8) (s : SetState) (v : LegalSet p k s) where
  pub is_legal : Legal p k s
  is_legal = says_true (says_legal p k s) v.legal

  over : (i : ℕ) → get_or (drop k s.lines) i none ≡ none
  over i = get_or-drop k s.lines i none ∙ is_legal.over (k + i) (omega arith)

  pub front : LegalLines k (take k s.lines)
  front =
      record {
        apart = λ x n.
            omega (
              arith,
              distinct_apart s.lines is_legal.apart x n,
              ap (cnt x) (take-append-drop k s.lines),
              cnt_append x (take k s.lines) (drop k s.lines),
            );
        lines_k = length-take-le k s.lines (omega (arith, v.eight));
      }

  pub joined : (l : List ℕ) (m : ℕ) → LegalLines k l → LegalBits p k m → LegalSet p k (record { lines = l ++ drop k s.lines; bits = m })
  joined l m w b =
      let r = drop k s.lines in
      record {
        eight = length-append l r ∙ omega (arith, w.lines_k, v.eight, length-drop k s.lines);
        legal =
            says_is
            (says_legal p k (record { lines = l ++ r; bits = m }))
            (record {
              apart = apart_distinct (l ++ r) (λ x n. omega (arith, cnt_append x l r, cnt_empty x r n over, w.apart x n));
              over = λ i g.
                  let e : length l + (i - k) ≡ i = omega (arith, w.lines_k) in
                  rw e at (get_or-append-add l r (i - k) none ∙ over (i - k));
              bits = b;
            });
      }
