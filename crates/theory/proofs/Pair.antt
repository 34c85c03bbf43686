-- NMRU with one other block at most: of b's accesses in a stay only the first misses.
use Prim.Native.Nat.{ℕ, ◌-◌, ◌^◌, ◌≤◌}
use mathlib.Core.Path.{◌≡◌, refl, sym, ◌∙◌, ap}
use mathlib.Core.Logic.{◌≢◌, ◌⊎◌, inl, inr}
use mathlib.Core.List.{List, [], ◌∷◌}
use native.Mathlib.Decide.{ℕ_discrete}
use native.Mathlib.Omega.{arith}
use lib.ListN.{length, get_or}
use Rattle.paper.specs.declared.SetState.{SetState}
use Rattle.paper.specs.Machines.{none, bit_at, marked}
use Rattle.theory.proofs.Count.{sum, cnt, one_no}
use Rattle.theory.proofs.Ideal.{freed, spot, nmru, LegalWays}
use Rattle.theory.proofs.Ways.{Marks, stands, others, there}
use Rattle.theory.proofs.Spots.{NMRU, nmru_marks, own, taken}
use Rattle.theory.proofs.Law.{Law}

-- a list of one block has no other
is_only : (x y : ℕ) → 1 ≤ cnt x (y ∷ []) → y ≡ x
unfolding sum
is_only x y h = elim (ℕ_discrete y x) [ yes p ↦ p | no q ↦ absurd (omega (arith, one_no x y q)) ]

same_one : (x y : ℕ) (R : List ℕ) → length R ≤ 1 → 1 ≤ cnt x R → 1 ≤ cnt y R → x ≡ y
unfolding sum
same_one x y [] h i j = absurd (omega arith)
same_one x y (z ∷ []) h i j = sym (is_only x z i) ∙ is_only y z j
same_one x y (z ∷ w ∷ R) h i j = absurd (omega arith)

module _ (b n k : ℕ) (bb : b ≢ none) (n1 : n ≤ 1) (k2 : 2 ≤ k) where
  -- b stands. Its bit is 1, or R's one block stands in a line whose bit is 1: then that block hits, and takes no other line.
  record Safe (R : List ℕ) (s : SetState) : Type 0 where
    few : length R ≤ n
    real : cnt none R ≡ 0
    i : ℕ
    line : get_or s.lines i none ≡ b
    kept : bit_at s.bits i ≡ 1 ⊎ ((j : ℕ) × (bit_at s.bits j ≡ 1) × (1 ≤ cnt (get_or s.lines j none) R))

  marks : Marks k (2 ^ k - 1) (freed k) (marked k)
  marks = nmru_marks k k2

  touched : (s : SetState) → LegalWays k (2 ^ k - 1) s → Safe [] (nmru k b s)
  unfolding sum
  touched s v = record { few = omega arith; real = refl; i = spot k b s; line = stands marks b s v; kept = inl (own k2 b s v) }

  wider : (R R' : List ℕ) (s : SetState) → ((y : ℕ) → 1 ≤ cnt y R → 1 ≤ cnt y R') → length R' ≤ n → cnt none R' ≡ 0 → Safe R s → Safe R' s
  wider R R' s w f r q =
      record {
        few = f;
        real = r;
        i = q.i;
        line = q.line;
        kept = elim q.kept [ inl on ↦ inl on | inr m ↦ inr (m.0, m.1, w _ m.2) ];
      }

  pub nmru_pair_law : Law (NMRU k) b n 1 1 0
  nmru_pair_law =
      record {
        enough = omega arith;
        Known = λ m R s. Safe R s;
        wider = λ m R R' s w f r q. wider R R' s w f r q;
        other = λ m x R s u i v q. passed x R s u i v q;
        first = λ s v. (0, omega arith, touched s v);
        again = λ m R s v q. (0, omega (arith, there marks b s v bb q.i q.line), touched s v);
      }
    where
      -- R's block x is accessed: it does not take b's line
      spared : (x : ℕ) (R : List ℕ) (s : SetState) → x ≢ b → 1 ≤ cnt x R → LegalWays k (2 ^ k - 1) s → (q : Safe R s) → q.i ≢ spot k x s
      spared x R s u x∈ v q e =
          elim q.kept [
            | inl on ↦ omega (arith, taken k2 x s v b q.i bb u q.line e)
            | inr m ↦
                let is : get_or s.lines m.0 none ≡ x = same_one _ x R (omega (arith, q.few)) m.2 x∈ in
                let real : x ≢ none = λ r. omega (arith, ap (λ (y : ℕ). cnt y R) r, q.real) in
                let at : m.0 ≡ q.i = (there marks x s v real m.0 is).1 ∙ sym e in
                u (sym is ∙ ap (λ (j : ℕ). get_or s.lines j none) at ∙ q.line)
          ]

      -- and b stands from then on in a line whose bit is 1
      passed : (x : ℕ) (R : List ℕ) (s : SetState) → x ≢ b → 1 ≤ cnt x R → LegalWays k (2 ^ k - 1) s → Safe R s → Safe R (nmru k x s)
      passed x R s u x∈ v q =
          record {
            few = q.few;
            real = q.real;
            i = q.i;
            line = others marks x s v q.i (spared x R s u x∈ v q) ∙ q.line;
            kept = inr (spot k x s, own k2 x s v, rw (stands marks x s v) x∈);
          }
