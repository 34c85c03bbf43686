-- LRU with w ways beside LRU with eight: an access keeps that w ways hold the first w lines of the eight, and w ways hit where the block stands in one of these.
use Prim.Native.Nat.{ℕ, zero, suc, ◌≤◌}
use native.Mathlib.Omega.{arith}
use native.Mathlib.Decide.{dec_lt}
use mathlib.Core.Path.{◌≡◌, refl, sym, ◌∙◌, ap}
use mathlib.Core.Bool.{Bool, true, false, cond}
use mathlib.Core.List.{List, [], ◌∷◌}
use lib.Dec.{eqb, ltb}
use lib.ListN.{length, take, drop}
use lib.Seq.{take_all, take_at, length-take-le}
use borrow.Author.Tests.{lt-ltb, le-ltb}
use Rattle.paper.specs.declared.SetState.{SetState}
use Rattle.paper.specs.Policies.{lru_policy}
use Rattle.paper.specs.Machines.{empty_set, line_of, hits, lru_step, step, offered}
use Rattle.paper.specs.Runs.{LegalSet}
use Rattle.paper.proofs.Says.{says_is}
use Rattle.paper.proofs.States.{says_offered, empty_legal}
use Rattle.paper.proofs.LineLaws.{line_take}
use Rattle.theory.proofs.Ideal.{shift, lru}
use Rattle.theory.proofs.Lines.{length_shift}
use Rattle.theory.proofs.Cut.{lru_lines}
use Rattle.theory.proofs.View.{kept}

-- a shift of the lines is one of the first of them: what stands further down has no say
take_shift : (w x c : ℕ) (l : List ℕ) → take w (shift x c l) ≡ shift x c (take w l)
unfolding shift
take_shift zero x c [] = refl
take_shift zero x c (y ∷ l) = refl
take_shift (suc w) x c [] = refl
take_shift (suc w) x c (y ∷ l) = ap {B = List ℕ} (λ m. c ∷ m) (go (eqb y x) (take_shift w x y l))
  where
    go : (t : Bool) → take w (shift x y l) ≡ shift x y (take w l) → take w (cond t l (shift x y l)) ≡ cond t (take w l) (shift x y (take w l))
    go true e = refl
    go false e = e

-- the first k lines after an access, k ways
front_lru : (k : ℕ) (s : SetState) (b : ℕ) → 1 ≤ k → k ≤ length s.lines → take k (step lru_policy k s b).state.lines ≡ lru b (take k s.lines)
unfolding step lru_step
front_lru k s b low fits =
    ap (take k) (lru_lines k b s.lines low fits)
    ∙ take_at (lru b (take k s.lines)) (drop k s.lines) k (length_shift b b (take k s.lines) ∙ length-take-le k s.lines fits)

-- LRU is offered with one way to eight
pub lru_offered : (w : ℕ) → 1 ≤ w → w ≤ 8 → offered lru_policy w ≡ true
lru_offered w l h = says_is (says_offered lru_policy w) (record { known = omega arith; most = h; least = l; two = λ e. absurd (omega arith); tree = λ e. absurd (omega arith) })

pub empty_set_lem : (w : ℕ) → 1 ≤ w → LegalSet lru_policy w empty_set
empty_set_lem w l = record { eight = refl; legal = empty_legal lru_policy w l }

module _ (w : ℕ) (low : 1 ≤ w) (high : w ≤ 8) where
  -- of the states s with eight ways and d with w ways: w ways hold the first of the lines that eight ways hold
  pub record First (s d : SetState) : Type 0 where
    pub eight : LegalSet lru_policy 8 s
    pub few : LegalSet lru_policy w d
    pub same : take w d.lines ≡ take w s.lines

  -- "all sets start empty"
  pub first_empty : First empty_set empty_set
  first_empty = record { eight = empty_set_lem 8 (omega arith); few = empty_set_lem w low; same = refl }

  module _ (s d : SetState) (b : ℕ) (c : First s d) where
    eight_kept : LegalSet lru_policy 8 (step lru_policy 8 s b).state
    eight_kept = kept lru_policy 8 s b (lru_offered 8 (omega arith) (omega arith)) c.eight

    eight_ways : (step lru_policy 8 s b).state.lines ≡ lru b s.lines
    eight_ways =
        sym (take_all 8 (step lru_policy 8 s b).state.lines (omega (arith, eight_kept.eight)))
        ∙ front_lru 8 s b (omega arith) (omega (arith, c.eight.eight))
        ∙ ap (lru b) (take_all 8 s.lines (omega (arith, c.eight.eight)))

    -- an access keeps it so
    pub first_step : First (step lru_policy 8 s b).state (step lru_policy w d b).state
    first_step =
        record {
          eight = eight_kept;
          few = kept lru_policy w d b (lru_offered w low high) c.few;
          same =
              front_lru w d b low (omega (arith, c.few.eight))
              ∙ ap (lru b) c.same
              ∙ sym (take_shift w b b s.lines)
              ∙ ap (take w) (sym eight_ways);
        }

    -- w ways hit where the block stands in one of the first w lines
    pub first_hit : (step lru_policy w d b).hit ≡ ltb (line_of s.lines b) w
    unfolding step lru_step hits
    first_hit =
        ap (λ (l : List ℕ). ltb (line_of l b) w) c.same
        ∙ ap (λ (n : ℕ). ltb n w) (line_take w s.lines b (omega (arith, c.eight.eight)))
        ∙ elim (dec_lt (line_of s.lines b) w) [
          | yes h ↦ lt-ltb _ w (omega arith) ∙ sym (lt-ltb _ w h)
          | no h ↦ le-ltb _ w (omega arith) ∙ sym (le-ltb _ w (omega arith))
        ]
