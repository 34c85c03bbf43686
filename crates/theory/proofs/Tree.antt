-- Tree: of b's accesses at most the first in a stay misses, where the limit is at most 1 + log2 k. b is lost only where all log2 k bits on its path point to it.
-- Each bit that does has a block of R on its other side, and the block that misses is one more of R: 1 + log2 k blocks, and R has fewer.
use Prim.Native.Nat.{ℕ, ◌-◌, ◌^◌, ◌≤◌, ◌<◌}
use mathlib.Core.Path.{◌≡◌, refl, ap}
use mathlib.Core.Logic.{◌≢◌}
use mathlib.Core.List.{List, [], ◌∷◌}
use native.Mathlib.Decide.{ℕ_discrete}
use native.Mathlib.Omega.{arith}
use lib.ListN.{length}
use Rattle.paper.specs.declared.SetState.{SetState}
use Rattle.paper.specs.Machines.{none}
use Rattle.paper.specs.Trees.{levels, turned}
use Rattle.paper.proofs.TreeLaws.{TreeWays, line_deep, victim_line, victim_path, turned_path, turned_beside, turned_legal}
use Rattle.theory.proofs.Count.{sum, cnt, one_yes, one_no}
use Rattle.theory.proofs.Ideal.{place, placed, led, LegalWays}
use Rattle.theory.proofs.Pigeon.{pigeons}
use Rattle.theory.proofs.Ways.{hit, new, Marks, goes, place_low, stands, others, PLACED}
use Rattle.theory.proofs.Loads.{load, load_all}
use Rattle.theory.proofs.Law.{Machine, Law}
use Rattle.theory.proofs.Sides.{Safe, safe_stands, safe_wider, Accessed, safe_own, Comes, stood, missed, safe_other}

abbrev pub TREE : ℕ → Machine
TREE k = PLACED k (2 ^ (k - 1)) (led k) (turned k)

pub tree_marks : (k : ℕ) → TreeWays k → Marks k (2 ^ (k - 1)) (led k) (turned k)
tree_marks k w = record { low = λ s v. victim_line k w s.bits; few = λ bits j f l. turned_legal k w bits j l f }

module _ (b n k : ℕ) (bb : b ≢ none) (ways : TreeWays k) (small : n ≤ levels k) where
  abbrev r : ℕ
  r = k - 1

  abbrev Legal : SetState → Type 0
  Legal s = LegalWays k (2 ^ (k - 1)) s

  abbrev to : ℕ → SetState → ℕ
  to x s = place (led k) x s

  abbrev after : ℕ → SetState → SetState
  after x s = placed (led k) (turned k) x s

  marks : Marks k (2 ^ (k - 1)) (led k) (turned k)
  marks = tree_marks k ways

  accessed : (x : ℕ) (s : SetState) → Legal s → Accessed b r (levels k) (to x s) x s (after x s)
  accessed x s v =
      let l = place_low marks x s v in
      record {
        deep = line_deep k ways (to x s) l;
        has = stands marks x s v;
        others = others marks x s v;
        away = turned_path k ways s.bits (to x s) l;
        beside = turned_beside k ways s.bits (to x s) l;
      }

  record Kept (R : List ℕ) (s : SetState) : Type 0 where
    few : length R ≤ n
    real : cnt none R ≡ 0
    safe : Safe b r R s (levels k) 0

  fresh : (s : SetState) → Legal s → Kept [] (after b s)
  unfolding sum
  fresh s v =
      let w = accessed b s v in
      record { few = omega arith; real = refl; safe = safe_own b r [] (levels k) (to b s) s (after b s) w (levels k) 0 (omega arith) w.deep.root }

  pub tree_law : Law (TREE k) b n 1 1 0
  unfolding sum
  tree_law =
      record {
        enough = omega arith;
        Known = λ m R s. Kept R s;
        wider = λ m R R' s w f z q. record { few = f; real = z; safe = safe_wider b r R R' s (levels k) 0 w q.safe };
        other = λ m x R s u i v q. passed x R s u i v q;
        first = λ s v. (0, omega arith, fresh s v);
        again = λ m R s v q. (0, omega (arith, safe_stands b r R s (levels k) 0 bb q.safe), fresh s v);
      }
    where
      -- where R has a block x that stands in no line, fewer of R's blocks stand in the lines than there are levels
      few_stand : (R : List ℕ) (x : ℕ) (s : SetState) → Legal s → length R ≤ n → cnt none R ≡ 0 → 1 ≤ cnt x R → cnt x s.lines ≡ 0
          → load R (levels k) 0 r s.lines < levels k
      few_stand R x s v f z i c = omega (arith, load_all R (levels k) 0 r s.lines, pigeons R (x ∷ s.lines) apart z)
        where
          apart : (y : ℕ) → y ≢ none → cnt y (x ∷ s.lines) ≤ 1
          apart y e =
              elim (ℕ_discrete x y) [
                | yes p ↦ omega (arith, one_yes y x p, ap (λ (u : ℕ). cnt u s.lines) p)
                | no q ↦ omega (arith, one_no y x q, v.apart y e)
              ]

      comes : (R : List ℕ) (x : ℕ) (s : SetState) → Legal s → length R ≤ n → cnt none R ≡ 0 → 1 ≤ cnt x R → Comes b r R (levels k) (to x s) x s (levels k) 0
      comes R x s v f z i =
          elim (goes marks x s v) [
            | hit c p ↦ stood p
            | new c p ↦ missed (rw p (victim_path k ways s.bits)) (few_stand R x s v f z i c)
          ]

      passed : (x : ℕ) (R : List ℕ) (s : SetState) → x ≢ b → 1 ≤ cnt x R → Legal s → Kept R s → Kept R (after x s)
      passed x R s u i v q =
          let w = accessed x s v in
          record {
            few = q.few;
            real = q.real;
            safe =
                safe_other b r R (levels k) (to x s) x s (after x s) w u i q.real (levels k) 0 (omega arith) w.deep.root q.safe
                (comes R x s v q.few q.real i);
          }
