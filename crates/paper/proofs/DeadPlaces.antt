-- With what a graph that has a dead node is refused: 26, "place the least such node, after 9 and before 10".
use Rattle.std.specs.Prelude.{Err}
use Prim.Native.Nat.{ℕ}
use mathlib.Core.Path.{◌≡◌, refl, ap}
use mathlib.Core.Bool.{false}
use Rattle.paper.specs.Answers.{Verdict, refuse}
use Rattle.paper.specs.Lists.{some}
use Rattle.paper.specs.Cases.{Case}
use Rattle.paper.specs.Graphs.{bad_entry, bad_return, reached, dead}
use Rattle.paper.specs.Verdicts.{path_rules}
use Rattle.paper.proofs.Least.{Found, some_is, least_is}

-- "a node other than 0"
pub node_0_lives : (e : Case) → dead e 0 ≡ false
unfolding reached dead
node_0_lives e = refl

module _ (e : Case) (rest : Verdict) (entries : some (bad_entry e) e.edges ≡ false) where
  -- an edge that breaks 9 comes first, whatever nodes are dead
  pub return_told : (w : Found (bad_return e) e.edges) → path_rules e rest ≡ Err (refuse 9 w.at)
  unfolding path_rules
  return_told w =
      rw (entries, some_is (bad_return e) e.edges w) (ap (λ (i : ℕ). Err (refuse 9 i)) (least_is (bad_return e) e.edges w))

  -- then the least dead node, whatever the rest says of the counts
  pub dead_told : some (bad_return e) e.edges ≡ false → (w : Found (dead e) e.nodes) → path_rules e rest ≡ Err (refuse 26 w.at)
  unfolding path_rules
  dead_told returns w =
      rw (entries, returns, some_is (dead e) e.nodes w) (ap (λ (i : ℕ). Err (refuse 26 i)) (least_is (dead e) e.nodes w))
