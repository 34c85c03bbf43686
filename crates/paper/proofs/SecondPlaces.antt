-- With what a fact's evidence is refused: "16 and 18 add the least such node", "all three add the edge", "within one fact the least edge decides".
use Rattle.std.specs.Prelude.{Err}
use Prim.Native.Nat.{ℕ}
use mathlib.Core.Path.{◌≡◌, refl, ap}
use mathlib.Core.Bool.{true, false}
use Rattle.paper.specs.Answers.{Verdict, refuse_at}
use Rattle.paper.specs.Lists.{some}
use Rattle.paper.specs.Cases.{Fact, Case, size, scope_of}
use Rattle.paper.specs.Facts.{bad_row_at, bad_step_at, step_number, bad_many_at, least_node}
use Rattle.paper.specs.Verdicts.{row_rules, step_rules, many_rules, evidence_rules}
use Rattle.paper.proofs.Least.{Found, some_is, least_is}

module _ (e : Case) (t : Fact) (i : ℕ) (rest : Verdict) where
  -- a row that is not sound comes first
  pub row_told : some (bad_row_at e t) (size (scope_of e t)) ≡ true → evidence_rules e i t rest ≡ Err (refuse_at 16 i (least_node e t (bad_row_at e t)))
  unfolding row_rules step_rules many_rules
  row_told h = rw h refl

  module _ (rows : some (bad_row_at e t) (size (scope_of e t)) ≡ false) where
    -- then the least edge that breaks any of the three, by the one that it breaks
    pub edge_told : (w : Found (bad_step_at e t) e.edges) → evidence_rules e i t rest ≡ Err (refuse_at (step_number e t w.at) i w.at)
    unfolding row_rules step_rules
    edge_told w =
        rw (rows, some_is (bad_step_at e t) e.edges w)
        (ap (λ (edge : ℕ). Err (refuse_at (step_number e t edge) i edge)) (least_is (bad_step_at e t) e.edges w))

    -- then a node that fetches b and has row 8
    pub many_told : some (bad_step_at e t) e.edges ≡ false → some (bad_many_at e t) (size (scope_of e t)) ≡ true →
        evidence_rules e i t rest ≡ Err (refuse_at 18 i (least_node e t (bad_many_at e t)))
    unfolding row_rules step_rules many_rules
    many_told steps h = rw (rows, steps, h) refl
