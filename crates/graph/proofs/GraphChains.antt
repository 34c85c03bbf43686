-- The graph's chain put together from its parts' verdicts.
use Rattle.std.specs.Prelude.{Ok, Err}
use mathlib.Core.Path.{◌≡◌, sym, ◌∙◌}
use Rattle.paper.specs.declared.Refusal.{Refusal}
use Rattle.paper.specs.Answers.{Verdict}
use Rattle.paper.specs.Cases.{Case}
use Rattle.paper.specs.Known.{Shaped}
use Rattle.paper.specs.Verdicts.{shape_rules, path_rules, count_rules, graph_rules}
use Rattle.paper.proofs.RuleLaws.{accepted_on, refused_on}
use Rattle.paper.proofs.VerdictLaws.{shape_kept, hands_shape, hands_paths}

-- the shape's verdict is v
module _ (e : Case) (v : Verdict) (a : v ≡ shape_rules e (Ok tt)) where
  pub shape_refused : (r : Refusal) → v ≡ Err r → Err r ≡ graph_rules e (Ok tt)
  shape_refused r q = sym (refused_on (shape_rules e) (hands_shape e) _ v a r q)

  module _ (q : v ≡ Ok tt) where
    pub shape_passed : Shaped e
    shape_passed = (shape_kept e (Ok tt) (sym a ∙ q)).0

    onward : (rest : Verdict) → shape_rules e rest ≡ rest
    onward rest = accepted_on (shape_rules e) (hands_shape e) rest v a q

    -- the paths' verdict is w
    module _ (w : Verdict) (b : w ≡ path_rules e (Ok tt)) where
      pub paths_refused : (r : Refusal) → w ≡ Err r → Err r ≡ graph_rules e (Ok tt)
      paths_refused r z = sym (onward _ ∙ refused_on (path_rules e) (hands_paths e) _ w b r z)

      pub counts_decide : w ≡ Ok tt → (x : Verdict) → x ≡ count_rules e (Ok tt) → x ≡ graph_rules e (Ok tt)
      counts_decide z x k = k ∙ sym (onward _ ∙ accepted_on (path_rules e) (hands_paths e) _ w b z)
