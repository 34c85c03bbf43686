-- What is read of the head of the fact that stands at p.
use Rattle.std.specs.Prelude.{Ok, Option}
use Prim.Native.Nat.{ℕ, ◌+◌, ◌%◌, ◌≤◌, ◌<◌}
use native.Mathlib.Omega.{arith}
use native.Mathlib.Decide.{ℕ_discrete}
use mathlib.Core.Path.{◌≡◌, refl, sym, ◌∙◌, ap, subst}
use mathlib.Core.Logic.{◌≢◌}
use mathlib.Core.Bool.{Bool, false}
use mathlib.Core.List.{List}
use lib.Dec.{ltb}
use borrow.Author.Tests.{eq-eqb, ne_eqb}
use Rattle.paper.specs.declared.Trailer.{Trailer}
use Rattle.paper.specs.declared.Previous.{Previous}
use Rattle.paper.specs.declared.Loop.{Loop}
use Rattle.paper.specs.Answers.{Verdict}
use Rattle.paper.specs.Machines.{none}
use Rattle.paper.specs.Cases.{range_of}
use Rattle.paper.specs.Files.{end_at, loop_at, fact_at, case_of}
use Rattle.paper.specs.Facts.{wrong_head, wrong_order, bad_head, bad_order}
use Rattle.paper.specs.Known.{Laid, Shaped}
use Rattle.paper.specs.Rules.{rule}
use Rattle.paper.specs.Verdicts.{head_rule, order_rule, body_rules, turn_rules}
use Rattle.paper.proofs.FactLaws.{head_sound}
use Rattle.evidence.specs.Stands.{scope_at, Stands}
use Rattle.facts.specs.declared.Names.{Names}
use Rattle.facts.specs.Turns.{names_at}

-- a scope that is a loop or the whole graph is a range of nodes
pub range_fits :
    (f : List ℕ) (trailer : Trailer) (w : ℕ) → (w ≢ none → w < trailer.loops) → Laid f trailer → Shaped (case_of f trailer) →
    let s = range_of trailer.nodes (loop_at f trailer) w in (s.first ≤ s.last) × (s.last < trailer.nodes)
unfolding range_of case_of
range_fits f trailer w named laid shape =
    elim (ℕ_discrete w none) [
      | yes k ↦ rw (eq-eqb w none k) (omega (arith, laid.nodes_low))
      | no k ↦ rw (ne_eqb w none k) (let fit = shape.fits w (named k) in (fit.0, fit.1))
    ]

module _ (f : List ℕ) (trailer : Trailer) (p : ℕ) (n : Names) (x : n ≡ names_at f p) where
  -- 12 at the fact's place
  pub head_is : wrong_head trailer.loops trailer.ways n.scope n.block n.limit ≡ bad_head (case_of f trailer) (fact_at f p)
  unfolding bad_head case_of
  head_is = rw x refl

  -- the same of a result of the test
  pub head_told : (r b : Bool) → r ≡ wrong_head trailer.loops trailer.ways n.scope n.block n.limit → r ≡ b → b ≡ bad_head (case_of f trailer) (fact_at f p)
  head_told r b e q = sym q ∙ e ∙ head_is

  module _ (s : Loop) (a : s ≡ range_of trailer.nodes (loop_at f trailer) n.scope) where
    scope_is : s ≡ scope_at f trailer p
    scope_is = a ∙ ap (λ (n : Names). range_of trailer.nodes (loop_at f trailer) n.scope) x

    -- 13 at the fact's place
    pub order_is : (previous : Option Previous) → wrong_order previous n.block s.first ≡ bad_order (case_of f trailer) previous (fact_at f p)
    unfolding bad_order case_of
    order_is previous = rw (scope_is, x) refl

    pub order_told : (previous : Option Previous) (r b : Bool) → r ≡ wrong_order previous n.block s.first → r ≡ b → b ≡ bad_order (case_of f trailer) previous (fact_at f p)
    order_told previous r b e q = sym q ∙ e ∙ order_is previous

  module _ (e : false ≡ bad_head (case_of f trailer) (fact_at f p)) where
    -- a fact that passes 12 names a loop or the whole graph
    pub named : n.scope ≢ none → n.scope < trailer.loops
    unfolding case_of
    named q =
        let s : n.scope ≡ (fact_at f p).scope = ap (λ (n : Names). n.scope) x in
        omega (arith, (head_sound (case_of f trailer) (fact_at f p) (sym e)).scope (λ k. q (s ∙ k)))

    pub stands :
        (s : Loop) → s ≡ range_of trailer.nodes (loop_at f trailer) n.scope → Laid f trailer → Shaped (case_of f trailer) → (h : ℕ) → h ≡ n.block % trailer.sets →
        Stands f trailer (record { place = p; first = s.first; last = s.last; block = n.block; limit = n.limit; home = h })
    stands s a laid shape h o =
        let k = subst (λ (s : Loop). (s.first ≤ s.last) × (s.last < trailer.nodes)) (sym a) (range_fits f trailer n.scope named laid shape) in
        record {
          first = ap (λ (s : Loop). s.first) (scope_is s a);
          last = ap (λ (s : Loop). s.last) (scope_is s a);
          block = ap (λ (n : Names). n.block) x;
          limit = ap (λ (n : Names). n.limit) x;
          home = o;
          rises = k.0;
          within = k.1;
        }

-- the turn's chain, by the outcomes a, b and c of its first tests
pub turn_is :
    (f : List ℕ) (trailer : Trailer) (i : ℕ) (previous : Option Previous) (p : ℕ) (a b c : Bool) (v : Verdict) →
    a ≡ ltb (end_at f) (p + 6) → b ≡ bad_head (case_of f trailer) (fact_at f p) → c ≡ bad_order (case_of f trailer) previous (fact_at f p) → v ≡ body_rules f trailer i p (Ok tt) →
    rule 11 i a (rule 12 i b (rule 13 i c v)) ≡ turn_rules f trailer i previous p (Ok tt)
unfolding turn_rules head_rule order_rule
turn_is f trailer i previous p a b c v x y z o = cc
