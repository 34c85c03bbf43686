-- Two cases that say the same below their numbers keep the same of the rules 12, 13 and 16. (That they keep the same of 6 and 7 is `Shape-same`.)
use Prim.Native.Nat.{ℕ, zero, suc, ◌<◌}
use native.Mathlib.Omega.{arith}
use mathlib.Core.Path.{◌≡◌, refl, sym, ◌∙◌, ap, subst}
use mathlib.Core.Bool.{Bool, false}
use Rattle.paper.specs.Cases.{Fact, Case, size, scope_of}
use Rattle.paper.specs.Facts.{bad_head, bad_order}
use Rattle.paper.proofs.FactLaws.{head_sound}
use Rattle.paper.proofs.SameGraphs.{SameGraph}
use Rattle.paper.proofs.SameFacts.{SameFact, head_same, scope_same, rows_same}
use Rattle.paper.proofs.Meaning.{before_of}
use Rattle.contents.proofs.Kept.{KeptContent}

-- the same graph and the same facts, fact i by its first `rows i` rows
pub record SameCase (rows : ℕ → ℕ) (e d : Case) : Type 0 where
  pub graph : SameGraph e d
  pub facts : e.facts ≡ d.facts
  pub fact : (i : ℕ) → i < e.facts → SameFact (rows i) (e.fact i) (d.fact i)

graph_back : (e d : Case) → SameGraph e d → SameGraph d e
graph_back e d s =
    record {
      policy = sym s.policy;
      ways = sym s.ways;
      sets = sym s.sets;
      nodes = sym s.nodes;
      edges = sym s.edges;
      loops = sym s.loops;
      fetch = λ v l. sym (s.fetch v (omega (arith, s.nodes)));
      from = λ i l. sym (s.from i (omega (arith, s.edges)));
      to = λ i l. sym (s.to i (omega (arith, s.edges)));
      loop = λ j l. sym (s.loop j (omega (arith, s.loops)));
    }

fact_back : (n : ℕ) (t u : Fact) → SameFact n t u → SameFact n u t
fact_back n t u f =
    record {
      scope = sym f.scope;
      block = sym f.block;
      limit = sym f.limit;
      rows = λ j l. record { number = sym (f.rows j l).number; slot = λ k m. sym ((f.rows j l).slot k m) };
    }

module _ (rows : ℕ → ℕ) (e d : Case) (s : SameCase rows e d) where
  pub same_back : SameCase rows d e
  same_back =
      record {
        graph = graph_back e d s.graph;
        facts = sym s.facts;
        fact = λ i l. fact_back (rows i) _ _ (s.fact i (omega (arith, s.facts)));
      }

  module _ (i : ℕ) (l : i < e.facts) (h : bad_head e (e.fact i) ≡ false) (n : size (scope_of e (e.fact i)) ≡ rows i) where
    same_fact : SameFact (size (scope_of e (e.fact i))) (e.fact i) (d.fact i)
    same_fact = subst (λ (k : ℕ). SameFact k (e.fact i) (d.fact i)) (sym n) (s.fact i l)

    -- a scope that is in range is the same in both
    same_scope : scope_of e (e.fact i) ≡ scope_of d (d.fact i)
    same_scope = scope_same e d s.graph (e.fact i) (d.fact i) same_fact (head_sound e (e.fact i) h).scope

  -- 13: the fact before is the same to both
  module _ (k : (i : ℕ) → i < e.facts → (bad_head e (e.fact i) ≡ false) × (size (scope_of e (e.fact i)) ≡ rows i)) where
    before_same : (i : ℕ) → i < e.facts → before_of e i ≡ before_of d i
    before_same zero l = refl
    before_same (suc i) l =
        let m : i < e.facts = omega arith in
        let h = k i m in
        rw (same_scope i m h.0 h.1, (s.fact i m).block) refl

    order_same : (i : ℕ) → i < e.facts → bad_order e (before_of e i) (e.fact i) ≡ bad_order d (before_of d i) (d.fact i)
    unfolding bad_order
    order_same i l = let h = k i l in rw (before_same i l, same_scope i l h.0 h.1, (s.fact i l).block) refl

  module _ (short : ℕ → Bool) (k : (i : ℕ) → i < e.facts → KeptContent e i (before_of e i) (short i)) (n : (i : ℕ) → i < e.facts → size (scope_of e (e.fact i)) ≡ rows i) where
    pub size_same : (i : ℕ) → i < e.facts → size (scope_of d (d.fact i)) ≡ rows i
    size_same i l = ap size (sym (same_scope i l (k i l).head (n i l))) ∙ n i l

    pub content_same : (i : ℕ) → i < e.facts → KeptContent d i (before_of d i) false
    content_same i l =
        let f = same_fact i l (k i l).head (n i l) in
        record {
          head = sym (head_same e d s.graph (e.fact i) (d.fact i) f) ∙ (k i l).head;
          order = sym (order_same (λ j m. ((k j m).head, n j m)) i l) ∙ (k i l).order;
          whole = refl;
          rows = sym (rows_same e d s.graph (e.fact i) (d.fact i) f (head_sound e (e.fact i) (k i l).head).scope) ∙ (k i l).rows;
        }
