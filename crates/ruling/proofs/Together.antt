-- Rules 6 to 19 put together: what the graph's verdict and the facts' verdict say of the file's.
use Rattle.std.specs.Prelude.{Ok, Err}
use Prim.Native.Nat.{ℕ, ◌<◌}
use mathlib.Core.Path.{◌≡◌, refl, sym, ◌∙◌}
use mathlib.Core.List.{List, ◌++◌}
use lib.ListN.{drop}
use Rattle.paper.specs.declared.Refusal.{Refusal}
use Rattle.paper.specs.declared.Trailer.{Trailer}
use Rattle.paper.specs.Answers.{Verdict}
use Rattle.paper.specs.Bounds.{numbers}
use Rattle.paper.specs.Files.{fact_place, case_of}
use Rattle.paper.specs.Known.{Laid, Shaped}
use Rattle.paper.specs.Verdicts.{graph_rules, fact_rules}
use Rattle.paper.proofs.Meaning.{Sound}
use Rattle.paper.proofs.RuleLaws.{accepted_on, refused_on}
use Rattle.paper.proofs.VerdictLaws.{graph_kept, facts_kept, hands_graph, KeptFact}
use Rattle.charge.specs.Placed.{Placed}
use Rattle.ruling.specs.Ruled.{Ruled}

-- the graph's verdict is v
module _ (f : List ℕ) (trailer : Trailer) (v : Verdict) (a : v ≡ graph_rules (case_of f trailer) (Ok tt)) where
  pub graph_refused : (p : ℕ) (lent : List ℕ) (r : Refusal) → v ≡ Err r → Ruled f trailer p lent (Err r) lent
  graph_refused p lent r e = record { answer = sym (refused_on (graph_rules (case_of f trailer)) (hands_graph (case_of f trailer)) _ v a r e); numbers = refl }

  module _ (e : v ≡ Ok tt) where
    pub graph_shaped : Shaped (case_of f trailer)
    graph_shaped = (graph_kept (case_of f trailer) (Ok tt) (sym a ∙ e)).0

    onward : (rest : Verdict) → graph_rules (case_of f trailer) rest ≡ rest
    onward rest = accepted_on (graph_rules (case_of f trailer)) (hands_graph (case_of f trailer)) rest v a e

    -- the facts' verdict is w
    module _ (w : Verdict) (b : w ≡ fact_rules f trailer (Ok tt)) where
      pub facts_refused : (p : ℕ) (lent : List ℕ) (r : Refusal) → w ≡ Err r → Ruled f trailer p lent (Err r) lent
      facts_refused p lent r g = record { answer = sym (onward _ ∙ sym b ∙ g); numbers = refl }

      module _ (g : w ≡ Ok tt) where
        kept : (i : ℕ) → i < trailer.facts → KeptFact f trailer (fact_place f trailer i)
        kept = facts_kept f trailer (Ok tt) (sym b ∙ g)

        pub case_sound : Laid f trailer → Sound (case_of f trailer)
        unfolding case_of
        case_sound l =
            record {
              cache = l.cache;
              nodes = l.nodes_low;
              graph = (graph_kept (case_of f trailer) (Ok tt) (sym a ∙ e)).1;
              facts = λ i h. (kept i h).sound;
            }

        pub facts_placed : Placed f trailer
        facts_placed = record { ends = λ i h. (kept i h).room }

        pub judged : (p : ℕ) (lent after : List ℕ) → after ≡ numbers (case_of f trailer) p ++ drop 321 lent → Ruled f trailer p lent (Ok tt) after
        judged p lent after n = record { answer = sym (onward _ ∙ sym b ∙ g); numbers = n }
