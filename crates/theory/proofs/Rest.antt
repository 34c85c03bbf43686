-- The rest of a file that is salvaged: it is accepted, and holds the facts that are kept, unchanged.
use Rattle.std.specs.Prelude.{Ok}
use Prim.Native.Nat.{ℕ, ◌+◌, ◌≤◌, ◌<◌}
use native.Mathlib.Omega.{arith}
use mathlib.Core.Path.{◌≡◌, refl, ◌∙◌}
use mathlib.Core.List.{List}
use lib.ListN.{length, get_or}
use borrow.Author.Tests.{le-ltb}
use Rattle.paper.specs.declared.Trailer.{Trailer}
use Rattle.paper.specs.Facts.{none_previous}
use Rattle.paper.specs.Files.{end_at, trailer_of, facts_at, fact_place, read_case}
use Rattle.paper.specs.Known.{Laid}
use Rattle.paper.specs.Rules.{Passes}
use Rattle.paper.specs.Verdicts.{fact_rules, whole_file_rules, file_verdict}
use Rattle.paper.specs.OneFact.{with_facts}
use Rattle.paper.specs.Salvaging.{judged, fact_part, fact_parts, kept, salvaged}
use Rattle.paper.proofs.LayoutTests.{KeptLayout, tests_kept}
use Rattle.paper.proofs.VerdictLaws.{layout_kept, graph_kept}
use Rattle.theory.proofs.WithFacts.{holding, facts_part_lem, end_is, trailer_is, same_graph, judged_by}
use Rattle.theory.proofs.Moved.{Beside}
use Rattle.theory.proofs.Keeping.{Lined, kept_follow, kept_few, lined_turns, lined_end, lined_part}

module _ (f : List ℕ) (passes : Passes (whole_file_rules f)) where
  abbrev t : Trailer
  t = trailer_of f

  abbrev pub parts : List ℕ
  parts = fact_parts f t (kept f)

  abbrev pub n : ℕ
  n = length (kept f)

  abbrev pub g : List ℕ
  g = with_facts f parts n

  abbrev u : Trailer
  u = holding f n

  pub layout : KeptLayout f t
  layout = tests_kept f _ passes

  laid_out : Laid f t
  laid_out = (layout_kept f _ passes).0

  beside : Beside f t g u
  beside =
      record {
        graph = same_graph f parts n layout;
        shaped = (graph_kept (read_case f) (Ok tt) (layout_kept f _ passes).1).0;
        some_node = laid_out.nodes_low;
      }

  pub few : n ≤ 256
  unfolding judged
  few = omega (arith, kept_few f t t.facts 0 none_previous (facts_at t), laid_out.facts_high)

  -- the facts that are kept stand one after another
  lined : Lined f t g u beside none_previous (kept f) (facts_at u)
  unfolding judged
  lined =
      record {
        follow = kept_follow f t t.facts 0 none_previous (facts_at t);
        here = facts_part_lem f parts n layout;
        room = omega (arith, end_is f parts n layout);
      }

  facts_accepted : fact_rules g u (Ok tt) ≡ Ok tt
  unfolding fact_rules fact_place
  facts_accepted =
      let end : fact_place g u (0 + n) ≡ facts_at u + length parts = lined_end f t g u beside (kept f) 0 none_previous (facts_at u) lined refl in
      let z : 0 + n ≡ n = omega arith in
      let last : fact_place g u n ≡ facts_at u + length parts = rw z at end in
      lined_turns f t g u beside (kept f) 0 none_previous (facts_at u) _ lined
      ∙ rw (le-ltb (fact_place g u n) (end_at g) (omega (arith, last, end_is f parts n layout))) refl

  -- "The result is accepted"
  pub accepted : file_verdict (salvaged f) ≡ Ok tt
  unfolding salvaged
  accepted = judged_by f parts n passes few ∙ facts_accepted

  -- "holds every kept fact unchanged"
  pub unchanged : (i : ℕ) → i < n → fact_part g u (fact_place g u i) ≡ fact_part f t (get_or (kept f) i 0)
  unfolding fact_place
  unchanged i l =
      let z : 0 + i ≡ i = omega arith in
      rw z at (lined_part f t g u beside (kept f) 0 none_previous (facts_at u) lined refl i l)

  pub trailer : trailer_of g ≡ u
  trailer = trailer_is f parts n layout
