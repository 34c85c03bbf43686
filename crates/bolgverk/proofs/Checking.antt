-- The check put together: what its parts say of the verdict and of the lent list.
use Rattle.std.specs.Prelude.{Result, Ok, Err}
use Prim.Native.Nat.{ℕ, ◌≤◌, ◌<◌}
use mathlib.Core.Path.{◌≡◌, refl, sym, ◌∙◌, ap}
use mathlib.Core.List.{List}
use lib.ListN.{length}
use Rattle.paper.specs.declared.Refusal.{Refusal}
use Rattle.paper.specs.declared.Trailer.{Trailer}
use Rattle.paper.specs.Answers.{Verdict, refuse}
use Rattle.paper.specs.Files.{trailer_of, case_of}
use Rattle.paper.specs.Verdicts.{verdict, lent_after, file_verdict, fact_rules, graph_rules}
use Rattle.paper.proofs.RuleLaws.{passes_lt, stops_lt}
use Rattle.layout.specs.Layouts.{layout_of}
use Rattle.layout.proofs.Laws.{read_rules, refused_rules, read_trailer}
use Rattle.bolgverk.specs.Promises.{CheckPromise}
use Rattle.ruling.specs.Ruled.{written, Ruled}
use Rattle.bolgverk.proofs.Kept.{check_kept}

module _ (f : List ℕ) (p : ℕ) (lent : List ℕ) where
  pub too_short : (r : Refusal) → length lent < 321 → r ≡ refuse 20 0 → CheckPromise f p lent (Err r) lent
  unfolding verdict
  too_short r h e = check_kept f p lent (Err r) lent (stops_lt (refuse 20 0) (length lent) 321 (file_verdict f) r h e) refl

  module _ (h : 321 ≤ length lent) (l : Result Trailer Refusal) (a : l ≡ layout_of f) where
    enough : (v : Verdict) → v ≡ file_verdict f → v ≡ verdict f (length lent)
    unfolding verdict
    enough v e = passes_lt (refuse 20 0) (length lent) 321 (file_verdict f) v h e

    pub layout_refused : (r : Refusal) → l ≡ Err r → CheckPromise f p lent (Err r) lent
    layout_refused r e = check_kept f p lent (Err r) lent (enough (Err r) (sym (refused_rules f r _ (sym a ∙ e)))) refl

    module _ (trailer : Trailer) (e : l ≡ Ok trailer) where
      same : trailer ≡ trailer_of f
      same = read_trailer f trailer (sym a ∙ e)

      same_after : (r : Verdict) → written f trailer p lent r ≡ lent_after f p lent r
      same_after (Ok tt) = ap (λ (s : Trailer). written f s p lent (Ok tt)) same
      same_after (Err r) = refl

      pub ruled_check : (r : Verdict) (after : List ℕ) → Ruled f trailer p lent r after → CheckPromise f p lent r after
      ruled_check r after j =
          check_kept f p lent r after
          (enough r
          (j.answer ∙ ap (λ (s : Trailer). graph_rules (case_of f s) (fact_rules f s (Ok tt))) same ∙ sym (read_rules f trailer (sym a ∙ e) _)))
          (j.numbers ∙ same_after r)
