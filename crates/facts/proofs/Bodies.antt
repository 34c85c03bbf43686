-- The body of the fact at hand: where its rows end, what it is to the next fact, and the chain.
use Rattle.std.specs.Prelude.{Ok}
use Prim.Native.Nat.{ℕ, ◌+◌, ◌*◌}
use native.Mathlib.Omega.{arith}
use mathlib.Core.Path.{◌≡◌, refl, sym, ◌∙◌, ap}
use mathlib.Core.Bool.{Bool, false}
use mathlib.Core.List.{List}
use lib.Dec.{ltb}
use borrow.Author.Tests.{ltb-false}
use Rattle.paper.specs.declared.Trailer.{Trailer}
use Rattle.paper.specs.Answers.{Verdict}
use Rattle.paper.specs.Facts.{unfetched}
use Rattle.paper.specs.Files.{end_at, fact_end, case_of}
use Rattle.paper.specs.Rules.{rule}
use Rattle.paper.specs.Verdicts.{fetch_rule, evidence_rules, body_rules}
use Rattle.evidence.specs.declared.Head.{Head}
use Rattle.evidence.specs.Stands.{Stands, Whole, fact_of, nodes_of}
use Rattle.facts.specs.Turns.{Next}

module _ (f : List ℕ) (trailer : Trailer) (h : Head) (s : Stands f trailer h) where
  end_of : fact_end f trailer h.place ≡ h.place + 6 + 16 * nodes_of h
  unfolding fact_end
  end_of = cc

  -- 15 for a scope of m nodes, whose rows are so long, by the outcome b of its test
  module _ (m rows : ℕ) (e : m ≡ nodes_of h) (l : rows ≡ 16 * m) where
    rows_end : h.place + 6 + rows ≡ fact_end f trailer h.place
    rows_end = rw (l, e) (sym end_of)

    module _ (b : Bool) (q : b ≡ ltb (end_at f) (h.place + 6 + rows)) where
      pub cut_is : b ≡ ltb (end_at f) (fact_end f trailer h.place)
      cut_is = q ∙ ap (ltb (end_at f)) rows_end

      pub whole : b ≡ false → Whole f h
      whole z = record { room = omega (arith, ltb-false (end_at f) (h.place + 6 + rows) (sym q ∙ z)) }

      pub next_of : b ≡ false → Next f trailer h.place (record { previous = record { block = h.block; last = h.last }; end = h.place + 6 + rows })
      unfolding case_of
      next_of z = record { previous_is = rw (s.block, s.last) refl; end_is = rows_end; room = ltb-false _ _ (sym q ∙ z) }

  -- the chain, by the outcomes a and b of its first tests and the evidence's verdict v
  pub body_is :
      (i : ℕ) (a b : Bool) (v : Verdict) → a ≡ unfetched (case_of f trailer) (fact_of f h) → b ≡ ltb (end_at f) (fact_end f trailer h.place) →
      v ≡ evidence_rules (case_of f trailer) i (fact_of f h) (Ok tt) → rule 14 i a (rule 15 i b v) ≡ body_rules f trailer i h.place (Ok tt)
  unfolding body_rules fetch_rule
  body_is i a b v x y z = cc
