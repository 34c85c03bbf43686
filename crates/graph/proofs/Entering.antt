-- Rules 8 and 9 by the marks of the loops: a forward edge enters some loop beside its header exactly when the mark is above its source, and a backward one goes to no header around it when the mark is not.
use Prim.Native.Nat.{ℕ, ◌≤◌, ◌<◌}
use native.Mathlib.Omega.{arith}
use mathlib.Core.Path.{◌≡◌, refl}
use mathlib.Core.List.{List}
use lib.ListN.{get_or}
use Rattle.paper.specs.Cases.{Case}
use Rattle.paper.specs.Graphs.{bad_entry, bad_return}
use Rattle.paper.proofs.Says.{says_lt, says_le, says_and, says_same}
use Rattle.paper.proofs.GraphLaws.{entry_says, return_says}
use Rattle.graph.specs.Filled.{Holds}
use Rattle.paper.specs.Known.{Shaped}
use Rattle.graph.specs.declared.marks.Rule.{Rule}
use Rattle.graph.specs.declared.marks.Rule.TheVariants.{Entry, Return, Count}
use Rattle.graph.specs.Marks.{loop_mark, marks, marked_to, breaks, edge_rule}
use Rattle.graph.proofs.Marking.{marked_has, marked_le}

module _ (e : Case) (w : Shaped e) (i : ℕ) where
  entry_test : breaks Entry (e.from i) (e.to i) (marked_to (marks e Entry) 0 (e.to i) e.loops) ≡ bad_entry e i
  unfolding breaks marks loop_mark
  entry_test =
      says_same
      (λ q.
      let r = marked_has (marks e Entry) (e.to i) (e.from i) e.loops q in
      (omega (arith, r.2), (r.0, r.1, ((omega (arith, r.2), omega (arith, r.2)), (λ p. absurd (omega (arith, r.2, p.0)), omega (arith, r.2))))))
      (λ s.
      let b : ¬ ((e.loop s.1.0).first ≤ e.from i) = λ p. s.1.2.1.0 (p, omega (arith, s.1.2.0)) in
      omega (
        arith,
        marked_le (marks e Entry) (e.to i) e.loops (λ a b l h p q. omega (arith, w.rises a b l h)) s.1.0 s.1.1
            (omega (arith, s.1.2), omega (arith, s.1.2.0)),
      ))
      (says_lt _ _)
      (entry_says e i)

  return_test : breaks Return (e.from i) (e.to i) (marked_to (marks e Return) 0 (e.to i) e.loops) ≡ bad_return e i
  unfolding breaks marks loop_mark
  return_test =
      let x : ℕ = marked_to (marks e Return) 0 (e.to i) e.loops in
      says_same
      (λ s. (
        s.0,
        λ q.
            absurd
            (omega (
              arith,
              s.1,
              q.2,
              marked_le (marks e Return) (e.to i) e.loops (λ a b l h p q. absurd (omega (arith, w.rises a b l h))) q.0 q.1
                  (omega (arith, q.2), omega (arith, q.2)),
            )),
      ))
      (λ s.
      let m : ¬ (e.from i < x) = λ q.
      let r = marked_has (marks e Return) (e.to i) (e.from i) e.loops q in
      s.1 (r.0, r.1, ((omega (arith, r.2, s.0), omega (arith, r.2)), omega (arith, r.2))) in
      (s.0, omega arith))
      (says_and (says_le (e.to i) (e.from i)) (says_le x (e.from i)))
      (return_says e i)

  edge_test : (rule : Rule) → breaks rule (e.from i) (e.to i) (marked_to (marks e rule) 0 (e.to i) e.loops) ≡ edge_rule e rule i
  unfolding breaks edge_rule
  edge_test Entry = entry_test
  edge_test Return = return_test
  edge_test Count = refl

  -- edge i, from u to v, by the table
  pub edge_at : (rule : Rule) (table : List ℕ) (u v x : ℕ) → Holds (λ y. marked_to (marks e rule) 0 y e.loops) e.nodes table →
      u ≡ e.from i → v ≡ e.to i → v < e.nodes → x ≡ get_or table v 0 → breaks rule u v x ≡ edge_rule e rule i
  edge_at rule table u v x trailer from to l at = rw (at, trailer.at v l, from, to) (edge_test rule)
