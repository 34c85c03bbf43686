-- What each chain of the verdict says of a file that passes it, and that it hands on to what follows.
use Rattle.std.specs.Prelude.{Ok, Err, Option}
use Prim.Native.Nat.{ℕ, zero, suc, ◌+◌, ◌≤◌, ◌<◌}
use native.Mathlib.Omega.{arith}
use native.Mathlib.Decide.{ℕ_discrete}
use mathlib.Core.Path.{◌≡◌}
use mathlib.Core.List.{List}
use lib.ListN.{length}
use lib.Dec.{ltb}
use mathlib.Core.Bool.{false}
use borrow.Author.Tests.{le-ltb, ltb-false, not-false}
use Rattle.paper.specs.declared.Refusal.{Refusal}
use Rattle.paper.specs.declared.Trailer.{Trailer}
use Rattle.paper.specs.declared.Previous.{Previous}
use Rattle.paper.specs.Answers.{Verdict}
use Rattle.paper.specs.Lists.{some}
use Rattle.paper.specs.Cases.{Fact, Case, size, scope_of}
use Rattle.paper.specs.Graphs.{bad_edge, bad_loop, bad_entry, bad_return, dead, bad_count}
use Rattle.paper.specs.Facts.{previous_of, bad_head, bad_order, unfetched, bad_row_at, bad_step_at, bad_many_at}
use Rattle.paper.specs.Files.{end_at, trailer_of, bad_letters, bad_cache, bad_numbers, bad_offsets, head_end, fact_at, fact_end, fact_place, case_of, read_case}
use Rattle.paper.specs.Known.{Laid, Shaped}
use Rattle.paper.specs.Rules.{Passes}
use Rattle.paper.specs.Verdicts.{layout_rules, shape_rules, path_rules, count_rules, graph_rules, head_rule, order_rule, fetch_rule, row_rules, step_rules, many_rules, evidence_rules, body_rules, turn_rules, turns_from, fact_rules, file_verdict, verdict}
use Rattle.paper.proofs.Least.{none_some}
use Rattle.paper.proofs.RuleLaws.{past, Hands, hands_by, hands_rule, hands_then, accepted_on, refused_on}
use Rattle.paper.proofs.Meaning.{SoundGraph, SoundEvidence, SoundFact, Sound, before_of, Ordered}
use Rattle.paper.proofs.GraphLaws.{shaped, graph_sound}
use Rattle.paper.proofs.FactLaws.{head_sound, fetched, evidence_kept, evidence_law}
use Rattle.paper.proofs.FileLaws.{laid}

module _ (f : List ℕ) where
  pub layout_kept : (rest : Verdict) → layout_rules f rest ≡ Ok tt → Laid f (trailer_of f) × (rest ≡ Ok tt)
  unfolding layout_rules bad_cache
  layout_kept rest h =
      let a = past 1 0 (ltb (length f) 32) _ h in
      let b = past 2 0 (bad_letters f) _ a.1 in
      let c = past 3 0 _ _ b.1 in
      let d = past 4 0 _ _ c.1 in
      let g = past 5 0 _ _ d.1 in
      (laid f (trailer_of f) (ltb-false _ _ a.0) (not-false _ c.0) d.0 g.0, g.1)

  pub hands_layout : Hands (layout_rules f)
  unfolding layout_rules
  hands_layout =
      hands_then _ _ (hands_rule 1 0 (ltb (length f) 32))
      (hands_then _ _ (hands_rule 2 0 (bad_letters f))
      (hands_then _ _ (hands_rule 3 0 (bad_cache (trailer_of f)))
      (hands_then _ _ (hands_rule 4 0 (bad_numbers (trailer_of f))) (hands_rule 5 0 (bad_offsets f (trailer_of f))))))

module _ (e : Case) where
  pub shape_kept : (rest : Verdict) → shape_rules e rest ≡ Ok tt → Shaped e × (rest ≡ Ok tt)
  unfolding shape_rules
  shape_kept rest h =
      let a = past 6 _ _ _ h in
      let b = past 7 _ _ _ a.1 in
      (shaped e (none_some _ _ a.0) (none_some _ _ b.0), b.1)

  pub graph_kept : (rest : Verdict) → graph_rules e rest ≡ Ok tt → Shaped e × SoundGraph e × (rest ≡ Ok tt)
  unfolding path_rules count_rules
  graph_kept rest h =
      let s = shape_kept _ h in
      let c = past 8 _ _ _ s.1 in
      let d = past 9 _ _ _ c.1 in
      let l = past 26 _ _ _ d.1 in
      let g = past 10 _ _ _ l.1 in
      (s.0, graph_sound e s.0 (none_some _ _ c.0) (none_some _ _ d.0) (none_some _ _ l.0) (none_some _ _ g.0), g.1)

  pub hands_shape : Hands (shape_rules e)
  unfolding shape_rules
  hands_shape = hands_then _ _ (hands_rule 6 _ (some (bad_edge e) e.edges)) (hands_rule 7 _ (some (bad_loop e) e.loops))

  pub hands_paths : Hands (path_rules e)
  unfolding path_rules
  hands_paths =
      hands_then _ _ (hands_rule 8 _ (some (bad_entry e) e.edges))
      (hands_then _ _ (hands_rule 9 _ (some (bad_return e) e.edges)) (hands_rule 26 _ (some (dead e) e.nodes)))

  pub hands_counts : Hands (count_rules e)
  unfolding count_rules
  hands_counts = hands_rule 10 _ (some (bad_count e) e.nodes)

  pub hands_graph : Hands (graph_rules e)
  hands_graph = hands_then _ _ hands_shape (hands_then _ _ hands_paths hands_counts)

  pub hands_evidence : (i : ℕ) (t : Fact) → Hands (evidence_rules e i t)
  unfolding row_rules step_rules many_rules
  hands_evidence i t =
      hands_then _ _ (hands_by _ (some (bad_row_at e t) (size (scope_of e t))))
      (hands_then _ _ (hands_by _ (some (bad_step_at e t) e.edges)) (hands_by _ (some (bad_many_at e t) (size (scope_of e t)))))

module _ (f : List ℕ) (trailer : Trailer) where
  -- The fact that stands at p passes its turn after `previous`: 11 to 18, 24 and 25.
  pub record KeptTurn (previous : Option Previous) (p : ℕ) : Type 0 where
    pub head : bad_head (case_of f trailer) (fact_at f p) ≡ false
    pub order : bad_order (case_of f trailer) previous (fact_at f p) ≡ false
    pub fetched : unfetched (case_of f trailer) (fact_at f p) ≡ false
    pub room : fact_end f trailer p ≤ end_at f
    pub evidence : SoundEvidence (case_of f trailer) (fact_at f p)

  pub turn_tests : (i : ℕ) (previous : Option Previous) (p : ℕ) (rest : Verdict) → turn_rules f trailer i previous p rest ≡ Ok tt → KeptTurn previous p × (rest ≡ Ok tt)
  unfolding turn_rules head_rule order_rule body_rules fetch_rule
  turn_tests i previous p rest h =
      let a = past 11 i (ltb (end_at f) (p + 6)) _ h in
      let b = past 12 i (bad_head (case_of f trailer) (fact_at f p)) _ a.1 in
      let c = past 13 i (bad_order (case_of f trailer) previous (fact_at f p)) _ b.1 in
      let d = past 14 i (unfetched (case_of f trailer) (fact_at f p)) _ c.1 in
      let g = past 15 i (ltb (end_at f) (fact_end f trailer p)) _ d.1 in
      let v = evidence_kept (case_of f trailer) (fact_at f p) i rest g.1 in
      (record { head = b.0; order = c.0; fetched = d.0; room = ltb-false _ _ g.0; evidence = v.0 }, v.1)

  -- a fact's rows come after its head
  pub end_after : (p : ℕ) → head_end p ≤ fact_end f trailer p
  unfolding fact_end
  end_after p = omega arith

  pub turn_passes : (i : ℕ) (previous : Option Previous) (p : ℕ) → KeptTurn previous p → Passes (turn_rules f trailer i previous p)
  unfolding turn_rules head_rule order_rule body_rules fetch_rule
  turn_passes i previous p k =
      rw (
        le-ltb (end_at f) (p + 6) (omega (arith, k.room, end_after p)),
        k.head,
        k.order,
        k.fetched,
        le-ltb (end_at f) (fact_end f trailer p) k.room,
      )
      ((evidence_law (case_of f trailer) (fact_at f p) i).1 k.evidence)

  -- The fact that stands at p passes its turn, and is sound.
  pub record KeptFact (p : ℕ) : Type 0 where
    pub room : fact_end f trailer p ≤ end_at f
    pub sound : SoundFact (case_of f trailer) (fact_at f p)

  kept_fact : (previous : Option Previous) (p : ℕ) → KeptTurn previous p → KeptFact p
  kept_fact previous p k =
      let e = case_of f trailer in
      let t = fact_at f p in
      record { room = k.room; sound = record { head = head_sound e t k.head; fetched = fetched e t k.fetched; evidence = k.evidence } }

  pub turn_kept : (i : ℕ) (previous : Option Previous) (p : ℕ) (rest : Verdict) → turn_rules f trailer i previous p rest ≡ Ok tt → KeptFact p × (rest ≡ Ok tt)
  turn_kept i previous p rest h = let k = turn_tests i previous p rest h in (kept_fact previous p k.0, k.1)

  abbrev before : ℕ → Option Previous
  before = before_of (case_of f trailer)

  turns_tests : (n i : ℕ) (rest : Verdict) → turns_from f trailer n i (before i) (fact_place f trailer i) rest ≡ Ok tt →
      ((k : ℕ) → i ≤ k → k < i + n → KeptTurn (before k) (fact_place f trailer k)) × (rest ≡ Ok tt)
  unfolding turns_from fact_place case_of
  turns_tests zero i rest h = (λ k l q. absurd (omega arith), h)
  turns_tests (suc n) i rest h =
      let a = turn_tests i (before i) (fact_place f trailer i) _ h in
      let b = turns_tests n (suc i) rest a.1 in (
        λ k l q. elim (ℕ_discrete k i) [ yes e ↦ rw e a.0 | no e ↦ b.0 k (omega arith) (omega arith) ],
        b.1,
      )

  facts_tests : (rest : Verdict) → fact_rules f trailer rest ≡ Ok tt → (i : ℕ) → i < trailer.facts → KeptTurn (before i) (fact_place f trailer i)
  unfolding fact_rules fact_place
  facts_tests rest h i l = (turns_tests trailer.facts 0 _ h).0 i (omega arith) (omega arith)

  pub facts_kept : (rest : Verdict) → fact_rules f trailer rest ≡ Ok tt → (i : ℕ) → i < trailer.facts → KeptFact (fact_place f trailer i)
  facts_kept rest h i l = kept_fact (before i) (fact_place f trailer i) (facts_tests rest h i l)

  pub facts_ordered : fact_rules f trailer (Ok tt) ≡ Ok tt → Ordered (case_of f trailer)
  unfolding case_of
  facts_ordered h i l = (facts_tests (Ok tt) h i l).order

  pub hands_body : (i p : ℕ) → Hands (body_rules f trailer i p)
  unfolding body_rules fetch_rule
  hands_body i p =
      hands_then _ _ (hands_rule 14 i (unfetched (case_of f trailer) (fact_at f p)))
      (hands_then _ _ (hands_rule 15 i (ltb (end_at f) (fact_end f trailer p))) (hands_evidence (case_of f trailer) i (fact_at f p)))

  pub hands_turn : (i : ℕ) (previous : Option Previous) (p : ℕ) → Hands (turn_rules f trailer i previous p)
  unfolding turn_rules head_rule order_rule
  hands_turn i previous p =
      hands_then _ _ (hands_rule 11 i (ltb (end_at f) (p + 6)))
      (hands_then _ _ (hands_rule 12 i (bad_head (case_of f trailer) (fact_at f p)))
      (hands_then _ _ (hands_rule 13 i (bad_order (case_of f trailer) previous (fact_at f p))) (hands_body i p)))

  -- the verdict of one turn is v: where it accepts it is the next fact's turn
  module _ (n i : ℕ) (previous : Option Previous) (p : ℕ) (rest v : Verdict) (a : v ≡ turn_rules f trailer i previous p (Ok tt)) where
    pub turns_on : v ≡ Ok tt →
        turns_from f trailer (suc n) i previous p rest ≡ turns_from f trailer n (suc i) (previous_of (case_of f trailer) (fact_at f p)) (fact_end f trailer p) rest
    unfolding turns_from
    turns_on e = accepted_on (turn_rules f trailer i previous p) (hands_turn i previous p) _ v a e

    pub turns_stop : (r : Refusal) → v ≡ Err r → turns_from f trailer (suc n) i previous p rest ≡ Err r
    unfolding turns_from
    turns_stop r e = refused_on (turn_rules f trailer i previous p) (hands_turn i previous p) _ v a r e

-- An accepted file holds a sound case.
pub file_sound : (f : List ℕ) → file_verdict f ≡ Ok tt → Laid f (trailer_of f) × Sound (read_case f)
unfolding case_of
file_sound f h =
    let a = layout_kept f _ h in
    let b = graph_kept (read_case f) _ a.1 in (
      a.0,
      record {
        cache = a.0.cache;
        nodes = a.0.nodes_low;
        graph = b.1;
        facts = λ i l. (facts_kept f (trailer_of f) (Ok tt) b.2 i l).sound;
      },
    )

pub file_ordered : (f : List ℕ) → file_verdict f ≡ Ok tt → Ordered (read_case f)
file_ordered f h = facts_ordered f (trailer_of f) (graph_kept (read_case f) _ (layout_kept f _ h).1).2

pub enough : (f : List ℕ) (room : ℕ) → verdict f room ≡ Ok tt → file_verdict f ≡ Ok tt
unfolding verdict
enough f room h = (past 20 0 (ltb room 321) _ h).1
