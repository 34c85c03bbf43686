-- What the layout rules of a file and the refusals of the writer say, both ways: all rules are kept exactly where the answer is acceptance.
use Rattle.std.specs.Prelude.{Ok, Err, Option}
use Prim.Native.Nat.{ℕ, zero, suc, ◌+◌, ◌≤◌, ◌<◌}
use native.Mathlib.Omega.{arith}
use native.Mathlib.Decide.{ℕ_discrete}
use mathlib.Core.Path.{◌≡◌, refl}
use mathlib.Core.Bool.{Bool, false, ◌||◌}
use mathlib.Core.List.{List}
use lib.Dec.{ltb}
use lib.ListN.{length}
use borrow.Author.Tests.{le-ltb, ltb-false}
use Rattle.paper.specs.declared.Refusal.{Refusal}
use Rattle.paper.specs.declared.Trailer.{Trailer}
use Rattle.paper.specs.declared.Previous.{Previous}
use Rattle.paper.specs.Answers.{Verdict, refuse, refuse_at}
use Rattle.paper.specs.Lists.{some}
use Rattle.paper.specs.Cases.{Case, size, scope_of}
use Rattle.paper.specs.Facts.{bad_head, bad_order, bad_row_at, least_node}
use Rattle.paper.specs.Files.{end_at, trailer_of, bad_cache, bad_numbers, head_end, fact_end, fact_place, case_of, read_case}
use Rattle.paper.specs.Records.{bad_version}
use Rattle.paper.specs.Rules.{rule_by, Passes}
use Rattle.paper.specs.Verdicts.{shape_rules, head_rule, order_rule, row_rules}
use Rattle.paper.specs.Writing.{FileContent, trailer_in, case_in, file_of, content_rules, in_turn, laid_turn, laid_facts, layout_verdict, bad_lists, bad_rows_named, written_turn, written_facts, list_rules, write_verdict}
use Rattle.paper.proofs.Says.{neither}
use Rattle.paper.proofs.Meaning.{before_of}
use Rattle.paper.proofs.RuleLaws.{past_by, past, never, follow, Hands}
use Rattle.paper.proofs.VerdictLaws.{hands_layout, hands_shape}
use Rattle.paper.proofs.LayoutTests.{KeptLayout, tests_kept, layout_on}

-- a rule that is kept leaves the answer to the rest: the converse of `past_by`
pub onward : (r : Refusal) (broken : Bool) (rest : Verdict) → broken ≡ false → rest ≡ Ok tt → rule_by r broken rest ≡ Ok tt
onward r broken rest h e = rw h e

-- a chain that accepts before one rest is passed, and accepts before any that does
module _ (chain : Verdict → Verdict) (h : Hands chain) where
  through : (v rest : Verdict) → follow v rest ≡ Ok tt → (v ≡ Ok tt) × (rest ≡ Ok tt)
  through (Ok tt) rest e = (refl, e)
  through (Err r) rest e = never r e

  pub chain_kept : (rest : Verdict) → chain rest ≡ Ok tt → Passes chain × (rest ≡ Ok tt)
  chain_kept rest e = through (chain (Ok tt)) rest (rw (h rest) at e)

  pub kept_chain : (rest : Verdict) → Passes chain → rest ≡ Ok tt → chain rest ≡ Ok tt
  kept_chain rest p e = rw (h rest, p) e

module _ (e : Case) where
  -- 12, 13, 15 and 16, for fact i
  pub record KeptContent (i : ℕ) (previous : Option Previous) (short : Bool) : Type 0 where
    pub head : bad_head e (e.fact i) ≡ false
    pub order : bad_order e previous (e.fact i) ≡ false
    pub whole : short ≡ false
    pub rows : some (bad_row_at e (e.fact i)) (size (scope_of e (e.fact i))) ≡ false

  module _ (i : ℕ) (previous : Option Previous) (short : Bool) (rest : Verdict) where
    content_kept : content_rules e i previous short rest ≡ Ok tt → KeptContent i previous short × (rest ≡ Ok tt)
    unfolding content_rules head_rule order_rule row_rules
    content_kept h =
        let a = past 12 i (bad_head e (e.fact i)) _ h in
        let b = past 13 i (bad_order e previous (e.fact i)) _ a.1 in
        let c = past 15 i short _ b.1 in
        let d = past_by (refuse_at 16 i (least_node e (e.fact i) (bad_row_at e (e.fact i)))) _ _ c.1 in
        (record { head = a.0; order = b.0; whole = c.0; rows = d.0 }, d.1)

    kept_content : KeptContent i previous short → rest ≡ Ok tt → content_rules e i previous short rest ≡ Ok tt
    unfolding content_rules head_rule order_rule row_rules
    kept_content k h = rw (k.head, k.order, k.whole, k.rows) h

  -- "for each fact in turn", where a turn says K
  module _ (turn : ℕ → Option Previous → Verdict → Verdict) (K : ℕ → Option Previous → Type 0) where
    turns_kept : ((i : ℕ) (previous : Option Previous) (rest : Verdict) → turn i previous rest ≡ Ok tt → K i previous × (rest ≡ Ok tt)) →
        (n i : ℕ) (rest : Verdict) → in_turn e turn n i (before_of e i) rest ≡ Ok tt → ((k : ℕ) → i ≤ k → k < i + n → K k (before_of e k)) × (rest ≡ Ok tt)
    unfolding in_turn
    turns_kept one zero i rest h = (λ k l m. absurd (omega arith), h)
    turns_kept one (suc n) i rest h =
        let a = one i (before_of e i) _ h in
        let b = turns_kept one n (suc i) rest a.1 in (
          λ k l m. elim (ℕ_discrete k i) [
            | yes p ↦ rw p a.0
            | no q ↦ b.0 k (omega arith) (omega arith)
          ],
          b.1,
        )

    kept_turns : ((i : ℕ) (previous : Option Previous) (rest : Verdict) → K i previous → rest ≡ Ok tt → turn i previous rest ≡ Ok tt) →
        (n i : ℕ) (rest : Verdict) → ((k : ℕ) → i ≤ k → k < i + n → K k (before_of e k)) → rest ≡ Ok tt → in_turn e turn n i (before_of e i) rest ≡ Ok tt
    unfolding in_turn
    kept_turns one zero i rest k h = h
    kept_turns one (suc n) i rest k h =
        one i (before_of e i) _ (k i (omega arith) (omega arith)) (kept_turns one n (suc i) rest (λ j l m. k j (omega arith) (omega arith)) h)

module _ (f : List ℕ) (t : Trailer) where
  -- 11 to 13, 15 and 16, for fact i
  pub record LaidFact (i : ℕ) (previous : Option Previous) : Type 0 where
    pub head_room : head_end (fact_place f t i) ≤ end_at f
    pub rows_room : fact_end f t (fact_place f t i) ≤ end_at f
    pub kept : KeptContent (case_of f t) i previous false

  -- the layout rules: 1 to 7, 11 to 13, 15, 16 and 19
  pub record LaidFile : Type 0 where
    pub layout : KeptLayout f t
    pub shape : Passes (shape_rules (case_of f t))
    pub facts : (i : ℕ) → i < t.facts → LaidFact i (before_of (case_of f t) i)
    pub full : end_at f ≤ fact_place f t t.facts

  turn_laid : (i : ℕ) (previous : Option Previous) (rest : Verdict) → laid_turn f t i previous rest ≡ Ok tt → LaidFact i previous × (rest ≡ Ok tt)
  unfolding laid_turn
  turn_laid i previous rest h =
      let a = past 11 i (ltb (end_at f) (head_end (fact_place f t i))) _ h in
      let k = content_kept (case_of f t) i previous _ rest a.1 in (
        record {
          head_room = ltb-false _ _ a.0;
          rows_room = ltb-false _ _ k.0.whole;
          kept = record { head = k.0.head; order = k.0.order; whole = refl; rows = k.0.rows };
        },
        k.1,
      )

  laid_turn_lem : (i : ℕ) (previous : Option Previous) (rest : Verdict) → LaidFact i previous → rest ≡ Ok tt → laid_turn f t i previous rest ≡ Ok tt
  unfolding laid_turn
  laid_turn_lem i previous rest l h =
      let k = l.kept in
      onward (refuse 11 i) _ _ (le-ltb _ _ l.head_room)
      (kept_content (case_of f t) i previous _ rest (record { head = k.head; order = k.order; whole = le-ltb _ _ l.rows_room; rows = k.rows }) h)

  facts_laid : laid_facts f t (Ok tt) ≡ Ok tt → ((i : ℕ) → i < t.facts → LaidFact i (before_of (case_of f t) i)) × (end_at f ≤ fact_place f t t.facts)
  unfolding laid_facts
  facts_laid h =
      let a = turns_kept (case_of f t) (laid_turn f t) LaidFact turn_laid t.facts 0 _ h in
      (λ i l. a.0 i (omega arith) (omega arith), ltb-false _ _ (past 19 0 (ltb (fact_place f t t.facts) (end_at f)) _ a.1).0)

  laid_facts_lem : ((i : ℕ) → i < t.facts → LaidFact i (before_of (case_of f t) i)) → end_at f ≤ fact_place f t t.facts → laid_facts f t (Ok tt) ≡ Ok tt
  unfolding laid_facts
  laid_facts_lem k l =
      kept_turns (case_of f t) (laid_turn f t) LaidFact laid_turn_lem t.facts 0 _ (λ i m q. k i (omega arith)) (onward (refuse 19 0) _ _ (le-ltb _ _ l) refl)

pub layout_laid : (f : List ℕ) → layout_verdict f ≡ Ok tt → LaidFile f (trailer_of f)
layout_laid f h =
    let a = chain_kept _ (hands_layout f) _ h in
    let b = chain_kept _ (hands_shape (read_case f)) _ a.1 in
    let c = facts_laid f (trailer_of f) b.1 in
    record { layout = tests_kept f _ h; shape = b.0; facts = c.0; full = c.1 }

pub laid_layout : (f : List ℕ) → LaidFile f (trailer_of f) → layout_verdict f ≡ Ok tt
laid_layout f k =
    rw (layout_on f (trailer_of f) refl k.layout (shape_rules (read_case f) (laid_facts f (trailer_of f) (Ok tt))))
    (kept_chain _ (hands_shape (read_case f)) _ k.shape (laid_facts_lem f (trailer_of f) k.facts k.full))

module _ (c : FileContent) where
  -- 12, 13, 15 and 16, for fact i of the content
  abbrev WrittenFact : ℕ → Option Previous → Type 0
  WrittenFact i previous = KeptContent (case_in c) i previous (bad_rows_named c i)

  turn_written : (i : ℕ) (previous : Option Previous) (rest : Verdict) → written_turn c i previous rest ≡ Ok tt → WrittenFact i previous × (rest ≡ Ok tt)
  unfolding written_turn
  turn_written i previous rest h = content_kept (case_in c) i previous _ rest h

  written_turn_lem : (i : ℕ) (previous : Option Previous) (rest : Verdict) → WrittenFact i previous → rest ≡ Ok tt → written_turn c i previous rest ≡ Ok tt
  unfolding written_turn
  written_turn_lem i previous rest k h = kept_content (case_in c) i previous _ rest k h

  -- the refusals of the writer, all but 20
  pub record Writable : Type 0 where
    pub version : bad_version c.version ≡ false
    pub cache : bad_cache (trailer_in c) ≡ false
    pub lists : bad_lists c ≡ false
    pub numbers : bad_numbers (trailer_in c) ≡ false
    pub shape : Passes (shape_rules (case_in c))
    pub facts : (i : ℕ) → i < (trailer_in c).facts → WrittenFact i (before_of (case_in c) i)

  pub write_writable : (room : ℕ) → write_verdict c room ≡ Ok tt → Writable × (length (file_of c) ≤ room)
  unfolding write_verdict list_rules written_facts
  write_writable room h =
      let v = past 2 0 (bad_version c.version) _ h in
      let a = past 3 0 (bad_cache (trailer_in c)) _ v.1 in
      let b = past 4 0 (bad_lists c || bad_numbers (trailer_in c)) _ a.1 in
      let n = neither _ _ b.0 in
      let s = chain_kept _ (hands_shape (case_in c)) _ b.1 in
      let t = turns_kept (case_in c) (written_turn c) WrittenFact turn_written (trailer_in c).facts 0 _ s.1 in
      let g = past 20 0 (ltb room (length (file_of c))) _ t.1 in (
        record { version = v.0; cache = a.0; lists = n.0; numbers = n.1; shape = s.0; facts = λ i l. t.0 i (omega arith) (omega arith) },
        ltb-false _ _ g.0,
      )

  pub writable_write : (room : ℕ) → Writable → length (file_of c) ≤ room → write_verdict c room ≡ Ok tt
  unfolding write_verdict list_rules written_facts
  writable_write room k l =
      let n : (bad_lists c || bad_numbers (trailer_in c)) ≡ false = rw (k.lists, k.numbers) refl in
      onward (refuse 2 0) _ _ k.version
      (onward (refuse 3 0) _ _ k.cache
      (onward (refuse 4 0) _ _ n
      (kept_chain _ (hands_shape (case_in c)) _ k.shape
      (kept_turns (case_in c) (written_turn c) WrittenFact written_turn_lem (trailer_in c).facts 0 _
      (λ i m q. k.facts i (omega arith)) (onward (refuse 20 0) _ _ (le-ltb _ _ l) refl)))))
