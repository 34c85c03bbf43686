-- No refusal has a number that stands for something else: 0 where nothing is refused, 0 and 1 for a step's hit and miss. And "an accepted file's second place is 0, and so is that of every refusal not named".
use Rattle.std.specs.Prelude.{Ok, Err, Option, None}
use Prim.Native.Nat.{ℕ, zero, suc, ◌+◌, ◌≤◌, ◌/◌, ◌%◌}
use native.Mathlib.Omega.{arith}
use mathlib.Core.Path.{◌≡◌, refl, ap}
use mathlib.Core.Logic.{◌⊎◌, inl, inr, ⊎_elim}
use mathlib.Core.Bool.{Bool, true, false, cond, not, ◌||◌}
use mathlib.Core.List.{List, [], ◌∷◌}
use lib.Dec.{eqb, ltb}
use lib.ListN.{length}
use Rattle.paper.specs.declared.Trailer.{Trailer}
use Rattle.paper.specs.declared.Previous.{Previous}
use Rattle.paper.specs.declared.SetState.{SetState}
use Rattle.paper.specs.declared.Address.{Address}
use Rattle.paper.specs.declared.Block.{Block}
use Rattle.paper.specs.declared.StepAnswer.{StepAnswer}
use Rattle.paper.specs.declared.Outcome.TheVariants.{Hit, Miss}
use Rattle.paper.specs.Answers.{Verdict, refuse_at, refuse, tells, Told, told_verdict, told_trace, told_outcome, told_block, told_set, told_write, told_salvage, told_ways}
use Rattle.paper.specs.Lists.{least, some}
use Rattle.paper.specs.Machines.{empty_set, step, offered, set_count, legal, in_range}
use Rattle.paper.specs.Operations.{refused_step, step_answer, line_size, block_answer, set_answer}
use Rattle.paper.specs.Traces.{Run, refused_run, took_run, bad_access, marks, trace_run}
use Rattle.paper.specs.Graphs.{bad_edge, bad_loop, bad_entry, bad_return, dead, bad_count}
use Rattle.paper.specs.Cases.{Fact, Case, size, scope_of}
use Rattle.paper.specs.Facts.{none_previous, previous_of, bad_head, bad_order, unfetched, bad_row_at, after_b, after_many, broken_by, bad_step_at, step_number, bad_many_at}
use Rattle.paper.specs.Files.{end_at, trailer_of, bad_letters, bad_cache, bad_numbers, bad_offsets, facts_at, fact_at, fact_end, fact_place, case_of, read_case}
use Rattle.paper.specs.Rules.{refused, rule_by, rule}
use Rattle.paper.specs.Verdicts.{layout_rules, shape_rules, path_rules, count_rules, graph_rules, head_rule, order_rule, fetch_rule, row_rules, step_rules, many_rules, body_rules, turn_rules, turns_from, fact_rules, whole_file_rules, verdict}
use Rattle.paper.specs.Finding.{sought, rows_length, sought_rules, find_verdict}
use Rattle.paper.specs.Records.{bad_version}
use Rattle.paper.specs.Writing.{FileContent, trailer_in, case_in, file_of, content_rules, in_turn, bad_lists, bad_rows_named, written_turn, written_facts, list_rules, write_verdict, write_answer}
use Rattle.paper.specs.Salvaging.{salvaged, dropped_list, salvage_verdict, salvage_answer}
use Rattle.paper.specs.AllWays.{ways_verdict, counted, all_ways}

-- the refusals that have a second place: 16, 17, 18, 24 and 25
abbrev pub OfEvidence : ℕ → Type 0
OfEvidence number = ((16 ≤ number) × (number ≤ 18)) ⊎ ((24 ≤ number) × (number ≤ 25))

-- where something is refused, the number is at least `low`; a second place is that of a fact's evidence
module _ {A : Type 0} (low : ℕ) (told : A → Told) where
  pub record Numbered (v : A) : Type 0 where
    pub refused : (told v).values ≡ None → low ≤ (told v).number
    pub second : ((told v).second ≡ 0) ⊎ OfEvidence (told v).number

  -- one test, then the rest
  numbered_with : (b : Bool) (x : A) {rest : A} → low ≤ (told x).number → ((told x).second ≡ 0) ⊎ OfEvidence (told x).number → Numbered rest → Numbered (cond b x rest)
  numbered_with true x l s p = record { refused = λ e. l; second = s }
  numbered_with false x l s p = p

  numbered : (b : Bool) (x : A) {rest : A} → low ≤ (told x).number → (told x).second ≡ 0 → Numbered rest → Numbered (cond b x rest)
  numbered b x l s p = numbered_with b x l (inl s) p

  plain : (v : A) (values : List ℕ) → told v ≡ tells values → Numbered v
  plain v values e =
      record {
        refused = λ h.
            let z : ◌≡◌ {A = ℕ} 0 1 = cc in
            absurd (omega arith);
        second = inl (ap (λ (t : Told). t.second) e);
      }

-- a rule, whatever its place, and a chain of them
one : (n place : ℕ) (bad : Bool) {rest : Verdict} → Numbered 1 told_verdict rest → Numbered 1 told_verdict (rule (suc n) place bad rest)
one n place bad p = numbered 1 told_verdict bad (refused (suc n) place) (omega arith) refl p

-- a rule of a fact's evidence, with both places
at_second : (n place second : ℕ) (bad : Bool) {rest : Verdict} → OfEvidence n → Numbered 1 told_verdict rest → Numbered 1 told_verdict (rule_by (refuse_at n place second) bad rest)
at_second n place second bad o p =
    numbered_with 1 told_verdict bad (Err (refuse_at n place second)) (⊎_elim (λ h. omega arith) (λ h. omega arith) o) (inr o) p

-- 17, 24 or 25
step_number_lem : (e : Case) (t : Fact) (i : ℕ) → OfEvidence (step_number e t i)
unfolding step_number broken_by
step_number_lem e t i = go (after_b e t _ _) (after_many e t _ _ _)
  where
    go : (a b : Bool) → OfEvidence (cond a 24 (cond b 25 17))
    go true b = inr (omega arith)
    go false true = inr (omega arith)
    go false false = inl (omega arith)

module _ (e : Case) where
  graph_numbered : (rest : Verdict) → Numbered 1 told_verdict rest → Numbered 1 told_verdict (graph_rules e rest)
  unfolding shape_rules path_rules count_rules
  graph_numbered rest p =
      one 5 _ (some (bad_edge e) e.edges)
      (one 6 _ (some (bad_loop e) e.loops)
      (one 7 _ (some (bad_entry e) e.edges)
      (one 8 _ (some (bad_return e) e.edges) (one 25 _ (some (dead e) e.nodes) (one 9 _ (some (bad_count e) e.nodes) p)))))

module _ (f : List ℕ) (trailer : Trailer) where
  turn_numbered : (i : ℕ) (previous : Option Previous) (p : ℕ) (rest : Verdict) → Numbered 1 told_verdict rest → Numbered 1 told_verdict (turn_rules f trailer i previous p rest)
  unfolding turn_rules head_rule order_rule body_rules fetch_rule row_rules step_rules many_rules
  turn_numbered i previous p rest h =
      let e = case_of f trailer in
      let s = fact_at f p in
      one 10 i (ltb (end_at f) (p + 6))
      (one 11 i (bad_head e s)
      (one 12 i (bad_order e previous s)
      (one 13 i (unfetched e s)
      (one 14 i (ltb (end_at f) (fact_end f trailer p))
      (at_second 16 i _ (some (bad_row_at e s) (size (scope_of e s))) (inl (omega arith))
      (at_second _ i _ (some (bad_step_at e s) e.edges) (step_number_lem e s _)
      (at_second 18 i _ (some (bad_many_at e s) (size (scope_of e s))) (inl (omega arith)) h)))))))

  turns_numbered : (n i : ℕ) (previous : Option Previous) (p : ℕ) (rest : Verdict) → Numbered 1 told_verdict rest → Numbered 1 told_verdict (turns_from f trailer n i previous p rest)
  unfolding turns_from
  turns_numbered zero i previous p rest h = h
  turns_numbered (suc n) i previous p rest h =
      turn_numbered i previous p _ (turns_numbered n (suc i) (previous_of (case_of f trailer) (fact_at f p)) (fact_end f trailer p) rest h)

  facts_numbered : (rest : Verdict) → Numbered 1 told_verdict rest → Numbered 1 told_verdict (fact_rules f trailer rest)
  unfolding fact_rules
  facts_numbered rest h = turns_numbered trailer.facts 0 none_previous (facts_at trailer) _ (one 18 0 (ltb (fact_place f trailer trailer.facts) (end_at f)) h)

-- the rules over the whole file, then the rest
whole_numbered : (f : List ℕ) (rest : Verdict) → Numbered 1 told_verdict rest → Numbered 1 told_verdict (whole_file_rules f rest)
unfolding layout_rules
whole_numbered f rest h =
    let trailer = trailer_of f in
    one 0 0 (ltb (length f) 32)
    (one 1 0 (bad_letters f)
    (one 2 0 (bad_cache trailer) (one 3 0 (bad_numbers trailer) (one 4 0 (bad_offsets f trailer) (graph_numbered (read_case f) rest h)))))

pub verdict_numbered : (f : List ℕ) (room : ℕ) → Numbered 1 told_verdict (verdict f room)
unfolding verdict
verdict_numbered f room = one 19 0 (ltb room 321) (whole_numbered f _ (facts_numbered f (trailer_of f) (Ok tt) (plain 1 told_verdict (Ok tt) [] refl)))

-- the finder's refusals
pub find_numbered : (f : List ℕ) (scope block room : ℕ) → Numbered 1 told_verdict (find_verdict f scope block room)
unfolding find_verdict sought_rules head_rule fetch_rule
find_numbered f scope block room =
    let e = read_case f in
    let t = sought e scope block in
    whole_numbered f _ (one 11 0 (bad_head e t) (one 13 0 (unfetched e t) (one 19 0 (ltb room (rows_length e t)) (plain 1 told_verdict (Ok tt) [] refl))))

-- the salvager's refusals
module _ (f : List ℕ) where
  salvaged_numbered : (v : Verdict) → Numbered 1 told_verdict v → Numbered 1 told_salvage (salvage_answer f v)
  salvaged_numbered (Ok tt) h = plain 1 told_salvage (salvage_answer f (Ok tt)) _ refl
  salvaged_numbered (Err r) h = record { refused = h.refused; second = h.second }

  pub salvage_numbered : (room list_room : ℕ) → Numbered 1 told_salvage (salvage_answer f (salvage_verdict f room list_room))
  unfolding salvage_verdict
  salvage_numbered room list_room =
      salvaged_numbered _
      (whole_numbered f _ (one 19 0 (ltb room (length (salvaged f)) || ltb list_room (length (dropped_list f))) (plain 1 told_verdict (Ok tt) [] refl)))

-- the writer's refusals
module _ (c : FileContent) where
  written_numbered : (i : ℕ) (previous : Option Previous) (rest : Verdict) → Numbered 1 told_verdict rest → Numbered 1 told_verdict (written_turn c i previous rest)
  unfolding written_turn content_rules head_rule order_rule row_rules
  written_numbered i previous rest h =
      let e = case_in c in
      let s = e.fact i in
      one 11 i (bad_head e s)
      (one 12 i (bad_order e previous s)
      (one 14 i (bad_rows_named c i) (at_second 16 i _ (some (bad_row_at e s) (size (scope_of e s))) (inl (omega arith)) h)))

  each_numbered : (n i : ℕ) (previous : Option Previous) (rest : Verdict) → Numbered 1 told_verdict rest → Numbered 1 told_verdict (in_turn (case_in c) (written_turn c) n i previous rest)
  unfolding in_turn
  each_numbered zero i previous rest h = h
  each_numbered (suc n) i previous rest h = written_numbered i previous _ (each_numbered n (suc i) (previous_of (case_in c) ((case_in c).fact i)) rest h)

  content_numbered : (room : ℕ) → Numbered 1 told_verdict (write_verdict c room)
  unfolding write_verdict list_rules shape_rules written_facts
  content_numbered room =
      let e = case_in c in
      one 1 0 (bad_version c.version)
      (one 2 0 (bad_cache (trailer_in c))
      (one 3 0 (bad_lists c || bad_numbers (trailer_in c))
      (one 5 _ (some (bad_edge e) e.edges)
      (one 6 _ (some (bad_loop e) e.loops)
      (each_numbered (trailer_in c).facts 0 none_previous _ (one 19 0 (ltb room (length (file_of c))) (plain 1 told_verdict (Ok tt) [] refl)))))))

  answer_numbered : (v : Verdict) → Numbered 1 told_verdict v → Numbered 1 told_write (write_answer c v)
  answer_numbered (Ok tt) h = plain 1 told_write (write_answer c (Ok tt)) _ refl
  answer_numbered (Err r) h = record { refused = h.refused; second = h.second }

  pub write_numbered : (room : ℕ) → Numbered 1 told_write (write_answer c (write_verdict c room))
  write_numbered room = answer_numbered _ (content_numbered room)

abbrev pub run_told : Run → Told
run_told r = told_trace r.answer

pub trace_numbered : (policy k sets : ℕ) (blocks lent : List ℕ) → Numbered 1 run_told (trace_run policy k sets blocks lent)
unfolding trace_run
trace_numbered policy k sets blocks lent =
    let n = length blocks in
    numbered 1 run_told (not (in_range policy k sets)) (refused_run 3 0 lent) (omega arith) refl
    (numbered 1 run_told (ltb (length lent) n) (refused_run 20 0 lent) (omega arith) refl
    (numbered 1 run_told (some (bad_access blocks) n) (refused_run 21 (least (bad_access blocks) n) lent) (omega arith) refl
    (plain 1 run_told (took_run (marks policy k sets (λ q. empty_set) blocks) lent) _ refl)))

abbrev pub step_told : StepAnswer → Told
step_told r = told_outcome r.outcome

took : (b : Bool) (s : SetState) → Numbered 2 step_told (record { state = s; outcome = cond b (Ok Hit) (Ok Miss) })
took true s = plain 2 step_told _ (0 ∷ []) refl
took false s = plain 2 step_told _ (1 ∷ []) refl

-- 0 and 1 are a hit and a miss
pub step_numbered : (policy k : ℕ) (s : SetState) (b : Block) → Numbered 2 step_told (step_answer policy k s b)
unfolding step_answer
step_numbered policy k s b =
    let t = step policy k s b.0 in
    numbered 2 step_told (not (offered policy k)) (refused_step s 3) (omega arith) refl
    (numbered 2 step_told (not (legal policy k s)) (refused_step s 22) (omega arith) refl
    (numbered 2 step_told (eqb b.0 65535) (refused_step s 21) (omega arith) refl (took t.hit t.state)))

pub block_numbered : (a : Address) (n : ℕ) → Numbered 1 told_block (block_answer a n)
unfolding block_answer
block_numbered a n =
    numbered 1 told_block (not (line_size n)) (Err (refuse 23 0)) (omega arith) refl
    (numbered 1 told_block (ltb 65534 (a.0 / n)) (Err (refuse 21 0)) (omega arith) refl
    (plain 1 told_block (Ok (record { 0 = a.0 / n })) _ refl))

pub set_numbered : (b : Block) (sets : ℕ) → Numbered 1 told_set (set_answer b sets)
unfolding set_answer
set_numbered b sets =
    numbered 1 told_set (not (set_count sets)) (Err (refuse 3 0)) (omega arith) refl
    (numbered 1 told_set (eqb b.0 65535) (Err (refuse 21 0)) (omega arith) refl
    (plain 1 told_set (Ok (record { 0 = b.0 % sets })) _ refl))

-- all ways in one pass
module _ (sets : ℕ) (blocks : List ℕ) where
  counts_numbered : (v : Verdict) → Numbered 1 told_verdict v → Numbered 1 told_ways (counted sets blocks v)
  counts_numbered (Ok tt) h = plain 1 told_ways (counted sets blocks (Ok tt)) _ refl
  counts_numbered (Err r) h = record { refused = h.refused; second = h.second }

  pub ways_numbered : Numbered 1 told_ways (all_ways sets blocks)
  unfolding all_ways ways_verdict
  ways_numbered =
      counts_numbered _ (one 2 0 (not (set_count sets)) (one 20 _ (some (bad_access blocks) (length blocks)) (plain 1 told_verdict (Ok tt) [] refl)))
