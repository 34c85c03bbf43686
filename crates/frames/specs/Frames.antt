-- docs/PIPE.md as definitions: what a request takes, what it asks for, and the bytes of the answer.
use Rattle.std.specs.Prelude.{ℕ, ◌+◌, ◌*◌, ◌≤◌, cond, ◌≡◌, List, ◌++◌, eqb, length, take, drop, Result, Option, Ok, Err, Some, None, replicate}
use Rattle.paper.specs.declared.Refusal.{Refusal}
use Rattle.paper.specs.declared.Outcome.{Outcome}
use Rattle.paper.specs.declared.StepAnswer.{StepAnswer}
use Rattle.paper.specs.Answers.{Verdict, refuse, told_find}
use Rattle.paper.specs.Files.{u8_at, u16_at, u32_at}
use Rattle.paper.specs.Records.{size_of}
use Rattle.paper.specs.Operations.{step_answer, block_answer, set_answer}
use Rattle.paper.specs.Traces.{Run, trace_run}
use Rattle.paper.specs.Verdicts.{verdict, lent_after}
use Rattle.paper.specs.Writing.{FileContent, write_verdict, write_answer, out_after}
use Rattle.paper.specs.Finding.{FindOutcome}
use Rattle.paper.specs.Salvaging.{salvaged, dropped_list, salvage_verdict, salvage_answer, lent_by}
use Rattle.paper.specs.AllWays.{all_ways}
use Rattle.paper.specs.Times.{file_time_answer}
use Rattle.frames.specs.declared.Head.{Head}
use Rattle.frames.specs.declared.SalvageHead.{SalvageHead}
use Rattle.frames.specs.Little.{little, littles, u16s, u32s, u64s}
use Rattle.frames.specs.Places as Places
use Rattle.paper.specs.declared.Block.{Block}
use Rattle.paper.specs.declared.SetNumber.{SetNumber}
use Rattle.paper.specs.declared.Salvage.{Salvage}
use Rattle.paper.specs.declared.Outcome.TheVariants.{Hit, Miss}

-- "the operation's byte, the refusal's number u8 (0: not refused), the refusal's place u64 and its second place u64 (both 0 where not refused), and then": every answer's head
unfoldable pub head : ℕ → Refusal → List ℕ
head operation r = little 1 operation ++ (little 1 r.number ++ (little 8 r.place ++ little 8 r.second))

-- the head, and a value of some width after it
unfoldable pub front : ℕ → ℕ → Head → List ℕ
front operation width h = head operation h.refusal ++ little width h.value

abbrev pub found : ℕ → Head
found value = record { refusal = refuse 0 0; value = value }

abbrev pub refused_with : Refusal → ℕ → Head
refused_with r value = record { refusal = r; value = value }

-- "0 for a hit, 1 for a miss, 2 for a refusal"
abbrev pub step_head : Result Outcome Refusal → Head
step_head (Ok Hit) = found 0
step_head (Ok Miss) = found 1
step_head (Err r) = refused_with r 2

-- "the block u16 (refused: 0)"
abbrev pub block_head : Result Block Refusal → Head
block_head (Ok b) = found b.0
block_head (Err r) = refused_with r 0

-- "the set u8 (refused: 0)"
abbrev pub set_head : Result SetNumber Refusal → Head
set_head (Ok q) = found q.0
set_head (Err r) = refused_with r 0

-- "the misses u64 (refused: 0)"
abbrev pub trace_head : Result ℕ Refusal → Head
trace_head (Ok n) = found n
trace_head (Err r) = refused_with r 0

abbrev pub check_head : Verdict → Head
check_head (Ok tt) = found 0
check_head (Err r) = refused_with r 0

-- "the file's length u64 (refused: 0)"
abbrev pub write_head : Result ℕ Refusal → Head
write_head (Ok n) = found n
write_head (Err r) = refused_with r 0

-- "the limit u16 (none, and refused: 0)"
abbrev pub find_head : Result (Option ℕ) Refusal → Head
find_head (Ok (Some l)) = found l
find_head (Ok None) = found 0
find_head (Err r) = refused_with r 0

-- "the rest's length u64, the number of dropped facts u64 (refused: 0 and 0)"
abbrev pub salvage_head : Result Salvage Refusal → SalvageHead
salvage_head (Ok s) = record { head = found s.length; count = s.dropped }
salvage_head (Err r) = record { head = refused_with r 0; count = 0 }

abbrev pub step_of : Result Outcome Refusal → List ℕ → ℕ → StepAnswer
step_of outcome lines bits = record { state = record { lines = lines; bits = bits }; outcome = outcome }

-- "…; eight lines u16 each; bits u8"
unfoldable pub step_frame : StepAnswer → List ℕ
step_frame a = front 1 Places.outcome_width (step_head a.outcome) ++ (littles 2 a.state.lines ++ little 1 a.state.bits)

abbrev pub block_frame : Result Block Refusal → List ℕ
block_frame a = front 2 Places.block_width (block_head a)

abbrev pub set_frame : Result SetNumber Refusal → List ℕ
set_frame a = front 3 Places.set_width (set_head a)

-- "…; the m bytes of lent memory afterwards"
abbrev pub trace_frame : Run → List ℕ
trace_frame run = front 4 Places.misses_width (trace_head run.answer) ++ run.marks

-- "the m numbers of lent memory afterwards, u64 each": a check's head has no value
abbrev pub check_frame : Verdict → List ℕ → List ℕ
check_frame v numbers = front 5 0 (check_head v) ++ littles 8 numbers

-- What a writer answers and leaves in the bytes that it was lent.
pub record Wrote : Type 0 where
  pub answer : Result ℕ Refusal
  pub after : List ℕ

unfoldable pub wrote : FileContent → List ℕ → Wrote
wrote c out = record { answer = write_answer c (write_verdict c (length out)); after = out_after c out (write_verdict c (length out)) }

-- "…; the m bytes of lent memory afterwards, of which the first are the file"
abbrev pub write_frame : Wrote → List ℕ
write_frame w = front 6 Places.length_width (write_head w.answer) ++ w.after

-- "…; the m numbers of lent memory afterwards, u16 each"
abbrev pub find_frame : Result (Option ℕ) Refusal → List ℕ → List ℕ
find_frame a rows = front 7 Places.limit_width (find_head a) ++ littles 2 rows

-- What a salvage answers and leaves in the bytes and in the numbers that it was lent.
pub record SalvageLeft : Type 0 where
  pub answer : Result Salvage Refusal
  pub out : List ℕ
  pub list : List ℕ

unfoldable pub salvage_left : List ℕ → List ℕ → List ℕ → SalvageLeft
salvage_left file out list =
    let v = salvage_verdict file (length out) (length list) in
    record { answer = salvage_answer file v; out = lent_by (salvaged file) out v; list = lent_by (dropped_list file) list v }

unfoldable pub salvage_front : SalvageHead → List ℕ
salvage_front h = front 8 Places.length_width h.head ++ little Places.count_width h.count

-- "…; the m bytes of lent memory afterwards, of which the first are the rest; the d numbers of lent memory afterwards, u64 each"
abbrev pub salvage_frame : SalvageLeft → List ℕ
salvage_frame s = salvage_front (salvage_head s.answer) ++ (s.out ++ littles 8 s.list)

-- What is asked for by the bytes of a request: r are those of its arguments, and lent is the lent memory as it is handed in.
module _ (r : List ℕ) where
  -- "policy u8, ways u8, eight lines u16 each, bits u8, block u16"
  unfoldable pub step_asked : StepAnswer
  step_asked =
      step_answer (u8_at r 0) (u8_at r Places.step_ways) (record { lines = u16s (drop Places.step_lines r) 8; bits = u8_at r Places.step_bits })
      (record { 0 = u16_at r Places.step_block })

  -- "address u32, line size u32"
  unfoldable pub block_asked : Result Block Refusal
  block_asked = block_answer (record { 0 = u32_at r 0 }) (u32_at r Places.block_line_size)

  -- "block u16, sets u8"
  unfoldable pub set_asked : Result SetNumber Refusal
  set_asked = set_answer (record { 0 = u16_at r 0 }) (u8_at r Places.set_sets)

  module _ (lent : List ℕ) where
    -- "policy u8, ways u8, sets u8, accesses n u32, marks m u32, then n blocks u16 each, then m bytes"
    unfoldable pub trace_asked : Run
    trace_asked =
        let accesses = u32_at r Places.trace_accesses in
        trace_run (u8_at r 0) (u8_at r Places.trace_ways) (u8_at r Places.trace_sets) (u16s lent accesses) (drop (2 * accesses) lent)

    -- "interruptions u16, file bytes n u32, numbers m u32, then n bytes, then m numbers u64 each"
    abbrev pub file : List ℕ
    file = take (u32_at r Places.check_file) lent

    abbrev pub numbers : List ℕ
    numbers = u64s (drop (u32_at r Places.check_file) lent) (u32_at r Places.check_numbers)

    unfoldable pub check_asked : Verdict
    check_asked = verdict file (length numbers)

    unfoldable pub numbers_after : List ℕ
    numbers_after = lent_after file (u16_at r 0) numbers check_asked

    -- "scope u16, block u16, file bytes n u32, numbers m u32, then n bytes, then m numbers u16 each"
    abbrev pub file_searched : List ℕ
    file_searched = take (u32_at r Places.find_file) lent

    abbrev pub rows_lent : List ℕ
    rows_lent = u16s (drop (u32_at r Places.find_file) lent) (u32_at r Places.find_numbers)

    -- A finder's answer and the rows that it leaves are promised by a relation: these two are what is asked for. (They are the only two: `find_asked_once` in crates/answers.)
    abbrev pub FindAsked : Result (Option ℕ) Refusal → List ℕ → Type 0
    FindAsked answer after = FindOutcome file_searched (u16_at r 0) (u16_at r Places.find_block) rows_lent (told_find answer) after

    -- "file bytes n u32, lent bytes m u32, numbers d u32, then n bytes, then m bytes, then d numbers u64 each"
    unfoldable pub salvage_asked : SalvageLeft
    salvage_asked =
        let rest = drop (u32_at r 0) lent in
        let m = u32_at r Places.salvage_out in
        salvage_left (take (u32_at r 0) lent) (take m rest) (u64s (drop m rest) (u32_at r Places.salvage_numbers))

  -- Where each list of a writer begins in its lent memory, and where the lent bytes do: after all that stands before.
  abbrev pub edges_from : ℕ
  edges_from = 2 * u32_at r Places.write_nodes

  abbrev pub loops_from : ℕ
  loops_from = edges_from + 2 * u32_at r Places.write_edges

  abbrev pub heads_from : ℕ
  heads_from = loops_from + 4 * u32_at r Places.write_loops

  abbrev pub rows_from : ℕ
  rows_from = heads_from + 2 * u32_at r Places.write_heads

  abbrev pub bytes_from : ℕ
  bytes_from = rows_from + 2 * u32_at r Places.write_rows

  -- the lists, whatever they are, with the version and the cache that the arguments name
  abbrev pub content_with : List ℕ → List ℕ → List ℕ → List ℕ → List ℕ → FileContent
  content_with nodes edges loops heads rows =
      record {
        version = u8_at r 0;
        policy = u8_at r Places.write_policy;
        ways = u8_at r Places.write_ways;
        sets = u8_at r Places.write_sets;
        nodes = nodes;
        edges = edges;
        loops = loops;
        heads = heads;
        rows = rows;
      }

  -- "then the nodes u16 each, the edges u16 each, the loops u32 each, the heads u16 each, the rows u16 each, then m bytes"
  unfoldable pub content_asked : List ℕ → FileContent
  content_asked lent =
      content_with
      (u16s lent (u32_at r Places.write_nodes))
      (u16s (drop edges_from lent) (u32_at r Places.write_edges))
      (u32s (drop loops_from lent) (u32_at r Places.write_loops))
      (u16s (drop heads_from lent) (u32_at r Places.write_heads))
      (u16s (drop rows_from lent) (u32_at r Places.write_rows))

  unfoldable pub write_asked : List ℕ → Wrote
  write_asked lent = wrote (content_asked lent) (drop bytes_from lent)

-- The lists of a writer are as long as its arguments say.
pub record Counted (r blocks pairs bounds firsts slots : List ℕ) : Type 0 where
  pub nodes : length blocks ≡ u32_at r Places.write_nodes
  pub edges : length pairs ≡ u32_at r Places.write_edges
  pub loops : length bounds ≡ u32_at r Places.write_loops
  pub heads : length firsts ≡ u32_at r Places.write_heads
  pub rows : length slots ≡ u32_at r Places.write_rows

-- How many bytes the arguments of an operation take, the lent memory left out.
unfoldable pub argument_bytes : ℕ → ℕ
argument_bytes operation =
    cond (eqb operation 1) (size_of Places.step_fields)
    (cond (eqb operation 2) (size_of Places.block_fields)
    (cond (eqb operation 3) (size_of Places.set_fields)
    (cond (eqb operation 4) (size_of Places.trace_fields)
    (cond (eqb operation 5) (size_of Places.check_fields)
    (cond (eqb operation 6) (size_of Places.write_fields)
    (cond (eqb operation 7) (size_of Places.find_fields)
    (cond (eqb operation 8) (size_of Places.salvage_fields)
    (cond (eqb operation 9) (size_of Places.ways_fields) (cond (eqb operation 10) (size_of Places.time_fields) 0)))))))))

-- "the byte 0, then one byte that says why, then the number of frames answered before it, u64"
unfoldable pub last_frame : ℕ → ℕ → List ℕ
last_frame why answered = little 1 0 ++ (little 1 why ++ little 8 answered)

-- An answer in lent bytes: its bytes are those from `at` on.
pub record Answered (frame : List ℕ) (at : ℕ) (left : List ℕ) : Type 0 where
  pub fits : at ≤ length left
  pub bytes : drop at left ≡ frame

-- The answer of a finder: there are an answer and rows that are asked for, and their frame is in the lent bytes.
pub record FindAnswered (r lent : List ℕ) (at : ℕ) (left : List ℕ) : Type 0 where
  pub answer : Result (Option ℕ) Refusal
  pub rows : List ℕ
  pub asked : FindAsked r lent answer rows
  pub answered : Answered (find_frame answer rows) at left

-- "sets u8, accesses n u32, then n blocks u16 each"
unfoldable pub ways_asked : List ℕ → List ℕ → Result (List ℕ) Refusal
ways_asked r lent = all_ways (u8_at r 0) (u16s lent (u32_at r Places.ways_accesses))

-- "eight counts u64 each (refused: 0)": after a head that has no value, as a check's
unfoldable pub ways_text : Head → List ℕ → List ℕ
ways_text h counts = front 9 0 h ++ littles 8 counts

abbrev pub ways_frame : Result (List ℕ) Refusal → List ℕ
ways_frame (Ok counts) = ways_text (found 0) counts
ways_frame (Err r) = ways_text (refused_with r 0) (replicate 8 0)

-- "the time u64 (refused: 0)"
abbrev pub time_head : Result ℕ Refusal → Head
time_head (Ok n) = found n
time_head (Err r) = refused_with r 0

abbrev pub time_frame : Result ℕ Refusal → List ℕ
time_frame a = front 10 Places.time_width (time_head a)

-- "interruptions u16, penalty u32, file bytes n u32, costs c u32, then n bytes, then c costs u32 each"
unfoldable pub time_asked : List ℕ → List ℕ → Result ℕ Refusal
time_asked r lent =
    let n = u32_at r Places.time_file in
    file_time_answer (take n lent) (u32s (drop n lent) (u32_at r Places.time_costs)) (u32_at r Places.time_penalty) (u16_at r 0)
