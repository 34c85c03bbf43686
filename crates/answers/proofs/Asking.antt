-- What is asked for, from what is read: the arguments in their order, and the parts of the lent memory.
use Rattle.std.specs.Prelude.{Result}
use Prim.Native.Nat.{ℕ, ◌+◌, ◌-◌, ◌*◌, ◌≤◌}
use native.Mathlib.Omega.{arith}
use mathlib.Core.Path.{◌≡◌, sym, ◌∙◌, ap, subst}
use mathlib.Core.List.{List, ◌++◌, append-nil}
use lib.ListN.{length, take, drop, drop_of_length-le}
use lib.Seq.{drop-drop, drop_at, length-take-le}
use borrow.Rule.Slice.PartMut.{put_mid}
use Rattle.paper.specs.declared.StepAnswer.{StepAnswer}
use Rattle.paper.specs.Answers.{Verdict}
use Rattle.paper.specs.Files.{u8_at, u16_at, u32_at}
use Rattle.paper.specs.Verdicts.{verdict}
use Rattle.frames.specs.declared.Head.{Head}
use Rattle.frames.specs.Little.{littles, u16s, u64s}
use Rattle.frames.specs.Places as Places
use Rattle.frames.specs.Frames.{check_head, front, check_frame, step_asked, trace_asked, check_asked, numbers_after}
use Rattle.frames.proofs.FilledLists.{part_rest}
use Rattle.bolgverk.specs.Promises.{StepPromise, TracePromise, CheckPromise}
use Rattle.bolgverk.proofs.Determined.{step_answer_lem, trace_answer, check_answer}
use Rattle.paper.specs.declared.Refusal.{Refusal}

pub drop_place : (l : List ℕ) (a b : ℕ) {m : List ℕ} → a ≡ b → drop b l ≡ m → drop a l ≡ m
drop_place l a b {m} e h = subst (λ (k : ℕ). drop k l ≡ m) (sym e) h

-- a part that is lent from place a on, when it comes back
pub tail_left : (l ys : List ℕ) (a : ℕ) → a ≤ length l → drop a (put_mid a (length l - a) l ys) ≡ ys
tail_left l ys a h =
    let e : a + (length l - a) ≡ length l = omega arith in
    drop_at (take a l) _ a (length-take-le a l h) ∙ rw (drop-drop, e, drop_of_length-le l {i = length l} (omega arith), append-nil)

module _ (r : List ℕ) where
  pub step_asked_lem : {lines : List ℕ} {block : ℕ} {a : StepAnswer} → lines ≡ u16s (take (length r - Places.step_lines) (drop Places.step_lines r)) 8 → block ≡ u16_at r Places.step_block →
      StepPromise (u8_at r 0) (u8_at r Places.step_ways) (record { lines = lines; bits = u8_at r Places.step_bits }) (record { 0 = block }) a → a ≡ step_asked r
  unfolding step_asked
  step_asked_lem l b p = rw (← part_rest r Places.step_lines, ← l, ← b) (step_answer_lem _ _ _ _ _ p)

  -- l: the bytes, with the lent memory from its place on
  module _ (l : List ℕ) where
    pub trace_asked_lem : {blocks after : List ℕ} {n : ℕ} {a : (Result ℕ Refusal)} → n ≡ u32_at r Places.trace_accesses → blocks ≡ u16s (take (length l - Places.lent_at) (drop Places.lent_at l)) n →
        TracePromise (u8_at r 0) (u8_at r Places.trace_ways) (u8_at r Places.trace_sets) blocks (take (length l - (Places.lent_at + 2 * n)) (drop (Places.lent_at + 2 * n) l)) a after →
        (a ≡ (trace_asked r (drop Places.lent_at l)).answer) × (after ≡ (trace_asked r (drop Places.lent_at l)).marks)
    unfolding trace_asked
    trace_asked_lem {blocks} {after} {n} {a} e b p =
        let m : take (length l - (Places.lent_at + 2 * n)) (drop (Places.lent_at + 2 * n) l) ≡ drop (2 * n) (drop Places.lent_at l) = part_rest l (Places.lent_at + 2 * n) ∙ sym (drop-drop (2 * n) Places.lent_at l) in
        let c : u16s (drop Places.lent_at l) n ≡ blocks = rw (part_rest l Places.lent_at) at (sym b) in
        rw (← e, c) (rw m at (trace_answer _ _ _ _ _ _ _ p), rw m at p.marks)

  module _ (lent : List ℕ) where
    pub check_asked_lem : {numbers after : List ℕ} {i n m : ℕ} {v : Verdict} → i ≡ u16_at r 0 → n ≡ u32_at r Places.check_file → m ≡ u32_at r Places.check_numbers → numbers ≡ u64s (take (length lent - n) (drop n lent)) m →
        CheckPromise (take (n - 0) lent) i numbers v after → (v ≡ check_asked r lent) × (after ≡ numbers_after r lent)
    unfolding check_asked numbers_after
    check_asked_lem {numbers} {after} {i} {n} {m} {v} a e k b p =
        let z : n - 0 ≡ n = omega arith in
        let c : u64s (drop n lent) m ≡ numbers = sym (rw (part_rest lent n) at b) in
        let w : v ≡ verdict (take (u32_at r Places.check_file) lent) (length (u64s (drop (u32_at r Places.check_file) lent) (u32_at r Places.check_numbers))) = rw (← e, ← k, c) (rw z at (check_answer _ _ _ _ _ p)) in
        (w, rw (← w, ← a, ← e, ← k, c) (rw z at p.numbers))

  -- the frame of what is asked for, where the lent memory is a part of the bytes
  pub check_framed : (l : List ℕ) {v : Verdict} {h : Head} {numbers : List ℕ} → h ≡ check_head v → v ≡ check_asked r (take (length l - Places.lent_at) (drop Places.lent_at l)) →
      numbers ≡ numbers_after r (take (length l - Places.lent_at) (drop Places.lent_at l)) → front 5 0 h ++ littles 8 numbers ≡ check_frame (check_asked r (drop Places.lent_at l)) (numbers_after r (drop Places.lent_at l))
  check_framed l {v} {h} {numbers} a b c =
      let b' : v ≡ check_asked r (drop Places.lent_at l) = rw (part_rest l Places.lent_at) at b in
      let c' : numbers ≡ numbers_after r (drop Places.lent_at l) = rw (part_rest l Places.lent_at) at c in
      ap (λ (x : Head). front 5 0 x ++ littles 8 numbers) (a ∙ ap check_head b')
      ∙ ap (λ (x : List ℕ). front 5 0 (check_head (check_asked r (drop Places.lent_at l))) ++ littles 8 x) c'
