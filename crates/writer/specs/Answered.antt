-- What the writer answers and leaves in the lent buffer, by the verdict on what it was handed.
use Rattle.std.specs.Prelude.{ℕ, ◌≡◌, List, ltb, length, Result, Ok}
use Rattle.paper.specs.Answers.{Verdict}
use Rattle.paper.specs.Rules.{rule}
use Rattle.paper.specs.Verdicts.{shape_rules}
use Rattle.paper.specs.Writing.{FileContent, case_in, file_of, written_facts, write_answer, out_after}
use Rattle.paper.specs.declared.Refusal.{Refusal}

-- 20, "if the file does not fit"
abbrev pub room_rule : FileContent → ℕ → Verdict
room_rule c room = rule 20 0 (ltb room (length (file_of c))) (Ok tt)

-- the verdict once the lists are whole
abbrev pub listed_verdict : FileContent → ℕ → Verdict
listed_verdict c room = shape_rules (case_in c) (written_facts c (room_rule c room))

pub record Written (c : FileContent) (out : List ℕ) (v : Verdict) (r : Result ℕ Refusal) (after : List ℕ) : Type 0 where
  pub answer : r ≡ write_answer c v
  pub bytes : after ≡ out_after c out v
