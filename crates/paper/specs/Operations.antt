-- The single step, blocks of addresses, and sets of blocks, for every input. "Step: 3, 22, 21. Address: 23, 21."
use Rattle.std.specs.Prelude.{ℕ, ◌/◌, ◌%◌, Bool, cond, not, [], ◌∷◌, eqb, ltb, Result, Ok, Err}
use Rattle.paper.specs.declared.SetState.{SetState}
use Rattle.paper.specs.declared.Stepped.{Stepped}
use Rattle.paper.specs.declared.Address.{Address}
use Rattle.paper.specs.declared.Block.{Block}
use Rattle.paper.specs.declared.StepAnswer.{StepAnswer}
use Rattle.paper.specs.Answers.{refuse}
use Rattle.paper.specs.Machines.{none, step, stands, offered, set_count, legal}
use Rattle.paper.specs.declared.Refusal.{Refusal}
use Rattle.paper.specs.declared.SetNumber.{SetNumber}
use Rattle.paper.specs.declared.Outcome.TheVariants.{Hit, Miss}

-- "a refused step hands back the state it was given"
abbrev pub refused_step : SetState → ℕ → StepAnswer
refused_step s number = record { state = s; outcome = Err (refuse number 0) }

-- "hands the new state back with hit or miss"
abbrev pub took_step : Stepped → StepAnswer
took_step t = record { state = t.state; outcome = cond t.hit (Ok Hit) (Ok Miss) }

unfoldable pub step_answer : ℕ → ℕ → SetState → Block → StepAnswer
step_answer policy k s b =
    cond (not (offered policy k)) (refused_step s 3)
    (cond (not (legal policy k s)) (refused_step s 22) (cond (eqb b.0 none) (refused_step s 21) (took_step (step policy k s b.0))))

-- "the line size is 8, 16, 32, 64 or 128"
unfoldable pub line_size : ℕ → Bool
line_size n = stands (8 ∷ 16 ∷ 32 ∷ 64 ∷ 128 ∷ []) n

-- "Block = address / line size, rounded down"
unfoldable pub block_answer : Address → ℕ → Result Block Refusal
block_answer a n =
    cond (not (line_size n)) (Err (refuse 23 0))
    (cond (ltb 65534 (a.0 / n)) (Err (refuse 21 0)) (Ok (record { 0 = a.0 / n })))

-- "block b lives in set b mod S"
unfoldable pub set_answer : Block → ℕ → Result SetNumber Refusal
set_answer b sets =
    cond (not (set_count sets)) (Err (refuse 3 0))
    (cond (eqb b.0 none) (Err (refuse 21 0)) (Ok (record { 0 = b.0 % sets })))
