-- The contents of all sets, and the trace run. "Trace run: 3, 20, 21."
use Rattle.std.specs.Prelude.{ℕ, ◌+◌, ◌%◌, Bool, cond, not, List, [], ◌∷◌, ◌++◌, eqb, ltb, length, get_or, drop, Result, Ok, Err}
use Rattle.paper.specs.declared.SetState.{SetState}
use Rattle.paper.specs.Answers.{refuse}
use Rattle.paper.specs.Lists.{bit, least, some}
use Rattle.paper.specs.Machines.{none, empty_set, step, in_range}
use Rattle.paper.specs.declared.Refusal.{Refusal}

-- A state for each set.
abbrev pub Content : Type 0
Content = ℕ → SetState

module _ (policy k sets : ℕ) where
  -- "block b lives in set b mod S. Sets do not touch each other."
  unfoldable pub after : Content → ℕ → Content
  after c b q = cond (eqb (b % sets) q) (step policy k (c q) b).state (c q)

  unfoldable pub miss_at : Content → ℕ → Bool
  miss_at c b = not (step policy k (c (b % sets)) b).hit

  -- "It writes 1 for a miss and 0 for a hit per access"
  unfoldable pub marks : Content → List ℕ → List ℕ
  marks c [] = []
  marks c (b ∷ blocks) = bit (miss_at c b) ∷ marks (after c b) blocks

unfoldable pub total : List ℕ → ℕ
total [] = 0
total (x ∷ xs) = x + total xs

-- The answer, and the lent bytes afterwards.
pub record Run : Type 0 where
  pub answer : Result ℕ Refusal
  pub marks : List ℕ

abbrev pub refused_run : ℕ → ℕ → List ℕ → Run
refused_run number place lent = record { answer = Err (refuse number place); marks = lent }

-- "leaves later bytes, and returns the misses"
abbrev pub took_run : List ℕ → List ℕ → Run
took_run made lent = record { answer = Ok (total made); marks = made ++ drop (length made) lent }

-- "block 65,535 in a trace"
unfoldable pub bad_access : List ℕ → ℕ → Bool
bad_access blocks i = eqb (get_or blocks i 0) none

unfoldable pub trace_run : ℕ → ℕ → ℕ → List ℕ → List ℕ → Run
trace_run policy k sets blocks lent =
    cond (not (in_range policy k sets)) (refused_run 3 0 lent)
    (cond (ltb (length lent) (length blocks)) (refused_run 20 0 lent)
    (cond (some (bad_access blocks) (length blocks)) (refused_run 21 (least (bad_access blocks) (length blocks)) lent)
    (took_run (marks policy k sets (λ q. empty_set) blocks) lent)))
