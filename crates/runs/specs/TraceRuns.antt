-- What a trace run that is not refused asks for and gives, and the contents that the run's arrays hold.
use Rattle.std.specs.Prelude.{ℕ, ◌<◌, ◌≤◌, ◌≡◌, ◌≢◌, true, false, cond, List, [], ◌++◌, eqb, length, get_or, drop}
use Rattle.paper.specs.declared.SetState.{SetState}
use Rattle.paper.specs.Machines.{none, empty_set, offered, legal, victim, miss_line}
use Rattle.paper.specs.Policies.{nmru_policy}
use Rattle.paper.specs.Traces.{Content, marks, total, bad_access}

-- A state for each set.
unfoldable pub held : List SetState → Content
held states q = get_or states q empty_set

-- The same, but that of one set is held apart.
unfoldable pub held_apart : List SetState → ℕ → SetState → Content
held_apart states at s q = cond (eqb q at) s (held states q)

-- what stands past the end
abbrev pub no_lines : SetState
no_lines = record { lines = []; bits = 0 }

-- "all sets start empty with bits 0"
unfoldable pub made : ℕ → ℕ → ℕ → List ℕ → List ℕ
made p k sets blocks = marks p k sets (λ q. empty_set) blocks

pub record Runs (p k sets : ℕ) (blocks lent : List ℕ) : Type 0 where
  pub offers : offered p k ≡ true
  pub low : 0 < sets
  pub high : sets ≤ 64
  pub room : length blocks ≤ length lent
  pub good : (i : ℕ) → i < length blocks → bad_access blocks i ≡ false

-- what a step of the machine asks for
pub record Stands (p k : ℕ) (s : SetState) (b : ℕ) : Type 0 where
  pub offers : offered p k ≡ true
  pub legal : legal p k s ≡ true
  pub some : b ≢ none
  -- a run begins with empty sets and bits 0: no empty line stands before the one that the bits tell
  pub by_bits : p ≡ nmru_policy → miss_line k s ≡ victim k s.bits

pub record Ran (p k sets : ℕ) (blocks lent : List ℕ) (misses : ℕ) (out : List ℕ) : Type 0 where
  pub counted : misses ≡ total (made p k sets blocks)
  pub written : out ≡ made p k sets blocks ++ drop (length blocks) lent
