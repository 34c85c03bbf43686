-- The machine of a policy, by the policy's number: which there are, one step, and the legal states.
use Rattle.std.specs.Prelude.{ℕ, Bool, true, false, cond, ◌&&◌, List, [], ◌∷◌, eqb, ltb, leb, drop, replicate}
use Rattle.paper.specs.declared.SetState.{SetState}
use Rattle.paper.specs.declared.Stepped.{Stepped}
use Rattle.paper.specs.Policies.{last_policy, parts_of}
pub use Rattle.paper.specs.Steps.{none, one_down}
unfoldable pub use Rattle.paper.specs.Steps.{line_of, hits, pushed, lru_step, fifo_step, bit_at, victim, marked, line_or, miss_line, nmru_line, nmru_step}
unfoldable pub use Rattle.paper.specs.Trees.{levels, tree_limit, tree_victim, turned, tree_line, tree_step}

-- "all sets start empty with bits 0"
abbrev pub empty_set : SetState
empty_set = record { lines = replicate 8 none; bits = 0 }

-- the step of the policy's machine
unfoldable pub step : ℕ → ℕ → SetState → ℕ → Stepped
step policy k s b = (parts_of policy).step k s b

-- "A set has k ways": the policy is one of the four, and has so many
unfoldable pub offered : ℕ → ℕ → Bool
offered policy k = leb policy last_policy && (parts_of policy).ways k

-- "With S sets (1 to 64)"
unfoldable pub set_count : ℕ → Bool
set_count sets = ltb 0 sets && leb sets 64

unfoldable pub in_range : ℕ → ℕ → ℕ → Bool
in_range policy k sets = offered policy k && set_count sets

unfoldable pub stands : List ℕ → ℕ → Bool
stands [] b = false
stands (x ∷ lines) b = cond (eqb x b) true (stands lines b)

-- "no block stands in two lines"
unfoldable pub distinct : List ℕ → Bool
distinct [] = true
distinct (x ∷ lines) = cond (eqb x none) (distinct lines) (cond (stands lines x) false (distinct lines))

-- "the lines from k on are empty"
unfoldable pub empty : List ℕ → Bool
empty [] = true
empty (x ∷ lines) = cond (eqb x none) (empty lines) false

-- the policy's legal bits are those below a number
unfoldable pub legal_bits : ℕ → ℕ → ℕ → Bool
legal_bits policy k bits = ltb bits ((parts_of policy).bits k)

unfoldable pub legal : ℕ → ℕ → SetState → Bool
legal policy k s = distinct s.lines && (empty (drop k s.lines) && legal_bits policy k s.bits)
