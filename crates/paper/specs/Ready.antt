-- The state and the step that lines make with bits beside them. What a step asks for: k ways, "no block stands in two lines, the lines from k on are empty".
use Rattle.std.specs.Prelude.{ℕ, ◌<◌, ◌≤◌, ◌≡◌, Bool, true, List, drop}
use Rattle.paper.specs.declared.SetState.{SetState}
use Rattle.paper.specs.declared.Stepped.{Stepped}
use Rattle.paper.specs.Machines.{distinct, empty}

abbrev pub state_of : List ℕ → ℕ → SetState
state_of lines bits = record { lines = lines; bits = bits }

abbrev pub stepped_of : List ℕ → ℕ → Bool → Stepped
stepped_of lines bits hit = record { state = state_of lines bits; hit = hit }

pub record Ready (k : ℕ) (lines : List ℕ) : Type 0 where
  pub low : 0 < k
  pub high : k ≤ 8
  pub beyond : empty (drop k lines) ≡ true
  pub apart : distinct lines ≡ true
