-- What is said of a trace that is looked through eight by eight for block none.
use Rattle.std.specs.Prelude.{ℕ, ◌<◌, ◌≤◌, ◌≡◌, Bool, false, ◌||◌, List, [], ◌∷◌, length}
use Rattle.paper.specs.Traces.{bad_access}

-- Whether one of the list is true.
unfoldable pub some_of : List Bool → Bool
some_of [] = false
some_of (x ∷ []) = x
some_of (x ∷ y ∷ l) = x || some_of (y ∷ l)

-- No access before i has block none.
pub record Clear (blocks : List ℕ) (i : ℕ) : Type 0 where
  pub within : i ≤ length blocks
  pub none : (j : ℕ) → j < i → bad_access blocks j ≡ false
