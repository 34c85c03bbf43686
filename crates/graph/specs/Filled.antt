-- Tables over the nodes: what one holds, and a part of one filled with a number.
use Rattle.std.specs.Prelude.{ℕ, ◌≤◌, ◌<◌, ◌≡◌, List, length, get_or}

-- the places from a to before z hold x, the others what they held
pub record Filled (old new : List ℕ) (a z x : ℕ) : Type 0 where
  pub same : length new ≡ length old
  pub below : (i : ℕ) → i < a → get_or new i 0 ≡ get_or old i 0
  pub within : (i : ℕ) → a ≤ i → i < z → get_or new i 0 ≡ x
  pub above : (i : ℕ) → z ≤ i → get_or new i 0 ≡ get_or old i 0

-- the first n places hold g's values
pub record Holds (g : ℕ → ℕ) (n : ℕ) (l : List ℕ) : Type 0 where
  pub room : n ≤ length l
  pub at : (v : ℕ) → v < n → get_or l v 0 ≡ g v
