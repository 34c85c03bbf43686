-- The next loop out of a loop, and the table that holds it for each loop.
use Rattle.std.specs.Prelude.{ℕ, zero, suc, ◌≤◌, ◌<◌, ◌≡◌, Bool, cond, List, length, get_or}
use Rattle.paper.specs.Cases.{Case, inside}
use Rattle.charge.specs.Sizes as Sizes

-- the last number below n that passes, plus 1; 0 where there is none
unfoldable pub last_of : (ℕ → Bool) → ℕ → ℕ
last_of p zero = 0
last_of p (suc n) = cond (p n) (suc n) (last_of p n)

module _ (e : Case) where
  -- the last loop before loop j that contains its header, plus 1; 0 where there is none
  abbrev pub next_out : ℕ → ℕ
  next_out j = last_of (λ i. inside (e.loop i) (e.loop j).first) j

  -- the table holds the next loop out of each of the first n loops
  pub record Outers (n : ℕ) (outers : List ℕ) : Type 0 where
    pub room : Sizes.loops ≤ length outers
    pub at : (j : ℕ) → j < n → get_or outers j 0 ≡ next_out j
