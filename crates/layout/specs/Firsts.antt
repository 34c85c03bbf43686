-- "place the least such node", edge or loop: the first number at which a rule is broken, where there is one.
use Rattle.std.specs.Prelude.{ℕ, Bool, cond, Option, Some, None, ltb}
use Rattle.paper.specs.Lists.{least}

-- the least number below n at which p holds
unfoldable pub first : (ℕ → Bool) → ℕ → Option ℕ
first p n = cond (ltb (least p n) n) (Some (least p n)) None
