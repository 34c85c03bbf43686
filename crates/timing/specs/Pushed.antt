-- The longest way by one pass over the edges in file order, in place of a search among the edges for each node; and numbers that are cut, so that they fit into 64 bits.
use Rattle.std.specs.Prelude.{ℕ, zero, suc, ◌+◌, min, max, cond, eqb, ltb}
use Rattle.paper.specs.Lists.{bit}
use Rattle.paper.specs.Cases.{Case}
use Rattle.paper.specs.Times.{step_first, step_time}

-- A time of 2 to the 63 or more is too large; how large plays no part.
abbrev pub cut : ℕ
cut = 9223372036854775808

-- The loops from number k on are steps, loop j takes the time `t j`, and times are cut at K.
module _ (e : Case) (cost t : ℕ → ℕ) (K k : ℕ) where
  -- the number of node v, where w has what comes before the first node of each step
  unfoldable pub number_by : (ℕ → ℕ) → ℕ → ℕ
  number_by w v = cond (eqb (w (step_first e k v)) 0) 0 (min (w (step_first e k v) + step_time e cost t k v) (suc K))

  -- what an edge from u to v carries, which is nothing if it goes back
  unfoldable pub carried : (ℕ → ℕ) → ℕ → ℕ → ℕ
  carried w u v = cond (ltb u v) (number_by w u) 0

  -- What comes before node v after the first i edges, for ways that begin at node a: an edge takes the number of its start over to its end.
  unfoldable pub before_to : ℕ → ℕ → ℕ → ℕ
  before_to a zero v = bit (eqb v a)
  before_to a (suc i) v = cond (eqb v (e.to i)) (max (before_to a i v) (carried (λ u. before_to a i u) (e.from i) v)) (before_to a i v)
