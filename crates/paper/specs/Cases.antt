-- A case: what the rules, the bounds and the walks speak of. Nodes, edges, loops and facts are given by their number and by index.
use Rattle.std.specs.Prelude.{ℕ, suc, ◌+◌, ◌-◌, ◌%◌, Bool, cond, ◌&&◌, eqb, leb}
use Rattle.paper.specs.declared.Loop.{Loop}
use Rattle.paper.specs.Machines.{none}

-- "the number and seven slots"
pub record Row : Type 0 where
  pub number : ℕ
  pub slot : ℕ → ℕ

-- "A fact names a scope (a loop, or the whole graph with one entry), a block b and an age limit l": the scope by its loop number, or 65,535.
-- "Its evidence is one row for each node of the scope": `row j` is that of the scope's node j, counted from its first.
pub record Fact : Type 0 where
  pub scope : ℕ
  pub block : ℕ
  pub limit : ℕ
  pub row : ℕ → Row

pub record Case : Type 0 where
  pub policy : ℕ
  pub ways : ℕ
  pub sets : ℕ
  pub nodes : ℕ
  pub edges : ℕ
  pub loops : ℕ
  pub facts : ℕ
  -- "each fetches one block or none"
  pub block : ℕ → ℕ
  -- edge i goes from `from i` to `to i`
  pub from : ℕ → ℕ
  pub to : ℕ → ℕ
  pub loop : ℕ → Loop
  pub fact : ℕ → Fact

-- "4,294,967,295 says no such limit": the W of a loop without W.
abbrev pub unlimited : ℕ
unlimited = 4294967295

-- "A loop is a range of nodes, first to last": the node is in it.
unfoldable pub inside : Loop → ℕ → Bool
inside l v = leb l.first v && leb v l.last

-- How many nodes the range has.
abbrev pub size : Loop → ℕ
size l = suc l.last - l.first

-- Range w of a graph: loop w, or the whole graph where w is 65,535.
unfoldable pub range_of : ℕ → (ℕ → Loop) → ℕ → Loop
range_of nodes loop w = cond (eqb w none) (record { first = 0; last = nodes - 1; bound = 1; visits = unlimited }) (loop w)

module _ (e : Case) where
  abbrev pub scope_of : Fact → Loop
  scope_of t = range_of e.nodes e.loop t.scope

  -- the row of the scope's node v
  abbrev pub row_of : Fact → ℕ → Row
  row_of t v = t.row (v - (scope_of t).first)

  -- "block b lives in set b mod S"
  unfoldable pub same_set : ℕ → ℕ → Bool
  same_set x b = eqb (x % e.sets) (b % e.sets)

  -- node j of the fact's scope, counted from its first, fetches the fact's block
  unfoldable pub fetches : Fact → ℕ → Bool
  fetches t j = eqb (e.block ((scope_of t).first + j)) t.block
