-- The tables that the facts and the nodes are added to, one pass each: sums by set, and by set and limit.
use Rattle.std.specs.Prelude.{ℕ, ◌+◌, ◌*◌, ◌%◌, ◌≤◌, ◌<◌, ◌≡◌, cond, not, List, eqb, length, get_or, set, drop}
use Rattle.paper.specs.declared.Trailer.{Trailer}
use Rattle.paper.specs.Lists.{sum_to, table}
use Rattle.paper.specs.Machines.{none}
use Rattle.paper.specs.Cases.{Case, range_of}
use Rattle.paper.specs.Graphs.{count}
use Rattle.paper.specs.Bounds.{list_length, entered, fact_bound, part_at}
use Rattle.paper.specs.Files.{u16_at, loop_at, fact_at, fact_end, case_of}
use Rattle.charge.specs.declared.facts.Cost.{Cost}
use Rattle.charge.specs.declared.heads.Head.{Head}
use Rattle.charge.specs.Chained.{lowest_limit}
use Rattle.charge.specs.Sizes as Sizes

-- Element j of the list is the sum of the amounts below n whose key is j.
pub record Tallied (key amount : ℕ → ℕ) (n : ℕ) (l : List ℕ) : Type 0 where
  pub is : (j : ℕ) → j < length l → get_or l j 0 ≡ sum_to (λ i. cond (eqb (key i) j) (amount i) 0) n

-- x is added at place i
abbrev pub plus : List ℕ → ℕ → ℕ → List ℕ
plus l i x = set l i (get_or l i 0 + x)

-- limit l's place among those of set q
abbrev pub place_of : ℕ → ℕ → ℕ
place_of q l = Sizes.limits * q + l

-- The first n are added: the amounts x by set s, and the amounts y by set and limit l.
pub record Grouped (s l x y : ℕ → ℕ) (n : ℕ) (sets limits : List ℕ) : Type 0 where
  pub sets_room : Sizes.sets ≤ length sets
  pub limits_room : Sizes.sets_by_limits ≤ length limits
  pub by_set : Tallied s x n sets
  pub by_limit : Tallied (λ i. place_of (s i) (l i)) y n limits

-- There is room for x more at set q, and for y more at limit l.
pub record Open (sets limits : List ℕ) (q l x y : ℕ) : Type 0 where
  pub set : q < Sizes.sets
  pub limit : l < Sizes.limits
  pub sets_room : Sizes.sets ≤ length sets
  pub limits_room : Sizes.sets_by_limits ≤ length limits
  pub set_fits : get_or sets q 0 + x ≤ 18446744073709551615
  pub limit_fits : get_or limits (place_of q l) 0 + y ≤ 18446744073709551615

-- the numbers before any is written
abbrev pub zeros : List ℕ
zeros = table (λ i. 0) list_length

module _ (e : Case) where
  -- what the node adds to its set: its count, where it fetches a block
  unfoldable pub weight : ℕ → ℕ
  weight v = cond (not (eqb (e.block v) none)) (count e v) 0

  abbrev pub set_of_fact : ℕ → ℕ
  set_of_fact i = (e.fact i).block % e.sets

  abbrev pub set_of_node : ℕ → ℕ
  set_of_node v = e.block v % e.sets

  -- the first n facts are added, p the interruptions: their bounds by set, and what they are charged with by set and limit
  abbrev pub FactsAdded : ℕ → ℕ → List ℕ → List ℕ → Type 0
  FactsAdded p n charged entries = Grouped set_of_fact (λ i. (e.fact i).limit) (λ i. fact_bound e p (e.fact i)) (λ i. entered e p (e.fact i)) n charged entries

  -- the first n nodes are added: their counts by set, and by set and least limit
  abbrev pub NodesAdded : ℕ → List ℕ → List ℕ → Type 0
  NodesAdded n fetched spent = Grouped set_of_node (lowest_limit e e.facts) weight weight n fetched spent

  -- the numbers while they are written: the total is T, the first Q sets and the first I facts have their bounds
  pub record Part (p T Q I : ℕ) (old new : List ℕ) : Type 0 where
    pub all : list_length ≤ length old
    pub room : length new ≡ length old
    pub is : (i : ℕ) → i < list_length → get_or new i 0 ≡ part_at e p T Q I i
    pub later : drop list_length new ≡ drop list_length old

module _ (f : List ℕ) (trailer : Trailer) (p : ℕ) where
  -- what is read of the fact at p
  unfoldable pub head_of : Head
  head_of =
      record {
        scope = u16_at f p;
        block = u16_at f (p + 2);
        limit = u16_at f (p + 4);
        range = range_of trailer.nodes (loop_at f trailer) (u16_at f p);
        next = fact_end f trailer p;
      }

  -- what it costs where a walk is interrupted so often, and where it ends
  unfoldable pub cost_of : ℕ → Cost
  cost_of interruptions =
      record {
        block = u16_at f (p + 2);
        limit = u16_at f (p + 4);
        entered = entered (case_of f trailer) interruptions (fact_at f p);
        bound = fact_bound (case_of f trailer) interruptions (fact_at f p);
        next = fact_end f trailer p;
      }
