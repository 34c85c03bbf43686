-- The nodes chained by the buckets of their blocks, and the least limits that the facts give them.
use Rattle.std.specs.Prelude.{ℕ, ◌+◌, ◌%◌, ◌≤◌, ◌<◌, min, ◌≡◌, Bool, cond, List, eqb, length, get_or}
use Rattle.paper.specs.Lists.{lowest_to}
use Rattle.paper.specs.Cases.{Case}
use Rattle.paper.specs.Bounds.{covers}
use Rattle.charge.specs.NextOut.{last_of}
use Rattle.charge.specs.Sizes as Sizes

module _ (e : Case) where
  -- the bucket of a node
  abbrev pub bucket : ℕ → ℕ
  bucket v = e.block v % Sizes.buckets

  -- the last node below n in bucket h, plus 1; 0 where there is none
  abbrev pub last_in : ℕ → ℕ → ℕ
  last_in h n = last_of (λ v. eqb (bucket v) h) n

  -- the first n nodes are chained: place h holds the last of bucket h, and after the buckets place v the last before v in its bucket
  pub record Chained (n : ℕ) (chain : List ℕ) : Type 0 where
    pub room : Sizes.chained ≤ length chain
    pub lasts : (h : ℕ) → h < Sizes.buckets → get_or chain h 0 ≡ last_in h n
    pub befores : (v : ℕ) → v < n → get_or chain (Sizes.buckets + v) 0 ≡ last_in (bucket v) v

  -- the least limit of the first n facts that cover the node
  unfoldable pub lowest_limit : ℕ → ℕ → ℕ
  lowest_limit n v = lowest_to (λ i. cond (covers e (e.fact i) v) (e.fact i).limit Sizes.no_limit) Sizes.no_limit n

  -- a limit for each node
  pub record Limits (cover : List ℕ) : Type 0 where
    pub room : Sizes.nodes ≤ length cover
    pub low : (v : ℕ) → v < e.nodes → get_or cover v 0 ≤ Sizes.no_limit

  -- the limits of the nodes that pass are lowered to l
  pub record Lowered (test : ℕ → Bool) (l : ℕ) (old new : List ℕ) : Type 0 where
    pub room : length new ≡ length old
    pub is : (v : ℕ) → v < e.nodes → get_or new v 0 ≡ min (get_or old v 0) (cond (test v) l Sizes.no_limit)

  -- the list holds each node's least limit of the first n facts that cover it
  pub record Covered (n : ℕ) (cover : List ℕ) : Type 0 where
    pub room : Sizes.nodes ≤ length cover
    pub lowest : (v : ℕ) → v < e.nodes → get_or cover v 0 ≡ lowest_limit n v
