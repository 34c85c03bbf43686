-- One step of the search: what an edge hands on is put into the row of its end. A row is eight numbers by value, as rows are lent: the number and seven slots.
use Rattle.std.specs.Prelude.{ℕ, zero, suc, min, max, Bool, false, cond, not, ◌&&◌, ◌||◌, List, eqb, ltb, leb, get_or}
use Rattle.paper.specs.Machines.{none}
use Rattle.paper.specs.Cases.{Row, Fact, Case, same_set}
use Rattle.lines.specs.Lines.{eight}

abbrev pub number_of : List ℕ → ℕ
number_of r = get_or r 0 0

abbrev pub slot_of : List ℕ → ℕ → ℕ
slot_of r k = get_or r (suc k) 0

-- the paper's row
abbrev pub row_by : List ℕ → Row
row_by r = record { number = number_of r; slot = slot_of r }

-- A row without blocks: all slots are free.
unfoldable pub plain_at : ℕ → ℕ → ℕ
plain_at n zero = n
plain_at n (suc k) = none

unfoldable pub plain : ℕ → List ℕ
plain n = eight (plain_at n)

-- c stands in one of the first n slots, and in one of the seven
unfoldable pub among_to : List ℕ → ℕ → ℕ → Bool
among_to r c zero = false
among_to r c (suc n) = among_to r c n || eqb (slot_of r n) c

unfoldable pub among : List ℕ → ℕ → Bool
among r c = among_to r c 7

-- c put in its place: a free slot is greater than every block, so each slot becomes the middle one of c, the slot before it and itself.
unfoldable pub placed : (ℕ → ℕ) → ℕ → ℕ → ℕ
placed old c zero = min (old 0) c
placed old c (suc k) = max (old k) (min (old (suc k)) c)

unfoldable pub grown_at : List ℕ → ℕ → ℕ → ℕ
grown_at r c zero = suc (number_of r)
grown_at r c (suc k) = placed (slot_of r) c k

unfoldable pub grown : List ℕ → ℕ → List ℕ
grown r c = eight (grown_at r c)

-- b has been fetched
unfoldable pub opened : List ℕ → List ℕ
opened s = cond (eqb (number_of s) 9) (plain 0) s

-- a row for the limit l: "'many' where they hold as many blocks as the limit found or more"
unfoldable pub lowered : ℕ → List ℕ → List ℕ
lowered l r = cond (ltb (number_of r) 8 && leb l (number_of r)) (plain 8) r

module _ (k : ℕ) where
  -- a set of n blocks and one more is still fewer than k
  abbrev pub fits : ℕ → Bool
  fits n = ltb (suc n) k

  -- one block more, where k blocks are "many"
  unfoldable pub put : List ℕ → ℕ → List ℕ
  put r c = cond (eqb (number_of r) 8 || among r c) r (cond (fits (number_of r)) (grown r c) (plain 8))

  -- the blocks in the first n slots of r put into s
  unfoldable pub put_slots : List ℕ → List ℕ → ℕ → List ℕ
  put_slots r s zero = s
  put_slots r s (suc n) = put (put_slots r s n) (slot_of r n)

module _ (e : Case) (t : Fact) where
  -- "u fetches b"
  abbrev pub is_b : ℕ → Bool
  is_b x = eqb x t.block

  -- "u's block where u fetches one of b's set"
  unfoldable pub counts : ℕ → Bool
  counts x = not (eqb x none) && same_set e x t.block

  -- a set's blocks are handed on, and the block x that is fetched
  unfoldable pub handed : ℕ → List ℕ → List ℕ → List ℕ
  handed x r s =
      let all = put_slots t.limit r s (number_of r) in
      cond (counts x) (put t.limit all x) all

  -- For an edge u to v inside the scope, where u fetches x and has row r, and v has row s: v's new row.
  unfoldable pub stepped : ℕ → List ℕ → List ℕ → List ℕ
  stepped x r s =
      cond (eqb (number_of s) 8) s
      (cond (is_b x) (opened s) (cond (eqb (number_of r) 9) s (cond (eqb (number_of r) 8) (plain 8) (handed x r (opened s)))))
