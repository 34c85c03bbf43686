-- "Facts and their evidence": a fact's head, its rows and the edge rule, as the rules 12 to 14, 16 to 18, 24 and 25 test them.
use Rattle.std.specs.Prelude.{ℕ, ◌+◌, ◌-◌, Bool, false, cond, not, ◌&&◌, ◌||◌, eqb, ltb, leb, Option, Some, None}
use Rattle.paper.specs.declared.Previous.{Previous}
use Rattle.paper.specs.Lists.{least, some}
use Rattle.paper.specs.Machines.{none}
use Rattle.paper.specs.Cases.{Row, Fact, Case, inside, size, scope_of, row_of, same_set, fetches}

-- "a number 0 to 7 with that many blocks": how many blocks the row holds.
unfoldable pub held : Row → ℕ
held r = cond (ltb r.number 8) r.number 0

-- The row holds the block x.
unfoldable pub holds : Row → ℕ → Bool
holds r x = some (λ i. eqb (r.slot i) x) (held r)

-- "16-bit loop number or 65,535 for the whole graph": w is neither
abbrev pub wrong_scope : ℕ → ℕ → Bool
wrong_scope loops w = leb loops w && not (eqb w none)

-- 12: "its loop number, block or l out of range", of a head with the loop number w, the block b and the limit l
unfoldable pub wrong_head : ℕ → ℕ → ℕ → ℕ → ℕ → Bool
wrong_head loops ways w b l = wrong_scope loops w || (eqb b none || (ltb l 1 || ltb ways l))

-- 13: "block below the previous fact's, or equal and its scope starts at or before the previous scope's last node", of the block b and a scope that starts at `first`
unfoldable pub wrong_order : Option Previous → ℕ → ℕ → Bool
wrong_order None b first = false
wrong_order (Some previous) b first = ltb b previous.block || (eqb b previous.block && leb first previous.last)

-- the first fact comes after none
abbrev pub none_previous : Option Previous
none_previous = None

module _ (e : Case) where
  -- 12
  unfoldable pub bad_head : Fact → Bool
  bad_head t = wrong_head e.loops e.ways t.scope t.block t.limit

  -- what a fact is to the one after it
  abbrev pub previous_of : Fact → Option Previous
  previous_of t = Some (record { block = t.block; last = (scope_of e t).last })

  -- 13
  unfoldable pub bad_order : Option Previous → Fact → Bool
  bad_order previous t = wrong_order previous t.block (scope_of e t).first

  module _ (t : Fact) where
    -- 14: "no node of the scope fetches b"
    unfoldable pub unfetched : Bool
    unfetched = not (some (fetches e t) (size (scope_of e t)))

    -- "strictly rising, each of b's set, none equal to b or none; free slots are 65,535"
    unfoldable pub bad_slot : Row → ℕ → Bool
    bad_slot r i =
        cond (ltb i (held r))
        (eqb (r.slot i) none
        || (eqb (r.slot i) t.block || (not (same_set e (r.slot i) t.block) || (ltb 0 i && leb (r.slot i) (r.slot (i - 1))))))
        (not (eqb (r.slot i) none))

    -- 16, "at most l-1 blocks … A row whose number is above 9 is not sound."
    unfoldable pub bad_row : Row → Bool
    bad_row r = ltb 9 r.number || ((ltb r.number 8 && leb t.limit r.number) || some (bad_slot r) 7)

    unfoldable pub bad_row_at : ℕ → Bool
    bad_row_at j = bad_row (t.row j)

    -- row s lacks a block of row r, or the block x "where u fetches one of b's set"
    unfoldable pub lacks : ℕ → Row → Row → Bool
    lacks x r s = some (λ i. not (holds s (r.slot i))) (held r) || (not (eqb x none) && (same_set e x t.block && not (holds s x)))

    -- For an edge u to v inside the scope, where u fetches x and has row r, and v has row s:
    -- 24, "u fetches b: row v is not 9": "'not since b' after a fetch of b"
    unfoldable pub after_b : ℕ → Row → Bool
    after_b x s = eqb x t.block && eqb s.number 9

    -- 25, "else row u is 8: row v is 8": "'many' followed by anything else"
    unfoldable pub after_many : ℕ → Row → Row → Bool
    after_many x r s = not (eqb x t.block) && (eqb r.number 8 && not (eqb s.number 8))

    -- 17, "else row u is 9: nothing is required", "else row v is 8, or a set that holds row u's blocks and also u's block where u fetches one of b's set":
    -- "a set followed by 9 or by a set that lacks a block"
    unfoldable pub after_set : ℕ → Row → Row → Bool
    after_set x r s =
        (not (eqb x t.block) && (not (eqb r.number 9) && not (eqb r.number 8)))
        && (not (eqb s.number 8) && (leb 8 s.number || lacks x r s))

    -- the edge breaks one of the three
    unfoldable pub breaks : ℕ → Row → Row → Bool
    breaks x r s = after_b x s || (after_many x r s || after_set x r s)

    -- the number of the one it breaks: "an edge can break only one of the three"
    unfoldable pub broken_by : ℕ → Row → Row → ℕ
    broken_by x r s = cond (after_b x s) 24 (cond (after_many x r s) 25 17)

    unfoldable pub bad_step_at : ℕ → Bool
    bad_step_at i =
        (inside (scope_of e t) (e.from i) && inside (scope_of e t) (e.to i))
        && breaks (e.block (e.from i)) (row_of e t (e.from i)) (row_of e t (e.to i))

    -- 17, 24 or 25: that of edge i
    unfoldable pub step_number : ℕ → ℕ
    step_number i = broken_by (e.block (e.from i)) (row_of e t (e.from i)) (row_of e t (e.to i))

    -- 18: "a node that fetches b has row 8"
    unfoldable pub bad_many_at : ℕ → Bool
    bad_many_at j = fetches e t j && eqb (t.row j).number 8

    -- "the least such node": of the scope's nodes at which the test holds, by its number in the graph
    unfoldable pub least_node : (ℕ → Bool) → ℕ
    least_node p = (scope_of e t).first + least p (size (scope_of e t))
