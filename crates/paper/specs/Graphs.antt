-- "The graph and its walks": edges, loops, counts and entries, as the rules 6 to 10 and 26 test them.
use Rattle.std.specs.Prelude.{ℕ, zero, suc, ◌-◌, ◌*◌, min, Bool, cond, not, ◌&&◌, ◌||◌, eqb, ltb, leb}
use Rattle.paper.specs.declared.Loop.{Loop}
use Rattle.paper.specs.Lists.{some, chain}
use Rattle.paper.specs.Machines.{none}
use Rattle.paper.specs.Ceilings.{most_bound, most_count}
use Rattle.paper.specs.Cases.{Case, Fact, unlimited, inside}

-- The edge u to v stands after the edge u' to v': "strictly rising by from, then to".
unfoldable pub rises_from : ℕ → ℕ → ℕ → ℕ → Bool
rises_from u' v' u v = ltb u' u || (eqb u' u && ltb v' v)

-- Loop b begins in loop a and ends after it: "Two loops … are nested or apart."
unfoldable pub crosses : Loop → Loop → Bool
crosses a b = leb b.first a.last && ltb a.last b.last

-- "An edge u to v with u < v may enter a loop only at its header": this one enters l beside it.
unfoldable pub beside : Loop → ℕ → ℕ → Bool
beside l u v = inside l v && (not (inside l u) && not (eqb v l.first))

-- "v must be the header of a loop that contains u"
unfoldable pub returns : Loop → ℕ → ℕ → Bool
returns l u v = inside l u && eqb v l.first

-- Loop o is strictly around loop l. (Headers differ.)
unfoldable pub around : Loop → Loop → Bool
around l o = ltb o.first l.first && leb l.last o.last

-- "the lesser of W and" n, which is n where there is no W
unfoldable pub at_most : ℕ → ℕ → ℕ
at_most W n = cond (eqb W unlimited) n (min W n)

-- 6: "edge end not below n, or edge not after the one before it", of edge i, from u to v, after one from u' to v'. (Before edge 0 there is none.)
unfoldable pub wrong_edge : ℕ → ℕ → ℕ → ℕ → ℕ → ℕ → Bool
wrong_edge nodes i u' v' u v = leb nodes u || (leb nodes v || (ltb 0 i && not (rises_from u' v' u v)))

-- 7: "loop's first above last, last not below n, B out of range, first not above that of the loop before it, or it crosses an earlier loop", "7 also for W = 0", of l,
-- which is loop i, after one with the header h. (Before loop 0 there is none.)
unfoldable pub wrong_loop : ℕ → (ℕ → Loop) → ℕ → ℕ → Loop → Bool
wrong_loop nodes loop i h l =
    ltb l.last l.first
    || (leb nodes l.last
    || (ltb l.bound 1
    || (ltb most_bound l.bound
    || (ltb l.visits 1 || ((ltb 0 i && leb l.first h) || some (λ j. crosses (loop j) l) i)))))

module _ (e : Case) where
  -- 6
  unfoldable pub bad_edge : ℕ → Bool
  bad_edge i = wrong_edge e.nodes i (e.from (i - 1)) (e.to (i - 1)) (e.from i) (e.to i)

  -- 7
  unfoldable pub bad_loop : ℕ → Bool
  bad_loop i = wrong_loop e.nodes e.loop i (e.loop (i - 1)).first (e.loop i)

  -- 8: "forward edge enters beside a header"
  unfoldable pub bad_entry : ℕ → Bool
  bad_entry i = ltb (e.from i) (e.to i) && some (λ j. beside (e.loop j) (e.from i) (e.to i)) e.loops

  -- 9: "backward edge not to a header around its source"
  unfoldable pub bad_return : ℕ → Bool
  bad_return i = leb (e.to i) (e.from i) && not (some (λ j. returns (e.loop j) (e.from i) (e.to i)) e.loops)

  -- There is an edge u to v.
  unfoldable pub joined : ℕ → ℕ → Bool
  joined u v = some (λ i. eqb (e.from i) u && eqb (e.to i) v) e.edges

  -- Edges lead from u to v past no nodes but those below a number. Past those below suc k: past those below k alone, or first to node k and then on from it.
  unfoldable pub leads : ℕ → ℕ → ℕ → Bool
  leads zero u v = joined u v
  leads (suc k) u v = leads k u v || (leads k u k && leads k k v)

  -- Node 0, or a node that "edges lead to from node 0".
  unfoldable pub reached : ℕ → Bool
  reached v = eqb v 0 || leads e.nodes 0 v

  -- 26: "a node other than 0 that no edges lead to from node 0"
  unfoldable pub dead : ℕ → Bool
  dead v = not (reached v)

  -- "A loop's header visits are the lesser of W and B times the header visits of the next loop out": those of loop j, where the next loop out has n.
  unfoldable pub header_visits : ℕ → ℕ → ℕ
  header_visits j n = at_most (e.loop j).visits ((e.loop j).bound * n)

  -- The header visits of the innermost loop that passes the test, "1 outside all loops". The loops that pass lie one in the other, and an inner loop comes later in the file.
  unfoldable pub innermost : (ℕ → Bool) → ℕ
  innermost test = chain header_visits test e.loops

  -- "a node's count is the header visits of its innermost loop"
  unfoldable pub count : ℕ → ℕ
  count v = innermost (λ j. inside (e.loop j) v)

  -- 10: "count too large"
  unfoldable pub bad_count : ℕ → Bool
  bad_count v = ltb most_count (count v)

  -- the header visits of the next loop out: the innermost of those strictly around it
  unfoldable pub outer : Loop → ℕ
  outer l = innermost (λ j. around l (e.loop j))

  -- "its entries the lesser of W and that outer number"
  unfoldable pub entries_of : Loop → ℕ
  entries_of l = at_most l.visits (outer l)

  -- "the whole graph with one entry"
  unfoldable pub entries : Fact → ℕ
  entries t = cond (eqb t.scope none) 1 (entries_of (e.loop t.scope))
