-- Cycles: the longest way through each loop, inner loops first, and through the graph.
-- "Inside a loop, the longest way from the header along forward edges, each inner loop taken as one step of its own time, times B, is the loop's time for one entry."
use Rattle.std.specs.Prelude.{ℕ, suc, ◌+◌, ◌-◌, ◌*◌, ◌≤◌, ◌<◌, max, ◌≡◌, true, cond, not, ◌&&◌, List, [], ◌∷◌, eqb, ltb, leb, length, get_or, Result, Ok, Err}
use Rattle.paper.specs.Answers.{Verdict}
use Rattle.paper.specs.Rules.{rule, follow}
use Rattle.paper.specs.Lists.{least, bit, highest_to, in_turn}
use Rattle.paper.specs.Traces.{Content}
use Rattle.paper.specs.Cases.{Case, inside}
use Rattle.paper.specs.Walks.{Edge, Walk, KeepsLimits}
use Rattle.paper.specs.Runs.{LegalContent, Event, walk_of, interruptions, run, misses}
use Rattle.paper.specs.Bounds.{total_bound}
use Rattle.paper.specs.Files.{read_case}
use Rattle.paper.specs.Verdicts.{file_verdict}
use Rattle.paper.specs.declared.Refusal.{Refusal}

-- "the sum of its node costs"
abbrev pub spent : (ℕ → ℕ) → List ℕ → ℕ
spent cost [] = 0
spent cost (v ∷ w) = cost v + spent cost w

-- Of the loops from number k on, the first in the file that has the node, and `loops` where none has it. Headers rise, so it is the outermost of them.
-- Of a loop's nodes, its inner loops are those after it: `step_loop (suc n) v` is the loop directly inside loop n that has v, and `step_loop 0 v` the outermost loop of all.
unfoldable pub step_loop : Case → ℕ → ℕ → ℕ
step_loop e k v = least (λ j. leb k j && inside (e.loop j) v) e.loops

-- The loops from number k on are steps, and so is each node that is in none of them: where the step that has v begins.
unfoldable pub step_first : Case → ℕ → ℕ → ℕ
step_first e k v = cond (ltb (step_loop e k v) e.loops) (e.loop (step_loop e k v)).first v

-- For ways that begin at node a each node has a number: 0 where none leads to its step, else one more than the time of the longest, that step included.
-- Of node v, before its step's time is added: a way begins here with 1, or comes along a forward edge from a node with the number w.
unfoldable pub way_before : Case → ℕ → (ℕ → ℕ) → ℕ → ℕ
way_before e a w v = max (bit (eqb v a)) (highest_to (λ i. cond (eqb (e.to i) v && ltb (e.from i) v) (w (e.from i)) 0) e.edges)

-- Loop j takes the time `t j`, a node its own cost.
module _ (e : Case) (cost : ℕ → ℕ) (t : ℕ → ℕ) (k : ℕ) where
  -- the time of the step that has v
  unfoldable pub step_time : ℕ → ℕ
  step_time v = cond (ltb (step_loop e k v) e.loops) (t (step_loop e k v)) (cost v)

  -- Made from the numbers of the nodes before it: where v is inside a step, the number is that of the step's first node.
  unfoldable pub way_to : ℕ → (ℕ → ℕ) → ℕ → ℕ
  way_to a w v =
      let b = way_before e a w v in
      cond (ltb (step_first e k v) v) (w (step_first e k v)) (cond (eqb b 0) 0 (b + step_time v))

  -- the numbers of the nodes below m
  unfoldable pub ways : ℕ → ℕ → List ℕ
  ways a m = in_turn (way_to a) m

  -- "the longest way from" node a, among the nodes below m
  unfoldable pub longest_way : ℕ → ℕ → ℕ
  longest_way a m =
      let w = ways a m in
      highest_to (λ v. get_or w v 0) m - 1

-- The same in words: a way of time x from node a leads to node v. It begins at a, goes on by a forward edge to where the next step begins, and leads to all nodes of the
-- step that it has come to. The law `longest_is` says that `longest_way` is the greatest such time.
pub data Way (e : Case) (cost t : ℕ → ℕ) (k a : ℕ) : ℕ → ℕ → Type 0 where
  begun : step_first e k a ≡ a → Way e cost t k a a (step_time e cost t k a)
  onward : {u v x : ℕ} → Way e cost t k a u x → Edge e u v → u < v → step_first e k v ≡ v → Way e cost t k a v (x + step_time e cost t k v)
  inside_it : {v x : ℕ} → Way e cost t k a (step_first e k v) x → step_first e k v < v → Way e cost t k a v x

module _ (e : Case) (cost : ℕ → ℕ) where
  -- Loop j's time for one entry, where the loops after it have the times t.
  unfoldable pub entry_time : (ℕ → ℕ) → ℕ → ℕ
  entry_time t j = (e.loop j).bound * longest_way e cost t (suc j) (e.loop j).first (suc (e.loop j).last)

  -- The times of the last d loops, the last loop's first; loop j's stands at `loops - suc j`.
  unfoldable pub loop_times : ℕ → List ℕ
  loop_times d = in_turn (λ t i. entry_time (λ j. t (e.loops - suc j)) (e.loops - suc i)) d

  unfoldable pub time_of : ℕ → ℕ
  time_of j = get_or (loop_times e.loops) (e.loops - suc j) 0

  -- "the longest way from node 0 in the same sense"
  unfoldable pub longest : ℕ
  longest = let t = loop_times e.loops in longest_way e cost (λ j. get_or t (e.loops - suc j) 0) 0 0 e.nodes

  -- "plus penalty times the total miss bound"
  unfoldable pub graph_time : ℕ → ℕ → ℕ
  graph_time penalty total = longest + penalty * total

-- "27 if the time exceeds 9,223,372,036,854,775,807"
abbrev pub most_time : ℕ
most_time = 9223372036854775807

-- "The check's own but its 20, then 20 for a cost list of the wrong length, then 27 if the time exceeds 9,223,372,036,854,775,807; both at place 0": what comes after the check's own,
-- for a graph with so many nodes, a list with so many costs, and this time.
unfoldable pub time_rules : ℕ → ℕ → ℕ → Verdict → Verdict
time_rules nodes costs time rest = rule 20 0 (not (eqb costs nodes)) (rule 27 0 (ltb most_time time) rest)

abbrev pub time_answer : Verdict → ℕ → Result ℕ Refusal
time_answer (Ok tt) time = Ok time
time_answer (Err r) time = Err r

-- "With a 32-bit cost for each node and a 32-bit penalty for each miss, give a time for the whole graph": that of a file, "for the given p".
module _ (f costs : List ℕ) (penalty p : ℕ) where
  unfoldable pub file_time : ℕ
  file_time = graph_time (read_case f) (λ v. get_or costs v 0) penalty (total_bound (read_case f) p)

  -- the refusals, "the check's own but its 20" first
  unfoldable pub time_verdict : Verdict
  time_verdict = follow (file_verdict f) (time_rules (read_case f).nodes (length costs) file_time (Ok tt))

  -- "Only the time is returned."
  unfoldable pub file_time_answer : Result ℕ Refusal
  file_time_answer = time_answer time_verdict file_time

-- "For every walk of demand 3, the sum of its node costs and penalties is no larger": every placing of at most p interruptions, and any legal content after each.
abbrev pub TimeHolds : Case → ℕ → (ℕ → ℕ) → ℕ → ℕ → Type 0
TimeHolds e p cost penalty time =
    (r : List Event)
    → Walk e (walk_of r)
    → KeepsLimits e (walk_of r)
    → interruptions r ≤ p
    → (c : Content)
    → LegalContent e c
    → (left : ℕ → Content)
    → ((i : ℕ) → i < interruptions r → LegalContent e (left i))
    → spent cost (walk_of r) + penalty * misses (λ a. true) (run e c left r) ≤ time
