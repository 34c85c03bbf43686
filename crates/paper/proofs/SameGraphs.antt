-- Two cases whose graphs are the same below their numbers break the same of the rules 6 to 10 and 26, and their ranges of nodes are the same.
use Prim.Native.Nat.{ℕ, zero, suc, ◌-◌, ◌≤◌, ◌<◌}
use native.Mathlib.Omega.{arith}
use native.Mathlib.Decide.{ℕ_discrete}
use mathlib.Core.Path.{◌≡◌, refl, ◌∙◌, ap}
use mathlib.Core.Logic.{◌≢◌}
use mathlib.Core.Bool.{Bool, ◌&&◌}
use borrow.Author.Tests.{eq-eqb, ne_eqb}
use lib.Dec.{eqb, ltb}
use Rattle.paper.specs.Answers.{Verdict}
use Rattle.paper.specs.Lists.{some, chain}
use Rattle.paper.specs.Machines.{none}
use Rattle.paper.specs.Cases.{Case, inside, range_of}
use Rattle.paper.specs.Known.{Shaped}
use Rattle.paper.specs.Rules.{rule_at}
use Rattle.paper.specs.Verdicts.{shape_rules, path_rules, count_rules, graph_rules}
use Rattle.paper.specs.Graphs.{wrong_edge, wrong_loop, crosses, beside, returns, bad_edge, bad_loop, bad_entry, bad_return, joined, leads, reached, dead, header_visits, innermost, count, bad_count}
use Rattle.paper.proofs.Least.{least_same, some_same}
use Rattle.paper.proofs.Chain.{chain_agree}
use Rattle.paper.proofs.Meaning.{In}

-- a rule whose tests agree, below numbers that are the same
rule_at_same : (number : ℕ) {p q : ℕ → Bool} {n m : ℕ} {a b : Verdict} → n ≡ m → ((i : ℕ) → i < n → p i ≡ q i) → a ≡ b → rule_at number p n a ≡ rule_at number q m b
rule_at_same number {p} {q} {n} {m} {a} {b} e h r =
    rw (some_same p q n h, least_same p q n h, r) (ap (λ (k : ℕ). rule_at number q k b) e)

-- the same cache, nodes, edges and loops, whatever the facts are
pub record SameGraph (e d : Case) : Type 0 where
  pub policy : e.policy ≡ d.policy
  pub ways : e.ways ≡ d.ways
  pub sets : e.sets ≡ d.sets
  pub nodes : e.nodes ≡ d.nodes
  pub edges : e.edges ≡ d.edges
  pub loops : e.loops ≡ d.loops
  pub fetch : (v : ℕ) → v < e.nodes → e.block v ≡ d.block v
  pub from : (i : ℕ) → i < e.edges → e.from i ≡ d.from i
  pub to : (i : ℕ) → i < e.edges → e.to i ≡ d.to i
  pub loop : (j : ℕ) → j < e.loops → e.loop j ≡ d.loop j

module _ (e d : Case) (s : SameGraph e d) where
  -- 6
  edge_same : (i : ℕ) → i < e.edges → bad_edge e i ≡ bad_edge d i
  unfolding bad_edge wrong_edge
  edge_same i l =
      let m : i - 1 < e.edges = omega arith in
      rw (s.nodes, s.from i l, s.to i l, s.from (i - 1) m, s.to (i - 1) m) refl

  -- 7
  loop_same : (i : ℕ) → i < e.loops → bad_loop e i ≡ bad_loop d i
  unfolding bad_loop wrong_loop
  loop_same i l =
      let m : i - 1 < e.loops = omega arith in
      let c : some (λ j. crosses (e.loop j) (e.loop i)) i ≡ some (λ j. crosses (d.loop j) (d.loop i)) i
      = some_same _ _ i (λ k h. rw (s.loop k (omega arith), s.loop i l) refl) in
      rw (c, s.nodes, s.loop i l, s.loop (i - 1) m) refl

  -- 8
  entry_same : (i : ℕ) → i < e.edges → bad_entry e i ≡ bad_entry d i
  unfolding bad_entry
  entry_same i l =
      let c : some (λ j. beside (e.loop j) (e.from i) (e.to i)) e.loops ≡ some (λ j. beside (d.loop j) (d.from i) (d.to i)) e.loops
      = some_same _ _ e.loops (λ k h. rw (s.loop k h, s.from i l, s.to i l) refl) in
      rw (c, s.from i l, s.to i l, s.loops) refl

  -- 9
  return_same : (i : ℕ) → i < e.edges → bad_return e i ≡ bad_return d i
  unfolding bad_return
  return_same i l =
      let c : some (λ j. returns (e.loop j) (e.from i) (e.to i)) e.loops ≡ some (λ j. returns (d.loop j) (d.from i) (d.to i)) e.loops
      = some_same _ _ e.loops (λ k h. rw (s.loop k h, s.from i l, s.to i l) refl) in
      rw (c, s.from i l, s.to i l, s.loops) refl

  -- 26
  joined_same : (u v : ℕ) → joined e u v ≡ joined d u v
  unfolding joined
  joined_same u v =
      some_same _ _ e.edges (λ i h. rw (s.from i h, s.to i h) refl)
      ∙ ap (λ (n : ℕ). some (λ i. eqb (d.from i) u && eqb (d.to i) v) n) s.edges

  leads_same : (k u v : ℕ) → leads e k u v ≡ leads d k u v
  unfolding leads
  leads_same zero u v = joined_same u v
  leads_same (suc k) u v = rw (leads_same k u v, leads_same k u k, leads_same k k v) refl

  dead_same : (v : ℕ) → dead e v ≡ dead d v
  unfolding reached dead
  dead_same v = rw (leads_same e.nodes 0 v, s.nodes) refl

  -- 10
  pub count_same : (v : ℕ) → count e v ≡ count d v
  unfolding count innermost header_visits
  count_same v =
      chain_agree _ _ _ _ e.loops (λ j h k. rw (s.loop j h) refl) (λ j h. rw (s.loop j h) refl)
      ∙ ap (chain (header_visits d) (λ j. inside (d.loop j) v)) s.loops

  bad_count_same : (v : ℕ) → bad_count e v ≡ bad_count d v
  unfolding bad_count
  bad_count_same v = ap (λ (n : ℕ). ltb 4294967295 n) (count_same v)

  -- so the graph's chains say the same of both
  pub shape_same : (a b : Verdict) → a ≡ b → shape_rules e a ≡ shape_rules d b
  unfolding shape_rules
  shape_same a b r = rule_at_same 6 s.edges edge_same (rule_at_same 7 s.loops loop_same r)

  pub graph_same : (rest : Verdict) → graph_rules e rest ≡ graph_rules d rest
  unfolding path_rules count_rules
  graph_same rest =
      shape_same _ _
      (rule_at_same 8 s.edges entry_same
      (rule_at_same 9 s.edges return_same (rule_at_same 26 s.nodes (λ v l. dead_same v) (rule_at_same 10 s.nodes (λ v l. bad_count_same v) refl))))

  -- a range that there is
  module _ (w : ℕ) (there : w ≢ none → w < e.loops) where
    pub range_same : range_of e.nodes e.loop w ≡ range_of d.nodes d.loop w
    unfolding range_of
    range_same =
        elim (ℕ_discrete w none) [
          | yes p ↦ rw (eq-eqb _ _ p, s.nodes) refl
          | no n ↦ rw (ne_eqb _ _ n) (s.loop w (there n))
        ]

-- the nodes of a range are nodes of the graph
pub range_low : (e : Case) → Shaped e → 1 ≤ e.nodes → (w : ℕ) → (w ≢ none → w < e.loops) → (v : ℕ) → In (range_of e.nodes e.loop w) v → v < e.nodes
unfolding range_of
range_low e k h w there v =
    elim (ℕ_discrete w none) [
      | yes p ↦ rw (eq-eqb _ _ p) (λ i. omega arith)
      | no n ↦ rw (ne_eqb _ _ n) (λ i. omega (arith, k.fits w (there n)))
    ]
