-- What the visits pay inside one loop is at most its longest way for each visit of its header; in the graph it is at most the longest way.
use Prim.Native.Nat.{ℕ, suc, ◌+◌, ◌-◌, ◌*◌, ◌≤◌, ◌<◌}
use native.Mathlib.Omega.{arith}
use native.Mathlib.Decide.{ℕ_discrete}
use native.Mathlib.Nat.{mul-add}
use mathlib.Core.Path.{◌≡◌, refl, sym, ◌∙◌, ap, subst}
use mathlib.Core.Logic.{◌≢◌, ⊎_elim}
use mathlib.Core.Bool.{Bool, cond}
use mathlib.Core.Option.{Option, none, some}
use mathlib.Core.List.{List, [], ◌∷◌}
use borrow.Author.Tests.{eq-eqb}
use lib.Dec.{eqb}
use Rattle.paper.specs.Lists.{bit}
use Rattle.paper.specs.Cases.{Case, inside}
use Rattle.paper.specs.Walks.{Step, Follows, visits}
use Rattle.paper.specs.Times.{step_first, longest_way}
use Rattle.paper.proofs.Says.{Says, holds, fails, says_is}
use Rattle.paper.proofs.Meaning.{In, SoundGraph}
use Rattle.paper.proofs.GraphLaws.{inside_says}
use Rattle.paper.proofs.TimeLaws.{Free, step_of, free_first, free_time, held_first, held_time, way, way_start, way_le}
use Rattle.theory.proofs.Steps.{earlier, from_inside}
use Rattle.theory.proofs.Paying.{along, pays, free_pays, held_pays, pays_in, edge_pays}

module _ (e : Case) (s : SoundGraph e) where
  -- The steps of loop n, where the loops after it have the times t.
  module _ (cost t : ℕ → ℕ) (n : ℕ) (below : n < e.loops) where
    -- the way to a node, and one
    abbrev to : ℕ → ℕ
    to v = way e cost t (suc n) (e.loop n).first (suc (e.loop n).last) v

    -- the longest way
    abbrev pub round : ℕ
    round = longest_way e cost t (suc n) (e.loop n).first (suc (e.loop n).last)

    -- a credit: what a round may still pay after this visit
    abbrev left : Option ℕ → ℕ
    left none = 0
    left (some u) = cond (inside (e.loop n) u) (suc round - to u) 0

    -- a way leads to the node, if the loop has it
    abbrev Reached : Option ℕ → Type 0
    Reached none = Unit {0}
    Reached (some u) = In (e.loop n) u → 1 ≤ to u

    header_free : Free e (suc n) (e.loop n).first
    header_free j a b o = omega (arith, s.rises n j a b, o)

    -- a visit inside: a way leads there, and what it pays and leaves is paid by the credit, or by a round that begins
    abbrev Good : Option ℕ → ℕ → Type 0
    Good p v = (1 ≤ to v) × (pays e cost t (suc n) p v + (suc round - to v) ≤ round * bit (eqb v (e.loop n).first) + left p)

    -- a visit of the header begins a round
    header_pays : (p : Option ℕ) → Good p (e.loop n).first
    header_pays p =
        let first = (e.loop n).first in
        let below_end : first < suc (e.loop n).last = omega (arith, s.fits n below) in
        rw (eq-eqb first first refl)
        (omega (
          arith,
          free_pays e cost t (suc n) p first header_free,
          free_time e (suc n) first header_free cost t,
          way_start e cost t (suc n) first (suc (e.loop n).last) below_end (free_first e (suc n) first header_free),
          way_le e cost t (suc n) first (suc (e.loop n).last) first below_end,
        ))

    -- any other visit goes on with one
    inner_pays : (p : Option ℕ) (v : ℕ) → Step e p v → In (e.loop n) v → v ≢ (e.loop n).first → Reached p → Good p v
    inner_pays none v d i z r = absurd (omega arith)
    inner_pays (some u) v d i z r =
        let o = from_inside e s u v d n below (omega arith) in
        let x = r o in
        let y = edge_pays e s cost t (suc n) (e.loop n).first (suc (e.loop n).last) u v d (omega arith) (omega arith) after x in
        let top = way_le e cost t (suc n) (e.loop n).first (suc (e.loop n).last) v (omega arith) in
        rw (says_is (inside_says (e.loop n) u) o) (omega arith)
      where
        -- an edge back, but to the header, goes to that of an inner loop
        after : v ≤ u → (j : ℕ) × (suc n ≤ j) × (j < e.loops) × (v ≡ (e.loop j).first)
        after b = let (j, m, q, o) = s.back u v d b in (j, earlier e s n j below m (omega arith), m, q)

    inside_pays : (p : Option ℕ) (v : ℕ) → Step e p v → In (e.loop n) v → Reached p → Good p v
    inside_pays p v d i r = elim (ℕ_discrete v (e.loop n).first) [ yes h ↦ subst (λ (u : ℕ). Good p u) (sym h) (header_pays p) | no h ↦ inner_pays p v d i h r ]

    visit_pays :
        (p : Option ℕ) (v : ℕ) → Step e p v → Reached p
        → Reached (some v) × (pays_in e cost t n p v + left (some v) ≤ round * bit (eqb v (e.loop n).first) + left p)
    visit_pays p v d r = go (inside_says (e.loop n) v)
      where
        go :
            {b : Bool} → Says (In (e.loop n) v) b
            → Reached (some v)
            × (cond b (pays e cost t (suc n) p v) 0 + cond b (suc round - to v) 0 ≤ round * bit (eqb v (e.loop n).first) + left p)
        go (fails q) = (λ i. absurd (q i), omega arith)
        go (holds i) = let z = inside_pays p v d i r in (λ i. z.0, z.1)

    along_pays : (p : Option ℕ) (w : List ℕ) → Follows e p w → Reached p → along (pays_in e cost t n) p w ≤ round * visits (e.loop n).first w + left p
    along_pays p [] k r = omega arith
    along_pays p (v ∷ w) k r =
        let z = visit_pays p v k.0 r in
        rw (mul-add round (bit (eqb v (e.loop n).first)) (visits (e.loop n).first w)) (omega (arith, z.1, along_pays (some v) w k.1 z.0))

    pub loop_pays : (w : List ℕ) → Follows e none w → along (pays_in e cost t n) none w ≤ round * visits (e.loop n).first w
    loop_pays w k = omega (arith, along_pays none w k tt)

  -- The steps of the graph.
  module _ (some_node : 1 ≤ e.nodes) (cost t : ℕ → ℕ) where
    -- the way to a node, and one
    abbrev way_to_lem : ℕ → ℕ
    way_to_lem v = way e cost t 0 0 e.nodes v

    abbrev all : ℕ
    all = longest_way e cost t 0 0 e.nodes

    onward : (u : ℕ) (w : List ℕ) → Follows e (some u) w → u < e.nodes → 1 ≤ way_to_lem u →
        way_to_lem u + along (pays e cost t 0) (some u) w ≤ suc all
    onward u [] k h r = omega (arith, way_le e cost t 0 0 e.nodes u h)
    onward u (v ∷ w) k h r =
        let q = s.ends u v k.0 in
        let z = edge_pays e s cost t 0 0 e.nodes u v k.0 h q.1 (λ b. let (j, m, y, o) = s.back u v k.0 b in (j, omega arith, m, y)) r in
        omega (arith, onward v w k.1 q.1 (omega arith))

    zero_first : step_first e 0 0 ≡ 0
    zero_first = ⊎_elim (free_first e 0 0) (λ r. held_first e 0 0 r.0 r.1 ∙ omega (arith, r.1.has)) (step_of e 0 0)

    zero_pays : 1 + pays e cost t 0 none 0 ≤ way_to_lem 0
    zero_pays =
        let z = way_start e cost t 0 0 e.nodes some_node zero_first in
        ⊎_elim
        (λ f. omega (arith, free_pays e cost t 0 none 0 f, free_time e 0 0 f cost t))
        (λ r. omega (arith, held_pays e cost t 0 none 0 r.0 r.1, held_time e 0 0 r.0 r.1 cost t))
        (step_of e 0 0)

    pub graph_pays : (w : List ℕ) → Follows e none w → along (pays e cost t 0) none w ≤ all
    graph_pays [] k = omega arith
    graph_pays (v ∷ w) k =
        let x : way_to_lem v ≡ way_to_lem 0 = ap way_to_lem k.0 in
        let y : pays e cost t 0 none v ≡ pays e cost t 0 none 0 = ap (pays e cost t 0 none) k.0 in
        omega (arith, zero_pays, onward v w k.1 (omega (arith, k.0)) (omega (arith, zero_pays)))
