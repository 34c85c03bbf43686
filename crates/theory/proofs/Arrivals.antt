-- Stays, visits and forward arrivals compared along a walk: a stay begins by a forward arrival at its header, a node that is no header is visited by forward arrivals only,
-- and between two forward arrivals at a node the header of the innermost loop over it is visited.
use Prim.Native.Nat.{ℕ, suc, ◌+◌, ◌≤◌, ◌<◌}
use native.Mathlib.Omega.{arith}
use native.Mathlib.Decide.{dec_le, ℕ_discrete}
use mathlib.Core.Path.{◌≡◌, ap}
use mathlib.Core.Logic.{◌≢◌, dite}
use mathlib.Core.Bool.{Bool, false, ◌&&◌}
use mathlib.Core.Option.{Option, none, some}
use mathlib.Core.List.{List}
use lib.Dec.{eqb, leb, ltb}
use Rattle.paper.specs.Lists.{bit}
use Rattle.paper.specs.Cases.{Case}
use Rattle.paper.specs.Walks.{Step, Walk, visits}
use Rattle.paper.proofs.Says.{Says, holds, fails, says_eq, says_lt, says_le, says_and, says_not}
use Rattle.paper.proofs.Meaning.{In, SoundGraph}
use Rattle.paper.proofs.GraphLaws.{inside_says}
use Rattle.theory.proofs.Tests.{bit_le, bit_one}
use Rattle.theory.proofs.Steps.{Over, from_inside, enters, from_below}
use Rattle.theory.proofs.Tally.{tally, begins, stays, below, arrives, arrivals, tally_visits, tally_none, tally_le}

abbrev Below : ℕ → Option ℕ → Type 0
Below t none = Unit {0}
Below t (some u) = u < t

below_says : (t : ℕ) (p : Option ℕ) → Says (Below t p) (below t p)
below_says t none = holds tt
below_says t (some u) = says_lt u t

arrives_says : (t : ℕ) (p : Option ℕ) (v : ℕ) → Says ((v ≡ t) × Below t p) (arrives t p v)
arrives_says t p v = says_and (says_eq v t) (below_says t p)

-- one where the visit is to a node from a to below t; c where there is none
abbrev credit : ℕ → ℕ → ℕ → Option ℕ → ℕ
credit t a c none = c
credit t a c (some u) = bit (leb a u && ltb u t)

module _ (e : Case) (s : SoundGraph e) (w : List ℕ) (walk : Walk e w) where
  pub stays_arrivals : (j : ℕ) → j < e.loops → stays (e.loop j) w ≤ arrivals (e.loop j).first w
  stays_arrivals j m = omega (arith, tally_le e (begins (e.loop j)) (arrives (e.loop j).first) (λ p. 0) step none w walk)
    where
      step : (p : Option ℕ) (v : ℕ) → Step e p v → bit (begins (e.loop j) p v) + 0 ≤ bit (arrives (e.loop j).first p v) + 0
      step none v d =
          omega (
            arith,
            bit_le (says_and (inside_says (e.loop j) v) (holds tt)) λ (i : In (e.loop j) v × Unit {0}).
                bit_one (arrives_says (e.loop j).first none v) (omega arith, tt),
          )
      step (some u) v d =
          omega (
            arith,
            bit_le (says_and (inside_says (e.loop j) v) (says_not (inside_says (e.loop j) u))) λ i.
                let z = enters e s u v d j m i.0 i.1 in
                bit_one (arrives_says (e.loop j).first (some u) v) (z.0, omega arith),
          )

  pub visits_arrivals : (t : ℕ) → ((j : ℕ) → j < e.loops → t ≢ (e.loop j).first) → visits t w ≤ arrivals t w
  visits_arrivals t plain = omega (arith, tally_visits t none w, tally_le e (λ p v. eqb v t) (arrives t) (λ p. 0) step none w walk)
    where
      step : (p : Option ℕ) (v : ℕ) → Step e p v → bit (eqb v t) + 0 ≤ bit (arrives t p v) + 0
      step none v d = omega (arith, bit_le (says_eq v t) (λ q. bit_one (arrives_says t none v) (q, tt)))
      step (some u) v d = omega (arith, bit_le (says_eq v t) (λ q. bit_one (arrives_says t (some u) v) (q, forwards q)))
        where
          forwards : v ≡ t → u < t
          forwards q =
              dite (dec_le v u)
              (λ h.
              let (x, n, r, o) = s.back u v d h in
              absurd (plain x n (omega arith)))
              (λ h. omega arith)

  -- a stay's first visit is to its header
  pub stays_visits : (j : ℕ) → j < e.loops → stays (e.loop j) w ≤ visits (e.loop j).first w
  stays_visits j m =
      let t = (e.loop j).first in
      omega (
        arith,
        stays_arrivals j m,
        tally_visits t none w,
        tally_le e (arrives t) (λ p v. eqb v t) (λ p. 0)
            (λ p v d. omega (arith, bit_le (arrives_says t p v) (λ q. bit_one (says_eq v t) q.0))) none w walk,
      )

  -- `opens` holds of a visit of a node from a to t, or the node before was one from a to below t; where there is none, that is paid by c
  module _ (t a c : ℕ) (opens : Option ℕ → ℕ → Bool) where
    arrivals_le :
        a ≤ t → ((p : Option ℕ) (v : ℕ) → Step e p v → a ≤ v → v ≤ t → (v ≡ t → Below t p) → 1 ≤ bit (opens p v) + credit t a c p)
        → arrivals t w ≤ tally opens none w + c
    arrivals_le at f = tally_le e (arrives t) opens (credit t a c) (λ p v d. step p v d (arrives_says t p v) (says_and (says_le a v) (says_lt v t))) none w walk
      where
        step :
            (p : Option ℕ) (v : ℕ) → Step e p v → {x y : Bool} → Says ((v ≡ t) × Below t p) x → Says ((a ≤ v) × (v < t)) y
            → bit x + bit y ≤ bit (opens p v) + credit t a c p
        step p v d (holds q) (holds r) = absurd (omega arith)
        step p v d (holds q) (fails r) = omega (arith, f p v d (omega arith) (omega arith) (λ z. q.1))
        step p v d (fails q) (holds r) = omega (arith, f p v d (omega arith) (omega arith) (λ z. absurd (omega arith)))
        step p v d (fails q) (fails r) = omega arith

  -- loop j is the innermost over t
  pub arrivals_header :
      (t j : ℕ) → j < e.loops → Over t (e.loop j) → ((i : ℕ) → i < e.loops → Over t (e.loop i) → i ≤ j)
      → arrivals t w ≤ visits (e.loop j).first w
  arrivals_header t j m o inner = omega (arith, tally_visits (e.loop j).first none w, arrivals_le t (e.loop j).first 0 opens (omega arith) step)
    where
      opens : Option ℕ → ℕ → Bool
      opens p v = eqb v (e.loop j).first

      inner_first : (i : ℕ) → i < e.loops → Over t (e.loop i) → (e.loop i).first < suc (e.loop j).first
      inner_first i n q =
          elim (ℕ_discrete i j) [
            | yes p ↦ omega (arith, ap (λ (x : ℕ). (e.loop x).first) p)
            | no p ↦ omega (arith, s.rises i j (omega (arith, inner i n q)) m)
          ]

      step :
          (p : Option ℕ) (v : ℕ) → Step e p v → (e.loop j).first ≤ v → v ≤ t → (v ≡ t → Below t p)
          → 1 ≤ bit (opens p v) + credit t (e.loop j).first 0 p
      step none v d h r b = omega (arith, bit_one (says_eq v (e.loop j).first) (omega arith))
      step (some u) v d h r b =
          elim (ℕ_discrete v (e.loop j).first) [
            | yes p ↦ omega (arith, bit_one (says_eq v (e.loop j).first) p)
            | no p ↦
                let i = from_inside e s u v d j m (omega arith) in
                let z : u < t =
                elim (ℕ_discrete v t) [ yes q ↦ b q | no q ↦ from_below e s u v d t (suc (e.loop j).first) inner_first (omega arith) (omega arith) ] in
                omega (arith, bit_one (says_and (says_le (e.loop j).first u) (says_lt u t)) (omega arith))
          ]

  -- no loop is over t
  pub arrivals_once : (t : ℕ) → ((j : ℕ) → j < e.loops → ¬ Over t (e.loop j)) → arrivals t w ≤ 1
  arrivals_once t alone = omega (arith, tally_none none w, arrivals_le t 0 1 opens (omega arith) step)
    where
      opens : Option ℕ → ℕ → Bool
      opens p v = false

      step : (p : Option ℕ) (v : ℕ) → Step e p v → 0 ≤ v → v ≤ t → (v ≡ t → Below t p) → 1 ≤ 0 + credit t 0 1 p
      step none v d h r b = omega arith
      step (some u) v d h r b =
          let z : u < t = elim (ℕ_discrete v t) [ yes q ↦ b q | no q ↦ from_below e s u v d t 0 (λ j m o. absurd (alone j m o)) (omega arith) (omega arith) ] in
          omega (arith, bit_one (says_and (says_le 0 u) (says_lt u t)) (omega arith))
