-- Visits counted along a walk by a test of the node visited before and the node visited, and one induction with a credit that compares two such tallies.
use Prim.Native.Nat.{ℕ, ◌+◌, ◌≤◌}
use native.Mathlib.Omega.{arith}
use mathlib.Core.Path.{◌≡◌, refl}
use mathlib.Core.Bool.{Bool, true, false, ◌&&◌}
use mathlib.Core.Option.{Option, none, some}
use mathlib.Core.List.{List, [], ◌∷◌}
use lib.Dec.{eqb, ltb}
use Rattle.paper.specs.declared.Loop.{Loop}
use Rattle.paper.specs.Lists.{bit}
use Rattle.paper.specs.Cases.{Case, inside}
use Rattle.paper.specs.Walks.{Step, Follows, visits, outside}

-- How many visits of w, which comes after the visit p, pass the test.
abbrev pub tally : (Option ℕ → ℕ → Bool) → Option ℕ → List ℕ → ℕ
tally test p [] = 0
tally test p (v ∷ w) = bit (test p v) + tally test (some v) w

-- a stay in the loop begins
abbrev pub begins : Loop → Option ℕ → ℕ → Bool
begins l p v = inside l v && outside l p

-- how many stays in the loop the walk has
abbrev pub stays : Loop → List ℕ → ℕ
stays l w = tally (begins l) none w

-- the visit before, if there is one, is to a node below t
abbrev pub below : ℕ → Option ℕ → Bool
below t none = true
below t (some u) = ltb u t

-- a forward arrival at t; the walk's start counts as one
abbrev pub arrives : ℕ → Option ℕ → ℕ → Bool
arrives t p v = eqb v t && below t p

abbrev pub arrivals : ℕ → List ℕ → ℕ
arrivals t w = tally (arrives t) none w

pub tally_visits : (v : ℕ) (p : Option ℕ) (w : List ℕ) → tally (λ q u. eqb u v) p w ≡ visits v w
tally_visits v p [] = refl
tally_visits v p (u ∷ w) = omega (arith, tally_visits v (some u) w)

pub tally_none : (p : Option ℕ) (w : List ℕ) → tally (λ q v. false) p w ≡ 0
tally_none p [] = refl
tally_none p (v ∷ w) = omega (arith, tally_none (some v) w)

-- c is a credit: what of a is still to come, after this node, before the next of b
pub tally_le :
    (e : Case) (a b : Option ℕ → ℕ → Bool) (c : Option ℕ → ℕ) → ((p : Option ℕ) (v : ℕ) → Step e p v → bit (a p v) + c (some v) ≤ bit (b p v) + c p)
    → (p : Option ℕ) (w : List ℕ) → Follows e p w → tally a p w ≤ tally b p w + c p
tally_le e a b c f p [] k = omega arith
tally_le e a b c f p (v ∷ w) k = omega (arith, f p v k.0, tally_le e a b c f (some v) w k.1)
