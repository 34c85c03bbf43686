-- The search for the first edge from a node or a later one, by halves.
use Prim.Native.Nat.{ℕ, ◌+◌, ◌≤◌, ◌<◌}
use native.Mathlib.Omega.{arith}
use mathlib.Core.Path.{◌≡◌}
use mathlib.Core.List.{List}
use Rattle.paper.specs.declared.Trailer.{Trailer}
use Rattle.paper.specs.Files.{from_at, case_of}
use Rattle.paper.specs.Known.{Shaped}
use Rattle.evidence.specs.Edges.{Splits}
use Rattle.paper.proofs.Climbs.{climbs}

module _ (f : List ℕ) (trailer : Trailer) (v : ℕ) where
  pub halves_start : Splits f trailer v 0 trailer.edges
  halves_start =
      record { meets = omega arith; within = omega arith; below = λ k q. absurd (omega arith); above = λ k q l. absurd (omega arith) }

  module _ (low high : ℕ) (w : Splits f trailer v low high) where
    module _ (o : Shaped (case_of f trailer)) (m u : ℕ) (a : low ≤ m) (b : m < high) (e : u ≡ from_at f trailer m) where
      pub halves_low : (l : ℕ) → l ≡ m + 1 → u < v → Splits f trailer v l high
      unfolding case_of
      halves_low l q h =
          record {
            meets = omega arith;
            within = w.within;
            below = λ k z. omega (arith, climbs (from_at f trailer) trailer.edges o.climbs k m (omega arith) (omega (arith, w.within)));
            above = w.above;
          }

      pub halves_high : (l : ℕ) → l ≡ m → v ≤ u → Splits f trailer v low l
      unfolding case_of
      halves_high l q h =
          record {
            meets = omega arith;
            within = omega (arith, w.within);
            below = w.below;
            above = λ k z y. omega (arith, climbs (from_at f trailer) trailer.edges o.climbs m k (omega arith) y);
          }

    pub halves_end : high ≤ low → Splits f trailer v low low
    halves_end h =
        record { meets = omega arith; within = omega (arith, w.within, w.meets); below = w.below; above = λ k z. w.above k (omega (arith, w.meets)) }
