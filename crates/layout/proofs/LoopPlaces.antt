-- A laid-out file has the bytes of each loop: loop after loop ends before the facts begin.
use Prim.Native.Nat.{ℕ, ◌+◌, ◌≤◌, ◌<◌}
use native.Mathlib.Omega.{arith}
use mathlib.Core.Logic.{◌≢◌}
use mathlib.Core.List.{List}
use lib.ListN.{length}
use Rattle.paper.specs.declared.Trailer.{Trailer}
use Rattle.paper.specs.Records.{without_w, visits_field, size_of, widest_loop}
use Rattle.paper.specs.Files.{loop_place}
use Rattle.paper.specs.Known.{Laid}
use Rattle.paper.proofs.LoopSizes.{size_low, size_with, loop_ends}

module _ (f : List ℕ) (t : Trailer) (j : ℕ) (l : Laid f t) (h : j < t.loops) where
  -- all but W, in both versions
  pub front_in : loop_place t j + visits_field ≤ length f
  front_in = omega (arith, l.long, l.room, size_low t.version, loop_ends t.version j t.loops h)

  -- W too
  pub all_in : t.version ≢ without_w → loop_place t j + size_of widest_loop ≤ length f
  all_in n = omega (arith, l.long, l.room, size_with t.version n, loop_ends t.version j t.loops h)
