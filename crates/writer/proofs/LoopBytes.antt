-- A loop's bytes in each version: all but W, and W after them where there is one.
use Prim.Native.Nat.{ℕ, suc, ◌+◌, ◌*◌, ◌≤◌}
use native.Mathlib.Omega.{arith}
use native.Mathlib.Nat.{mul-suc, mul-le-mul}
use mathlib.Core.Path.{◌≡◌, refl}
use mathlib.Core.Logic.{◌≢◌}
use mathlib.Core.List.{List, ◌++◌}
use borrow.Author.Tests.{eq-eqb, ne_eqb}
use lib.ListN.{get_or}
use Rattle.paper.specs.declared.Trailer.{Trailer}
use Rattle.paper.specs.Records.{without_w, loop_fields}
use Rattle.paper.specs.Files.{facts_at, visits_by}
use Rattle.paper.specs.Writing.{per_loop, number_bytes, loop_in, loop_bytes}
use Rattle.paper.proofs.LoopSizes.{size_high}
use Rattle.writer.specs.Room.{of_loops, front_bytes}

module _ (t : Trailer) (loops : List ℕ) (j : ℕ) where
  pub loop_without : t.version ≡ without_w → front_bytes t loops j ≡ loop_bytes t.version (loop_in (of_loops t.version loops) j)
  unfolding loop_bytes loop_fields loop_in
  loop_without h =
      let z : per_loop t.version * j + 0 ≡ per_loop t.version * j = omega arith in
      rw (eq-eqb t.version without_w h, z) refl

  pub loop_with :
      t.version ≢ without_w → (W : ℕ) → W ≡ visits_by t.version (get_or loops (per_loop t.version * j + 3) 0)
      → front_bytes t loops j ++ number_bytes 4 W ≡ loop_bytes t.version (loop_in (of_loops t.version loops) j)
  unfolding loop_bytes loop_fields loop_in
  loop_with h W e =
      let z : per_loop t.version * j + 0 ≡ per_loop t.version * j = omega arith in
      rw (ne_eqb t.version without_w h, z, e) refl

-- the place after one loop more
pub next_loop : (s j : ℕ) → s * (j + 1) ≡ s * j + s
next_loop s j =
    let z : j + 1 ≡ suc j = omega arith in
    rw z (omega (arith, mul-suc s j))

-- the facts begin where 32 bits can say
pub facts_narrow : (t : Trailer) → t.nodes ≤ 65535 → t.edges ≤ 65535 → t.loops ≤ 65535 → facts_at t ≤ 1179630
facts_narrow t a b c = omega (arith, mul-le-mul (size_high t.version) c)
