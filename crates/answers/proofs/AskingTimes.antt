-- The time: what is asked for, from what is read.
use Rattle.std.specs.Prelude.{Result}
use Prim.Native.Nat.{ℕ, ◌-◌}
use native.Mathlib.Omega.{arith}
use mathlib.Core.Path.{◌≡◌}
use mathlib.Core.List.{List}
use lib.ListN.{take, drop}
use Rattle.paper.specs.Files.{u16_at, u32_at}
use Rattle.frames.specs.Little.{u32s}
use Rattle.frames.specs.Places as Places
use Rattle.frames.specs.Frames.{time_asked}
use Rattle.bolgverk.specs.Promises.{TimePromise}
use Rattle.bolgverk.proofs.Determined.{time_answer_lem}
use Rattle.paper.specs.declared.Refusal.{Refusal}

pub time_asked_lem : (r lent : List ℕ) {costs : List ℕ} {i penalty n m : ℕ} {a : (Result ℕ Refusal)} → i ≡ u16_at r 0 → penalty ≡ u32_at r Places.time_penalty → n ≡ u32_at r Places.time_file →
    m ≡ u32_at r Places.time_costs → costs ≡ u32s (drop n lent) m → TimePromise (take (n - 0) lent) costs penalty i a → a ≡ time_asked r lent
unfolding time_asked
time_asked_lem r lent {costs} {i} {penalty} {n} {m} {a} j q e k b p =
    let z : n - 0 ≡ n = omega arith in
    rw (← j, ← q, ← e, ← k, ← b) (rw z at (time_answer_lem _ _ _ _ _ p))
