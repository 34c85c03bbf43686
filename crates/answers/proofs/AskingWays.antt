-- All ways: what is asked for, from what is read.
use Prim.Native.Nat.{ℕ}
use mathlib.Core.Path.{◌≡◌}
use mathlib.Core.List.{List}
use Rattle.std.specs.Prelude.{Result}
use Rattle.paper.specs.declared.Refusal.{Refusal}
use Rattle.paper.specs.Files.{u8_at, u32_at}
use Rattle.frames.specs.Little.{u16s}
use Rattle.frames.specs.Places as Places
use Rattle.frames.specs.Frames.{ways_asked}
use Rattle.bolgverk.specs.Promises.{WaysPromise}
use Rattle.bolgverk.proofs.Determined.{ways_answer}

pub ways_asked_lem : (r lent : List ℕ) {blocks : List ℕ} {n : ℕ} {a : Result (List ℕ) Refusal} → n ≡ u32_at r Places.ways_accesses → blocks ≡ u16s lent n → WaysPromise (u8_at r 0) blocks a → a ≡ ways_asked r lent
unfolding ways_asked
ways_asked_lem r lent e b p = rw (← e, ← b) (ways_answer _ _ _ p)
