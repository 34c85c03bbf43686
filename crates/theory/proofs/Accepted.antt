-- Demand 3, first half, of every accepted file: the bounds that the check writes hold.
use Rattle.std.specs.Prelude.{Ok}
use Prim.Native.Nat.{ℕ}
use mathlib.Core.Path.{◌≡◌}
use mathlib.Core.List.{List, ◌++◌}
use lib.ListN.{get_or}
use Rattle.paper.specs.Bounds.{numbers}
use Rattle.paper.specs.Times.{file_time, TimeHolds}
use Rattle.paper.specs.Demands.{Holds}
use Rattle.paper.specs.Files.{case_of, read_case}
use Rattle.paper.specs.Verdicts.{file_verdict, verdict}
use Rattle.paper.proofs.VerdictLaws.{file_sound, enough}
use Rattle.theory.proofs.Demand.{bounds_hold}
use Rattle.theory.proofs.Times.{time_holds}

pub accepted_holds : (f : List ℕ) (room : ℕ) → verdict f room ≡ Ok tt → (p : ℕ) (rest : List ℕ) → Holds (read_case f) p (numbers (read_case f) p ++ rest)
unfolding case_of
accepted_holds f room h p rest = let s = file_sound f (enough f room h) in bounds_hold (read_case f) s.1 s.0.facts_high p rest

-- and so does the time, for any list of costs
pub accepted_time :
    (f : List ℕ) → file_verdict f ≡ Ok tt → (costs : List ℕ) (penalty p : ℕ)
    → TimeHolds (read_case f) p (λ v. get_or costs v 0) penalty (file_time f costs penalty p)
unfolding file_time
accepted_time f h costs penalty p = time_holds (read_case f) (file_sound f h).1 p (λ v. get_or costs v 0) penalty
