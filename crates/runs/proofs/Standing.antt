-- What a step of each machine needs follows from what is asked for it.
use Prim.Native.Nat.{ℕ, ◌+◌, ◌^◌, ◌<◌}
use mathlib.Core.Path.{◌≡◌}
use Rattle.paper.specs.declared.SetState.{SetState}
use Rattle.paper.specs.Policies.{nmru_policy}
use Rattle.paper.specs.Ready.{Ready}
use Rattle.paper.proofs.MoveLaws.{legal_ready, nmru_bits}
use Rattle.paper.proofs.Says.{says_true}
use Rattle.paper.proofs.States.{says_offered}
use Rattle.runs.specs.TraceRuns.{Stands}

module _ {p k b : ℕ} {s : SetState} (a : Stands p k s b) where
  pub stands_ready : Ready k s.lines
  stands_ready = legal_ready p k s a.legal (says_true (says_offered p k) a.offers)

  pub stands_bits : p ≡ nmru_policy → s.bits + 1 < 2 ^ k
  stands_bits e = nmru_bits p k s a.legal e
