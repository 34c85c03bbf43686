-- `bolgverk::salvage` tells what the verdict does, and leaves the lent bytes and numbers as it does; the laws of salvaged files say what that is worth.
use mathlib.Core.Path.{ap}
use Rattle.paper.specs.Answers.{told_salvage}
use Rattle.theory.proofs.Salvaged.{salvage_holds}
use Rattle.theory.proofs.Fewer.{removal_holds}
use Rattle.bolgverk.proofs.salvage.Goals as goal

pub returns : goal.returns
returns c =
    let w = c.salvage.ensures in
    record { told = ap told_salvage w.answer; bytes = w.bytes; dropped = w.numbers; holds = salvage_holds _; removal = removal_holds _ }
