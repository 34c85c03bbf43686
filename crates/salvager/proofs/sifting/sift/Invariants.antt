-- `salvager::sifting::sift` judges each fact into the table.
use Rattle.salvager.proofs.Sifts.{Sifting}
use Rattle.salvager.proofs.sifting.sift.Given as goal

abbrev pub invariant-loop-i : goal.invariant-loop-i
invariant-loop-i l =
    Sifting l.file l.trailer l.initial.spans l.initial.whys l.spans l.whys l.kept l.dropped l.size l.previous l.p l.i
