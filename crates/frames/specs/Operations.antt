-- docs/PIPE.md: "A request is one byte that names the operation", and an answer begins with "the operation's byte".
use Rattle.std.specs.Prelude.{ℕ}
use Rattle.frames.specs.declared.operations.Operation.{Operation}
use Rattle.frames.specs.declared.operations.Operation.TheVariants.{Step, Block, Set, Trace, Check, Write, Find, Salvage, AllWays, Time}

abbrev pub number_of : Operation → ℕ
number_of Step = 1
number_of Block = 2
number_of Set = 3
number_of Trace = 4
number_of Check = 5
number_of Write = 6
number_of Find = 7
number_of Salvage = 8
number_of AllWays = 9
number_of Time = 10
