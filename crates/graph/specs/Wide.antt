-- A loop that is handed over in a list, as the loop that it tells of: numbers are numbers, however wide.
use Rattle.paper.specs.declared.Loop.{Loop}
use Rattle.graph.specs.declared.shape.WideLoop.{WideLoop}

abbrev pub as_loop : WideLoop → Loop
as_loop l = record { first = l.first; last = l.last; bound = l.bound; visits = l.visits }
