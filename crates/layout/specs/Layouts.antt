-- What a file's trailer says, where the file passes the layout's rules; else the refusal.
use Rattle.std.specs.Prelude.{ℕ, List, Result, Ok, Err}
use Rattle.paper.specs.declared.Trailer.{Trailer}
use Rattle.paper.specs.Answers.{Verdict}
use Rattle.paper.specs.Files.{trailer_of}
use Rattle.paper.specs.Verdicts.{layout_rules}
use Rattle.paper.specs.declared.Refusal.{Refusal}

unfoldable pub reading : Trailer → Verdict → Result Trailer Refusal
reading trailer (Ok tt) = Ok trailer
reading trailer (Err r) = Err r

unfoldable pub layout_of : List ℕ → Result Trailer Refusal
layout_of f = reading (trailer_of f) (layout_rules f (Ok tt))
