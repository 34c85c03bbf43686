-- Rules 2, 3 and 4 on the lists: how many of each there are, or the refusal.
use Rattle.std.specs.Prelude.{ℕ, cond, ◌||◌, List, Result, Ok, Err}
use Rattle.paper.specs.Answers.{refuse}
use Rattle.paper.specs.Records.{bad_version}
use Rattle.paper.specs.Files.{bad_cache, bad_numbers}
use Rattle.paper.specs.Writing.{FileContent, trailer_in, bad_lists}
use Rattle.paper.specs.declared.Refusal.{Refusal}
use Rattle.paper.specs.declared.Trailer.{Trailer}

-- what the operation is handed
abbrev pub offered : ℕ → ℕ → ℕ → ℕ → List ℕ → List ℕ → List ℕ → List ℕ → List ℕ → FileContent
offered version policy ways sets nodes edges loops heads rows =
    record { version = version; policy = policy; ways = ways; sets = sets; nodes = nodes; edges = edges; loops = loops; heads = heads; rows = rows }

unfoldable pub listing_of : FileContent → Result Trailer Refusal
listing_of c =
    cond (bad_version c.version) (Err (refuse 2 0))
    (cond (bad_cache (trailer_in c)) (Err (refuse 3 0))
    (cond (bad_lists c || bad_numbers (trailer_in c)) (Err (refuse 4 0)) (Ok (trailer_in c))))
