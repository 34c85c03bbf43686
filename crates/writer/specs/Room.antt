-- The lists of which a section is written, and what is known of them when it is.
use Rattle.std.specs.Prelude.{ℕ, ◌+◌, ◌*◌, ◌≤◌, ◌<◌, ◌≡◌, List, [], ◌∷◌, ◌++◌, length, get_or}
use Rattle.paper.specs.declared.Trailer.{Trailer}
use Rattle.paper.specs.Files.{letters, edges_at, loops_at, facts_at}
use Rattle.paper.specs.Records.{without_w}
use Rattle.paper.specs.Writing.{FileContent, per_loop, rows_before, number_bytes}

-- a content of which only the loops are looked at, and one of which only the facts are
abbrev pub of_loops : ℕ → List ℕ → FileContent
of_loops version loops = record { version = version; policy = 0; ways = 0; sets = 0; nodes = []; edges = []; loops = loops; heads = []; rows = [] }

abbrev pub of_facts : List ℕ → List ℕ → FileContent
of_facts heads rows = record { version = without_w; policy = 0; ways = 0; sets = 0; nodes = []; edges = []; loops = []; heads = heads; rows = rows }

-- Rules 4 and 7 are passed: the loops are whole, and their ends are nodes, and so below 65,536.
pub record NarrowLoops (t : Trailer) (loops : List ℕ) : Type 0 where
  pub whole : length loops ≡ per_loop t.version * t.loops
  pub first : (j : ℕ) → j < t.loops → get_or loops (per_loop t.version * j + 0) 0 < 65536
  pub last : (j : ℕ) → j < t.loops → get_or loops (per_loop t.version * j + 1) 0 < 65536

-- a loop's bytes but for W
abbrev pub front_bytes : Trailer → List ℕ → ℕ → List ℕ
front_bytes t loops j =
    number_bytes 2 (get_or loops (per_loop t.version * j + 0) 0)
    ++ (number_bytes 2 (get_or loops (per_loop t.version * j + 1) 0) ++ number_bytes 4 (get_or loops (per_loop t.version * j + 2) 0))

-- Rule 4 is passed: n heads name all rows.
pub record FactsFit (heads rows : List ℕ) (n : ℕ) : Type 0 where
  pub whole : 4 * n ≤ length heads
  pub named : length rows ≡ 8 * rows_before (of_facts heads rows) n

-- the trailer's first fields and its last
abbrev pub offset_bytes : Trailer → List ℕ
offset_bytes t = number_bytes 4 0 ++ (number_bytes 4 (edges_at t) ++ (number_bytes 4 (loops_at t) ++ number_bytes 4 (facts_at t)))

abbrev pub mark_bytes : Trailer → List ℕ
mark_bytes t = t.policy ∷ t.ways ∷ t.sets ∷ t.version ∷ letters
