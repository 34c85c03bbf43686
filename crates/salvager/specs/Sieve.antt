-- The table in which the facts are judged: where those stand and end that are kept, and why the others are dropped.
use Rattle.std.specs.Prelude.{ℕ, ◌+◌, ◌*◌, ◌≤◌, ◌≡◌, List, [], ◌∷◌, length, take}
use Rattle.paper.specs.declared.Refusal.{Refusal}
use Rattle.paper.specs.declared.Trailer.{Trailer}
use Rattle.paper.specs.Files.{end_at, facts_at, fact_end}
use Rattle.paper.specs.Salvaging.{judged, kept_of, dropped_of, listed, fact_parts}
use Rattle.salvager.specs.declared.Sifted.{Sifted}

module _ (f : List ℕ) (trailer : Trailer) where
  abbrev pub kept_by : List ℕ
  kept_by = kept_of (judged f trailer)

  abbrev pub dropped_by : List Refusal
  dropped_by = dropped_of (judged f trailer)

  -- two places a fact: where it stands, and where it ends
  abbrev pub spans_of : List ℕ → List ℕ
  spans_of [] = []
  spans_of (p ∷ places) = p ∷ fact_end f trailer p ∷ spans_of places

  -- Every fact is judged: the table begins with what came of it, and s has its numbers.
  pub record Sieved (s : Sifted) (spans whys : List ℕ) : Type 0 where
    pub kept : s.kept ≡ length kept_by
    pub dropped : s.dropped ≡ length dropped_by
    pub size : s.size ≡ length (fact_parts f trailer kept_by)
    pub within : facts_at trailer + s.size ≤ end_at f
    pub spans_room : 2 * s.kept ≤ length spans
    pub whys_room : 3 * s.dropped ≤ length whys
    pub spans_are : take (2 * s.kept) spans ≡ spans_of kept_by
    pub whys_are : take (3 * s.dropped) whys ≡ listed dropped_by
