-- "Find the facts ourselves": the fact that is sought, the refusals, and what is found, by what walks gather.
use Rattle.std.specs.Prelude.{ℕ, suc, ◌*◌, ◌≤◌, ◌<◌, ◌≡◌, ◌≢◌, ◌↔◌, true, false, ltb, length, drop, Ok, Err}
use mathlib.Core.List.{List, [], ◌∷◌, ◌++◌, Memᴰ}
use Rattle.paper.specs.declared.Refusal.{Refusal}
use Rattle.paper.specs.Answers.{Verdict, Told, tells, tells_why}
use Rattle.paper.specs.Machines.{none}
use Rattle.paper.specs.Cases.{Row, Fact, Case, inside, size, scope_of, row_of}
use Rattle.paper.specs.Facts.{holds, bad_row}
use Rattle.paper.specs.Files.{read_case}
use Rattle.paper.specs.Rules.{rule}
use Rattle.paper.specs.Verdicts.{head_rule, fetch_rule, whole_file_rules, file_verdict}
use Rattle.paper.specs.OneFact.{words, file_with}
use Rattle.paper.specs.Demands.{Rising, WalkInside, Gathered}
use Rattle.paper.specs.Writing.{per_row, row_from}

-- "for each block and a scope handed to it": the fact that is sought has a "limit up to k", and no rows yet.
abbrev pub sought : Case → ℕ → ℕ → Fact
sought e scope block = record { scope = scope; block = block; limit = e.ways; row = λ j. record { number = 0; slot = λ i. none } }

-- the fact with the limit l, and with rows of eight numbers each, "its number and all seven slots"
abbrev pub with_limit : Fact → ℕ → Fact
with_limit t l = record { scope = t.scope; block = t.block; limit = l; row = t.row }

abbrev pub found_fact : Fact → ℕ → List ℕ → Fact
found_fact t l rows = record { scope = t.scope; block = t.block; limit = l; row = row_from rows }

module _ (e : Case) (t : Fact) where
  -- how many numbers "the rows of the whole scope" are
  abbrev pub rows_length : ℕ
  rows_length = per_row * size (scope_of e t)

  -- "then 12 for a bad scope or block, 14, and 20 for too little room for the rows of the whole scope; the last three have place 0"
  unfoldable pub sought_rules : ℕ → Verdict → Verdict
  sought_rules room rest = head_rule e 0 t (fetch_rule e 0 t (rule 20 0 (ltb room rows_length) rest))

  -- A walk from a node that fetches b arrives at v, with no b in between: b has been fetched.
  pub record Arrives (v : ℕ) : Type 0 where
    pub start : ℕ
    pub between : List ℕ
    pub starts : e.block start ≡ t.block
    pub walk : WalkInside e t start between v
    pub free : (x : ℕ) → Memᴰ x between → e.block x ≢ t.block

  -- At least n other blocks of the set can have gathered at v.
  pub record AtLeast (n v : ℕ) : Type 0 where
    pub blocks : List ℕ
    pub rising : Rising blocks
    pub many : n ≤ length blocks
    pub gathered : (c : ℕ) → Memᴰ c blocks → Gathered e t v c

  -- Row r of node v says what is gathered there, for the limit l: "the sets gathered over all walks (loop limits unheeded), 'many' where they hold as many blocks as the limit
  -- found or more, 9 where b has not been fetched". It is sound, so its blocks rise and its "free slots are 65,535".
  pub record RowSays (l v : ℕ) (r : Row) : Type 0 where
    pub nine : (r.number ≡ 9) ↔ (¬ Arrives v)
    pub many : (r.number ≡ 8) ↔ AtLeast l v
    pub set : r.number < 8 → (c : ℕ) → (holds r c ≡ true) ↔ Gathered e t v c
    pub sound : bad_row e (with_limit t l) r ≡ false

-- "Refusals: 1 to 10 and 26 for the graph", then those of what is sought. The file's facts are not looked at.
unfoldable pub find_verdict : List ℕ → ℕ → ℕ → ℕ → Verdict
find_verdict f scope block room = whole_file_rules f (sought_rules (read_case f) (sought (read_case f) scope block) room (Ok tt))

-- The tool accepts these bytes as evidence: the file with f's graph and this fact alone, with them as its rows, is accepted.
abbrev pub Takes : List ℕ → Fact → List ℕ → Type 0
Takes f t bytes = file_verdict (file_with f t bytes) ≡ Ok tt

-- No limit below l has acceptable evidence.
abbrev pub NoneBelow : List ℕ → Fact → ℕ → Type 0
NoneBelow f t l = (m : ℕ) → 1 ≤ m → m < l → (bytes : List ℕ) → ¬ Takes f (with_limit t m) bytes

-- The limit l and these rows are found.
pub record Finds (f : List ℕ) (t : Fact) (l : ℕ) (rows : List ℕ) : Type 0 where
  -- "the smallest age limit up to k for which evidence exists"
  pub low : 1 ≤ l
  pub high : l ≤ t.limit
  pub least : NoneBelow f t l
  -- "with the rows"
  pub whole : length rows ≡ rows_length (read_case f) t
  pub says : (v : ℕ) → inside (scope_of (read_case f) t) v ≡ true → RowSays (read_case f) t l v (row_of (read_case f) (found_fact t l rows) v)
  -- "The rows go through the same check as anyone's."
  pub takes : Takes f (with_limit t l) (words rows)

-- What `find` tells and leaves in the lent rows.
module _ (f : List ℕ) (scope block : ℕ) (lent : List ℕ) where
  -- the rules come to this verdict
  abbrev pub Judged : Verdict → Type 0
  Judged v = find_verdict f scope block (length lent) ≡ v

  -- "With 'none', as with a refusal, the lent rows stay as they were; room past the rows always does."
  pub data FindOutcome : Told → List ℕ → Type 0 where
    refused : (r : Refusal) → Judged (Err r) → FindOutcome (tells_why r) lent
    -- "It answers 'none' exactly when no limit up to k has acceptable evidence."
    nothing : Judged (Ok tt) → NoneBelow f (sought (read_case f) scope block) (suc (read_case f).ways) → FindOutcome (tells []) lent
    found : Judged (Ok tt) → (l : ℕ) (rows : List ℕ) → Finds f (sought (read_case f) scope block) l rows → FindOutcome (tells (l ∷ [])) (rows ++ drop (length rows) lent)
