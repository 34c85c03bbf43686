-- Demand 3, second half: evidence that the tool accepts exists exactly when few enough blocks can have gathered.
use Prim.Native.Nat.{ℕ, zero, suc, ◌+◌, ◌*◌, ◌-◌, ◌≤◌, ◌<◌}
use native.Mathlib.Omega.{arith}
use native.Mathlib.Decide.{ℕ_discrete}
use mathlib.Core.Path.{◌≡◌, refl, sym, ◌∙◌, subst}
use mathlib.Core.Logic.{◌≢◌, ◌↔◌}
use mathlib.Core.Bool.{true, false}
use mathlib.Core.List.Memᴰ
use mathlib.Core.List.{List, [], ◌∷◌}
use lib.ListN.{get_or}
use Rattle.paper.specs.declared.Loop.{Loop}
use Rattle.paper.specs.Machines.{none}
use Rattle.paper.specs.Cases.{Row, Fact, Case, inside, size, scope_of}
use Rattle.paper.specs.Facts.{bad_head, unfetched}
use Rattle.paper.specs.Files.{u16_at, node_at, row_at, case_of, read_case}
use Rattle.paper.specs.Rules.{Passes}
use Rattle.paper.specs.Verdicts.{evidence_rules, whole_file_rules}
use Rattle.paper.specs.Demands.{Bytes, Gathered, FewGathered, with_rows, Evidence, EvidenceExact}
use Rattle.paper.proofs.Says.{says_is}
use Rattle.paper.proofs.GraphLaws.{inside_says}
use Rattle.paper.proofs.FactLaws.{head_sound, fetched, evidence_law}
use Rattle.paper.proofs.VerdictLaws.{layout_kept}
use Rattle.paper.proofs.Meaning.{In, SoundRow}
use Rattle.theory.proofs.SameRow.{Same, rewritten, same_sound, same_rule}
use Rattle.theory.proofs.RowBytes.{written, written_length, written_small, written_row}
use Rattle.theory.proofs.Needed.{Closed, sound_few}
use Rattle.theory.proofs.Enough.{row, row_sound, row_small, row_few, row_rule}
use Rattle.theory.proofs.OneAccepted.{one_fact}
use Rattle.theory.proofs.OneBytes.{rows_bytes, file_bytes}

-- Rows that keep the rules are evidence, once written.
module _ (e : Case) (t : Fact) (row : ℕ → Row) where
  abbrev scope : Loop
  scope = scope_of e t

  -- the rows from the scope's first node on, and as bytes
  abbrev rows : ℕ → Row
  rows j = row (scope.first + j)

  abbrev bytes : List ℕ
  bytes = written rows (size scope)

  back : (v : ℕ) → In scope v → scope.first + (v - scope.first) ≡ v
  back v i = omega arith

  same : (v : ℕ) → In scope v → Same (row v) (row_at bytes (16 * (v - scope.first)))
  same v i =
      subst (λ (x : ℕ). Same (row x) (row_at bytes (16 * (v - scope.first)))) (back v i)
      (written_row rows (size scope) (v - scope.first) (omega arith))

  within : (v : ℕ) → In scope v → inside scope v ≡ true
  within v i = says_is (inside_says scope v) i

  node : (j : ℕ) → j < size scope → inside scope (scope.first + j) ≡ true
  node j h = within (scope.first + j) (omega arith, omega arith)

  module _ (sound : (v : ℕ) → inside scope v ≡ true → SoundRow e t (row v)) (rule : Closed e t row)
      (many : (v : ℕ) → inside scope v ≡ true → e.block v ≡ t.block → (row v).number ≢ 8) where
    -- the rows wherever they stand
    pub rows_pass : (out : ℕ → Row) → ((v : ℕ) → In scope v → Same (row v) (out (v - scope.first))) → Passes (evidence_rules e 0 (rewritten e t out))
    rows_pass out like =
        (evidence_law e (rewritten e t out) 0).1
        (record {
          rows = λ v i. same_sound e t out _ _ (like v i) (sound v (within v i));
          edges = λ u v x i j. same_rule e t out _ _ _ _ _ (like u i) (like v j) (rule u v (x, within u i, within v j));
          many = λ v i p q. many v (within v i) p (sym (like v i).number ∙ q);
        })

    rows_evidence : ((v k : ℕ) → (row v).slot k < 65536) → Evidence e t
    rows_evidence small =
        record {
          rows = bytes;
          bytes =
              written_small rows (size scope) (λ j h. omega (arith, (sound (scope.first + j) (node j h)).number))
              (λ j k h i. small (scope.first + j) k);
          whole = written_length rows (size scope);
          passes = rows_pass (λ j. row_at bytes (16 * j)) same;
        }

-- what is gathered hangs neither on the fact's rows nor on its limit
pub regathered : (e : Case) (t : Fact) (l : ℕ) (row : ℕ → Row) {v c : ℕ} → Gathered e t v c → Gathered e (record { scope = t.scope; block = t.block; limit = l; row = row }) v c
regathered e t l row g =
    record {
      start = g.start;
      between = g.between;
      node = g.node;
      starts = g.starts;
      walk = g.walk;
      free = g.free;
      passed = g.passed;
      fetches = g.fetches;
      other = g.other;
    }

-- rows that pass allow fewer than the limit, at each node that fetches b
pub rows_few : (e : Case) (t : Fact) (bytes : List ℕ) → 1 ≤ t.limit → Passes (evidence_rules e 0 (with_rows e t bytes)) → FewGathered e t
rows_few e t bytes l passes v i p r o g =
    sound_few e (with_rows e t bytes) l ((evidence_law e (with_rows e t bytes) 0).0 passes) v i p r o (λ c m. regathered e t _ _ (g c m))

pub evidence_exact : (e : Case) (t : Fact) → ((v : ℕ) → e.block v < 65536) → t.limit ≤ 8 → 1 ≤ t.limit → Evidence e t ↔ FewGathered e t
evidence_exact e t small low l = (
  λ x. rows_few e t x.rows l x.passes,
  λ b. rows_evidence e t (row e t small low) (λ v i. row_sound e t small low v) (row_rule e t small low) (row_few e t small low b) (row_small e t small low),
)

-- the numbers of a file of bytes
byte_at : (f : List ℕ) → Bytes f → (p : ℕ) → get_or f p 0 < 256
byte_at [] h p = omega arith
byte_at (x ∷ f) h zero = h x (Memᴰ.head refl)
byte_at (x ∷ f) h (suc p) = byte_at f (λ c m. h c (Memᴰ.tail m)) p

pub block_small : (f : List ℕ) → ((p : ℕ) → get_or f p 0 < 256) → (v : ℕ) → node_at f v < 65536
unfolding node_at u16_at
block_small f h v = omega (arith, h (2 * v), h (2 * v + 1))

-- The same of a file that passes 1 to 10 and 26 and an otherwise sound fact, with rows in a list of their own.
pub rows_exact : (f : List ℕ) → Bytes f → Passes (whole_file_rules f) → (t : Fact) → bad_head (read_case f) t ≡ false →
    Evidence (read_case f) t ↔ FewGathered (read_case f) t
unfolding case_of
rows_exact f bytes passes t head =
    let h = head_sound (read_case f) t head in
    evidence_exact (read_case f) t (block_small f (byte_at f bytes)) (omega (arith, h.high, (layout_kept f _ passes).0.ways_high)) h.low

-- the head of an otherwise sound fact fits its 16-bit numbers
head_bytes_lem : (f : List ℕ) → Bytes f → Passes (whole_file_rules f) → (t : Fact) → bad_head (read_case f) t ≡ false → unfetched (read_case f) t ≡ false →
    (t.scope < 65536) × (t.block < 65536) × (t.limit < 65536)
unfolding case_of
head_bytes_lem f bytes passes t head found =
    let h = head_sound (read_case f) t head in
    let k = (layout_kept f _ passes).0 in
    let w = fetched (read_case f) t found in
    let scope : t.scope < 65536 = elim (ℕ_discrete t.scope none) [ yes p ↦ omega arith | no q ↦ omega (arith, h.scope q, k.loops_high) ] in
    (scope, omega (arith, w.2, block_small f (byte_at f bytes) w.0), omega (arith, h.high, k.ways_high))

pub file_exact : (f : List ℕ) → EvidenceExact f
file_exact f bytes passes t head found room long =
    let exact = rows_exact f bytes passes t head in
    let b = head_bytes_lem f bytes passes t head found in (
      λ a.
          let r = (one_fact f t a.rows passes head found room long).0 a.accepted in
          exact.0 (record { rows = a.rows; bytes = rows_bytes f t a.rows a.bytes; whole = r.0; passes = r.1 }),
      λ few.
          let x = exact.1 few in
          record {
            rows = x.rows;
            bytes = file_bytes f t x.rows bytes b.0 b.1 b.2 x.bytes;
            accepted = (one_fact f t x.rows passes head found room long).1 (x.whole, x.passes);
          },
    )
