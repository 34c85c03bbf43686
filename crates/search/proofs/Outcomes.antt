-- A table that is settled gives the outcome: no limit where the most that is asked for is 9, else that limit and the rows for it.
use Rattle.std.specs.Prelude.{Ok}
use Prim.Native.Nat.{ℕ, suc, ◌*◌, ◌≤◌, ◌<◌}
use native.Mathlib.Omega.{arith}
use mathlib.Core.Path.{◌≡◌, sym, ◌∙◌, subst}
use mathlib.Core.Logic.{◌≢◌, ◌↔◌}
use mathlib.Core.Bool.{true, false}
use mathlib.Core.List.{List, [], ◌∷◌, ◌++◌}
use borrow.Author.Tests.{ltb-false}
use lib.Dec.{ltb}
use lib.ListN.{length, get_or, drop}
use Rattle.paper.specs.Answers.{tells}
use Rattle.paper.specs.Cases.{Fact, Case, inside, size, scope_of, fetches}
use Rattle.paper.specs.Facts.{bad_head, unfetched}
use Rattle.paper.specs.Files.{row_at, case_of, read_case}
use Rattle.paper.specs.Rules.{Passes}
use Rattle.paper.specs.Verdicts.{graph_rules, head_rule, fetch_rule, layout_rules, whole_file_rules, verdict}
use Rattle.paper.specs.OneFact.{words}
use Rattle.paper.specs.Writing.{row_from}
use Rattle.paper.specs.Finding.{sought, with_limit, rows_length, sought_rules, find_verdict, Takes, NoneBelow, Finds, Judged, FindOutcome, nothing, found}
use Rattle.paper.proofs.Says.{says_true, says_is}
use Rattle.paper.proofs.GraphLaws.{inside_says}
use Rattle.paper.proofs.RuleLaws.{past, hands_then, passes_chain}
use Rattle.paper.proofs.FactLaws.{head_sound, sound_head, fetched}
use Rattle.paper.proofs.VerdictLaws.{layout_kept, graph_kept, hands_layout, hands_graph}
use Rattle.paper.proofs.Meaning.{In}
use Rattle.theory.proofs.SameRow.{Same, same_trans}
use Rattle.theory.proofs.Exact.{block_small}
use Rattle.theory.proofs.OneAccepted.{one_fact}
use Rattle.theory.proofs.LeastLimit as Limits
use Rattle.theory.proofs.LeastLimit.{Pass, Fetching, Limit, none_found, limit_low, limit_high, limit_least, limit_passes, lowered_says}
use Rattle.search.specs.Passes.{row_index, node_row, most_to, rows_found}
use Rattle.search.proofs.Justly.{Asked}
use Rattle.search.proofs.Searching.{rows_of, Settled}
use Rattle.search.proofs.Limits.{most_many, most_limit}
use Rattle.search.proofs.Found.{row_lent, row_written, words_length, lowered_same, lowered_long, rows_length_lem}

module _ (f : List ℕ) (scope block : ℕ) where
  abbrev e : Case
  e = read_case f

  abbrev t : Fact
  t = sought (read_case f) scope block

  -- What is not refused passes the rules one by one.
  pub record Kept (room : ℕ) : Type 0 where
    pub graph : Passes (whole_file_rules f)
    pub head : bad_head e t ≡ false
    pub fetched : unfetched e t ≡ false
    pub fits : rows_length e t ≤ room

  pub kept : (room : ℕ) → find_verdict f scope block room ≡ Ok tt → Kept room
  unfolding find_verdict sought_rules head_rule fetch_rule
  kept room a =
      let l = layout_kept f _ a in
      let g = graph_kept e _ l.1 in
      let b = past 12 0 (bad_head e t) _ g.2 in
      let c = past 14 0 (unfetched e t) _ b.1 in
      let d = past 20 0 (ltb room (rows_length e t)) _ c.1 in
      record {
        graph = passes_chain (whole_file_rules f) (hands_then (layout_rules f) (graph_rules e) (hands_layout f) (hands_graph e)) _ a;
        head = b.0;
        fetched = c.0;
        fits = ltb-false _ _ d.0;
      }

  pub asked_of : (room : ℕ) → find_verdict f scope block room ≡ Ok tt → ((p : ℕ) → get_or f p 0 < 256) → Asked e t
  unfolding case_of
  asked_of room a bytes =
      let k = kept room a in
      record {
        small = block_small f bytes;
        low = (head_sound e t k.head).low;
        high = (layout_kept f _ k.graph).0.ways_high;
      }

  module _ (room : ℕ) (k : Kept room) where
    -- the fact with a limit from 1 to k is otherwise sound
    head_with : (m : ℕ) → 1 ≤ m → m ≤ e.ways → bad_head e (with_limit t m) ≡ false
    head_with m l h =
        let s = head_sound e t k.head in
        sound_head e (with_limit t m) (record { scope = s.scope; block = s.block; low = l; high = h })

    fetched_with : (m : ℕ) → unfetched e (with_limit t m) ≡ false
    unfolding unfetched fetches
    fetched_with m = k.fetched

    abbrev Exactly : ℕ → List ℕ → Type 0
    Exactly m bytes = Takes f (with_limit t m) bytes ↔ ((length bytes ≡ 16 * size (scope_of e t)) × Pass e t m bytes)

    -- the tool accepts bytes as evidence exactly where they are as long as they must be, and pass
    taken : (m : ℕ) → 1 ≤ m → m ≤ e.ways → (bytes : List ℕ) → Exactly m bytes
    unfolding verdict
    taken m l h bytes = one_fact f (with_limit t m) bytes k.graph (head_with m l h) (fetched_with m) 321 (omega arith)

    fetching : (v : ℕ) × Fetching e t v
    fetching = let w = fetched e t k.fetched in (w.0, (says_is (inside_says (scope_of e t) w.0) w.1, w.2))

    module _ (table : List ℕ) (s : Settled e t table) where
      abbrev most : ℕ
      most = most_to e t table (size (scope_of e t))

      none_below : most ≡ 9 → NoneBelow f t (suc e.ways)
      none_below q m l h bytes a =
          let (v, g, p) = most_many e t table s fetching q in
          none_found e t (rows_of e t table) s.closed s.searched.just v g p m bytes l (omega arith) ((taken m l (omega arith) bytes).0 a).1

      module _ (q : most ≢ 9) (ask : Asked e t) where
        limit : Limit e t (rows_of e t table) most
        limit = most_limit e t table s fetching q

        abbrev rows : List ℕ
        rows = rows_found e t table most

        low : 1 ≤ most
        low = limit_low e t (rows_of e t table) s.closed s.searched.just most limit

        high : most ≤ e.ways
        high = limit_high e t (rows_of e t table) s.closed s.searched.just most limit ask.low

        abbrev in_scope : (v : ℕ) → inside (scope_of e t) v ≡ true → In (scope_of e t) v
        in_scope v i = says_true (inside_says (scope_of e t) v) i

        lent : (v : ℕ) → In (scope_of e t) v → Same (Limits.lowered most (rows_of e t table v)) (row_from rows (row_index e t v))
        unfolding rows_found
        lent v i = same_trans _ _ _ (lowered_same most (node_row e t table v)) (row_lent _ (lowered_long most table) (size (scope_of e t)) (row_index e t v) (omega arith))

        written : (v : ℕ) → In (scope_of e t) v → Same (Limits.lowered most (rows_of e t table v)) (row_at (words rows) (16 * row_index e t v))
        unfolding rows_found
        written v i = same_trans _ _ _ (lowered_same most (node_row e t table v)) (row_written _ (lowered_long most table) (size (scope_of e t)) (row_index e t v) (omega arith))

        long : length (words rows) ≡ 16 * size (scope_of e t)
        unfolding rows_found
        long = words_length _ (lowered_long most table) (size (scope_of e t))

        finds : Finds f t most rows
        finds =
            record {
              low = low;
              high = high;
              least = λ m l h bytes a.
                  omega (
                    arith,
                    limit_least e t (rows_of e t table) s.closed s.searched.just most limit m bytes l ((taken m l (omega (arith, high)) bytes).0 a).1,
                  );
              whole = rows_length_lem e t table most;
              says = λ v i. lowered_says e t (rows_of e t table) s.closed s.searched.just most low high v i _ (lent v (in_scope v i));
              takes =
                  (taken most low high (words rows)).1
                  (long, limit_passes e t (rows_of e t table) s.closed s.searched.just most limit (λ j. row_at (words rows) (16 * j)) written);
            }

  module _ (lent : List ℕ) (a : Judged f scope block lent (Ok tt)) (table : List ℕ) (s : Settled e t table) where
    pub finds_none : most_to e t table (size (scope_of e t)) ≡ 9 → FindOutcome f scope block lent (tells []) lent
    finds_none q = nothing a (none_below (length lent) (kept (length lent) a) table s q)

    pub finds_limit : Asked e t → (l : ℕ) → most_to e t table (size (scope_of e t)) ≡ l → l ≢ 9 →
        FindOutcome f scope block lent (tells (l ∷ [])) (rows_found e t table l ++ drop (rows_length e t) lent)
    finds_limit ask l p q =
        subst
        (λ (m : ℕ). FindOutcome f scope block lent (tells (m ∷ [])) (rows_found e t table m ++ drop (rows_length e t) lent))
        p
        (rw (← rows_length_lem e t table (most_to e t table (size (scope_of e t))))
        (found a (most_to e t table (size (scope_of e t))) _ (finds (length lent) (kept (length lent) a) table s (λ z. q (sym p ∙ z)) ask)))
