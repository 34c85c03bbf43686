-- How a search ends: refused, with no limit, or with the least limit and its rows.
use Rattle.std.specs.Prelude.{Ok, Err}
use Prim.Native.Nat.{ℕ, suc, ◌-◌, ◌*◌, ◌≤◌, ◌<◌}
use native.Mathlib.Omega.{arith}
use mathlib.Core.Path.{◌≡◌, sym, ◌∙◌, subst}
use mathlib.Core.Bool.{false}
use mathlib.Core.Logic.{◌≢◌}
use mathlib.Core.List.{List, [], ◌∷◌, ◌++◌}
use lib.ListN.{length, get_or, drop}
use Rattle.paper.specs.declared.Refusal.{Refusal}
use Rattle.paper.specs.declared.Trailer.{Trailer}
use Rattle.paper.specs.Answers.{Verdict, Told, tells, tells_why}
use Rattle.paper.specs.Cases.{Fact, Case, size, scope_of}
use Rattle.paper.specs.Facts.{bad_head}
use Rattle.paper.specs.Files.{trailer_of, case_of}
use Rattle.paper.specs.Finding.{sought, rows_length, sought_rules, find_verdict, FindOutcome, refused}
use Rattle.paper.specs.Known.{Shaped}
use Rattle.paper.specs.Verdicts.{graph_rules}
use Rattle.paper.proofs.RuleLaws.{accepted_on, refused_on}
use Rattle.paper.proofs.VerdictLaws.{graph_kept, hands_graph}
use Rattle.layout.specs.Layouts.{layout_of}
use Rattle.layout.proofs.Laws.{read_trailer, read_laid, read_rules, refused_rules}
use Rattle.search.specs.Steps.{plain}
use Rattle.search.specs.Passes.{table_row, most_to, rows_found}
use Rattle.search.proofs.Justly.{Asked}
use Rattle.search.proofs.Searching.{Searched, Settled, searched_start}
use Rattle.search.proofs.Outcomes.{kept, asked_of, finds_none, finds_limit}
use Rattle.gather.specs.declared.sought.Sought.{Sought}
use Rattle.finder.specs.Scopes.{fact_by, Scoped, TrailerRead, NotRefused}
use Rattle.finder.proofs.Asked.{nodes_is}

-- Rules 6 to 10 and 26, then those of what is sought: v is the graph's verdict.
module _ (e : Case) (v : Verdict) (a : v ≡ graph_rules e (Ok tt)) where
  pub graph_refused : (r : Refusal) → v ≡ Err r → (rest : Verdict) → Err r ≡ graph_rules e rest
  graph_refused r q rest = sym (refused_on (graph_rules e) (hands_graph e) rest v a r q)

  module _ (q : v ≡ Ok tt) where
    pub graph_shaped : Shaped e
    graph_shaped = (graph_kept e (Ok tt) (sym a ∙ q)).0

    pub sought_decides : (w rest : Verdict) → w ≡ rest → w ≡ graph_rules e rest
    sought_decides w rest p = p ∙ sym (accepted_on (graph_rules e) (hands_graph e) rest v a q)

-- rules 1 to 5 refuse
pub ends_unread : (f : List ℕ) (scope block : ℕ) (lent : List ℕ) (r : Refusal) → layout_of f ≡ Err r → FindOutcome f scope block lent (tells_why r) lent
unfolding find_verdict
ends_unread f scope block lent r e = refused r (refused_rules f r _ e)

pub trailer_read_lem : (f : List ℕ) (trailer : Trailer) → layout_of f ≡ Ok trailer → TrailerRead f trailer
trailer_read_lem f trailer e = record { is = read_trailer f trailer e; laid = read_laid f trailer e; rules = read_rules f trailer e }

module _ (f : List ℕ) (scope block : ℕ) where
  -- the case by a trailer, and the fact that is sought in it
  abbrev by : Trailer → Case
  by x = case_of f x

  abbrev fact : Trailer → Fact
  fact x = sought (case_of f x) scope block

  abbrev nodes : Trailer → ℕ
  nodes x = size (scope_of (by x) (fact x))

  module _ (trailer : Trailer) (read : TrailerRead f trailer) where
    verdict_is : (room : ℕ) → graph_rules (by trailer) (sought_rules (by trailer) (fact trailer) room (Ok tt)) ≡ find_verdict f scope block room
    unfolding find_verdict
    verdict_is room =
        subst (λ (x : Trailer). graph_rules (by x) (sought_rules (by x) (fact x) room (Ok tt)) ≡ find_verdict f scope block room) (sym read.is) (sym (read.rules _))

    -- v is the verdict of all rules from 6 on
    module _ (lent : List ℕ) (v : Verdict) (a : v ≡ graph_rules (by trailer) (sought_rules (by trailer) (fact trailer) (length lent) (Ok tt))) where
      pub ends_refused : (r : Refusal) → v ≡ Err r → FindOutcome f scope block lent (tells_why r) lent
      ends_refused r q = refused r (sym (verdict_is (length lent)) ∙ sym a ∙ q)

      module _ (q : v ≡ Ok tt) where
        pub not_refused : NotRefused f scope block (length lent)
        not_refused = record { accepted = sym (verdict_is (length lent)) ∙ sym a ∙ q }

        pub shaped : Shaped (by trailer)
        shaped = (graph_kept (by trailer) _ (sym a ∙ q)).0

    module _ (lent : List ℕ) (n : NotRefused f scope block (length lent)) where
      pub head : bad_head (by trailer) (fact trailer) ≡ false
      head = subst (λ (x : Trailer). bad_head (by x) (fact x) ≡ false) (sym read.is) (kept f scope block (length lent) n.accepted).head

      pub asked : ((p : ℕ) → get_or f p 0 < 256) → Asked (by trailer) (fact trailer)
      asked bytes = subst (λ (x : Trailer). Asked (by x) (fact x)) (sym read.is) (asked_of f scope block (length lent) n.accepted bytes)

      pub fits : rows_length (by trailer) (fact trailer) ≤ length lent
      fits = subst (λ (x : Trailer). rows_length (by x) (fact x) ≤ length lent) (sym read.is) (kept f scope block (length lent) n.accepted).fits

      module _ (table : List ℕ) (s : Settled (by trailer) (fact trailer) table) (most : ℕ) (p : most ≡ most_to (by trailer) (fact trailer) table (nodes trailer)) where
        settled_is : Settled (by (trailer_of f)) (fact (trailer_of f)) table
        settled_is = subst (λ (x : Trailer). Settled (by x) (fact x) table) read.is s

        most_is : most_to (by (trailer_of f)) (fact (trailer_of f)) table (nodes (trailer_of f)) ≡ most
        most_is = subst (λ (x : Trailer). most_to (by x) (fact x) table (nodes x) ≡ most) read.is (sym p)

        pub ends_none : most ≡ 9 → FindOutcome f scope block lent (tells []) lent
        ends_none q = finds_none f scope block lent n.accepted table settled_is (most_is ∙ q)

        pub ends_found : Asked (by trailer) (fact trailer) → most ≢ 9 →
            (rows : List ℕ) → rows ≡ rows_found (by trailer) (fact trailer) table most ++ drop (rows_length (by trailer) (fact trailer)) lent →
            FindOutcome f scope block lent (tells (most ∷ [])) rows
        ends_found ask q rows r =
            let z : rows ≡ rows_found (by (trailer_of f)) (fact (trailer_of f)) table most ++ drop (rows_length (by (trailer_of f)) (fact (trailer_of f))) lent =
            subst (λ (x : Trailer). rows ≡ rows_found (by x) (fact x) table most ++ drop (rows_length (by x) (fact x)) lent) read.is r in
            subst (FindOutcome f scope block lent (tells (most ∷ []))) (sym z)
            (finds_limit f scope block lent n.accepted table settled_is (subst (λ (x : Trailer). Asked (by x) (fact x)) read.is ask) most most_is q)

-- q seeks the block in the scope that are handed over
module _ (q : Sought) (scope block : ℕ) (a : q.scope ≡ scope) (b : q.block ≡ block) (f : List ℕ) where
  pub not_refused_by : (room : ℕ) → NotRefused f scope block room → NotRefused f q.scope q.block room
  not_refused_by room h =
      subst (λ (x : ℕ). NotRefused f x q.block room) (sym a) (subst (λ (x : ℕ). NotRefused f scope x room) (sym b) h)

  pub found_for : (lent : List ℕ) (told : Told) (after : List ℕ) → FindOutcome f q.scope q.block lent told after → FindOutcome f scope block lent told after
  found_for lent told after h =
      subst (λ (x : ℕ). FindOutcome f x block lent told after) a (subst (λ (x : ℕ). FindOutcome f q.scope x lent told after) b h)

-- the table before the first pass
pub started : (f : List ℕ) (trailer : Trailer) (q : Sought) → Scoped f trailer q → (n : ℕ) → n ≡ suc q.last - q.first → (l : List ℕ) → 8 * n ≤ length l → ((j : ℕ) → j < n → table_row l j ≡ plain 9) →
    Searched (case_of f trailer) (fact_by f trailer q) l
started f trailer q s n p l long w =
    let e = nodes_is f trailer q s n p in
    searched_start (case_of f trailer) (fact_by f trailer q) l (omega arith) (λ j m. w j (omega arith))
