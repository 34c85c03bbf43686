-- The scope of the fact at hand, as the paper's definitions have it.
use Rattle.std.specs.Prelude.{Ok, Err}
use Prim.Native.Nat.{ℕ, ◌+◌, ◌%◌, ◌≤◌, ◌<◌}
use native.Mathlib.Omega.{arith}
use mathlib.Core.Path.{◌≡◌, refl, sym, ◌∙◌, ap, ap₂}
use mathlib.Core.Bool.{Bool, not}
use mathlib.Core.List.{List}
use lib.Dec.{eqb, ltb}
use borrow.Author.Tests.{lt-ltb, le-ltb}
use Rattle.std.proofs.Common.{Option, Some, None}
use Rattle.paper.specs.declared.Trailer.{Trailer}
use Rattle.paper.specs.declared.Sets.{Sets}
use Rattle.paper.specs.Answers.{refuse_at}
use Rattle.paper.specs.Cases.{Case, Fact, scope_of, size, fetches}
use Rattle.paper.specs.Files.{node_at, row_place, row_at, fact_at, case_of}
use Rattle.paper.specs.Lists.{least, some}
use Rattle.paper.specs.Facts.{unfetched, bad_row, bad_row_at, bad_step_at, step_number, bad_many_at, least_node}
use Rattle.paper.specs.Rules.{rule_by}
use Rattle.paper.specs.Verdicts.{row_rules, step_rules, many_rules, evidence_rules}
use Rattle.paper.proofs.Least.{least_before, least_at, some_same}
use Rattle.evidence.specs.declared.Head.{Head}
use Rattle.evidence.specs.Stands.{Stands, Ready, fact_of, nodes_of, SoundRows}
use Rattle.evidence.specs.Edges.{BadStep}
use Rattle.layout.specs.Firsts.{first}
use Rattle.layout.proofs.FirstLaws.{told_first, told_none}

-- "no node of the scope fetches b", where the scope begins at `first`, has n nodes, and x is b
pub unfetched_by : (e : Case) (t : Fact) (first x n : ℕ) (b : Bool) → first ≡ (scope_of e t).first → x ≡ t.block → n ≡ size (scope_of e t) →
    b ≡ some (λ j. eqb (e.block (first + j)) x) n → not b ≡ unfetched e t
unfolding unfetched fetches
unfetched_by e t first x n b a y z q =
    ap not
    (q
    ∙ some_same (λ j. eqb (e.block (first + j)) x) (fetches e t) n (λ k l. ap₂ eqb (ap (λ (v : ℕ). e.block (v + k)) a) y)
    ∙ ap (some (fetches e t)) z)

module _ (f : List ℕ) (trailer : Trailer) (h : Head) (s : Stands f trailer h) where
  pub scope_size : size (scope_of (case_of f trailer) (fact_of f h)) ≡ nodes_of h
  unfolding case_of
  scope_size = cc

  edges_is : (case_of f trailer).edges ≡ trailer.edges
  unfolding case_of
  edges_is = refl

  pub home_is : h.home ≡ (fact_of f h).block % trailer.sets
  home_is = s.home ∙ ap (λ b. b % trailer.sets) s.block

  pub limit_low : (n : ℕ) → h.limit ≤ n → (fact_of f h).limit ≤ n
  limit_low n l = omega (arith, s.limit)

  pub limit_high : (n : ℕ) → n < h.limit → n < (fact_of f h).limit
  limit_high n l = omega (arith, s.limit)

  pub unfetched_is : (n : ℕ) (b : Bool) → n ≡ nodes_of h → b ≡ some (λ j. eqb (node_at f (h.first + j)) h.block) n → not b ≡ unfetched (case_of f trailer) (fact_of f h)
  unfolding case_of
  unfetched_is n b e q = unfetched_by (case_of f trailer) (fact_of f h) h.first h.block n b s.first s.block (e ∙ sym scope_size) q

  first_is : (scope_of (case_of f trailer) (fact_of f h)).first ≡ h.first
  unfolding case_of
  first_is = sym s.first

  abbrev first_row : Option ℕ
  first_row = first (bad_row_at (case_of f trailer) (fact_of f h)) (nodes_of h)

  abbrev first_step : Option ℕ
  first_step = first (bad_step_at (case_of f trailer) (fact_of f h)) trailer.edges

  abbrev first_many : Option ℕ
  first_many = first (bad_many_at (case_of f trailer) (fact_of f h)) (nodes_of h)

  pub edge_bad : (i : ℕ) → Some i ≡ first_step → BadStep f trailer h i
  edge_bad i e =
      let t = told_first _ _ i e in
      record { there = t.1; bad = rw t.0 (least_at (bad_step_at (case_of f trailer) (fact_of f h)) trailer.edges (omega arith)) }

  pub rows_sound : None ≡ first_row → SoundRows f trailer h
  rows_sound e =
      let l = told_none _ _ e in
      record { sound = λ v q. least_before (bad_row_at (case_of f trailer) (fact_of f h)) (nodes_of h) v (omega arith) }

  module _ (place : ℕ) where
    evidence_by : (j i k : ℕ) → j ≡ least (bad_row_at (case_of f trailer) (fact_of f h)) (nodes_of h) → i ≡ least (bad_step_at (case_of f trailer) (fact_of f h)) trailer.edges →
        k ≡ least (bad_many_at (case_of f trailer) (fact_of f h)) (nodes_of h) →
        evidence_rules (case_of f trailer) place (fact_of f h) (Ok tt)
        ≡ rule_by (refuse_at 16 place (h.first + j)) (ltb j (nodes_of h))
        (rule_by (refuse_at (step_number (case_of f trailer) (fact_of f h) i) place i) (ltb i trailer.edges)
        (rule_by (refuse_at 18 place (h.first + k)) (ltb k (nodes_of h)) (Ok tt)))
    unfolding row_rules step_rules many_rules some least_node
    evidence_by j i k x y z = cc (scope_size, edges_is, first_is)

    pub evidence_16 : (j : ℕ) → Some j ≡ first_row → Err (refuse_at 16 place (h.first + j)) ≡ evidence_rules (case_of f trailer) place (fact_of f h) (Ok tt)
    evidence_16 j e = let t = told_first _ _ j e in sym (evidence_by j _ _ t.0 refl refl ∙ rw (lt-ltb j _ t.1) refl)

    module _ (x : None ≡ first_row) where
      pub evidence_edge : (i : ℕ) → Some i ≡ first_step →
          Err (refuse_at (step_number (case_of f trailer) (fact_of f h) i) place i) ≡ evidence_rules (case_of f trailer) place (fact_of f h) (Ok tt)
      evidence_edge i e =
          let t = told_first _ _ i e in
          sym (evidence_by _ i _ refl t.0 refl ∙ rw (le-ltb _ _ (told_none _ _ x), lt-ltb i _ t.1) refl)

      module _ (y : None ≡ first_step) where
        pub evidence_18 : (k : ℕ) → Some k ≡ first_many → Err (refuse_at 18 place (h.first + k)) ≡ evidence_rules (case_of f trailer) place (fact_of f h) (Ok tt)
        evidence_18 k e =
            let t = told_first _ _ k e in
            sym (evidence_by _ _ k refl refl t.0 ∙ rw (le-ltb _ _ (told_none _ _ x), le-ltb _ _ (told_none _ _ y), lt-ltb k _ t.1) refl)

        pub evidence_kept : None ≡ first_many → (Ok tt) ≡ evidence_rules (case_of f trailer) place (fact_of f h) (Ok tt)
        evidence_kept z =
            sym (evidence_by _ _ _ refl refl refl ∙ rw (le-ltb _ _ (told_none _ _ x), le-ltb _ _ (told_none _ _ y), le-ltb _ _ (told_none _ _ z)) refl)

module _ (trailer : Trailer) (sets : Sets) where
  pub home_of : Ready trailer sets → (x y : ℕ) → y ≡ x % sets.count → y ≡ x % trailer.sets
  home_of r x y e = e ∙ ap (λ s. x % s) r.count

-- the row of the scope's node j, where it stands
pub row_is : (e : Case) (f : List ℕ) (p j at : ℕ) → at ≡ row_place p j → bad_row e (fact_at f p) (row_at f at) ≡ bad_row_at e (fact_at f p) j
unfolding bad_row_at
row_is e f p j at q = rw q refl
