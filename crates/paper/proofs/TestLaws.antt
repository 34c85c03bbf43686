-- What the tests say that are made of others: of a fact's rows and edges, of nodes and fetches.
use Prim.Native.Nat.{ℕ, ◌%◌, ◌≤◌, ◌<◌}
use mathlib.Core.Path.{◌≡◌}
use mathlib.Core.Logic.{◌≢◌, ◌↔◌}
use mathlib.Core.Bool.{Bool, false}
use mathlib.Core.Option.{some}
use Rattle.paper.specs.declared.Loop.{Loop}
use Rattle.paper.specs.declared.Trailer.{Trailer}
use Rattle.paper.specs.Machines.{none}
use Rattle.paper.specs.Cases.{Fact, Case, scope_of, row_of}
use Rattle.paper.specs.Walks.{outside}
use Rattle.paper.specs.Runs.{Fetch, of_fact, of_set}
use Rattle.paper.specs.Facts.{bad_row_at, bad_step_at}
use Rattle.paper.specs.Bounds.{covers, lives, uncovered}
use Rattle.paper.specs.Files.{bad_cache}
use Rattle.paper.proofs.Says.{Says, says_eq, says_not, says_and, says_some}
use Rattle.paper.proofs.States.{Offered, says_range}
use Rattle.paper.proofs.Meaning.{In, SoundRow}
use Rattle.paper.proofs.GraphLaws.{inside_says}
use Rattle.paper.proofs.RowLaws.{Breaks, breaks_says, row_law}

-- 3
pub cache_says : (trailer : Trailer) → Says (¬ (Offered trailer.policy trailer.ways × ((0 < trailer.sets) × (trailer.sets ≤ 64)))) (bad_cache trailer)
unfolding bad_cache
cache_says trailer = says_not (says_range _ _ _)

-- the walk is outside the loop after a visit of u
pub outside_says : (l : Loop) (u : ℕ) → Says (¬ In l u) (outside l (some u))
outside_says l u = says_not (inside_says l u)

module _ (e : Case) where
  pub lives_says : (q b : ℕ) → Says ((b ≢ none) × (b % e.sets ≡ q)) (lives e q b)
  unfolding lives
  lives_says q b = says_and (says_not (says_eq b none)) (says_eq (b % e.sets) q)

  pub covers_says : (t : Fact) (v : ℕ) → Says (In (scope_of e t) v × (e.block v ≡ t.block)) (covers e t v)
  unfolding covers
  covers_says t v = says_and (inside_says (scope_of e t) v) (says_eq (e.block v) t.block)

  -- a node of set q that no fact of which P holds covers
  pub uncovered_says : {P : Fact → Type 0} {test : Fact → Bool} → ((t : Fact) → Says (P t) (test t)) → (q v : ℕ) →
      Says
      (((e.block v ≢ none) × (e.block v % e.sets ≡ q))
      × ¬ ((i : ℕ) × (i < e.facts) × (P (e.fact i) × (In (scope_of e (e.fact i)) v × (e.block v ≡ (e.fact i).block)))))
      (uncovered e test q v)
  unfolding uncovered
  uncovered_says h q v =
      says_and (lives_says q (e.block v)) (says_not (says_some (λ i. says_and (h (e.fact i)) (covers_says (e.fact i) v)) e.facts))

  -- the fetches of a fact, and of a set
  pub of_fact_says : (t : Fact) (a : Fetch) → Says (In (scope_of e t) a.node × (a.block ≡ t.block)) (of_fact e t a)
  unfolding of_fact
  of_fact_says t a = says_and (inside_says (scope_of e t) a.node) (says_eq a.block t.block)

  pub of_set_says : (q : ℕ) (a : Fetch) → Says (a.block % e.sets ≡ q) (of_set e q a)
  unfolding of_set
  of_set_says q a = says_eq _ _

  module _ (t : Fact) where
    -- 16
    pub row_at_law : (j : ℕ) → (bad_row_at e t j ≡ false) ↔ SoundRow e t (t.row j)
    unfolding bad_row_at
    row_at_law j = row_law e t (t.row j)

    -- 17
    pub step_says : (i : ℕ) →
        Says
        ((In (scope_of e t) (e.from i) × In (scope_of e t) (e.to i))
        × Breaks e t (e.block (e.from i)) (row_of e t (e.from i)) (row_of e t (e.to i)))
        (bad_step_at e t i)
    unfolding bad_step_at
    step_says i =
        says_and (says_and (inside_says (scope_of e t) (e.from i)) (inside_says (scope_of e t) (e.to i)))
        (breaks_says e t (e.block (e.from i)) (row_of e t (e.from i)) (row_of e t (e.to i)))
