-- What is asked for: its scope, the sets made ready, and the refusals after the graph's.
use Rattle.std.specs.Prelude.{Ok}
use Prim.Native.Nat.{ℕ, suc, ◌+◌, ◌-◌, ◌*◌, ◌%◌, ◌≤◌, ◌<◌}
use native.Mathlib.Omega.{arith}
use mathlib.Core.Path.{◌≡◌, refl, sym, ◌∙◌, ap, ap₂, subst}
use mathlib.Core.Bool.{Bool, false}
use mathlib.Core.Logic.{◌≢◌}
use mathlib.Core.List.{List}
use lib.Dec.{eqb, ltb}
use Rattle.paper.specs.declared.Loop.{Loop}
use Rattle.paper.specs.declared.Trailer.{Trailer}
use Rattle.paper.specs.Machines.{none}
use Rattle.paper.specs.Cases.{Fact, Case, size, scope_of, range_of, fetches}
use Rattle.paper.specs.Facts.{wrong_head, bad_head, unfetched}
use Rattle.paper.specs.Files.{loop_at, case_of}
use Rattle.paper.specs.Finding.{sought, rows_length, sought_rules}
use Rattle.paper.specs.Known.{Laid, Shaped}
use Rattle.paper.specs.Rules.{rule}
use Rattle.paper.specs.Verdicts.{head_rule, fetch_rule}
use Rattle.paper.proofs.FactLaws.{head_sound}
use Rattle.gather.specs.declared.sought.Sought.{Sought}
use Rattle.gather.specs.Seeking.{Seeks}
use Rattle.finder.specs.Scopes.{fact_by, nodes_by, Scoped}
use Rattle.facts.proofs.Heads.{range_fits}

module _ (f : List ℕ) (trailer : Trailer) where
  -- a range that is named is the graph's
  pub fits : Laid f trailer → Shaped (case_of f trailer) → (w : ℕ) → (w ≢ none → w < trailer.loops) → (s : Loop) → s ≡ range_of trailer.nodes (loop_at f trailer) w →
      (s.first ≤ s.last) × (s.last < trailer.nodes)
  fits l shape w named s a =
      subst (λ (s : Loop). (s.first ≤ s.last) × (s.last < trailer.nodes)) (sym a) (range_fits f trailer w named l shape)

  pub scoped : Laid f trailer → Shaped (case_of f trailer) → (q : Sought) → (q.scope ≢ none → q.scope < trailer.loops) → (s : Loop) → s ≡ range_of trailer.nodes (loop_at f trailer) q.scope →
      q.first ≡ s.first → q.last ≡ s.last → q.limit ≡ trailer.ways → q.sets.count ≡ trailer.sets → q.home ≡ q.block % q.sets.count → Scoped f trailer q
  unfolding case_of
  scoped l shape q named s a x y z m h =
      record {
        seeks =
            record {
              first = x ∙ ap (λ (s : Loop). s.first) a;
              last = y ∙ ap (λ (s : Loop). s.last) a;
              block = refl;
              limit = z;
              count = m;
              home = h ∙ ap (λ (n : ℕ). q.block % n) m;
            };
        within = omega (arith, fits l shape q.scope named s a);
      }

  pub nodes_is : (q : Sought) → Scoped f trailer q → (n : ℕ) → n ≡ suc q.last - q.first → n ≡ nodes_by f trailer q
  nodes_is q s n e = omega (arith, s.seeks.first, s.seeks.last)

  -- there is room for the rows of n nodes where there is for those that are sought
  pub roomy : (q : Sought) → Scoped f trailer q → (n : ℕ) → n ≡ suc q.last - q.first → (m : ℕ) → rows_length (case_of f trailer) (fact_by f trailer q) ≤ m → 8 * n ≤ m
  roomy q s n e m h = omega (arith, nodes_is q s n e)

  -- 12, where the limit sought is the ways
  pub head_is : (w b : ℕ) → wrong_head trailer.loops trailer.ways w b trailer.ways ≡ bad_head (case_of f trailer) (sought (case_of f trailer) w b)
  unfolding bad_head case_of
  head_is w b = refl

  module _ (w b : ℕ) where
    pub head_told : (r x : Bool) → r ≡ wrong_head trailer.loops trailer.ways w b trailer.ways → r ≡ x → x ≡ bad_head (case_of f trailer) (sought (case_of f trailer) w b)
    head_told r x e z = sym z ∙ e ∙ head_is w b

    -- a scope that passes 12 is a loop or the whole graph
    pub named : bad_head (case_of f trailer) (sought (case_of f trailer) w b) ≡ false → w ≢ none → w < trailer.loops
    unfolding case_of
    named h q = (head_sound (case_of f trailer) (sought (case_of f trailer) w b) h).scope q

    -- q is made of the scope and the block that are handed over
    module _ (q : Sought) (x : q.scope ≡ w) (y : q.block ≡ b) where
      fact_is : fact_by f trailer q ≡ sought (case_of f trailer) w b
      fact_is = ap₂ (sought (case_of f trailer)) x y

      pub unfetched_told : (r z : Bool) → r ≡ unfetched (case_of f trailer) (fact_by f trailer q) → r ≡ z → z ≡ unfetched (case_of f trailer) (sought (case_of f trailer) w b)
      unfetched_told r z e v = sym v ∙ e ∙ ap (unfetched (case_of f trailer)) fact_is

      pub length_is : Scoped f trailer q → (n : ℕ) → n ≡ suc q.last - q.first → 8 * n ≡ rows_length (case_of f trailer) (sought (case_of f trailer) w b)
      length_is s n e = ap (λ (k : ℕ). 8 * k) (nodes_is q s n e ∙ ap (λ (t : Fact). size (scope_of (case_of f trailer) t)) fact_is)

module _ (e : Case) (t : Fact) where
  pub fetches_is : (q : Sought) → Seeks e t q → (x j : ℕ) → x ≡ e.block (q.first + j) → eqb x q.block ≡ fetches e t j
  unfolding fetches
  fetches_is q k x j p = ap₂ eqb (p ∙ ap (λ (v : ℕ). e.block (v + j)) k.first) k.block

  -- the chain after the graph's, by the outcomes of its tests
  pub sought_is : (room : ℕ) (a b c : Bool) → a ≡ bad_head e t → b ≡ unfetched e t → c ≡ ltb room (rows_length e t) →
      rule 12 0 a (rule 14 0 b (rule 20 0 c (Ok tt))) ≡ sought_rules e t room (Ok tt)
  unfolding sought_rules head_rule fetch_rule
  sought_is room a b c x y z = cc
