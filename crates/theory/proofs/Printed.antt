-- Where the 321 numbers have the total, a set's bound and a fact's bound.
use Prim.Native.Nat.{ℕ, ◌+◌, ◌-◌, ◌<◌}
use native.Mathlib.Omega.{arith}
use mathlib.Core.Path.{◌≡◌, refl, ◌∙◌}
use mathlib.Core.List.{List, ◌++◌}
use borrow.Author.Tests.{lt-ltb, le-ltb}
use lib.ListN.{get_or, get_or-append}
use Rattle.paper.specs.Cases.{Case}
use Rattle.paper.specs.Bounds.{fact_bound, set_bound, total_bound, number_at, numbers}
use Rattle.paper.proofs.TableLaws.{length_table, get_d_table}

module _ (e : Case) (p : ℕ) where
  total_at : number_at e p 0 ≡ total_bound e p
  unfolding number_at
  total_at = refl

  set_at : (q : ℕ) → q < 64 → q < e.sets → number_at e p (1 + q) ≡ set_bound e p q
  unfolding number_at
  set_at q h l =
      let z : 1 + q - 1 ≡ q = omega arith in
      rw (le-ltb (1 + q) 1 (omega arith), lt-ltb (1 + q) 65 (omega arith), z, lt-ltb q e.sets l) refl

  fact_at_lem : (i : ℕ) → i < e.facts → number_at e p (65 + i) ≡ fact_bound e p (e.fact i)
  unfolding number_at
  fact_at_lem i l =
      let z : 65 + i - 65 ≡ i = omega arith in
      rw (le-ltb (65 + i) 1 (omega arith), le-ltb (65 + i) 65 (omega arith), z, lt-ltb i e.facts l) refl

  module _ (rest : List ℕ) where
    printed : (i : ℕ) → i < 321 → get_or (numbers e p ++ rest) i 0 ≡ number_at e p i
    printed i h = get_or-append (numbers e p) rest 0 i (rw (length_table (number_at e p) 321) h) ∙ get_d_table (number_at e p) 321 i 0 h

    pub total_printed : get_or (numbers e p ++ rest) 0 0 ≡ total_bound e p
    total_printed = printed 0 (omega arith) ∙ total_at

    pub set_printed : (q : ℕ) → q < 64 → q < e.sets → get_or (numbers e p ++ rest) (1 + q) 0 ≡ set_bound e p q
    set_printed q h l = printed (1 + q) (omega arith) ∙ set_at q h l

    pub fact_printed : (i : ℕ) → i < 256 → i < e.facts → get_or (numbers e p ++ rest) (65 + i) 0 ≡ fact_bound e p (e.fact i)
    fact_printed i h l = printed (65 + i) (omega arith) ∙ fact_at_lem i l
