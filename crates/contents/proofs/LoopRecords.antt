-- A loop's record in each version: as many numbers as the version has, each fits, and they say which loop it is.
use Prim.Native.Nat.{ℕ, ◌+◌, ◌*◌}
use native.Mathlib.Omega.{arith}
use native.Mathlib.Decide.{ℕ_discrete}
use mathlib.Core.Path.{◌≡◌, refl, ◌∙◌, ap}
use mathlib.Core.Bool.{true}
use mathlib.Core.List.{List}
use lib.ListN.{length, get_or, take}
use borrow.Author.Tests.{eq-eqb, ne_eqb}
use Rattle.paper.specs.declared.Loop.{Loop}
use Rattle.paper.specs.declared.Trailer.{Trailer}
use Rattle.paper.specs.Lists.{spaced, part}
use Rattle.paper.specs.Records.{without_w, loop_fields, loop_size}
use Rattle.paper.specs.Files.{loop_place, visits_by, loop_at}
use Rattle.paper.specs.Writing.{FileContent, per_loop, loop_in, loop_values, loop_bytes, loop_numbers}
use Rattle.contents.proofs.Fields.{u16_number, u32_number, record_at, fitting}

module _ (version : ℕ) where
  pub loop_fitting : (l : Loop) → fitting (loop_fields version) (loop_values l) ≡ true
  unfolding loop_fields
  loop_fitting l = elim (ℕ_discrete version without_w) [ yes h ↦ rw (eq-eqb version without_w h) refl | no h ↦ rw (ne_eqb version without_w h) refl ]

  pub loop_length : (l : Loop) → length (loop_bytes version l) ≡ loop_size version
  unfolding loop_bytes loop_size loop_fields
  loop_length l = elim (ℕ_discrete version without_w) [ yes h ↦ rw (eq-eqb version without_w h) refl | no h ↦ rw (ne_eqb version without_w h) refl ]

  pub values_length : (l : Loop) → length (take (per_loop version) (loop_values l)) ≡ per_loop version
  unfolding per_loop loop_fields
  values_length l = elim (ℕ_discrete version without_w) [ yes h ↦ rw (eq-eqb version without_w h) refl | no h ↦ rw (ne_eqb version without_w h) refl ]

  -- loops with the same numbers, where version 1 reads the same of W
  pub loop_is : (l m : Loop) → (version ≡ without_w → l.visits ≡ m.visits) → take (per_loop version) (loop_values l) ≡ take (per_loop version) (loop_values m) → l ≡ m
  unfolding per_loop loop_fields
  loop_is l m same =
      elim (ℕ_discrete version without_w) [
        | yes h ↦ rw (eq-eqb version without_w h) (λ e. fields (number e 0) (number e 1) (number e 2) (same h))
        | no h ↦ rw (ne_eqb version without_w h) (λ e. fields (number e 0) (number e 1) (number e 2) (number e 3))
      ]
    where
      number : {s t : List ℕ} → s ≡ t → (k : ℕ) → get_or s k 0 ≡ get_or t k 0
      number e k = ap (λ (s : List ℕ). get_or s k 0) e

      fields : l.first ≡ m.first → l.last ≡ m.last → l.bound ≡ m.bound → l.visits ≡ m.visits → l ≡ m
      fields a b c d =
          ap {B = Loop} (λ (x : ℕ). record { first = x; last = l.last; bound = l.bound; visits = l.visits }) a
          ∙ ap {B = Loop} (λ (x : ℕ). record { first = m.first; last = x; bound = l.bound; visits = l.visits }) b
          ∙ ap {B = Loop} (λ (x : ℕ). record { first = m.first; last = m.last; bound = x; visits = l.visits }) c
          ∙ ap {B = Loop} (λ (x : ℕ). record { first = m.first; last = m.last; bound = m.bound; visits = x }) d

-- its numbers are read where its record has its fields
pub loop_record : (f : List ℕ) (t : Trailer) (j : ℕ) → record_at f (loop_place t j) 0 (loop_fields t.version) ≡ loop_numbers f t j
unfolding loop_at per_loop loop_fields visits_by
loop_record f t j =
    let a : loop_place t j + 0 ≡ loop_place t j = omega arith in
    elim (ℕ_discrete t.version without_w) [
      | yes h ↦ rw (eq-eqb t.version without_w h, a) (simp (u16_number f, u32_number f) refl)
      | no h ↦ rw (ne_eqb t.version without_w h, a) (simp (u16_number f, u32_number f) refl)
    ]

-- they stand side by side in a content's list
pub loop_part : (c : FileContent) (j : ℕ) → take (per_loop c.version) (loop_values (loop_in c j)) ≡ part c.loops (per_loop c.version * j) (per_loop c.version)
unfolding per_loop loop_fields visits_by loop_in spaced
loop_part c j =
    elim (ℕ_discrete c.version without_w) [
      | yes h ↦
          let a : 3 * j + 1 + 1 ≡ 3 * j + 2 = omega arith in
          rw (eq-eqb c.version without_w h, a) refl
      | no h ↦
          let a : 4 * j + 1 + 1 ≡ 4 * j + 2 = omega arith in
          let b : 4 * j + 2 + 1 ≡ 4 * j + 3 = omega arith in
          rw (ne_eqb c.version without_w h, a, b) refl
    ]
