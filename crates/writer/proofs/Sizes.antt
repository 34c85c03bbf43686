-- How long the file is, before a byte of it is written.
use Prim.Native.Nat.{ℕ, zero, suc, ◌+◌, ◌*◌}
use native.Mathlib.Omega.{arith}
use native.Mathlib.Decide.{ℕ_discrete}
use native.Mathlib.Nat.{mul-zero, mul-suc}
use mathlib.Core.Path.{◌≡◌, refl, sym, ◌∙◌, ap}
use mathlib.Core.List.{List, [], ◌∷◌}
use lib.ListN.{length, length-append}
use Rattle.paper.specs.declared.Trailer.{Trailer}
use borrow.Author.Tests.{eq-eqb, ne_eqb}
use Rattle.paper.specs.Records.{without_w, loop_fields, loop_size}
use Rattle.paper.specs.Lists.{sum_to, each, spaced, part}
use Rattle.paper.specs.OneFact.{words, head_bytes}
use Rattle.paper.specs.Writing.{FileContent, loop_in, rows_named, rows_before, fact_in, rows_in, loop_bytes, fact_bytes, trailer_bytes}
use Rattle.paper.proofs.Sections.{length_words}

length_part : (l : List ℕ) (p n : ℕ) → length (part l p n) ≡ n
unfolding spaced
length_part l p zero = refl
length_part l p (suc n) = ap suc (length_part l (p + 1) n)

module _ (version : ℕ) (c : FileContent) where
  one_loop : (j : ℕ) → length (loop_bytes version (loop_in c j)) ≡ loop_size version
  unfolding loop_bytes loop_size loop_fields
  one_loop j = elim (ℕ_discrete version without_w) [ yes h ↦ rw (eq-eqb version without_w h) refl | no h ↦ rw (ne_eqb version without_w h) refl ]

  pub loops_length : (n : ℕ) → length (each (λ j. loop_bytes version (loop_in c j)) n) ≡ loop_size version * n
  unfolding each
  loops_length zero = sym (mul-zero (loop_size version))
  loops_length (suc n) =
      length-append (each (λ j. loop_bytes version (loop_in c j)) n) (loop_bytes version (loop_in c n)) ∙ omega (arith, loops_length n, one_loop n, mul-suc (loop_size version) n)

one_fact : (c : FileContent) (i : ℕ) → length (fact_bytes c i) ≡ 6 + 16 * rows_named c i
unfolding fact_bytes
one_fact c i =
    let w : length (words (rows_in c i)) ≡ 2 * length (rows_in c i) = length_words (rows_in c i) in
    let r : length (rows_in c i) ≡ 8 * rows_named c i = length_part c.rows (8 * rows_before c i) (8 * rows_named c i) in
    let h : length (head_bytes (fact_in c i)) ≡ 6 = length_words ((fact_in c i).scope ∷ (fact_in c i).block ∷ (fact_in c i).limit ∷ []) in
    length-append (head_bytes (fact_in c i)) (words (rows_in c i)) ∙ omega arith

pub facts_length : (c : FileContent) (n : ℕ) → length (each (fact_bytes c) n) ≡ 6 * n + 16 * rows_before c n
unfolding each sum_to
facts_length c zero = refl
facts_length c (suc n) = length-append (each (fact_bytes c) n) (fact_bytes c n) ∙ omega (arith, facts_length c n, one_fact c n)

pub trailer_length : (t : Trailer) → length (trailer_bytes t) ≡ 32
unfolding trailer_bytes
trailer_length t = refl
