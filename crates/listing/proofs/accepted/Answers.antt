-- `listing::accepted` puts the total, the sets and the facts one after another, and there is room for them.
use native.Mathlib.Omega.{arith}
use Prim.Native.Nat.{ℕ, ◌+◌, ◌-◌, ◌^◌, ◌≤◌, ◌<◌}
use mathlib.Core.Path.{◌≡◌, refl, sym}
use mathlib.Core.List.{List}
use lib.ListN.{length, get_or, take, drop}
use Rattle.paper.specs.Listings.{bytes, lines_to, bound_lines}
use Rattle.puts.specs.Put.{Fits}
use Rattle.puts.proofs.Putting.{fits_as, first_fits, then_fits, put_then}
use Rattle.listing.specs.Listed.{after, numbered, number_lines}
use Rattle.listing.proofs.Numbered.{cut_lines}
use Rattle.listing.proofs.LongestListing.{numbers_length}
use Rattle.listing.proofs.ListingTexts.{printed_whole}
use Rattle.listing.proofs.accepted.Goals as goal

-- the whole text fits a buffer of 9,379 bytes
whole : (out numbers : List ℕ) (sets facts : ℕ) → length out ≡ 9379 → ((i : ℕ) → get_or numbers i 0 < 2 ^ 64) → sets ≤ 64 → facts ≤ 256 → Fits out 0 (number_lines numbers sets facts)
whole out numbers sets facts e small s f = record { room = omega (arith, e, numbers_length numbers sets facts small s f) }

pub line-after_total-requires : goal.line-after_total-requires
unfolding bound_lines
line-after_total-requires c =
    let a = c.args in
    first_fits _ _ (whole a.out.now a.numbers.now a.sets a.facts c.told-out (λ i. omega (arith, c.type_inv.numbers i)) c.requires.sets_bound c.requires.facts_bound)

-- the sets' lines and the facts', by the bounds that are cut out
set_lines : (numbers : List ℕ) (sets : ℕ) → 321 ≤ length numbers → sets ≤ 64 →
    lines_to (bytes "set ") (after numbers 1) sets ≡ numbered (bytes "set ") 0 (take (1 + sets - 1) (drop 1 numbers))
set_lines numbers sets h s = sym (cut_lines (bytes "set ") numbers 1 sets (1 + sets) refl (omega arith))

fact_lines : (numbers : List ℕ) (facts : ℕ) → 321 ≤ length numbers → facts ≤ 256 →
    lines_to (bytes "fact ") (after numbers 65) facts ≡ numbered (bytes "fact ") 0 (take (65 + facts - 65) (drop 65 numbers))
fact_lines numbers facts h s = sym (cut_lines (bytes "fact ") numbers 65 facts (65 + facts) refl (omega arith))

pub lines-after_sets-requires-clause-fits : goal.lines-after_sets-requires-clause-fits
unfolding bound_lines
lines-after_sets-requires-clause-fits c =
    let a = c.args in
    fits_as (set_lines a.numbers.now a.sets c.requires.list_length_in_bounds c.requires.sets_bound)
    (first_fits _ _
    (then_fits _ c.line-after_total.ensures
    (whole a.out.now a.numbers.now a.sets a.facts c.told-out (λ i. omega (arith, c.type_inv.numbers i)) c.requires.sets_bound c.requires.facts_bound)))

pub lines-requires-clause-fits : goal.lines-requires-clause-fits
unfolding bound_lines
lines-requires-clause-fits c =
    let a = c.args in
    fits_as (fact_lines a.numbers.now a.facts c.requires.list_length_in_bounds c.requires.facts_bound)
    (then_fits _ (rw (← set_lines a.numbers.now a.sets c.requires.list_length_in_bounds c.requires.sets_bound) at c.lines-after_sets.ensures)
    (then_fits _ c.line-after_total.ensures
    (whole a.out.now a.numbers.now a.sets a.facts c.told-out (λ i. omega (arith, c.type_inv.numbers i)) c.requires.sets_bound c.requires.facts_bound)))

pub returns : goal.returns
unfolding bound_lines
returns c =
    let a = c.args in
    printed_whole
    (whole a.out.now a.numbers.now a.sets a.facts c.told-out (λ i. omega (arith, c.type_inv.numbers i)) c.requires.sets_bound c.requires.facts_bound)
    (put_then c.line-after_total.ensures
    (put_then (rw (← set_lines a.numbers.now a.sets c.requires.list_length_in_bounds c.requires.sets_bound) at c.lines-after_sets.ensures)
    (rw (← fact_lines a.numbers.now a.facts c.requires.list_length_in_bounds c.requires.facts_bound) at c.lines.ensures)))
