-- `writer::sections::put_fact`: a fact's head, then its rows.
use Prim.Native.Nat.{ℕ, ◌+◌, ◌-◌, ◌*◌, ◌≤◌}
use mathlib.Core.Path.{◌≡◌, refl}
use mathlib.Core.List.{List}
use lib.ListN.{length, take, drop}
use native.Mathlib.Omega.{arith}
use Rattle.paper.specs.Writing.{rows_named}
use Rattle.puts.proofs.Putting.{put_length, put_then}
use Rattle.writer.proofs.Words.{put_as, length_cut}
use Rattle.writer.proofs.Joined.{fact_parts_lem}
use Rattle.writer.proofs.sections.put_fact.Goals as goal

pub slice_bounds-put_words-end-2 : goal.slice_bounds-put_words-end-2
unfolding rows_named
slice_bounds-put_words-end-2 c = omega (arith, c.requires.i_in_bounds)

-- a head is three numbers, and n rows are eight times as many
head : (l : List ℕ) (i : ℕ) → 4 * i + 4 ≤ length l → length (take (4 * i + 3 - 4 * i) (drop (4 * i) l)) ≡ 3
head l i h = length_cut l (4 * i) 3 (4 * i + 3) (omega arith) (omega arith)

body : (l : List ℕ) (r n : ℕ) → 8 * (r + n) ≤ length l → length (take (8 * (r + n) - 8 * r) (drop (8 * r) l)) ≡ 8 * n
body l r n h = length_cut l (8 * r) (8 * n) (8 * (r + n)) (omega arith) h

pub put_words-requires : goal.put_words-requires
unfolding rows_named
put_words-requires c =
    let a = c.args in
    omega (
      arith,
      c.requires.i_in_bounds_2,
      head a.heads.now a.i c.requires.per_head_in_bounds,
      body a.rows.now a.r _ c.requires.i_in_bounds,
      c.put_words-body.ensures.value,
      put_length c.put_words-body.ensures.put,
    )

pub returns-clause-put : goal.returns-clause-put
unfolding rows_named
returns-clause-put c =
    put_as (fact_parts_lem c.args.heads.now c.args.rows.now c.args.i c.args.r _ c.requires.r_value refl c.requires.per_head_in_bounds c.requires.i_in_bounds)
    (put_then c.put_words-body.ensures.put c.put_words.ensures.put)

pub returns-clause-value : goal.returns-clause-value
unfolding rows_named
returns-clause-value c =
    let a = c.args in
    omega (
      arith,
      head a.heads.now a.i c.requires.per_head_in_bounds,
      body a.rows.now a.r _ c.requires.i_in_bounds,
      c.put_words-body.ensures.value,
      c.put_words.ensures.value,
    )
