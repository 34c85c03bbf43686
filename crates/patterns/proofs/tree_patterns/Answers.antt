-- `patterns::tree_patterns`: the three tables one after another fill the bytes.
use native.Mathlib.Omega.{arith}
use mathlib.Core.Path.{◌≡◌, refl, ◌∙◌, sym, ap}
use mathlib.Core.List.{List}
use Prim.Native.Nat.{ℕ}
use lib.ListN.{length}
use Rattle.paper.specs.Machines.{offered}
use Rattle.paper.specs.Patterns.{tree_table, tree_patterns}
use Rattle.puts.specs.Put.{Fits}
use Rattle.puts.proofs.Putting.{first_fits, then_fits, put_then}
use Rattle.patterns.proofs.PatternTexts.{trees_length, whole}
use Rattle.patterns.proofs.ShownLaws.{tree_shape}
use Rattle.patterns.proofs.tree_patterns.Goals as goal

-- they have room in bytes that they fill
fits : {l : List ℕ} → length l ≡ 9664 → Fits l 0 tree_patterns
fits e = record { room = omega (arith, trees_length) }

pub lines-after_two-requires : goal.lines-after_two-requires
unfolding tree_table offered
lines-after_two-requires c =
    record { w_bound = omega arith; shape = tree_shape 2 refl; fits = first_fits _ _ (fits c.told-out) }

pub lines-after_four-requires : goal.lines-after_four-requires
unfolding tree_table offered
lines-after_four-requires c =
    record { w_bound = omega arith; shape = tree_shape 4 refl; fits = first_fits _ _ (then_fits _ c.lines-after_two.ensures (fits c.told-out)) }

pub lines-requires : goal.lines-requires
unfolding tree_table offered
lines-requires c =
    record { w_bound = omega arith; shape = tree_shape 8 refl; fits = then_fits _ c.lines-after_four.ensures (then_fits _ c.lines-after_two.ensures (fits c.told-out)) }

pub returns : goal.returns
unfolding tree_table
returns c =
    let e = whole (c.told-out ∙ sym trees_length) (put_then c.lines-after_two.ensures (put_then c.lines-after_four.ensures c.lines.ensures)) in
    record { out_after = e; out_len = ap length e ∙ trees_length }
