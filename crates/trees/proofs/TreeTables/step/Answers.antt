-- `trees::TreeTables::step`: a hit turns the bits from its line, and a miss has them from its entry; the block stands in its line or comes there.
use native.Mathlib.Omega.{arith}
use mathlib.Core.Path.{refl, ◌∙◌}
use Rattle.paper.specs.Policies.{tree_policy}
use Rattle.paper.specs.Trees.{tree_victim}
use Rattle.paper.proofs.MoveLaws.{legal_ready, tree_bits}
use Rattle.paper.proofs.Says.{says_true}
use Rattle.paper.proofs.States.{says_offered}
use Rattle.trees.proofs.TreeEntries.{ways, after_low, tree_bit, tree_hit, tree_place, hit_bits, miss_bits, tree_took}
use Rattle.trees.proofs.TreeTables.step.Goals as goal

pub turn-requires : goal.turn-requires
turn-requires c =
    let s = c.before in
    let a = s.args in
    record { k_value = s.requires.k_value; bits_bound = tree_bits tree_policy a.k a.state s.requires.state_value refl; bit = tree_place a.k (ways _ s.requires.k_value) a.state a.block.0 a.line s.requires.line_value }

pub placed-requires : goal.placed-requires
placed-requires c =
    let s = c.before.before in
    let a = s.args in
    record { ready = legal_ready tree_policy _ _ s.requires.state_value (says_true (says_offered _ _) s.requires.k_value); hit_value = tree_hit a.k (ways _ s.requires.k_value) a.state a.block.0 a.line s.requires.line_value }

pub returns-then-line : goal.returns-then-line
returns-then-line c =
    let s = c.before.before.before in
    let a = s.args in
    let w = ways _ s.requires.k_value in
    let f = s.requires.line_value in
    c.placed.ensures (tree_victim a.k a.state.bits) (tree_bit a.k w a.state a.block.0 a.line f)
    ∙ tree_took a.k w a.state a.block.0 a.line f _ (c.turn.ensures ∙ hit_bits a.k w a.state a.block.0 a.line f)

pub missed-requires : goal.missed-requires
missed-requires c =
    let s = c.before in
    record { k_value = s.requires.k_value; bits_bound = tree_bits tree_policy s.args.k s.args.state s.requires.state_value refl }

-- the bits after a miss fit a byte
pub overflow_cast-missed : goal.overflow_cast-missed
overflow_cast-missed c =
    let s = c.before.before in
    let a = s.args in
    omega (arith, c.missed.ensures, after_low a.k (ways _ s.requires.k_value) a.state.bits (tree_bits tree_policy a.k a.state s.requires.state_value refl))

pub placed-requires-2 : goal.placed-requires-2
placed-requires-2 c =
    let s = c.before.before in
    let a = s.args in
    record { ready = legal_ready tree_policy _ _ s.requires.state_value (says_true (says_offered _ _) s.requires.k_value); hit_value = tree_hit a.k (ways _ s.requires.k_value) a.state a.block.0 a.line s.requires.line_value }

pub returns : goal.returns
returns c =
    let s = c.before.before.before in
    let a = s.args in
    let w = ways _ s.requires.k_value in
    let f = s.requires.line_value in
    c.placed-2.ensures (tree_victim a.k a.state.bits) (tree_bit a.k w a.state a.block.0 a.line f)
    ∙ tree_took a.k w a.state a.block.0 a.line f _ (miss_bits a.k w a.state a.block.0 a.line f c.missed.result c.if-line.false c.missed.ensures)
