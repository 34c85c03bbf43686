-- `trees::line`: the guess, where it is right, is the line's bit; at a miss the low byte of the entry is (`tree_line_lem`).
use Prim.Native.Nat.{ℕ, ◌%◌, ◌^◌}
use mathlib.Core.Path.{◌≡◌, refl, ap, ◌∙◌}
use lib.ListN.{length}
use borrow.Author.Rules.{rules}
use Rattle.paper.specs.Policies.{tree_policy}
use Rattle.paper.specs.Trees.{tree_victim}
use Rattle.paper.proofs.MoveLaws.{legal_ready, tree_bits, line_low, guess_right, found_hit, found_miss}
use Rattle.paper.proofs.Says.{says_true}
use Rattle.paper.proofs.States.{says_offered}
use Rattle.trees.proofs.TreeEntries.{ways, miss_parts, tree_line_lem}
use Rattle.trees.proofs.line.Goals as goal

pub returns-then-w-guessed : goal.returns-then-w-guessed
returns-then-w-guessed c =
    let s = c.before.before.before in
    let a = s.args in
    let r = legal_ready tree_policy a.k a.state s.requires.state_value (says_true (says_offered _ _) s.requires.k_value) in
    let e : length a.state.lines ≡ 8 = search rules in
    let h = guess_right _ _ c.if-w-guessed.true in
    let m = 2 ^ tree_victim a.k a.state.bits in
    let f = found_hit _ _ 0 _ _ r s.requires.block_nonzero e c.weight-w.ensures m h.0 in
    tree_line_lem a.k (ways _ s.requires.k_value) a.state a.block.0 m _ refl (h.1 ∙ f.0) f.1

pub overflow_sub-result : goal.overflow_sub-result
overflow_sub-result c =
    let s = c.before.before.before.before in
    let a = s.args in
    let r = legal_ready tree_policy a.k a.state s.requires.state_value (says_true (says_offered _ _) s.requires.k_value) in
    let e : length a.state.lines ≡ 8 = search rules in
    line_low _ _ 0 _ _ r s.requires.block_nonzero e c.weight-w.ensures c.if-w-gt0.true

pub returns-then-w-gt0 : goal.returns-then-w-gt0
returns-then-w-gt0 c =
    let s = c.before.before.before.before in
    let a = s.args in
    let r = legal_ready tree_policy a.k a.state s.requires.state_value (says_true (says_offered _ _) s.requires.k_value) in
    let e : length a.state.lines ≡ 8 = search rules in
    let m = 2 ^ tree_victim a.k a.state.bits in
    let f = found_hit _ _ 0 _ _ r s.requires.block_nonzero e c.weight-w.ensures m c.if-w-gt0.true in
    tree_line_lem a.k (ways _ s.requires.k_value) a.state a.block.0 m _ refl f.0 f.1

pub missed-requires : goal.missed-requires
missed-requires c =
    let s = c.before.before.before.before in
    record { k_value = s.requires.k_value; bits_bound = tree_bits tree_policy s.args.k s.args.state s.requires.state_value refl; misses_value = s.requires.misses_value }

pub returns : goal.returns
returns c =
    let s = c.before.before.before.before.before in
    let a = s.args in
    let r = legal_ready tree_policy a.k a.state s.requires.state_value (says_true (says_offered _ _) s.requires.k_value) in
    let e : length a.state.lines ≡ 8 = search rules in
    let w = ways _ s.requires.k_value in
    let m = ap (λ (x : ℕ). x % 256) c.missed.ensures ∙ (miss_parts a.k w a.state.bits).0 in
    let f = found_miss _ _ 0 _ _ r s.requires.block_nonzero e c.weight-w.ensures (c.missed.result % 256) c.if-w-gt0.false in
    tree_line_lem a.k w a.state a.block.0 _ _ m f.0 f.1
