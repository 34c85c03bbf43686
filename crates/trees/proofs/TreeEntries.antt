-- Where the tree's tables have what a step looks for, for every number of ways at once, and what it makes of it.
use Prim.Native.Nat.{ℕ, suc, ◌+◌, ◌-◌, ◌*◌, ◌/◌, ◌%◌, ◌^◌, ◌<◌}
use native.Mathlib.Nat.{pow-suc}
use native.Mathlib.Decide.{dec_lt}
use native.Mathlib.Omega.{arith}
use mathlib.Core.Path.{◌≡◌, refl, sym, ap, ap₂, ◌∙◌}
use mathlib.Core.Bool.{Bool, true, false, cond}
use lib.Bits.{bit_or, bit_and}
use lib.Count.{count_trailing_zeros}
use lib.ListN.{get_or, take, set}
use lib.Pow.{pow_mono, pow_pos}
use borrow.Author.Tests.{lt-ltb, le-ltb}
use Rattle.paper.specs.declared.SetState.{SetState}
use Rattle.paper.specs.declared.Line.{Line}
use Rattle.paper.specs.Lists.{table}
use Rattle.paper.specs.Machines.{line_of, hits, line_or, offered}
use Rattle.paper.specs.Policies.{tree_policy, tree_ways}
use Rattle.paper.specs.Ready.{stepped_of}
use Rattle.paper.specs.Shifts.{Bit}
use Rattle.paper.specs.Trees.{levels, tree_victim, turned, tree_line, tree_step}
use Rattle.paper.proofs.Says.{says_is, says_true}
use Rattle.paper.proofs.Least.{least_is}
use Rattle.paper.proofs.LineLaws.{or_bit, or_low}
use Rattle.paper.proofs.Masks.{zeros_bit}
use Rattle.paper.proofs.States.{says_offered, says_tree_ways}
use Rattle.paper.proofs.TableLaws.{get_d_table}
use Rattle.paper.proofs.TreeLaws.{TreeWays, tree_range, tree_levels, victim_line, turned_legal}
use Rattle.trees.specs.TreeTables.{at_miss, ways_at, miss_entry, tree_misses, depth, turn_entry, turned_ones, turned_zeros, tree_line_for}
use Rattle.trees.proofs.TurnLaws.{turned_masked}

-- where the tree is offered, it has 2, 4 or 8 ways
pub ways : (k : ℕ) → offered tree_policy k ≡ true → TreeWays k
ways k o = (says_true (says_offered tree_policy k) o).tree refl

module _ (k : ℕ) (w : TreeWays k) where
  -- twice as many entries for one way more
  double : 2 ^ k ≡ 2 ^ (k - 1) * 2
  double = let e : suc (k - 1) ≡ k = omega (arith, tree_range k w) in ap (λ (n : ℕ). 2 ^ n) (sym e) ∙ pow-suc 2 (k - 1)

  pub first_low : (p : ℕ) → p < 2 ^ (k - 1) → 2 ^ (k - 1) + p < 256
  first_low p h = omega (arith, double, pow_mono {i = k} {j = 8} (tree_range k w).1)

  ways_at_lem : (p : ℕ) → p < 2 ^ (k - 1) → ways_at (2 ^ (k - 1) + p) ≡ k
  unfolding ways_at
  ways_at_lem p h =
      least_is _ 9
      (record {
        at = k;
        below = omega (arith, tree_range k w);
        none = λ i l. le-ltb (2 ^ (k - 1) + p) (2 ^ i) (omega (arith, pow_mono {i = i} {j = k - 1} (omega arith)));
        holds = lt-ltb (2 ^ (k - 1) + p) (2 ^ k) (omega (arith, double));
      })

  entry_is : (x : ℕ) → ways_at x ≡ k → miss_entry x ≡ at_miss k (x - 2 ^ (k - 1))
  unfolding miss_entry
  entry_is x e = let t : tree_ways k ≡ true = says_is (says_tree_ways k) w in rw (e, t)

  pub miss_at_lem : (p : ℕ) → p < 2 ^ (k - 1) → get_or tree_misses (2 ^ (k - 1) + p) 0 ≡ at_miss k p
  unfolding tree_misses
  miss_at_lem p h =
      let e : 2 ^ (k - 1) + p - 2 ^ (k - 1) ≡ p = omega arith in
      get_d_table miss_entry 256 (2 ^ (k - 1) + p) 0 (first_low p h) ∙ entry_is (2 ^ (k - 1) + p) (ways_at_lem p h) ∙ ap (at_miss k) e

  few_levels : levels k < 4
  few_levels =
      elim (dec_lt (levels k) 4) [
        | yes y ↦ y
        | no y ↦ absurd (omega (arith, tree_levels k w, tree_range k w, pow_mono {i = 4} {j = levels k} (omega arith)))
      ]

  -- line j, at number k-1+j, has log2 k bits above it
  depth_is : (j : ℕ) → j < k → depth (k - 1 + j) ≡ levels k
  unfolding depth
  depth_is j l =
      let r = tree_range k w in
      least_is _ 4
      (record {
        at = levels k;
        below = few_levels;
        none = λ d h. le-ltb (suc (k - 1 + j)) (2 ^ suc d) (omega (arith, tree_levels k w, pow_mono {i = suc d} {j = levels k} h));
        holds = lt-ltb (suc (k - 1 + j)) (2 ^ suc (levels k)) (omega (arith, tree_levels k w, pow-suc 2 (levels k)));
      })

  turn_at : (m j : ℕ) → j < k → get_or (table (turn_entry m) 15) (k - 1 + j) 0 ≡ turned k m j
  unfolding turn_entry turned
  turn_at m j l =
      get_d_table (turn_entry m) 15 (k - 1 + j) 0 (omega (arith, tree_range k w)) ∙ rw (depth_is j l)

  -- the bits of k ways are at most seven
  seven : (m : ℕ) → m < 2 ^ (k - 1) → m < 2 ^ 7
  seven m h = omega (arith, pow_mono {i = k - 1} {j = 7} (omega (arith, tree_range k w)))

  pub turned_by :
      (m j : ℕ) → j < k → m < 2 ^ (k - 1)
      → bit_or (bit_and m (get_or turned_ones (k - 1 + j) 0)) (get_or turned_zeros (k - 1 + j) 0) ≡ turned k m j
  unfolding turned_ones turned_zeros turned
  turned_by m j l h =
      ap₂ (λ (x y : ℕ). bit_or (bit_and m x) y) (turn_at 127 j l) (turn_at 0 j l)
      ∙ turned_masked (levels k) (k - 1 + j) m (seven m h) (seven _ (turned_legal k w m j l h)) (seven _ (turned_legal k w 0 j l (pow_pos (k - 1))))

  -- the two parts of an entry: the line's bit, and the bits after the miss
  module _ (m : ℕ) where
    pub miss_parts : (at_miss k m % 256 ≡ 2 ^ tree_victim k m) × (at_miss k m / 256 ≡ turned k m (tree_victim k m))
    unfolding at_miss
    miss_parts = omega (arith, pow_mono {i = tree_victim k m} {j = 7} (omega (arith, victim_line k w m, tree_range k w)))

    pub after_low : m < 2 ^ (k - 1) → at_miss k m / 256 < 128
    after_low h = omega (arith, miss_parts, seven _ (turned_legal k w m (tree_victim k m) (victim_line k w m) h))

  -- the line that an access goes to
  module _ (s : SetState) (b : ℕ) where
    line_low : tree_line k s b < k
    unfolding tree_line
    line_low = or_low k s.lines b _ (victim_line k w s.bits)

    -- a line by its bit and whether the block stands there
    abbrev line_by : ℕ → Bool → Line
    line_by m hit = record { bit = m; hit = hit }

    pub tree_line_lem :
        (m : ℕ) (t : Line) → m ≡ 2 ^ tree_victim k s.bits → t.bit ≡ cond (hits k s.lines b) (2 ^ line_of (take k s.lines) b) m → t.hit ≡ hits k s.lines b
        → t ≡ tree_line_for k s b
    unfolding tree_line_for tree_line
    tree_line_lem m t e f h =
        ap₂ line_by (f ∙ ap (λ (x : ℕ). cond (hits k s.lines b) (2 ^ line_of (take k s.lines) b) x) e ∙ or_bit k s.lines b (tree_victim k s.bits)) h

    module _ (t : Line) (f : t ≡ tree_line_for k s b) where
      pub tree_bit : t.bit ≡ 2 ^ line_or k s.lines b (tree_victim k s.bits)
      unfolding tree_line_for tree_line
      tree_bit = ap (λ (x : Line). x.bit) f

      pub tree_hit : t.hit ≡ hits k s.lines b
      unfolding tree_line_for
      tree_hit = ap (λ (x : Line). x.hit) f

      pub tree_place : Bit k t.bit
      unfolding tree_line
      tree_place = record { at = tree_line k s b; low = line_low; is = tree_bit }

      -- the bits after a hit, and after a miss
      pub hit_bits : turned k s.bits (count_trailing_zeros 32 t.bit) ≡ turned k s.bits (tree_line k s b)
      unfolding tree_line
      hit_bits = ap (turned k s.bits) (ap (count_trailing_zeros 32) tree_bit ∙ zeros_bit 32 (tree_line k s b) (omega (arith, line_low, tree_range k w)))

      pub miss_bits : (m : ℕ) → t.hit ≡ false → m ≡ at_miss k s.bits → m / 256 ≡ turned k s.bits (tree_line k s b)
      unfolding tree_line line_or
      miss_bits m h e =
          let n : hits k s.lines b ≡ false = sym tree_hit ∙ h in
          rw n (ap (λ (x : ℕ). x / 256) e ∙ (miss_parts s.bits).1)

      pub tree_took :
          (q : ℕ) → q ≡ turned k s.bits (tree_line k s b)
          → stepped_of (set s.lines (line_or k s.lines b (tree_victim k s.bits)) b) q t.hit ≡ tree_step k s b
      unfolding tree_step tree_line
      tree_took q e = ap₂ (stepped_of (set s.lines (line_or k s.lines b (tree_victim k s.bits)) b)) e tree_hit
