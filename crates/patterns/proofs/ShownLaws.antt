-- What stands in a line of the tree's table, and of NMRU's: the parts of `after_of` and `miss_of`, and the tree's bits by its tables.
use Prim.Native.Nat.{ℕ, ◌+◌, ◌-◌, ◌*◌, ◌%◌, ◌^◌, ◌≤◌, ◌<◌}
use native.Mathlib.Omega.{arith}
use mathlib.Core.Path.{◌≡◌, refl, ◌∙◌, sym, ap}
use mathlib.Core.Bool.{Bool, true, false}
use mathlib.Core.List.{List, [], ◌∷◌}
use lib.Count.{count_trailing_zeros}
use lib.Pow.{shl_exact, pow_mono}
use Rattle.paper.specs.Machines.{marked, offered}
use Rattle.paper.specs.Patterns.{missed}
use Rattle.paper.specs.Policies.{tree_policy}
use Rattle.paper.specs.Shifts.{Bit}
use Rattle.paper.specs.Trees.{tree_victim, turned}
use Rattle.paper.proofs.Masks.{zeros_bit}
use Rattle.paper.proofs.TreeLaws.{tree_range, victim_line}
use Rattle.trees.specs.TreeTables.{at_miss}
use Rattle.trees.proofs.TreeEntries.{ways, miss_parts}
use Rattle.patterns.specs.Shown.{Shape, Shown, after_of, miss_of}
use Rattle.puts.specs.Put.{Put}

module _ (k : ℕ) (o : offered tree_policy k ≡ true) where
  pub few_ways : (2 ≤ k) × (k ≤ 8)
  few_ways = tree_range k (ways k o)

  -- at most seven bits
  pub bits_low : 2 ^ (k - 1) ≤ 128
  bits_low = omega (arith, pow_mono {i = k - 1} {j = 7} (omega (arith, few_ways)))

  -- all patterns of k - 1 bits
  pub tree_shape : Shape true k (2 ^ (k - 1))
  tree_shape = record { few = few_ways.1; byte = omega (arith, bits_low); offers = λ e. o; bits = λ e. omega arith }

  -- the line's bit, and the line again
  module _ (j : ℕ) (l : j < k) where
    bit_is : 1 * 2 ^ j % 2 ^ 16 ≡ 2 ^ j
    bit_is = shl_exact {a = 1} 1 j 16 (omega arith) (omega (arith, few_ways)) ∙ omega arith

    pub bit_of : Bit k (1 * 2 ^ j % 2 ^ 16)
    bit_of = record { at = j; low = l; is = bit_is }

    pub line_of : count_trailing_zeros 32 (1 * 2 ^ j % 2 ^ 16) ≡ j
    line_of = ap (count_trailing_zeros 32) bit_is ∙ zeros_bit 32 j (omega (arith, few_ways))

  pub victim_low : (p : ℕ) → tree_victim k p < 8
  victim_low p = omega (arith, victim_line k (ways k o) p, few_ways)

  pub victim_of : (p m : ℕ) → m ≡ at_miss k p → count_trailing_zeros 32 (m % 256) ≡ tree_victim k p
  victim_of p m e =
      ap (count_trailing_zeros 32) (ap (λ (x : ℕ). x % 256) e ∙ (miss_parts k (ways k o) p).0) ∙ zeros_bit 32 (tree_victim k p) (omega (arith, victim_low p))

-- NMRU's patterns
pub nmru_shape : Shape false 8 256
nmru_shape =
    record {
      few = omega arith;
      byte = omega arith;
      offers = λ (e : false ≡ true). absurd (let z : ◌≡◌ {A = ℕ} 0 1 = cc in omega arith);
      bits = λ (e : false ≡ true). absurd (let z : ◌≡◌ {A = ℕ} 0 1 = cc in omega arith);
    }

module _ (tree : Bool) (k p : ℕ) where
  pub shown_tree : Shown tree k p → tree ≡ true → (offered tree_policy k ≡ true) × (p < 2 ^ (k - 1))
  shown_tree s e = (s.shape.offers e, omega (arith, s.below, s.shape.bits e))

  pub after_tree : (r j : ℕ) → tree ≡ true → r ≡ turned k p j → r ≡ after_of tree k p j
  after_tree r j e f = f ∙ sym (ap (λ (t : Bool). after_of t k p j) e)

  pub after_nmru : (r j : ℕ) → tree ≡ false → r ≡ marked 8 p j → r ≡ after_of tree k p j
  after_nmru r j e f = f ∙ sym (ap (λ (t : Bool). after_of t k p j) e)

  pub miss_none : tree ≡ false → miss_of tree k p ≡ []
  miss_none e = ap (λ (t : Bool). miss_of t k p) e

  pub miss_some : (r : ℕ) → tree ≡ true → r ≡ tree_victim k p → miss_of tree k p ≡ 32 ∷ (48 + r) ∷ []
  unfolding missed
  miss_some r e f = ap (λ (t : Bool). miss_of t k p) e ∙ ap {B = List ℕ} (λ (v : ℕ). 32 ∷ (48 + v) ∷ []) (sym f)

pub put_nothing : {l : List ℕ} {at : ℕ} → Put l at [] at l
put_nothing = record { list = refl; place = omega arith }
