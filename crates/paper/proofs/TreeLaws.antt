-- The tree's bits: a bit set alone, the numbers above a number, where the bits lead, and what an access turns.
use Prim.Native.Nat.{ℕ, zero, suc, ◌+◌, ◌-◌, ◌*◌, ◌/◌, ◌%◌, ◌^◌, ◌<◌, ◌≤◌}
use mathlib.Core.Path.{◌≡◌, refl, ap, sym, ◌∙◌}
use mathlib.Core.Logic.{◌≢◌, ◌⊎◌, ⊎_elim}
use native.Mathlib.Nat.{pow-suc, div-mul-le_self, mul-le-mul_right}
use native.Mathlib.Decide.{ℕ_discrete}
use native.Mathlib.Omega.{arith}
use lib.Pow.{pow_pos}
use Rattle.paper.specs.Lists.{least, least_from}
use Rattle.paper.specs.Steps.{bit_at}
use Rattle.paper.specs.Trees.{levels, parent, pointed, led_to, tree_victim, with_bit, turned_from, turned_above, turned}
use Rattle.paper.proofs.Bits.{bit_zero, bit_suc, bit_le}

-- a bit is part of its number
pub bit_part : (m i : ℕ) → bit_at m i * 2 ^ i ≤ m
unfolding bit_at
bit_part m i = omega (arith, div-mul-le_self m (2 ^ i), mul-le-mul_right {m = bit_at m i} {n = m / 2 ^ i} (2 ^ i) (omega arith))

-- above the lowest bit, a bit is set in the half
with_suc : (m i v : ℕ) → (with_bit m (suc i) v / 2 ≡ with_bit (m / 2) i v) × (with_bit m (suc i) v % 2 ≡ m % 2)
unfolding with_bit
with_suc m i v =
    let h : bit_at m (suc i) * 2 ^ suc i ≡ 2 * (bit_at (m / 2) i * 2 ^ i) = rw (bit_suc m i, pow-suc 2 i) (omega arith) in
    let g : v * 2 ^ suc i ≡ 2 * (v * 2 ^ i) = rw (pow-suc 2 i) (omega arith) in
    (omega (arith, h, g, bit_part (m / 2) i), omega (arith, h, g, bit_part (m / 2) i))

with_zero : (m v : ℕ) → v ≤ 1 → (with_bit m 0 v / 2 ≡ m / 2) × (with_bit m 0 v % 2 ≡ v)
unfolding with_bit
with_zero m v h = (omega (arith, bit_zero m), omega (arith, bit_zero m))

-- bit i becomes v, and the others stay
pub with_own : (m i v : ℕ) → v ≤ 1 → bit_at (with_bit m i v) i ≡ v
with_own m zero v h = bit_zero (with_bit m 0 v) ∙ (with_zero m v h).1
with_own m (suc i) v h = bit_suc (with_bit m (suc i) v) i ∙ ap (λ (n : ℕ). bit_at n i) (with_suc m i v).0 ∙ with_own (m / 2) i v h

pub with_rest : (m i v u : ℕ) → v ≤ 1 → u ≢ i → bit_at (with_bit m i v) u ≡ bit_at m u
with_rest m zero v zero h n = absurd (n refl)
with_rest m zero v (suc u) h n = bit_suc (with_bit m 0 v) u ∙ ap (λ (r : ℕ). bit_at r u) (with_zero m v h).0 ∙ sym (bit_suc m u)
with_rest m (suc i) v zero h n = bit_zero (with_bit m (suc i) v) ∙ (with_suc m i v).1 ∙ sym (bit_zero m)
with_rest m (suc i) v (suc u) h n =
    bit_suc (with_bit m (suc i) v) u ∙ ap (λ (r : ℕ). bit_at r u) (with_suc m i v).0 ∙ with_rest (m / 2) i v u h (omega arith) ∙ sym (bit_suc m u)

-- n bits stay n bits
pub with_few : (n m i v : ℕ) → v ≤ 1 → i < n → m < 2 ^ n → with_bit m i v < 2 ^ n
with_few zero m i v h l f = absurd (omega arith)
with_few (suc n) m zero v h l f = omega (arith, pow-suc 2 n, with_zero m v h)
with_few (suc n) m (suc i) v h l f =
    omega (arith, pow-suc 2 n, with_suc m i v, with_few n (m / 2) i v h (omega arith) (omega (arith, pow-suc 2 n)))

-- k ones, halved and one more: those below this have their bits from k-1 on 0
pub half_is : (k : ℕ) → (2 ^ k - 1) / 2 + 1 ≡ 2 ^ (k - 1)
half_is zero = refl
half_is (suc k) =
    let e : suc k - 1 ≡ k = omega arith in
    omega (arith, ap (λ (n : ℕ). 2 ^ n) e, pow-suc 2 k, pow_pos k)

-- the number e levels above i
unfoldable pub above : ℕ → ℕ → ℕ
above zero i = i
above (suc e) i = parent (above e i)

pub above_parent : (e i : ℕ) → above e (parent i) ≡ above (suc e) i
unfolding above
above_parent zero i = refl
above_parent (suc e) i = ap parent (above_parent e i)

pub above_le : (e i : ℕ) → above e i ≤ i
unfolding above parent
above_le zero i = omega arith
above_le (suc e) i = omega (arith, above_le e i)

parent_less : (i : ℕ) → 0 < i → parent i < i
unfolding parent
parent_less i h = omega arith

-- i stands d levels below the root
pub record Deep (d i : ℕ) : Type 0 where
  pub root : above d i ≡ 0
  pub inner : (e : ℕ) → e < d → 0 < above e i

deep_parent : (d i : ℕ) → Deep (suc d) i → Deep d (parent i)
deep_parent d i w =
    record {
      root = above_parent d i ∙ w.root;
      inner = λ e l. omega (arith, above_parent e i, w.inner (suc e) (omega arith));
    }

-- the numbers d levels below the root are 2^d - 1 and the next
deep : (d i : ℕ) → 2 ^ d ≤ suc i → suc i < 2 ^ suc d → Deep d i
unfolding above parent
deep zero i h g = record { root = omega arith; inner = λ e l. absurd (omega arith) }
deep (suc d) i h g =
    let r = deep d (parent i) (omega (arith, pow-suc 2 d, pow_pos d)) (omega (arith, pow-suc 2 d, pow-suc 2 (suc d), pow_pos d)) in
    record { root = sym (above_parent d i) ∙ r.root; inner = go r.inner }
  where
    go : ((e : ℕ) → e < d → 0 < above e (parent i)) → (e : ℕ) → e < suc d → 0 < above e i
    go f zero l = omega (arith, pow-suc 2 d, pow_pos d)
    go f (suc e) l = omega (arith, above_parent e i, f e (omega arith))

deep_range : (d i : ℕ) → Deep d i → (2 ^ d ≤ suc i) × (suc i < 2 ^ suc d)
unfolding above parent
deep_range zero i w = omega (arith, w.root)
deep_range (suc d) i w =
    omega (arith, w.inner 0 (omega arith), deep_range d (parent i) (deep_parent d i w), pow-suc 2 d, pow-suc 2 (suc d))

-- "A miss follows the bits": each bit on the way points to the next number
module _ (m : ℕ) where
  parent_pointed : (i : ℕ) → (parent (pointed m i) ≡ i) × (0 < pointed m i)
  unfolding parent pointed
  parent_pointed i = omega (arith, bit_le m i)

  led_root : (d i : ℕ) → above d (led_to d m i) ≡ i
  unfolding above led_to
  led_root zero i = refl
  led_root (suc d) i = ap parent (led_root d (pointed m i)) ∙ (parent_pointed i).0

  led_points : (d i e : ℕ) → e < d → let q = led_to d m i in above e q ≡ pointed m (above (suc e) q)
  unfolding above led_to
  led_points zero i e l = absurd (omega arith)
  led_points (suc d) i e l =
      elim (ℕ_discrete e d) [
        | yes p ↦ rw (p, led_root d (pointed m i), (parent_pointed i).0)
        | no n ↦ led_points d (pointed m i) e (omega arith)
      ]

  led_deep : (d : ℕ) → Deep d (led_to d m 0)
  led_deep d =
      record { root = led_root d 0; inner = λ e l. omega (arith, led_points d 0 e l, parent_pointed (above (suc e) (led_to d m 0))) }

-- one bit turned away
module _ (m i : ℕ) where
  from_own : 0 < i → pointed (turned_from m i) (parent i) ≢ i
  unfolding turned_from pointed
  from_own h = let e = with_own m (parent i) (i % 2) (omega arith) in unfold parent in omega (arith, e)

  from_rest : (u : ℕ) → u ≢ parent i → pointed (turned_from m i) u ≡ pointed m u
  unfolding turned_from pointed
  from_rest u n = ap (λ (b : ℕ). 2 * u + 1 + b) (with_rest m (parent i) (i % 2) u (omega arith) n)

  from_few : (n : ℕ) → parent i < n → m < 2 ^ n → turned_from m i < 2 ^ n
  unfolding turned_from
  from_few n l f = with_few n m (parent i) (i % 2) (omega arith) l f

-- "Each access turns the bits on its line's path away from it": the bits above it, and the others
turned_rest : (d m i u : ℕ) → ((e : ℕ) → e < d → u ≢ above (suc e) i) → pointed (turned_above d m i) u ≡ pointed m u
unfolding turned_above above
turned_rest zero m i u h = refl
turned_rest (suc d) m i u h =
    turned_rest d (turned_from m i) (parent i) u (λ e l p. h (suc e) (omega arith) (p ∙ above_parent (suc e) i)) ∙ from_rest m i u (h 0 (omega arith))

turned_away : (d m i e : ℕ) → Deep d i → e < d → above e i ≢ pointed (turned_above d m i) (above (suc e) i)
unfolding turned_above above
turned_away zero m i e w l p = omega arith
turned_away (suc d) m i zero w l p =
    from_own m i (w.inner 0 (omega arith)) (sym (turned_rest d (turned_from m i) (parent i) (parent i) once) ∙ sym p)
  where
    -- the bits above the parent are others
    once : (e : ℕ) → e < d → parent i ≢ above (suc e) (parent i)
    once e q r = omega (arith, parent_less (parent i) (w.inner 1 (omega arith)), above_le e (parent (parent i)), above_parent e (parent i))
turned_away (suc d) m i (suc e) w l p =
    turned_away d (turned_from m i) (parent i) e (deep_parent d i w) (omega arith)
    (above_parent e i ∙ p ∙ ap (pointed (turned_above (suc d) m i)) (sym (above_parent (suc e) i)))

turned_few : (d n m i : ℕ) → 0 < n → i ≤ 2 * n → m < 2 ^ n → turned_above d m i < 2 ^ n
unfolding turned_above parent
turned_few zero n m i h l f = f
turned_few (suc d) n m i h l f =
    turned_few d n (turned_from m i) (parent i) h (omega arith) (from_few m i n (omega arith) f)

-- the tree has 2, 4 or 8 ways, and log2 k levels of bits above them
abbrev pub TreeWays : ℕ → Type 0
TreeWays k = (k ≡ 2) ⊎ ((k ≡ 4) ⊎ (k ≡ 8))

pub tree_range : (k : ℕ) → TreeWays k → (2 ≤ k) × (k ≤ 8)
tree_range k w = ⊎_elim (λ (e : k ≡ 2). omega arith) (λ w. ⊎_elim (λ (e : k ≡ 4). omega arith) (λ (e : k ≡ 8). omega arith) w) w

pub tree_levels : (k : ℕ) → TreeWays k → 2 ^ levels k ≡ k
unfolding levels least least_from
tree_levels k w =
    ⊎_elim (λ (e : k ≡ 2). rw e refl) (λ w. ⊎_elim (λ (e : k ≡ 4). rw e refl) (λ (e : k ≡ 8). rw e refl) w) w

module _ (k : ℕ) (w : TreeWays k) where
  -- line j, at number k-1+j, stands log2 k levels below the root
  pub line_deep : (j : ℕ) → j < k → Deep (levels k) (k - 1 + j)
  line_deep j l = deep (levels k) (k - 1 + j) (omega (arith, tree_levels k w)) (omega (arith, tree_levels k w, pow-suc 2 (levels k)))

  module _ (bits : ℕ) where
    -- "A miss follows the bits and takes that line": it is one of the k, and each bit above it points to it
    victim_led : (tree_victim k bits < k) × (k - 1 + tree_victim k bits ≡ led_to (levels k) bits 0)
    unfolding tree_victim
    victim_led =
        omega (arith, tree_range k w, tree_levels k w, pow-suc 2 (levels k), deep_range (levels k) (led_to (levels k) bits 0) (led_deep bits (levels k)))

    pub victim_line : tree_victim k bits < k
    victim_line = victim_led.0

    pub victim_path : (e : ℕ) → e < levels k → let i = k - 1 + tree_victim k bits in above e i ≡ pointed bits (above (suc e) i)
    victim_path = rw victim_led.1 (led_points bits (levels k) 0)

    -- "Each access turns the bits on its line's path away from it.": no bit above it points to it, and the others point as before
    module _ (j : ℕ) (l : j < k) where
      pub turned_path : (e : ℕ) → e < levels k → let i = k - 1 + j in above e i ≢ pointed (turned k bits j) (above (suc e) i)
      unfolding turned
      turned_path e h = turned_away (levels k) bits (k - 1 + j) e (line_deep j l) h

      pub turned_beside : (u : ℕ) → ((e : ℕ) → e < levels k → u ≢ above (suc e) (k - 1 + j)) → pointed (turned k bits j) u ≡ pointed bits u
      unfolding turned
      turned_beside u h = turned_rest (levels k) bits (k - 1 + j) u h

      -- a step keeps the bits from k-1 on 0
      pub turned_legal : bits < 2 ^ (k - 1) → turned k bits j < 2 ^ (k - 1)
      unfolding turned
      turned_legal f = turned_few (levels k) (k - 1) bits (k - 1 + j) (omega (arith, tree_range k w)) (omega (arith, tree_range k w)) f
