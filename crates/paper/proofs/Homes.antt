-- A block's set by two products in the place of a division. With s·m = 2^32 + e, where e < s, and x = q·s + r, the product x·m is q·2^32 + y, where y = q·e + r·m < 2^32, and y·s is r·2^32 + x·e, where x·e < 2^22.
use Prim.Native.Nat.{ℕ, ◌+◌, ◌-◌, ◌*◌, ◌/◌, ◌%◌, ◌<◌, ◌≤◌}
use native.Mathlib.Nat.{mul_comm, mul_assoc, add-mul, one-mul, mul-le-mul, mul-le-mul_left, mul-le-mul_right, mul-one, div-add-mod', mod-lt, lt-div-mul-add, div-mul-le_self}
use native.Mathlib.Omega.{arith}
use mathlib.Core.Path.{◌≡◌, sym, ap, ◌∙◌}

module _ (x s m e q r : ℕ) (inverse : s * m ≡ 4294967296 + e) (small : e < s) (few : s ≤ 64) (parts : x ≡ q * s + r) (rest : r < s) (block : x < 65536) where
  times_low : q * e ≤ 65535 * 63
  times_low =
      let d : q * 1 ≤ q * s = mul-le-mul_left q (omega arith) in
      let f : q ≤ 65535 = omega (arith, mul-one q) in
      let g : e ≤ 63 = omega arith in
      mul-le-mul f g

  off_low : x * e ≤ 65535 * 63
  off_low =
      let f : x ≤ 65535 = omega arith in
      let g : e ≤ 63 = omega arith in
      mul-le-mul f g

  product : x * m ≡ q * 4294967296 + (q * e + r * m)
  product =
      let f : x * m ≡ q * (s * m) + r * m = ap (λ (z : ℕ). z * m) parts ∙ add-mul (q * s) r m ∙ ap (λ (z : ℕ). z + r * m) (mul_assoc q s m) in
      let g : q * (s * m) ≡ q * (4294967296 + e) = ap (λ (z : ℕ). q * z) inverse in
      omega arith

  low : q * e + r * m < 4294967296
  low =
      let f : (r + 1) * m ≤ s * m = mul-le-mul_right m (omega arith) in
      let g : (r + 1) * m ≡ r * m + m = add-mul r 1 m ∙ ap (λ (z : ℕ). r * m + z) (one-mul m) in
      let h : s * m ≤ 64 * m = mul-le-mul_right m few in
      omega (arith, times_low)

  scaled : (q * e + r * m) * s ≡ r * 4294967296 + x * e
  scaled =
      let f : (q * e + r * m) * s ≡ q * e * s + r * m * s = add-mul (q * e) (r * m) s in
      let g : r * m * s ≡ r * (4294967296 + e) = mul_assoc r m s ∙ ap (λ (z : ℕ). r * z) (mul_comm m s ∙ inverse) in
      let h : q * e * s ≡ q * s * e = mul_assoc q e s ∙ ap (λ (z : ℕ). q * z) (mul_comm e s) ∙ sym (mul_assoc q s e) in
      let i : x * e ≡ q * s * e + r * e = ap (λ (z : ℕ). z * e) parts ∙ add-mul (q * s) r e in
      omega arith

  pub home_is : x * m % 4294967296 * s / 4294967296 ≡ r
  home_is =
      let f : x * m % 4294967296 ≡ q * e + r * m = omega (arith, product, low) in
      let g : x * m % 4294967296 * s ≡ r * 4294967296 + x * e = ap (λ (z : ℕ). z * s) f ∙ scaled in
      omega (arith, off_low)

module _ (x s : ℕ) (some : 0 < s) (few : s ≤ 64) (block : x < 65536) where
  abbrev m : ℕ
  m = (4294967295 + s) / s

  pub inverse_low : m ≤ 4294967359
  inverse_low =
      let f : m * s ≤ 4294967295 + s = div-mul-le_self (4294967295 + s) s in
      let g : m * 1 ≤ m * s = mul-le-mul_left m (omega arith) in
      omega (arith, mul-one m)

  pub home_mod : x * ((4294967295 + s) / s) % 4294967296 * s / 4294967296 ≡ x % s
  home_mod =
      let f : m * s ≤ 4294967295 + s = div-mul-le_self (4294967295 + s) s in
      let g : 4294967295 + s < m * s + s = lt-div-mul-add some in
      let h : s * m ≡ 4294967296 + (m * s - 4294967296) = mul_comm s m ∙ omega arith in
      home_is x s m (m * s - 4294967296) (x / s) (x % s) h (omega arith) few (sym (div-add-mod' x s)) (mod-lt x some) block
