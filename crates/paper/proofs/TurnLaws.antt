-- The laws of a table made in turn.
use Prim.Native.Nat.{ℕ, zero, suc, ◌≤◌, ◌<◌, min}
use native.Mathlib.Omega.{arith}
use native.Mathlib.Decide.{dec_lt, ℕ_discrete}
use mathlib.Core.List.{[]}
use mathlib.Core.Path.{◌≡◌, refl, sym, ◌∙◌}
use lib.ListN.{length, get_or, length-append, get_or-append, get_or-eq_default}
use lib.Seq.{get_or-append_seam}
use Rattle.paper.specs.Lists.{in_turn}

module _ (f : (ℕ → ℕ) → ℕ → ℕ) where
  length_turn : (n : ℕ) → length (in_turn f n) ≡ n
  unfolding in_turn
  length_turn zero = refl
  length_turn (suc n) = length-append (in_turn f n) _ ∙ omega (arith, length_turn n)

  turn_last : (n : ℕ) → get_or (in_turn f (suc n)) n 0 ≡ f (λ j. get_or (in_turn f n) j 0) n
  unfolding in_turn
  turn_last n =
      let z = get_or-append_seam (in_turn f n) (f (λ j. get_or (in_turn f n) j 0) n) [] 0 in
      rw (length_turn n) at z

  turn_before : (n i : ℕ) → i < n → get_or (in_turn f (suc n)) i 0 ≡ get_or (in_turn f n) i 0
  unfolding in_turn
  turn_before n i h = get_or-append (in_turn f n) _ 0 i (omega (arith, length_turn n))

  -- an entry is made from those before it
  pub turn_at : (n i : ℕ) → i < n → get_or (in_turn f n) i 0 ≡ f (λ j. get_or (in_turn f i) j 0) i
  turn_at zero i h = absurd (omega arith)
  turn_at (suc n) i h =
      elim (ℕ_discrete i n) [ yes p ↦ rw p (turn_last n) | no q ↦ turn_before n i (omega arith) ∙ turn_at n i (omega arith) ]

  -- and stays as it is while the table grows
  pub turn_same : (n m i : ℕ) → i < n → i < m → get_or (in_turn f n) i 0 ≡ get_or (in_turn f m) i 0
  turn_same n m i h k = turn_at n i h ∙ sym (turn_at m i k)

  -- past the end there is 0
  turn_past : (n u : ℕ) → n ≤ u → get_or (in_turn f n) u 0 ≡ 0
  turn_past n u h = get_or-eq_default (in_turn f n) 0 {n = u} (omega (arith, length_turn n))

-- makers that agree
pub turn_agree : (f g : (ℕ → ℕ) → ℕ → ℕ) → ((w : ℕ → ℕ) (i : ℕ) → f w i ≡ g w i) → (n : ℕ) → in_turn f n ≡ in_turn g n
unfolding in_turn
turn_agree f g h zero = refl
turn_agree f g h (suc n) = rw (turn_agree f g h n, h (λ i. get_or (in_turn g n) i 0) n) refl

-- entries that are each cut at k, by a maker that reads cut entries
pub turn_cut :
    (k : ℕ) (f g : (ℕ → ℕ) → ℕ → ℕ) → ((w x : ℕ → ℕ) → ((u : ℕ) → w u ≡ min (x u) k) → (i : ℕ) → f w i ≡ min (g x i) k)
    → (n u : ℕ) → get_or (in_turn f n) u 0 ≡ min (get_or (in_turn g n) u 0) k
turn_cut k f g h zero u = omega (arith, turn_past f 0 u (omega arith), turn_past g 0 u (omega arith))
turn_cut k f g h (suc n) u =
    elim (dec_lt u n) [
      | yes l ↦ omega (arith, turn_before f n u l, turn_before g n u l, turn_cut k f g h n u)
      | no l ↦
          elim (ℕ_discrete u n) [
            | yes p ↦ rw p (omega (arith, turn_last f n, turn_last g n, h (λ i. get_or (in_turn f n) i 0) (λ i. get_or (in_turn g n) i 0) (turn_cut k f g h n) n))
            | no q ↦ omega (arith, turn_past f (suc n) u (omega arith), turn_past g (suc n) u (omega arith))
          ]
    ]
