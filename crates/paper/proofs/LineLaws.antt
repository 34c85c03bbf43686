-- Laws of a set's eight lines by value: the sum that tells a block's line, and what a shift of the lines that are not kept is.
use Prim.Native.Nat.{ℕ, zero, suc, ◌+◌, ◌-◌, ◌^◌, ◌<◌, ◌≤◌, min}
use native.Mathlib.Nat.{not-suc-le-zero, le_of_suc-le-suc}
use native.Mathlib.Decide.{ℕ_discrete, dec_lt}
use native.Mathlib.Omega.{arith}
use mathlib.Core.Path.{◌≡◌, refl, sym, ap, ◌∙◌}
use mathlib.Core.Logic.{◌≢◌}
use mathlib.Core.Bool.{Bool, true, false, cond}
use mathlib.Core.List.{List, [], ◌∷◌}
use lib.Dec.{eqb, ltb}
use lib.ListN.{length, get_or, take, drop, set, length-set, length-append, length-take, length-drop, drop_of_length-le}
use lib.Pow.{pow-lt, pow_mono}
use lib.Seq.{drop-cons, get_or-set_same, get_or-set_other}
use borrow.Author.Tests.{eq-eqb, ne_eqb, lt-ltb, le-ltb, ltb-true}
use Rattle.paper.specs.Lists.{table}
use Rattle.paper.specs.declared.SetState.{SetState}
use Rattle.paper.specs.Machines.{none, line_of, hits, line_or, miss_line, nmru_line, pushed}
use Rattle.lines.specs.Lines.{eight, eight_sum, weight_of, weighed, kept_after, moved_by, replaced_by}
use Rattle.paper.specs.Shifts.{kept_from}
use Rattle.paper.proofs.Bits.{victim_low}
use Rattle.paper.proofs.States.{Distinct, line_at}
use Rattle.paper.proofs.TableLaws.{get_d_table, length_table, same_table, table_is}

-- the eight of a rule are a table, and so known by their entries; their sum is that of a walk through the lines
eight_is : (g : ℕ → ℕ) (l : List ℕ) → length l ≡ 8 → ((i : ℕ) → i < 8 → g i ≡ get_or l i 0) → eight g ≡ l
unfolding eight table
eight_is g l e h = table_is g 8 l e h

eight_table : (f g : ℕ → ℕ) → ((i : ℕ) → i < 8 → f i ≡ g i) → eight f ≡ table g 8
unfolding eight table
eight_table f g h = same_table f g 8 h

-- the weights of the lines from j on that hold b
unfoldable pub weighed_from : ℕ → List ℕ → ℕ → ℕ
weighed_from j [] b = 0
weighed_from j (x ∷ lines) b = cond (eqb x b) (weight_of j) 0 + weighed_from (suc j) lines b

pub weighed_walk : (l : List ℕ) (b : ℕ) → length l ≡ 8 → weighed l b ≡ weighed_from 0 l b
unfolding table weighed weighed_from eight_sum
weighed_walk l b e =
    let f : weighed_from 0 (table (λ i. get_or l i 0) 8) b ≡ weighed_from 0 l b = ap (λ (m : List ℕ). weighed_from 0 m b) (table_is (λ i. get_or l i 0) 8 l e (λ i h. refl)) in
    omega arith

-- bits have different values
bit_apart : (i j : ℕ) → (i ≡ j → ⊥) → 2 ^ i ≡ 2 ^ j → ⊥
bit_apart i j n e =
    elim (dec_lt i j) [ yes y ↦ omega (arith, pow-lt {i = i} {j = j} y) | no y ↦ omega (arith, pow-lt {i = j} {j = i} (omega arith)) ]

-- a line is replaced
pub replaced_set : (l : List ℕ) (m j b : ℕ) → length l ≡ 8 → m ≡ 2 ^ j → replaced_by l m b ≡ set l j b
unfolding replaced_by
replaced_set l m j b e f =
    eight_is _ (set l j b) (length-set l j b ∙ e)
    (λ i h.
    elim (ℕ_discrete j i) [
      | yes p ↦ rw (eq-eqb m (2 ^ i) (f ∙ ap (λ (n : ℕ). 2 ^ n) p), p) (sym (get_or-set_same l i b 0 (omega arith)))
      | no n ↦ rw (ne_eqb m (2 ^ i) (λ q. bit_apart j i n (sym f ∙ q))) (sym (get_or-set_other l j i b 0 (λ q. n (sym q))))
    ])

-- a search through the lines is at line i
module _ (l : List ℕ) (i : ℕ) (h : i < length l) where
  pub line_here : (b : ℕ) → get_or l i 0 ≡ b → line_of (drop i l) b ≡ 0
  unfolding line_of
  line_here b e = rw (drop-cons l i 0 h, eq-eqb _ _ e)

  pub line_on : (b : ℕ) → (get_or l i 0 ≡ b → ⊥) → line_of (drop i l) b ≡ suc (line_of (drop (suc i) l) b)
  unfolding line_of
  line_on b e = rw (drop-cons l i 0 h, ne_eqb _ _ e)

pub line_end : (l : List ℕ) (i b : ℕ) → length l ≤ i → line_of (drop i l) b ≡ 0
unfolding line_of
line_end l i b h = rw (drop_of_length-le l {i = i} h)

-- of the first k lines, the search through all of them finds the same
pub line_take : (k : ℕ) (l : List ℕ) (b : ℕ) → k ≤ length l → line_of (take k l) b ≡ min k (line_of l b)
unfolding line_of
line_take zero l b h = omega arith
line_take (suc k) [] b h = absurd (not-suc-le-zero h)
line_take (suc k) (x ∷ l) b h =
    let r = line_take k l b (le_of_suc-le-suc h) in
    elim (ℕ_discrete x b) [ yes e ↦ rw (eq-eqb x b e) (omega arith) | no n ↦ rw (ne_eqb x b n) (omega arith) ]

module _ (k : ℕ) (l : List ℕ) (b j : ℕ) (fits : k ≤ length l) (e : j ≡ line_of l b) where
  pub line_hit : j < k → j ≡ line_of (take k l) b
  line_hit h = omega (arith, line_take k l b fits)

  pub hit_yes : j < k → hits k l b ≡ true
  unfolding hits
  hit_yes h = lt-ltb _ k (omega (arith, line_take k l b fits))

  pub hit_no : k ≤ j → hits k l b ≡ false
  unfolding hits
  hit_no h = le-ltb _ k (omega (arith, line_take k l b fits))

  pub or_found : (d : ℕ) → j < k → j ≡ line_or k l b d
  unfolding line_or
  or_found d h = rw (hit_yes h, ← line_hit h)

  pub or_other : (d : ℕ) → k ≤ j → d ≡ line_or k l b d
  unfolding line_or
  or_other d h = rw (hit_no h)

-- the value of that line's bit
pub or_bit : (k : ℕ) (l : List ℕ) (b j : ℕ) → cond (hits k l b) (2 ^ line_of (take k l) b) (2 ^ j) ≡ 2 ^ line_or k l b j
unfolding line_or
or_bit k l b j = go (hits k l b)
  where
    go : (t : Bool) → cond t (2 ^ line_of (take k l) b) (2 ^ j) ≡ 2 ^ cond t (line_of (take k l) b) j
    go true = refl
    go false = refl

-- the line is one of the k where the other is
pub or_low : (k : ℕ) (l : List ℕ) (b j : ℕ) → j < k → line_or k l b j < k
unfolding line_or hits
or_low k l b j h = go (ltb (line_of (take k l) b) k) refl
  where
    go : (t : Bool) → ltb (line_of (take k l) b) k ≡ t → cond t (line_of (take k l) b) j < k
    go true e = ltb-true (line_of (take k l) b) k e
    go false e = h

-- so an NMRU access goes to one of the k
pub nmru_low : (k : ℕ) (s : SetState) (b : ℕ) → s.bits + 1 < 2 ^ k → nmru_line k s b < k
unfolding nmru_line miss_line
nmru_low k s b h = or_low k s.lines b _ (or_low k s.lines none _ (victim_low k s.bits (omega arith)))

-- "no block stands in two lines", so the sum over the lines that hold b has one summand at most
rest_distinct : (x : ℕ) (l : List ℕ) → Distinct (x ∷ l) → Distinct l
rest_distinct x l a i j g e = a (suc i) (suc j) (omega arith) e

once : (x b : ℕ) (l : List ℕ) → Distinct (x ∷ l) → b ≢ none → x ≡ b → length l ≤ line_of l b
once x b l a n e =
    elim (dec_lt (line_of l b) (length l)) [
      | yes y ↦ absurd (n (sym e ∙ a 0 (suc (line_of l b)) (omega arith) (e ∙ sym (line_at l b none y))))
      | no y ↦ omega arith
    ]

pub weighed_none : (j : ℕ) (l : List ℕ) (b : ℕ) → length l ≤ line_of l b → weighed_from j l b ≡ 0
unfolding weighed_from line_of
weighed_none j [] b h = refl
weighed_none j (x ∷ l) b h =
    elim (ℕ_discrete x b) [
      | yes e ↦ absurd (omega (arith, rw (eq-eqb x b e) at h))
      | no n ↦ rw (ne_eqb x b n) (omega (arith, weighed_none (suc j) l b (omega (arith, rw (ne_eqb x b n) at h))))
    ]

pub weighed_found : (j i : ℕ) (l : List ℕ) (b : ℕ) → Distinct l → b ≢ none → line_of l b < length l → i ≡ j + line_of l b → weighed_from j l b ≡ weight_of i
unfolding weighed_from line_of
weighed_found j i [] b a n h q = absurd (not-suc-le-zero h)
weighed_found j i (x ∷ l) b a n h q =
    elim (ℕ_discrete x b) [
      | yes e ↦
          let p : j ≡ i = omega (arith, rw (eq-eqb x b e) at q) in
          rw (eq-eqb x b e) (omega (arith, ap weight_of p, weighed_none (suc j) l b (once x b l a n e)))
      | no f ↦
          let g : line_of l b < length l = omega (arith, rw (ne_eqb x b f) at h) in
          let p : i ≡ suc j + line_of l b = omega (arith, rw (ne_eqb x b f) at q) in
          rw (ne_eqb x b f) (omega (arith, weighed_found (suc j) i l b (rest_distinct x l a) n g p))
    ]

-- the weights of the eight lines: none is 0, and they fall
pub weight_bit : (j : ℕ) → j < 8 → (0 < weight_of j) × (255 - weight_of j ≡ 2 ^ j)
unfolding weight_of
weight_bit j h = let p = pow_mono {i = j} {j = 7} (omega arith) in (omega arith, omega arith)

pub weight_less : (i j : ℕ) → i < 8 → j < i → weight_of i < weight_of j
unfolding weight_of
weight_less i j h g = omega (arith, pow-lt {i = j} {j = i} g, pow_mono {i = i} {j = 7} (omega arith))

weight_more : (i j : ℕ) → i ≤ j → weight_of j ≤ weight_of i
unfolding weight_of
weight_more i j g = omega (arith, pow_mono {i = i} {j = j} g)

-- the lines 0 to j of a shift are what stood one before, the others what stood there
pushed_low : (j : ℕ) (l : List ℕ) (b i : ℕ) → j < length l → i ≤ j → get_or (pushed j l b) i 0 ≡ get_or (b ∷ l) i 0
unfolding pushed
pushed_low j [] b i h g = absurd (not-suc-le-zero h)
pushed_low j (x ∷ l) b zero h g = refl
pushed_low zero (x ∷ l) b (suc i) h g = absurd (not-suc-le-zero g)
pushed_low (suc j) (x ∷ l) b (suc i) h g = pushed_low j l x i (le_of_suc-le-suc h) (le_of_suc-le-suc g)

pushed_high : (j : ℕ) (l : List ℕ) (b i : ℕ) → j < length l → j < i → get_or (pushed j l b) i 0 ≡ get_or l i 0
unfolding pushed
pushed_high j [] b i h g = absurd (not-suc-le-zero h)
pushed_high j (x ∷ l) b zero h g = absurd (not-suc-le-zero g)
pushed_high zero (x ∷ l) b (suc i) h g = refl
pushed_high (suc j) (x ∷ l) b (suc i) h g = pushed_high j l x i (le_of_suc-le-suc h) (le_of_suc-le-suc g)

length_pushed : (n : ℕ) (l : List ℕ) (b : ℕ) → n < length l → length (pushed n l b) ≡ length l
unfolding pushed
length_pushed n l b h = rw (length-append, length-take, length-drop) (omega arith)

-- "A hit at line j moves the block to line 0 and lines 0 to j-1 one down."
pub moved_pushed : (j n : ℕ) (l : List ℕ) (b : ℕ) → length l ≡ 8 → j < 8 → n ≡ suc j → moved_by (kept_from n) l b ≡ pushed j l b
unfolding moved_by kept_from
moved_pushed j n l b e h q =
    eight_is _ (pushed j l b) (length_pushed j l b (omega arith) ∙ e)
    (λ i g.
    rw (get_d_table (λ i. cond (ltb i n) 0 none) 8 i 0 g)
    (elim (dec_lt i n) [
      | yes y ↦ rw (lt-ltb i n y) (sym (pushed_low j l b i (omega arith) (omega arith)))
      | no y ↦ rw (le-ltb i n (omega arith)) (sym (pushed_high j l b i (omega arith) (omega arith)))
    ]))

-- with the weight of line j the lines after it stay too, with weight 0 none besides
pub kept_none : (n : ℕ) → kept_after 0 (kept_from n) ≡ kept_from n
unfolding kept_after kept_from
kept_none n =
    eight_table _ _ (λ i g. rw (le-ltb (weight_of i) 0 (omega arith)) (get_d_table (λ i. cond (ltb i n) 0 none) 8 i 0 g))

pub kept_line : (w j n : ℕ) → w ≡ weight_of j → kept_after w (kept_from n) ≡ kept_from (min (suc j) n)
unfolding kept_after kept_from
kept_line w j n e =
    eight_table _ _
    (λ i g.
    rw (get_d_table (λ i. cond (ltb i n) 0 none) 8 i 0 g)
    (elim (dec_lt j i) [
      | yes y ↦ rw (lt-ltb (weight_of i) w (omega (arith, weight_less i j g y)), le-ltb i (min (suc j) n) (omega arith))
      | no y ↦
          rw (le-ltb (weight_of i) w (omega (arith, weight_more i j (omega arith))))
          (elim (dec_lt i n) [
            | yes z ↦ rw (lt-ltb i n z, lt-ltb i (min (suc j) n) (omega arith))
            | no z ↦ rw (le-ltb i n (omega arith), le-ltb i (min (suc j) n) (omega arith))
          ])
    ]))

-- the mask while it is made: the lines below n, those from n to i-1, and the others
unfoldable pub made : ℕ → ℕ → ℕ → ℕ
made n i j = cond (ltb j n) 0 (cond (ltb j i) none 0)

pub made_start : (n : ℕ) → table (λ j. 0) 8 ≡ table (made n n) 8
unfolding made
made_start n =
    same_table _ _ 8
    (λ j h. elim (dec_lt j n) [ yes y ↦ rw (lt-ltb j n y) | no y ↦ rw (le-ltb j n (omega arith)) ])

pub made_more : (n i : ℕ) (l : List ℕ) → n ≤ i → i < 8 → l ≡ table (made n i) 8 → set l i none ≡ table (made n (i + 1)) 8
unfolding made
made_more n i l h g e =
    sym
    (table_is (made n (i + 1)) 8 (set l i none) (length-set l i none ∙ ap length e ∙ length_table (made n i) 8)
    (λ j q.
    elim (ℕ_discrete j i) [
      | yes p ↦
          rw (p, le-ltb i n h, lt-ltb i (i + 1) (omega arith))
          (sym (get_or-set_same l i none 0 (omega (arith, ap length e, length_table (made n i) 8))))
      | no p ↦
          rw (get_or-set_other l i j none 0 p, e, get_d_table (made n i) 8 j 0 q)
          (elim (dec_lt j i) [
            | yes y ↦ rw (lt-ltb j i y, lt-ltb j (i + 1) (omega arith))
            | no y ↦ rw (le-ltb j i (omega arith), le-ltb j (i + 1) (omega arith))
          ])
    ]))

pub made_end : (n i : ℕ) → 8 ≤ i → table (made n i) 8 ≡ kept_from n
unfolding made kept_from
made_end n i h = same_table _ _ 8 (λ j q. rw (lt-ltb j i (omega arith)))
