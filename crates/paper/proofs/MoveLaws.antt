-- The steps of the three machines, from what the parts of the code give: the weight of b's line, the shifted lines, the new bits.
use Prim.Native.Nat.{ℕ, suc, ◌+◌, ◌-◌, ◌%◌, ◌^◌, ◌<◌, ◌≤◌, min}
use native.Mathlib.Decide.{dec_lt}
use native.Mathlib.Omega.{arith}
use mathlib.Core.Path.{◌≡◌, refl, sym, ◌∙◌, ap, ap₂}
use mathlib.Core.Logic.{◌≢◌}
use mathlib.Core.Bool.{Bool, true, false, cond}
use mathlib.Core.List.{List}
use lib.ListN.{length, get_or, take, drop, set}
use lib.Dec.{ltb}
use lib.Seq.{set-get_or, get_or-drop}
use borrow.Author.Tests.{lt-ltb, le-ltb, ltb-true}
use Rattle.paper.specs.declared.SetState.{SetState}
use Rattle.paper.specs.declared.Line.{Line}
use Rattle.paper.specs.Machines.{none, line_of, hits, one_down, marked, line_or, miss_line, nmru_line, lru_step, fifo_step, nmru_step, distinct, empty, legal}
use Rattle.paper.specs.Ready.{Ready, state_of, stepped_of}
use Rattle.lines.specs.Lines.{weight_of, weighed, kept_after, moved_by, replaced_by}
use Rattle.paper.specs.Shifts.{kept_from, Bit, marked_by, line_for}
use Rattle.paper.proofs.Says.{says_true, both}
use Rattle.paper.proofs.States.{Offered, legal_few, says_legal, says_distinct, says_empty, line_at}
use Rattle.paper.proofs.LineLaws.{weighed_walk, line_take, line_hit, hit_yes, hit_no, nmru_low, weighed_none, weighed_found, weight_bit, replaced_set, moved_pushed, kept_none, kept_line, or_bit}

-- what a step on the lines asks for, of a legal state
module _ (p k : ℕ) (s : SetState) (l : legal p k s ≡ true) where
  pub legal_ready : Offered p k → Ready k s.lines
  unfolding legal
  legal_ready o =
      let d = both (distinct s.lines) _ l in
      record { low = o.least; high = o.most; beyond = (both (empty (drop k s.lines)) _ d.1).0; apart = d.0 }

  pub nmru_bits : p ≡ 2 → s.bits + 1 < 2 ^ k
  nmru_bits e = omega (arith, legal_few p k s.bits e (says_true (says_legal p k s) l).bits)

  pub tree_bits : p ≡ 3 → s.bits < 2 ^ (k - 1)
  tree_bits e = (says_true (says_legal p k s) l).bits.low (omega arith)

-- the lines from k on are empty, so a block that stands in a line stands in one of the k
among : (k : ℕ) (l : List ℕ) (b : ℕ) → Ready k l → b ≢ none → line_of l b < length l → line_of l b < k
among k l b r n h =
    elim (dec_lt (line_of l b) k) [
      | yes y ↦ y
      | no y ↦
          let j = line_of l b in
          let e : k + (j - k) ≡ j = omega arith in
          absurd (n (sym (line_at l b none h) ∙ (rw e at (sym (get_or-drop k l (j - k) none) ∙ says_true (says_empty (drop k l)) r.beyond (j - k)))))
    ]

-- w is the sum of the weights of the lines that hold b: it tells whether b stands in one, and in which
module _ (k : ℕ) (l : List ℕ) (n b w : ℕ) (r : Ready k l) (c : b ≢ none) (e : length l ≡ 8) (f : w ≡ weighed l b) where
  fits : k ≤ length l
  fits = omega (arith, r.high)

  pub found : line_of l b < 8 → (w ≡ weight_of (line_of l b)) × (line_of l b < k)
  found h =
      (f ∙ weighed_walk l b e ∙ weighed_found 0 (line_of l b) l b (says_true (says_distinct l) r.apart) c (omega arith) (omega arith), among k l b r c (omega arith))

  pub none_found : 8 ≤ line_of l b → w ≡ 0
  none_found h = f ∙ weighed_walk l b e ∙ weighed_none 0 l b (omega arith)

  hit_line : 0 < w → (w ≡ weight_of (line_of l b)) × (line_of l b < k)
  hit_line h = elim (dec_lt (line_of l b) 8) [ yes y ↦ found y | no y ↦ absurd (omega (arith, none_found (omega arith))) ]

  miss_line_lem : w ≤ 0 → 8 ≤ line_of l b
  miss_line_lem h = elim (dec_lt (line_of l b) 8) [ yes y ↦ absurd (omega (arith, (found y).0, (weight_bit (line_of l b) y).0)) | no y ↦ omega arith ]

  missed : moved_by (kept_from k) l b ≡ one_down k l b
  missed = moved_pushed (k - 1) k l b e (omega (arith, r.high, r.low)) (omega (arith, r.low))

  pub lru_took : stepped_of (moved_by (kept_after w (kept_from k)) l b) n (ltb 0 w) ≡ lru_step k (state_of l n) b
  unfolding lru_step
  lru_took =
      elim (dec_lt 0 w) [
        | yes y ↦
            let h = hit_line y in
            let z : min (suc (line_of l b)) k ≡ suc (line_of l b) = omega arith in
            rw (lt-ltb 0 w y, hit_yes k l b _ fits refl h.1, ← line_hit k l b _ fits refl h.1, kept_line w (line_of l b) k h.0, moved_pushed (line_of l b) (min (suc (line_of l b)) k) l b e (omega (arith, r.high)) z)
        | no y ↦
            let z : w ≡ 0 = omega arith in
            let h = miss_line_lem (omega arith) in
            rw (le-ltb 0 w (omega arith), hit_no k l b _ fits refl (omega (arith, r.high)), z, kept_none k, missed)
      ]

  pub fifo_hit : 0 < w → stepped_of l n true ≡ fifo_step k (state_of l n) b
  unfolding fifo_step
  fifo_hit h = rw (hit_yes k l b _ fits refl (hit_line h).1)

  pub fifo_miss : w ≤ 0 → stepped_of (moved_by (kept_from k) l b) n false ≡ fifo_step k (state_of l n) b
  unfolding fifo_step
  fifo_miss h = rw (hit_no k l b _ fits refl (omega (arith, r.high, miss_line_lem h)), missed)

  pub line_low : 0 < w → w ≤ 255
  unfolding weight_of
  line_low h = omega (arith, (hit_line h).0)

  -- a block that stands in a line stands in one of the k, whose bit its weight tells; a block that is not found stands in none of them
  pub found_hit : (m : ℕ) → 0 < w → (255 - w ≡ cond (hits k l b) (2 ^ line_of (take k l) b) m) × (true ≡ hits k l b)
  found_hit m h =
      let y = hit_line h in
      let z : 255 - w ≡ 2 ^ line_of l b = omega (arith, y.0, (weight_bit (line_of l b) (omega (arith, r.high))).1) in
      (rw (hit_yes k l b _ fits refl y.1, ← line_hit k l b _ fits refl y.1) z, sym (hit_yes k l b _ fits refl y.1))

  pub found_miss : (m : ℕ) → w ≤ 0 → (m ≡ cond (hits k l b) (2 ^ line_of (take k l) b) m) × (false ≡ hits k l b)
  found_miss m h =
      let y : hits k l b ≡ false = hit_no k l b _ fits refl (omega (arith, r.high, miss_line_lem h)) in
      (rw y, sym y)

-- a guess that is right is the line's bit
pub guess_right : (g w : ℕ) → w ≡ 255 - g % 255 → (0 < w) × (g % 255 ≡ 255 - w)
guess_right g w e = (omega arith, omega arith)

-- a line by its bit and whether the block stands there
abbrev line_by : ℕ → Bool → Line
line_by m hit = record { bit = m; hit = hit }

-- the line of an NMRU access
pub nmru_line_lem :
    (k : ℕ) (s : SetState) (b m : ℕ) (t : Line)
    → m ≡ 2 ^ miss_line k s → t.bit ≡ cond (hits k s.lines b) (2 ^ line_of (take k s.lines) b) m → t.hit ≡ hits k s.lines b → t ≡ line_for k s b
unfolding line_for nmru_line
nmru_line_lem k s b m t e f h =
    ap₂ line_by (f ∙ ap (λ (x : ℕ). cond (hits k s.lines b) (2 ^ line_of (take k s.lines) b) x) e ∙ or_bit k s.lines b (miss_line k s)) h

-- the block comes to the line that it is told: where it stands there already nothing moves
module _ (k : ℕ) (l : List ℕ) (b : ℕ) (r : Ready k l) (e : length l ≡ 8) (t : Line) (f : t.hit ≡ hits k l b) (j q : ℕ) where
  same_line : hits k l b ≡ true → set l (line_or k l b j) b ≡ l
  unfolding line_or hits
  same_line h =
      let i = line_of (take k l) b in
      let y : i < k = ltb-true i k h in
      let p : line_of l b ≡ i = omega (arith, line_take k l b (omega (arith, r.high))) in
      rw h (ap (λ (x : ℕ). set l i x) (sym (line_at l b 0 (omega (arith, r.high))) ∙ ap (λ (n : ℕ). get_or l n 0) p) ∙ set-get_or l i 0)

  pub placed_hit : t.hit ≡ true → stepped_of l q true ≡ stepped_of (set l (line_or k l b j) b) q t.hit
  placed_hit h = ap₂ (λ (x : List ℕ) (y : Bool). stepped_of x q y) (sym (same_line (sym f ∙ h))) (sym h)

  pub placed_miss : t.hit ≡ false → t.bit ≡ 2 ^ line_or k l b j → stepped_of (replaced_by l t.bit b) q false ≡ stepped_of (set l (line_or k l b j) b) q t.hit
  placed_miss h g = ap₂ (λ (x : List ℕ) (y : Bool). stepped_of x q y) (replaced_set l t.bit (line_or k l b j) b e g) (sym h)

-- an NMRU step at the access's line
module _ (k : ℕ) (s : SetState) (b : ℕ) (few : s.bits + 1 < 2 ^ k) (t : Line) (f : t ≡ line_for k s b) where
  pub bit_is : t.bit ≡ 2 ^ line_or k s.lines b (miss_line k s)
  unfolding line_for nmru_line
  bit_is = ap (λ (x : Line). x.bit) f

  pub hit_is : t.hit ≡ hits k s.lines b
  unfolding line_for
  hit_is = ap (λ (x : Line). x.hit) f

  pub line_bit : Bit k t.bit
  unfolding nmru_line
  line_bit = record { at = nmru_line k s b; low = nmru_low k s b few; is = bit_is }

  pub nmru_took : (q : ℕ) → q ≡ marked_by k s.bits t.bit → stepped_of (set s.lines (line_or k s.lines b (miss_line k s)) b) q t.hit ≡ nmru_step k s b
  unfolding nmru_step nmru_line marked_by marked
  nmru_took q g = ap₂ (stepped_of (set s.lines (line_or k s.lines b (miss_line k s)) b)) (g ∙ ap (marked_by k s.bits) bit_is) hit_is
