-- What the tests on a set's state say: offered, hits, legal. A line past the last counts as empty.
use Prim.Native.Nat.{ℕ, zero, suc, ◌+◌, ◌-◌, ◌^◌, ◌<◌, ◌≤◌}
use mathlib.Core.Path.{◌≡◌, refl, sym, ◌∙◌, ap}
use mathlib.Core.Logic.{◌≢◌}
use mathlib.Core.Bool.{Bool, true, false, cond, ◌&&◌}
use mathlib.Core.List.{List, [], ◌∷◌}
use native.Mathlib.Decide.{ℕ_discrete}
use native.Mathlib.Omega.{arith}
use borrow.Author.Tests.{eq-eqb, ne_eqb}
use lib.Dec.{leb, ltb}
use lib.ListN.{length, get_or, take, drop}
use lib.Pow.{pow_pos}
use lib.Seq.{get_or-take, get_or-drop, length-take-le}
use Rattle.paper.specs.declared.SetState.{SetState}
use Rattle.paper.specs.Policies.{ways_from, tree_ways, tree, parts_of}
use Rattle.paper.specs.Machines.{none, empty_set, line_of, hits, line_or, miss_line, offered, set_count, in_range, stands, distinct, empty, legal_bits, legal, bit_at, victim, tree_victim, tree_line}
use Rattle.paper.proofs.Says.{Says, holds, fails, says_lt, says_le, says_eq, says_and, says_or, says_as, says_is, says_true}
use Rattle.paper.proofs.Bits.{victim_ones, victim_low, victim_zero, few_bits}
use Rattle.paper.proofs.TreeLaws.{TreeWays, tree_range}
use Rattle.paper.proofs.PolicyLaws.{by_policy}

-- "with 2, 4 or 8 ways"
pub says_tree_ways : (k : ℕ) → Says (TreeWays k) (tree_ways k)
says_tree_ways k = says_or (says_eq k 2) (says_or (says_eq k 4) (says_eq k 8))

-- "A set has k ways (LRU, FIFO 1 to 8; NMRU 2 to 8)"; the tree 2, 4 or 8
pub record Offered (policy k : ℕ) : Type 0 where
  pub known : policy ≤ 3
  pub most : k ≤ 8
  pub least : 1 ≤ k
  pub two : policy ≡ 2 → 2 ≤ k
  pub tree : policy ≡ 3 → TreeWays k

pub says_offered : (policy k : ℕ) → Says (Offered policy k) (offered policy k)
unfolding offered
says_offered policy k =
    by_policy (λ P. Says (Offered policy k) (leb policy 3 && P.ways k)) policy
    (λ e. from_one (omega arith))
    (λ e. from_one (omega arith))
    (λ e.
    says_as
    (λ h. record { known = h.0; most = h.1.0; least = omega (arith, h.1.1); two = λ p. h.1.1; tree = λ p. absurd (omega arith) })
    (λ o. (o.known, (o.most, o.two e)))
    (says_and (says_le policy 3) (says_and (says_le k 8) (says_le 2 k))))
    (λ e.
    says_as
    (λ h.
    let r = tree_range k h.1 in
    record { known = h.0; most = r.1; least = omega (arith, r.0); two = λ p. r.0; tree = λ p. h.1 })
    (λ o. (o.known, o.tree (omega (arith, o.known))))
    (says_and (says_le policy 3) (says_tree_ways k)))
  where
    from_one : policy < 2 → Says (Offered policy k) (leb policy 3 && ways_from 1 k)
    from_one n =
        says_as
        (λ h. record { known = h.0; most = h.1.0; least = h.1.1; two = λ p. absurd (omega arith); tree = λ p. absurd (omega arith) })
        (λ o. (o.known, (o.most, o.least)))
        (says_and (says_le policy 3) (says_and (says_le k 8) (says_le 1 k)))

-- "With S sets (1 to 64)"
pub says_sets : (sets : ℕ) → Says ((0 < sets) × (sets ≤ 64)) (set_count sets)
unfolding set_count
says_sets sets = says_and (says_lt 0 sets) (says_le sets 64)

pub says_range : (policy k sets : ℕ) → Says (Offered policy k × ((0 < sets) × (sets ≤ 64))) (in_range policy k sets)
unfolding in_range
says_range policy k sets = says_and (says_offered policy k) (says_sets sets)

-- the line of a block: it holds the block, and no line before it does
pub line_at : (l : List ℕ) (b d : ℕ) → line_of l b < length l → get_or l (line_of l b) d ≡ b
unfolding line_of
line_at [] b d h = absurd (omega arith)
line_at (x ∷ l) b d h =
    elim (ℕ_discrete x b) [ yes e ↦ rw (eq-eqb x b) e | no n ↦ rw (ne_eqb x b) (line_at l b d (omega (arith, rw (ne_eqb x b n) at h))) ]

pub line_least : (l : List ℕ) (b d i : ℕ) → i < length l → get_or l i d ≡ b → line_of l b ≤ i
unfolding line_of
line_least [] b d i h e = absurd (omega arith)
line_least (x ∷ l) b d zero h e = rw (eq-eqb x b) (omega arith)
line_least (x ∷ l) b d (suc i) h e =
    elim (ℕ_discrete x b) [ yes p ↦ rw (eq-eqb x b) (omega arith) | no n ↦ rw (ne_eqb x b) (omega (arith, line_least l b d i (omega arith) e)) ]

-- b stands in one of the k ways
pub says_hits : (k : ℕ) (l : List ℕ) (b : ℕ) → k ≤ length l → Says ((i : ℕ) × (i < k) × (get_or l i none ≡ b)) (hits k l b)
unfolding hits
says_hits k l b h =
    let t = take k l in
    let e = length-take-le k l h in
    says_as
    (λ g. (line_of t b, g, sym (get_or-take k l (line_of t b) none g) ∙ line_at t b none (omega arith)))
    (λ r. omega (arith, r.1, line_least t b none r.0 (omega (arith, r.1)) (get_or-take k l r.0 none r.1 ∙ r.2)))
    (says_lt (line_of t b) k)

says_stands : (l : List ℕ) (b : ℕ) → b ≢ none → Says ((i : ℕ) × (get_or l i none ≡ b)) (stands l b)
unfolding stands
says_stands [] b n = fails (λ r. n (sym r.1))
says_stands (x ∷ l) b n = elim (ℕ_discrete x b) [ yes e ↦ rw (eq-eqb x b) (holds (0, e)) | no f ↦ rw (ne_eqb x b) (says_as (λ r. (suc r.0, r.1)) (λ r. go f r.0 r.1) (says_stands l b n)) ]
  where
    go : x ≢ b → (i : ℕ) → get_or (x ∷ l) i none ≡ b → (i : ℕ) × (get_or l i none ≡ b)
    go f zero e = absurd (f e)
    go f (suc i) e = (i, e)

-- "no block stands in two lines"
abbrev pub Distinct : List ℕ → Type 0
Distinct l = (i j : ℕ) → i < j → get_or l i none ≡ get_or l j none → get_or l i none ≡ none

cons_distinct : (x : ℕ) (l : List ℕ) → ((j : ℕ) → x ≡ get_or l j none → x ≡ none) → Distinct l → Distinct (x ∷ l)
cons_distinct x l h a i zero g e = absurd (omega arith)
cons_distinct x l h a zero (suc j) g e = h j e
cons_distinct x l h a (suc i) (suc j) g e = a i j (omega arith) e

pub says_distinct : (l : List ℕ) → Says (Distinct l) (distinct l)
unfolding distinct
says_distinct [] = holds (λ i j g e. refl)
says_distinct (x ∷ l) =
    elim (ℕ_discrete x none) [
      | yes e ↦ rw (eq-eqb x none) (says_as (cons_distinct x l (λ j g. e)) rest (says_distinct l))
      | no n ↦ rw (ne_eqb x none) (go n (stands l x) (says_stands l x n) (says_distinct l))
    ]
  where
    rest : Distinct (x ∷ l) → Distinct l
    rest a i j g e = a (suc i) (suc j) (omega arith) e

    go : x ≢ none → (t : Bool) → Says ((i : ℕ) × (get_or l i none ≡ x)) t → Says (Distinct l) (distinct l) → Says (Distinct (x ∷ l)) (cond t false (distinct l))
    go n true (holds r) s = fails (λ a. n (a 0 (suc r.0) (omega arith) (sym r.1)))
    go n false (fails f) s = says_as (cons_distinct x l (λ j g. absurd (f (j, sym g)))) rest s

-- "the lines from k on are empty"
pub says_empty : (l : List ℕ) → Says ((i : ℕ) → get_or l i none ≡ none) (empty l)
unfolding empty
says_empty [] = holds (λ i. refl)
says_empty (x ∷ l) =
    elim (ℕ_discrete x none) [ yes e ↦ rw (eq-eqb x none) (says_as (more e) (λ h i. h (suc i)) (says_empty l)) | no n ↦ rw (ne_eqb x none) (fails (λ h. n (h 0))) ]
  where
    more : x ≡ none → ((i : ℕ) → get_or l i none ≡ none) → (i : ℕ) → get_or (x ∷ l) i none ≡ none
    more e h zero = e
    more e h (suc i) = h i

-- "the bits are 0 for LRU and FIFO; for NMRU the bits from k on are 0 and at least one of the low k is 0"; the tree's "legal state has bits 0 from k-1 on". A policy above its 3 does not occur.
pub record LegalBits (policy k bits : ℕ) : Type 0 where
  pub zeros : policy < 2 → bits ≡ 0
  pub few : policy ≡ 2 → bits < 2 ^ k
  pub free : policy ≡ 2 → (i : ℕ) × (i < k) × (bit_at bits i ≡ 0)
  pub low : 3 ≤ policy → bits < 2 ^ (k - 1)

-- for NMRU that is one test, as the definition has it
few_legal : (policy k bits : ℕ) → policy ≡ 2 → bits < 2 ^ k - 1 → LegalBits policy k bits
few_legal policy k bits e h =
    record {
      zeros = λ n. absurd (omega arith);
      few = λ p. omega arith;
      free = λ p. (victim k bits, victim_low k bits h, victim_zero k bits h);
      low = λ n. absurd (omega arith);
    }

pub legal_few : (policy k bits : ℕ) → policy ≡ 2 → LegalBits policy k bits → bits < 2 ^ k - 1
legal_few policy k bits e b = few_bits k bits (b.free e).0 (b.few e) (b.free e).1 (b.free e).2

-- and for the tree
low_legal : (policy k bits : ℕ) → 3 ≤ policy → bits < 2 ^ (k - 1) → LegalBits policy k bits
low_legal policy k bits e h =
    record { zeros = λ n. absurd (omega arith); few = λ p. absurd (omega arith); free = λ p. absurd (omega arith); low = λ p. h }

-- and for LRU and FIFO
says_zero : (policy k bits : ℕ) → policy < 2 → Says (LegalBits policy k bits) (ltb bits 1)
says_zero policy k bits n =
    says_as
    (λ h. record { zeros = λ p. omega arith; few = λ e. absurd (omega arith); free = λ e. absurd (omega arith); low = λ e. absurd (omega arith) })
    (λ b. omega (arith, b.zeros n))
    (says_lt bits 1)

says_bits : (policy k bits : ℕ) → Says (LegalBits policy k bits) (legal_bits policy k bits)
unfolding legal_bits
says_bits policy k bits =
    by_policy (λ P. Says (LegalBits policy k bits) (ltb bits (P.bits k))) policy
    (λ e. says_zero policy k bits (omega arith))
    (λ e. says_zero policy k bits (omega arith))
    (λ e. says_as (few_legal policy k bits e) (legal_few policy k bits e) (says_lt bits (2 ^ k - 1)))
    (λ h. says_as (λ l. low_legal policy k bits h (omega (arith, l))) (λ b. omega (arith, b.low h)) (says_lt bits (tree.bits k)))

-- For every policy those below a number are legal, and no others.
module _ (policy k bits : ℕ) where
  pub legal_below : LegalBits policy k bits → bits < (parts_of policy).bits k
  unfolding legal_bits
  legal_below b = says_true (says_lt bits ((parts_of policy).bits k)) (says_is (says_bits policy k bits) b)

  pub below_legal : bits < (parts_of policy).bits k → LegalBits policy k bits
  unfolding legal_bits
  below_legal l = says_true (says_bits policy k bits) (says_is (says_lt bits ((parts_of policy).bits k)) l)

pub record Legal (policy k : ℕ) (s : SetState) : Type 0 where
  pub apart : Distinct s.lines
  pub over : (i : ℕ) → k ≤ i → get_or s.lines i none ≡ none
  pub bits : LegalBits policy k s.bits

pub says_legal : (policy k : ℕ) (s : SetState) → Says (Legal policy k s) (legal policy k s)
unfolding legal
says_legal policy k s =
    says_as
    (λ h.
    record {
      apart = h.0;
      over = λ i g.
          let e : k + (i - k) ≡ i = omega arith in
          rw e at (sym (get_or-drop k s.lines (i - k) none) ∙ h.1.0 (i - k));
      bits = h.1.1;
    })
    (λ h. (h.apart, (λ i. get_or-drop k s.lines i none ∙ h.over (k + i) (omega arith), h.bits)))
    (says_and (says_distinct s.lines) (says_and (says_empty (drop k s.lines)) (says_bits policy k s.bits)))

-- "all sets start empty with bits 0", and that is legal
pub empty_legal : (policy k : ℕ) → 1 ≤ k → legal policy k empty_set ≡ true
unfolding empty bit_at
empty_legal policy k h =
    let blank = says_true (says_empty empty_set.lines) refl in
    says_is
    (says_legal policy k empty_set)
    (record {
      apart = λ i j g e. blank i;
      over = λ i g. blank i;
      bits = record { zeros = λ n. refl; few = λ e. pow_pos k; free = λ e. (0, h, refl); low = λ e. pow_pos (k - 1) };
    })

-- In a legal state "the lowest line whose bit is 0" is among the k, and the definition finds it.
pub victim_lowest :
    (k : ℕ) (s : SetState)
    → legal 2 k s ≡ true
    → (victim k s.bits < k) × (bit_at s.bits (victim k s.bits) ≡ 0) × ((i : ℕ) → i < victim k s.bits → bit_at s.bits i ≡ 1)
victim_lowest k s h =
    let few = legal_few 2 k s.bits refl (says_true (says_legal 2 k s) h).bits in
    (victim_low k s.bits few, victim_zero k s.bits few, victim_ones k s.bits)

-- "the lowest empty line, whatever its bit says", and "bits only when no line is empty": what the definition of a missed block's line says.
pub data Missed (k : ℕ) (s : SetState) (j : ℕ) : Type 0 where
  fills : j < k → get_or s.lines j none ≡ none → ((i : ℕ) → i < j → get_or s.lines i none ≢ none) → Missed k s j
  clears : ((i : ℕ) → i < k → get_or s.lines i none ≢ none) → j ≡ victim k s.bits → Missed k s j

pub miss_lowest : (k : ℕ) (s : SetState) → k ≤ length s.lines → Missed k s (miss_line k s)
unfolding miss_line line_or hits
miss_lowest k s h = go (says_lt (line_of (take k s.lines) none) k)
  where
    -- no line of the k before the one that is found is empty
    before : (i : ℕ) → i < k → get_or s.lines i none ≡ none → line_of (take k s.lines) none ≤ i
    before i l e = line_least (take k s.lines) none none i (omega (arith, length-take-le k s.lines h)) (get_or-take k s.lines i none l ∙ e)

    go : {t : Bool} → Says (line_of (take k s.lines) none < k) t → Missed k s (cond t (line_of (take k s.lines) none) (victim k s.bits))
    go (holds l) =
        fills l
        (sym (get_or-take k s.lines _ none l) ∙ line_at (take k s.lines) none none (omega (arith, length-take-le k s.lines h)))
        (λ i g e. omega (arith, before i (omega arith) e))
    go (fails n) = clears (λ i g e. n (omega (arith, before i g e))) refl

-- "A miss follows the bits and takes that line, empty or not."
pub tree_miss : (k : ℕ) (s : SetState) (b : ℕ) → hits k s.lines b ≡ false → tree_line k s b ≡ tree_victim k s.bits
unfolding tree_line line_or
tree_miss k s b h = ap (λ (t : Bool). cond t (line_of (take k s.lines) b) (tree_victim k s.bits)) h
