-- A step of the search leaves the row as it is, and then the edge rule is kept, or it raises the row's rank.
use Prim.Native.Nat.{ℕ, ◌%◌, ◌≤◌, ◌<◌}
use native.Mathlib.Omega.{arith}
use mathlib.Core.Path.{◌≡◌, refl, ◌∙◌, ap, subst}
use mathlib.Core.Logic.{◌≢◌, ◌⊎◌, inl, inr, ⊎_elim}
use mathlib.Core.Bool.{Bool, cond}
use mathlib.Core.List.{List}
use Rattle.paper.specs.Machines.{none}
use Rattle.paper.specs.Cases.{Fact, Case}
use Rattle.paper.proofs.Says.{Says, holds, fails, says_eq}
use Rattle.paper.proofs.RowLaws.{held_set}
use Rattle.paper.proofs.Meaning.{SoundRow, EdgeRule}
use Rattle.search.specs.Steps.{number_of, slot_of, row_by, plain, opened, put, put_slots, handed, stepped}
use Rattle.search.proofs.Placing.{plain_number, Among}
use Rattle.search.proofs.Ranks.{rank, rank_set, rank_many, rank_nine, rank_below, put_is, put_grows, All, puts_low, puts_grow}
use Rattle.search.proofs.Justly.{Asked, among_holds, b_says, counts_says}

module _ (e : Case) (t : Fact) (ask : Asked e t) (x : ℕ) (r s : List ℕ) (a : SoundRow e t (row_by r)) (b : SoundRow e t (row_by s)) where
  abbrev k : ℕ
  k = t.limit

  abbrev rank_of : List ℕ → ℕ
  rank_of m = rank (number_of m)

  -- all that u hands on stands in the row
  abbrev Given : List ℕ → Type 0
  Given m = (number_of m ≡ 8) ⊎ (((i : ℕ) → i < number_of r → Among m (slot_of r i)) × (((x ≢ none) × (x % e.sets ≡ t.block % e.sets)) → Among m x))

  -- the row m becomes m': nothing was new, or the rank grows
  abbrev Fills : List ℕ → List ℕ → Type 0
  Fills m m' = ((m' ≡ m) × Given m) ⊎ (rank_of m < rank_of m')

  fills : (m : List ℕ) → number_of m ≤ 9 → Fills m (handed e t x r m)
  unfolding handed
  fills m low = go (counts_says e t x) (puts_grow k ask.high r m (number_of r) low)
    where
      all : List ℕ
      all = put_slots k r m (number_of r)

      last : ((put k all x ≡ all) × ((number_of all ≡ 8) ⊎ Among all x)) ⊎ (rank_of all < rank_of (put k all x))
      last = put_grows k ask.high all x _ (put_is k all x) (puts_low k ask.high r m (number_of r) low)

      with_x : All k ask.high r m (number_of r) → (number_of m ≡ 8) ⊎ Among m x → Given m
      with_x (inl p) h = inl p
      with_x (inr g) (inl p) = inl p
      with_x (inr g) (inr h) = inr (g, λ o. h)

      without_x : All k ask.high r m (number_of r) → ¬ ((x ≢ none) × (x % e.sets ≡ t.block % e.sets)) → Given m
      without_x (inl p) n = inl p
      without_x (inr g) n = inr (g, λ o. absurd (n o))

      go : {c : Bool} → Says ((x ≢ none) × (x % e.sets ≡ t.block % e.sets)) c → ((all ≡ m) × All k ask.high r m (number_of r)) ⊎ (rank_of m < rank_of all) → Fills m (cond c (put k all x) all)
      go (fails n) (inl h) = inl (h.0, without_x h.1 n)
      go (fails n) (inr h) = inr h
      go (holds o) (inl h) =
          ⊎_elim (λ w. inl (w.0 ∙ h.0, with_x h.1 (subst (λ (y : List ℕ). (number_of y ≡ 8) ⊎ Among y x) h.0 w.1))) (λ w. inr (omega (arith, ap rank_of h.0))) last
      go (holds o) (inr h) = ⊎_elim (λ w. inr (omega (arith, ap rank_of w.0))) (λ w. inr (omega arith)) last

  -- nothing changes, and the edge rule is kept; or the rank grows
  abbrev Settles : List ℕ → Type 0
  Settles s' = ((s' ≡ s) × EdgeRule e t x (row_by r) (row_by s)) ⊎ (rank_of s < rank_of s')

  -- a node to which b has come has a row other than 9
  opens : ((opened s ≡ s) × (number_of s ≢ 9)) ⊎ ((opened s ≡ plain 0) × (number_of s ≡ 9))
  unfolding opened
  opens = go (says_eq (number_of s) 9)
    where
      go : {c : Bool} → Says (number_of s ≡ 9) c → ((cond c (plain 0) s ≡ s) × (number_of s ≢ 9)) ⊎ ((cond c (plain 0) s ≡ plain 0) × (number_of s ≡ 9))
      go (holds p) = inr (refl, p)
      go (fails n) = inl (refl, n)

  -- an edge that asks nothing
  unasked : x ≢ t.block → (number_of r ≢ 9 → number_of s ≢ 8 → ⊥) → EdgeRule e t x (row_by r) (row_by s)
  unasked p n = record { after_block = λ z. absurd (p z); other = λ y c m. absurd (n c m) }

  carried : x ≢ t.block → number_of r ≢ 9 → number_of r ≢ 8 → number_of s ≢ 9 → Given s → EdgeRule e t x (row_by r) (row_by s)
  carried p q m n (inl h) = unasked p (λ c d. d h)
  carried p q m n (inr h) =
      let set : number_of r < 8 = omega (arith, a.number) in
      record {
        after_block = λ z. absurd (p z);
        other = λ y c d.
            record {
              set_before = m;
              set_after = omega (arith, b.number);
              keeps = λ i l. among_holds e t s b _ (a.others i l).1 (h.0 i (omega (arith, held_set (row_by r) set)));
              adds = λ o. among_holds e t s b x o.1 (h.1 (o.1, o.2));
            };
      }

  hands_on : x ≢ t.block → number_of r ≢ 9 → number_of r ≢ 8 → Settles (handed e t x r (opened s))
  hands_on p q m =
      ⊎_elim
      (λ o.
      ⊎_elim (λ w. inl (ap (handed e t x r) o.0 ∙ w.0, carried p q m o.1 w.1)) (λ w. inr (omega (arith, ap (λ (y : List ℕ). rank_of (handed e t x r y)) o.0)))
      (fills s b.number))
      (λ o.
      let zero = rank_nine (number_of s) o.1 in
      let number = plain_number 0 in
      let one = rank_set (number_of (plain 0)) (omega arith) in
      let same = ap (λ (y : List ℕ). rank_of (handed e t x r y)) o.0 in
      ⊎_elim (λ w. inr (omega (arith, ap rank_of w.0))) (λ w. inr (omega arith)) (fills (plain 0) (omega arith)))
      opens

  pub step_settles : Settles (stepped e t x r s)
  unfolding stepped
  step_settles = go (says_eq (number_of s) 8) (b_says e t x) (says_eq (number_of r) 9) (says_eq (number_of r) 8)
    where
      go : {c d f g : Bool} → Says (number_of s ≡ 8) c → Says (x ≡ t.block) d → Says (number_of r ≡ 9) f → Says (number_of r ≡ 8) g →
          Settles (cond c s (cond d (opened s) (cond f s (cond g (plain 8) (handed e t x r (opened s))))))
      go (holds z) d f g = inl (refl, record { after_block = λ p q. omega arith; other = λ p q m. absurd (m z) })
      go (fails z) (holds p) f g =
          ⊎_elim (λ o. inl (o.0, record { after_block = λ y. o.1; other = λ n. absurd (n p) }))
          (λ o. inr (omega (arith, rank_nine (number_of s) o.1, plain_number 0, rank_set (number_of (plain 0)) (omega (arith, plain_number 0)), ap rank_of o.0)))
          opens
      go (fails z) (fails p) (holds q) g = inl (refl, unasked p (λ c m. c q))
      go (fails z) (fails p) (fails q) (holds m) = inr (omega (arith, rank_below (number_of s) z b.number, rank_many (number_of (plain 8)) (plain_number 8)))
      go (fails z) (fails p) (fails q) (fails m) = hands_on p q m
