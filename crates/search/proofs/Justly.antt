-- A step of the search keeps all that is said justified: what is put into a row is gathered at its node.
use Prim.Native.Nat.{ℕ, zero, suc, ◌%◌, ◌≤◌, ◌<◌}
use native.Mathlib.Omega.{arith}
use native.Mathlib.Decide.{dec_lt}
use mathlib.Core.Path.{◌≡◌, refl, sym, ◌∙◌, subst}
use mathlib.Core.Logic.{◌≢◌, ◌⊎◌, inl, inr, ⊎_elim}
use mathlib.Core.Bool.{Bool, cond}
use mathlib.Core.List.{List}
use lib.ListN.{length, get_or, get_or-eq_default}
use Rattle.paper.specs.Machines.{none}
use Rattle.paper.specs.Lists.{table}
use Rattle.paper.specs.Cases.{Fact, Case}
use Rattle.paper.specs.Facts.{held}
use Rattle.paper.specs.Demands.{EdgeInside, Gathered}
use Rattle.paper.specs.Finding.{AtLeast}
use Rattle.paper.proofs.Says.{Says, holds, fails, says_eq, says_not, says_and}
use Rattle.paper.proofs.TableLaws.{length_table}
use Rattle.paper.proofs.RowLaws.{held_set, held_other, held_low, same_set_says}
use Rattle.paper.proofs.Meaning.{Holds, SoundRow}
use Rattle.theory.proofs.Blocks.{blocks, blocks_rising, mem_holds, at_mem, rising_at, mem_table, table_rising}
use Rattle.theory.proofs.Decided.{Reached, reached_first, reached_on, gathered_on, gathered_new}
use Rattle.theory.proofs.Enough.{plain_row, plain_sound}
use Rattle.theory.proofs.SameRow.{same_sound}
use Rattle.theory.proofs.Justified.{Justified}
use Rattle.search.specs.Steps.{number_of, slot_of, row_by, plain, placed, grown, opened, put, put_slots, is_b, counts, handed, stepped}
use Rattle.search.proofs.Placing.{plain_number, plain_same, Among, grown_is, grown_slot, Placeable, placed_only, placed_rising, placed_free}
use Rattle.search.proofs.Ranks.{Put, same, more, full, put_is}

-- What is known of the fact that is sought: blocks have 16 bits, and the limit is one of a cache.
pub record Asked (e : Case) (t : Fact) : Type 0 where
  pub small : (v : ℕ) → e.block v < 65536
  pub low : 1 ≤ t.limit
  pub high : t.limit ≤ 8

module _ (e : Case) (t : Fact) where
  -- a sound row holds what stands in its slots, but for none
  pub among_holds : (r : List ℕ) → SoundRow e t (row_by r) → (c : ℕ) → c ≢ none → Among r c → Holds (row_by r) c
  among_holds r z c n (k, h, p) =
      elim (dec_lt k (held (row_by r))) [ yes l ↦ (k, l, p) | no m ↦ absurd (n (sym p ∙ z.free k (omega arith) h)) ]

  pub holds_among : (r : List ℕ) (c : ℕ) → Holds (row_by r) c → Among r c
  holds_among r c h = (h.0, omega (arith, h.1, held_low (row_by r)), h.2)

  -- rows without blocks hold none
  bare : (n : ℕ) → (n ≡ 0) ⊎ (8 ≤ n) → held (row_by (plain n)) ≡ 0
  bare n (inl p) = let z = plain_number n in omega (arith, held_set (row_by (plain n)) (omega arith))
  bare n (inr h) = let z = plain_number n in held_other (row_by (plain n)) (omega arith)

  pub nine_justified : (v : ℕ) → Justified e t v (row_by (plain 9))
  nine_justified v =
      record {
        row = same_sound e t t.row _ _ (plain_same 9) (plain_sound e t 9 (omega arith) (omega arith));
        since = λ n. absurd (n (plain_number 9));
        only = λ c m. absurd (omega (arith, m.1, bare 9 (inr (omega arith))));
        many = λ p. absurd (omega (arith, plain_number 9));
      }

  module _ (ask : Asked e t) (v : ℕ) (arrived : Reached e t v) where
    empty_justified : Justified e t v (row_by (plain 0))
    empty_justified =
        let z = held_set (plain_row 0) (omega arith) in
        record {
          row =
              same_sound e t t.row _ _ (plain_same 0)
              (record {
                number = omega arith;
                few = λ s. ask.low;
                others = λ k i. absurd (omega arith);
                rising = λ k i. absurd (omega arith);
                free = λ k i j. refl;
              });
          since = λ n. arrived;
          only = λ c m. absurd (omega (arith, m.1, bare 0 (inl refl)));
          many = λ p. absurd (omega (arith, plain_number 0));
        }

    pub many_justified : AtLeast e t t.limit v → Justified e t v (row_by (plain 8))
    many_justified a =
        record {
          row = same_sound e t t.row _ _ (plain_same 8) (plain_sound e t 8 (omega arith) (omega arith));
          since = λ n. arrived;
          only = λ c m. absurd (omega (arith, m.1, bare 8 (inr (omega arith))));
          many = λ p. a;
        }

    -- a gathered block is a block
    block_low : (c : ℕ) → Gathered e t v c → c < none
    block_low c g = omega (arith, ask.small g.node, g.fetches, g.other.1)

    -- c put in its place among gathered blocks
    placed_gathered : (c : ℕ) → Gathered e t v c → (old : ℕ → ℕ) (n : ℕ) → Placeable old n c → ((k : ℕ) → k < n → Gathered e t v (old k)) →
        (k : ℕ) → k < suc n → Gathered e t v (placed old c k)
    placed_gathered c g old n p all k h =
        ⊎_elim (λ q. subst (Gathered e t v) (sym q) g) (λ q. subst (Gathered e t v) q.2 (all q.0 q.1)) (placed_only old n c p k h)

    -- A gathered block more, for a row with a set.
    module _ (c : ℕ) (g : Gathered e t v c) (r : List ℕ) (set : number_of r < 8) (j : Justified e t v (row_by r)) (absent : ¬ Among r c) where
      abbrev n : ℕ
      n = number_of r

      all_held : held (row_by r) ≡ n
      all_held = held_set (row_by r) set

      own : (k : ℕ) → k < n → Holds (row_by r) (slot_of r k)
      own k h = (k, omega (arith, all_held), refl)

      new : (x : ℕ) → Holds (row_by r) x → x ≢ c
      new x h p = absent (holds_among r c (rw p at h))

      in_slots : n < 7 → Placeable (slot_of r) n c
      in_slots h =
          record {
            rising = λ k l. j.row.rising k (omega (arith, all_held));
            block = λ k l. block_low _ (j.only _ (own k l));
            free = j.row.free n (omega (arith, all_held)) h;
            small = block_low c g;
            new = λ k l. new _ (own k l);
          }

      more_justified : suc n < t.limit → Justified e t v (row_by (grown r c))
      more_justified h =
          let high = ask.high in
          let number = grown_is r c in
          let all = held_set (row_by (grown r c)) (omega arith) in
          let p = in_slots (omega arith) in
          record {
            row =
                record {
                  number = omega arith;
                  few = λ s. omega arith;
                  others = λ k i. (slot_gathered p k (omega arith) (omega arith)).other;
                  rising = λ k i. omega (arith, grown_slot r c k (omega arith), grown_slot r c (suc k) (omega arith), placed_rising _ _ _ p k (omega arith));
                  free = λ k i l. slot_free p k (omega arith) l;
                };
            since = λ q. arrived;
            only = λ x i. subst (Gathered e t v) i.2 (slot_gathered p i.0 (omega (arith, i.1)) (omega (arith, i.1)));
            many = λ q. absurd (omega arith);
          }
        where
          slot_gathered : Placeable (slot_of r) n c → (k : ℕ) → k < suc n → k < 7 → Gathered e t v (slot_of (grown r c) k)
          slot_gathered p k l m = subst (Gathered e t v) (sym (grown_slot r c k m)) (placed_gathered c g (slot_of r) n p (λ i q. j.only _ (own i q)) k l)

          slot_free : Placeable (slot_of r) n c → (k : ℕ) → suc n ≤ k → k < 7 → slot_of (grown r c) k ≡ none
          slot_free p zero l m = absurd (omega arith)
          slot_free p (suc k) l m = grown_slot r c (suc k) m ∙ placed_free _ _ _ p k (j.row.free k (omega (arith, all_held)) (omega arith))

      -- the row's blocks and c, whether or not there is a slot for all
      abbrev held_blocks : List ℕ
      held_blocks = blocks (row_by r)

      at : (k : ℕ) → k < length held_blocks → Holds (row_by r) (get_or held_blocks k none)
      at k h = mem_holds (row_by r) _ (at_mem held_blocks k h)

      in_list : Placeable (λ k. get_or held_blocks k none) (length held_blocks) c
      in_list =
          record {
            rising = rising_at held_blocks (blocks_rising (row_by r) j.row.rising);
            block = λ k l. block_low _ (j.only _ (at k l));
            free = get_or-eq_default held_blocks none (omega arith);
            small = block_low c g;
            new = λ k l. new _ (at k l);
          }

      full_justified : t.limit ≤ suc n → Justified e t v (row_by (plain 8))
      full_justified h =
          let slots = placed (λ k. get_or held_blocks k none) c in
          let long = length held_blocks in
          many_justified
          (record {
            blocks = table slots (suc long);
            rising = table_rising slots (suc long) (placed_rising _ _ _ in_list);
            many = omega (arith, length_table slots (suc long), length_table (slot_of r) (held (row_by r)), all_held);
            gathered = λ x m.
                let i = mem_table slots (suc long) x m in
                subst (Gathered e t v) i.2 (placed_gathered c g _ _ in_list (λ k l. j.only _ (at k l)) i.0 i.1);
          })

    -- a row to which b has come, and what is put into it
    abbrev Open : List ℕ → Type 0
    Open r = Justified e t v (row_by r) × (number_of r ≢ 9)

    put_justified : (c : ℕ) → Gathered e t v c → (r s : List ℕ) → Open r → Put t.limit r c s → Open s
    put_justified c g r s j (same h) = j
    put_justified c g r s j (more n m h) =
        let set : number_of r < 8 = omega (arith, j.0.row.number, j.1) in
        (more_justified c g r set j.0 m h, λ p. omega (arith, grown_is r c, ask.high))
    put_justified c g r s j (full n m h) =
        let set : number_of r < 8 = omega (arith, j.0.row.number, j.1) in
        (full_justified c g r set j.0 m h, λ p. omega (arith, plain_number 8))

    pub puts_justified : (r s : List ℕ) (n : ℕ) → ((i : ℕ) → i < n → Gathered e t v (slot_of r i)) → Open s → Open (put_slots t.limit r s n)
    unfolding put_slots
    puts_justified r s zero g j = j
    puts_justified r s (suc n) g j =
        put_justified (slot_of r n) (g n (omega arith)) _ _ (puts_justified r s n (λ i h. g i (omega arith)) j) (put_is t.limit (put_slots t.limit r s n) (slot_of r n))

    opened_row : (s : List ℕ) → Justified e t v (row_by s) → Open (opened s)
    unfolding opened
    opened_row s j = go (says_eq (number_of s) 9)
      where
        go : {b : Bool} → Says (number_of s ≡ 9) b → Open (cond b (plain 0) s)
        go (holds p) = (empty_justified, λ q. omega (arith, plain_number 0))
        go (fails n) = (j, n)

  -- "u fetches b"
  pub b_says : (x : ℕ) → Says (x ≡ t.block) (is_b e t x)
  b_says x = says_eq _ _

  -- "u's block where u fetches one of b's set"
  pub counts_says : (x : ℕ) → Says ((x ≢ none) × (x % e.sets ≡ t.block % e.sets)) (counts e t x)
  unfolding counts
  counts_says x = says_and (says_not (says_eq x none)) (same_set_says e x t.block)

  -- One step keeps all that is said justified.
  module _ (ask : Asked e t) (u v : ℕ) (d : EdgeInside e t u v) (r s : List ℕ) (j : Justified e t u (row_by r)) (i : Justified e t v (row_by s)) where
    abbrev x : ℕ
    x = e.block u

    handed_justified : x ≢ t.block → number_of r ≢ 9 → number_of r ≢ 8 → Justified e t v (row_by (handed e t x r (opened s)))
    unfolding handed
    handed_justified p q m = go (counts_says x)
      where
        reached : Reached e t v
        reached = reached_on e t d p (j.since q)

        set : number_of r < 8
        set = omega (arith, j.row.number)

        all : Open ask v reached (put_slots t.limit r (opened s) (number_of r))
        all =
            puts_justified ask v reached r (opened s) (number_of r)
            (λ k l. gathered_on e t d p _ (j.only _ (k, omega (arith, held_set (row_by r) set), refl))) (opened_row ask v reached s i)

        go : {b : Bool} → Says ((x ≢ none) × (x % e.sets ≡ t.block % e.sets)) b →
            Justified e t v (row_by (cond b (put t.limit (put_slots t.limit r (opened s) (number_of r)) x) (put_slots t.limit r (opened s) (number_of r))))
        go (holds o) = (put_justified ask v reached x (gathered_new e t d (p, o.0, o.1) (j.since q)) _ _ all (put_is t.limit _ x)).0
        go (fails o) = all.0

    pub step_justified : Justified e t v (row_by (stepped e t x r s))
    unfolding stepped
    step_justified = go (says_eq (number_of s) 8) (b_says x) (says_eq (number_of r) 9) (says_eq (number_of r) 8)
      where
        go : {a b c f : Bool} → Says (number_of s ≡ 8) a → Says (x ≡ t.block) b → Says (number_of r ≡ 9) c → Says (number_of r ≡ 8) f →
            Justified e t v (row_by (cond a s (cond b (opened s) (cond c s (cond f (plain 8) (handed e t x r (opened s)))))))
        go (holds z) b c f = i
        go (fails z) (holds p) c f = (opened_row ask v (reached_first e t d p) s i).0
        go (fails z) (fails p) (holds q) f = i
        go (fails z) (fails p) (fails q) (holds m) =
            let a = j.many m in
            many_justified ask v (reached_on e t d p (j.since q))
            (record { blocks = a.blocks; rising = a.rising; many = a.many; gathered = λ c k. gathered_on e t d p c (a.gathered c k) })
        go (fails z) (fails p) (fails q) (fails m) = handed_justified p q m
