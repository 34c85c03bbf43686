-- The least limit with evidence, and rows that pass for it, read off a table that keeps the edge rule and is justified: one more than the most at a node that fetches b.
use Prim.Native.Nat.{ℕ, suc, ◌-◌, ◌≤◌, ◌<◌}
use native.Mathlib.Omega.{arith}
use native.Mathlib.Decide.{ℕ_discrete, dec_lt}
use mathlib.Core.Path.{◌≡◌, refl, sym, ◌∙◌}
use mathlib.Core.Logic.{◌≢◌, ◌↔◌}
use mathlib.Core.Bool.{Bool, true, cond, ◌&&◌}
use mathlib.Core.List.{List}
use lib.Dec.{ltb, leb}
use Rattle.paper.specs.Cases.{Row, Fact, Case, inside, scope_of}
use Rattle.paper.specs.Facts.{held}
use Rattle.paper.specs.Rules.{Passes}
use Rattle.paper.specs.Verdicts.{evidence_rules}
use Rattle.paper.specs.Demands.{Gathered, with_rows}
use Rattle.paper.specs.Finding.{with_limit, Arrives, AtLeast, RowSays}
use Rattle.paper.proofs.Says.{Says, holds, fails, says_lt, says_le, says_and, says_true, says_is}
use Rattle.paper.proofs.TableLaws.{length_table}
use Rattle.paper.proofs.RowLaws.{held_set, held_other, holds_says, row_law}
use Rattle.paper.proofs.Meaning.{In, Holds, SoundRow, Carried, EdgeRule}
use Rattle.theory.proofs.Sorted.{no_longer}
use Rattle.theory.proofs.Blocks.{blocks, blocks_rising, holds_mem, mem_holds}
use Rattle.theory.proofs.Enough.{plain_row, plain_sound}
use Rattle.theory.proofs.Needed.{Closed, has, few}
use Rattle.theory.proofs.SameRow.{Same, rewritten, same_back, same_holds, same_sound}
use Rattle.theory.proofs.Exact.{rows_pass, rows_few, regathered}
use Rattle.theory.proofs.Justified.{reached_arrives, Justified, held_gathered, nine_exact, set_exact}

-- A row of the table as a row for the limit l: a set of l or more is "many".
unfoldable pub lowered : ℕ → Row → Row
lowered l r = cond (ltb r.number 8 && leb l r.number) (plain_row 8) r

-- What a lowered row is: its own, not a set of l or more, or "many".
pub data Lowered (l : ℕ) (r : Row) : Row → Type 0 where
  cut : r.number < 8 → l ≤ r.number → Lowered l r (plain_row 8)
  kept : (r.number < 8 → r.number < l) → Lowered l r r

pub lowered_is : (l : ℕ) (r : Row) → Lowered l r (lowered l r)
unfolding lowered
lowered_is l r = go (says_and (says_lt r.number 8) (says_le l r.number))
  where
    go : {b : Bool} → Says ((r.number < 8) × (l ≤ r.number)) b → Lowered l r (cond b (plain_row 8) r)
    go (holds h) = cut h.0 h.1
    go (fails n) = kept (λ h. low (λ m. n (h, m)))
      where
        low : ¬ (l ≤ r.number) → r.number < l
        low m = omega arith

module _ (e : Case) (t : Fact) (l : ℕ) where
  lower_sound : (r s : Row) → Lowered l r s → SoundRow e t r → SoundRow e (with_limit t l) s
  lower_sound r s (cut h m) z = plain_sound e (with_limit t l) 8 (omega arith) (omega arith)
  lower_sound r s (kept h) z = record { number = z.number; few = h; others = z.others; rising = z.rising; free = z.free }

  -- a row whose blocks another has holds no more
  carried_le : (x : ℕ) (r s : Row) → SoundRow e t r → SoundRow e t s → Carried e t x r s → held r ≤ held s
  carried_le x r s z y c =
      omega (
        arith,
        length_table r.slot (held r),
        length_table s.slot (held s),
        no_longer (blocks s) (blocks r) (blocks_rising s y.rising) (blocks_rising r z.rising) λ b m.
            let h = mem_holds r b m in
            rw h.2 at (holds_mem s _ (c.keeps h.0 h.1)),
      )

  module _ (x : ℕ) (r s : Row) (z : SoundRow e t r) (y : SoundRow e t s) (rule : EdgeRule e t x r s) where
    after : (s' : Row) → Lowered l s s' → x ≡ t.block → s'.number ≢ 9
    after s' (cut h m) p q = omega arith
    after s' (kept h) p q = rule.after_block p q

    -- where the next row is still a set, so is this one, which holds no more
    other : (r' s' : Row) → Lowered l r r' → Lowered l s s' → x ≢ t.block → r'.number ≢ 9 → s'.number ≢ 8 → Carried e (with_limit t l) x r' s'
    other r' s' a (cut h m) p n q = absurd (q refl)
    other r' s' (cut h m) (kept h') p n q =
        let c = rule.other p (omega arith) q in
        absurd (omega (arith, carried_le x r s z y c, held_set r h, held_set s c.set_after, h' c.set_after))
    other r' s' (kept h) (kept h') p n q =
        let c = rule.other p n q in
        record { set_before = c.set_before; set_after = c.set_after; keeps = c.keeps; adds = c.adds }

    lower_rule : (r' s' : Row) → Lowered l r r' → Lowered l s s' → EdgeRule e (with_limit t l) x r' s'
    lower_rule r' s' a b = record { after_block = after s' b; other = other r' s' a b }

module _ (e : Case) (t : Fact) where
  -- these bytes as rows pass for the limit l
  abbrev pub Pass : ℕ → List ℕ → Type 0
  Pass l bytes = Passes (evidence_rules e 0 (with_rows e (with_limit t l) bytes))

  -- a node of the scope that fetches b
  abbrev pub Fetching : ℕ → Type 0
  Fetching v = (inside (scope_of e t) v ≡ true) × (e.block v ≡ t.block)

  -- l is one more than the most that is gathered at a node that fetches b, and none of them is "many"
  pub record Limit (row : ℕ → Row) (l : ℕ) : Type 0 where
    pub each : (v : ℕ) → Fetching v → ((row v).number ≢ 8) × (held (row v) < l)
    pub met : (v : ℕ) × Fetching v × (l ≡ suc (held (row v)))

module _ (e : Case) (t : Fact) (row : ℕ → Row) (closed : Closed e t row) (just : (v : ℕ) → inside (scope_of e t) v ≡ true → Justified e t v (row v)) where
  -- rows that pass for the limit l allow fewer than l at a node that fetches b
  below_limit : (l n v : ℕ) (bytes : List ℕ) → 1 ≤ l → Pass e t l bytes → inside (scope_of e t) v ≡ true → e.block v ≡ t.block → AtLeast e t n v → n < l
  below_limit l n v bytes o x i p a =
      omega (
        arith,
        rows_few e (with_limit t l) bytes o x v i p a.blocks a.rising (λ c m. regathered e t l t.row (a.gathered c m)),
        a.many,
      )

  -- where a node that fetches b is "many", no rows pass for a limit up to k
  pub none_found : (v : ℕ) → Fetching e t v → (row v).number ≡ 8 → (l : ℕ) (bytes : List ℕ) → 1 ≤ l → l ≤ t.limit → ¬ Pass e t l bytes
  none_found v f q l bytes o h x = omega (arith, below_limit l t.limit v bytes o x f.0 f.1 ((just v f.0).many q))

  module _ (l : ℕ) (is : Limit e t row l) where
    pub limit_low : 1 ≤ l
    limit_low = omega (arith, is.met.2)

    pub limit_high : 1 ≤ t.limit → l ≤ t.limit
    limit_high o =
        let (v, f, q) = is.met in
        elim (dec_lt (row v).number 8) [
          | yes h ↦ omega (arith, held_set (row v) h, (just v f.0).row.few h)
          | no n ↦ omega (arith, held_other (row v) (omega arith))
        ]

    -- "the smallest age limit … for which evidence exists"
    pub limit_least : (m : ℕ) (bytes : List ℕ) → 1 ≤ m → Pass e t m bytes → l ≤ m
    limit_least m bytes o x =
        let (v, f, q) = is.met in
        omega (arith, below_limit m (held (row v)) v bytes o x f.0 f.1 (held_gathered e t v (row v) (just v f.0)))

    -- the lowered rows keep the rules 16 to 18 for the limit l: blocks rising, free slots none
    pub all_sound : (v : ℕ) → inside (scope_of e t) v ≡ true → SoundRow e (with_limit t l) (lowered l (row v))
    all_sound v i = lower_sound e t l _ _ (lowered_is l (row v)) (just v i).row

    still_closed : Closed e (with_limit t l) (λ v. lowered l (row v))
    still_closed u v d =
        lower_rule e t l _ _ _ (just u d.1).row (just v d.2).row (closed u v d) _ _ (lowered_is l (row u)) (lowered_is l (row v))

    few_left : (v : ℕ) → inside (scope_of e t) v ≡ true → e.block v ≡ t.block → (lowered l (row v)).number ≢ 8
    few_left v i p = go _ (lowered_is l (row v))
      where
        go : (s : Row) → Lowered l (row v) s → s.number ≢ 8
        go s (cut a b) q = let h = (is.each v (i, p)).1 in omega (arith, held_set (row v) a)
        go s (kept a) q = (is.each v (i, p)).0 q

    -- "The rows go through the same check as anyone's.": wherever they are written
    pub limit_passes :
        (out : ℕ → Row) → ((v : ℕ) → In (scope_of e t) v → Same (lowered l (row v)) (out (v - (scope_of e t).first)))
        → Passes (evidence_rules e 0 (rewritten e (with_limit t l) out))
    limit_passes = rows_pass e (with_limit t l) (λ v. lowered l (row v)) all_sound still_closed few_left

  -- What is found says exactly what is gathered, for the limit l, from 1 to k.
  module _ (l : ℕ) (low : 1 ≤ l) (high : l ≤ t.limit) (v : ℕ) (i : inside (scope_of e t) v ≡ true) where
    nine : (s : Row) → Lowered l (row v) s → (s.number ≡ 9) ↔ (¬ Arrives e t v)
    nine s (cut a b) = (λ p. absurd (omega arith), λ n. absurd (n (reached_arrives e t ((just v i).since (omega arith)))))
    nine s (kept a) = nine_exact e t row closed just v i

    many : (s : Row) → Lowered l (row v) s → (s.number ≡ 8) ↔ AtLeast e t l v
    many s (cut a b) = (λ p. at_least (held_gathered e t v (row v) (just v i)) (omega (arith, held_set (row v) a)), λ g. refl)
      where
        at_least : {n : ℕ} → AtLeast e t n v → l ≤ n → AtLeast e t l v
        at_least g h = record { blocks = g.blocks; rising = g.rising; many = omega (arith, g.many); gathered = g.gathered }
    many s (kept a) = (
      λ p. let g = (just v i).many p in record { blocks = g.blocks; rising = g.rising; many = omega (arith, g.many); gathered = g.gathered },
      λ g.
          elim (ℕ_discrete (row v).number 8) [
            | yes p ↦ p
            | no n ↦
                absurd
                (omega (
                  arith,
                  few e (with_limit t l) low (row v) (lower_sound e t l _ _ (kept a) (just v i).row) n g.blocks g.rising
                      (λ c m. has e t row closed (g.gathered c m)),
                  g.many,
                ))
          ],
    )

    set : (s : Row) → Lowered l (row v) s → s.number < 8 → (c : ℕ) → Holds s c ↔ Gathered e t v c
    set s (cut a b) h = absurd (omega arith)
    set s (kept a) h = set_exact e t row closed just v i h

    -- wherever it is written
    pub lowered_says : (s : Row) → Same (lowered l (row v)) s → RowSays e t l v s
    lowered_says s w =
        let is = lowered_is l (row v) in
        let a = nine _ is in
        let b = many _ is in
        record {
          nine = (λ p. a.0 (sym w.number ∙ p), λ n. w.number ∙ a.1 n);
          many = (λ p. b.0 (sym w.number ∙ p), λ g. w.number ∙ b.1 g);
          set = λ h c.
              let d = set _ is (rw w.number at h) c in
              (λ p. d.0 (same_holds s _ (same_back _ s w) c (says_true (holds_says s c) p)), λ g. says_is (holds_says s c) (same_holds _ s w c (d.1 g)));
          sound = (row_law e (with_limit t l) s).1 (same_sound e (with_limit t l) t.row _ s w (lower_sound e t l _ _ is (just v i).row));
        }
