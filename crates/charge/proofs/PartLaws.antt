-- The laws of the numbers while they are written: each one fact, one set, and the total.
use Prim.Native.Nat.{ℕ, ◌+◌, ◌-◌, ◌≤◌, ◌<◌}
use native.Mathlib.Omega.{arith}
use native.Mathlib.Decide.{ℕ_discrete, dec_lt}
use mathlib.Core.Path.{◌≡◌, refl, sym, ◌∙◌, ap₂, subst}
use mathlib.Core.Logic.{◌≢◌}
use mathlib.Core.Bool.{Bool, true, false, cond}
use mathlib.Core.List.{List, ◌++◌}
use borrow.Author.Tests.{lt-ltb, le-ltb}
use lib.Dec.{ltb}
use lib.ListN.{length, take, drop, set, length-set, length-append, length-drop, take-append-drop, get_or-append}
use lib.Seq.{get_or-set_same, get_or-set_other, drop-set-lt, ext_get_or, get_or-take, length-take-le, drop_at}
use Rattle.paper.specs.Lists.{sum_to, table}
use Rattle.paper.specs.Cases.{Case}
use Rattle.paper.specs.Bounds.{list_length, sets_from, facts_from, fact_bound, set_bound, total_bound, part_at, number_at}
use Rattle.paper.proofs.Says.{says_lt, says_same}
use Rattle.paper.proofs.Sums.{Added, added_end}
use Rattle.paper.proofs.TableLaws.{length_table, get_d_table}
use Rattle.charge.specs.Sizes as Sizes
use Rattle.charge.specs.Tables.{zeros, Part}

ltb_more : (i n : ℕ) → i ≢ n → ltb i (n + 1) ≡ ltb i n
ltb_more i n h = says_same (λ (l : i < n + 1). omega arith) (λ (l : i < n). omega arith) (says_lt _ _) (says_lt _ _)

module _ (e : Case) (p : ℕ) (old : List ℕ) where
  -- all numbers are 0
  pub part_start : (new : List ℕ) → list_length ≤ length old → new ≡ zeros ++ drop list_length old → Part e p 0 0 0 old new
  part_start new r q =
      let k : length zeros ≡ list_length = length_table _ list_length in
      rw q (record {
        all = r;
        room = length-append zeros (drop list_length old) ∙ omega (arith, k, length-drop list_length old);
        is = λ i l. get_or-append zeros (drop list_length old) 0 i (omega (arith, k)) ∙ get_d_table _ list_length i 0 l ∙ nothing i;
        later = drop_at zeros (drop list_length old) list_length k;
      })
    where
      pick : (a b : Bool) → ◌≡◌ {A = ℕ} 0 (cond a 0 (cond b 0 0))
      pick true b = refl
      pick false true = refl
      pick false false = refl

      nothing : (i : ℕ) → 0 ≡ part_at e p 0 0 0 i
      nothing i = rw (le-ltb (i - sets_from) 0 (omega arith), le-ltb (i - facts_from) 0 (omega arith)) (pick (ltb i sets_from) (ltb i facts_from))

  pub part_self : (T Q I : ℕ) (new : List ℕ) → Part e p T Q I old new → Part e p T Q I new new
  part_self T Q I new w = record { all = omega (arith, w.all, w.room); room = refl; is = w.is; later = refl }

  -- one number is written
  part_more :
      (T Q I T' Q' I' k x : ℕ) (new : List ℕ) → k < list_length → x ≡ part_at e p T' Q' I' k
      → ((i : ℕ) → i ≢ k → part_at e p T' Q' I' i ≡ part_at e p T Q I i) → Part e p T Q I old new → Part e p T' Q' I' old (set new k x)
  part_more T Q I T' Q' I' k x new h ex other w =
      record {
        all = w.all;
        room = length-set new k x ∙ w.room;
        is =
            λ i l.
            elim (ℕ_discrete i k) [
              | yes q ↦ rw q (get_or-set_same new k x 0 (omega (arith, w.all, w.room)) ∙ ex)
              | no q ↦ get_or-set_other new k i x 0 q ∙ w.is i l ∙ sym (other i q)
            ];
        later = drop-set-lt list_length new k x h ∙ w.later;
      }

  pub part_fact : (I x : ℕ) (new : List ℕ) → I < Sizes.facts → x ≡ fact_bound e p (e.fact I) → Part e p 0 0 I old new → Part e p 0 0 (I + 1) old (set new (facts_from + I) x)
  part_fact I x new h ex w =
      part_more 0 0 I 0 0 (I + 1) (facts_from + I) x new (omega arith) (here ex) other w
    where
      here : x ≡ fact_bound e p (e.fact I) → x ≡ part_at e p 0 0 (I + 1) (facts_from + I)
      here ex =
          let z : facts_from + I - facts_from ≡ I = omega arith in
          rw (le-ltb (facts_from + I) sets_from (omega arith), le-ltb (facts_from + I) facts_from (omega arith), z, lt-ltb I (I + 1) (omega arith)) ex

      other : (i : ℕ) → i ≢ facts_from + I → part_at e p 0 0 (I + 1) i ≡ part_at e p 0 0 I i
      other i n =
          elim (dec_lt i facts_from) [
            | yes l ↦ rw (lt-ltb i facts_from l) refl
            | no l ↦ rw (ltb_more (i - facts_from) I (omega arith)) refl
          ]

  pub part_set : (Q I x : ℕ) (new : List ℕ) → Q < Sizes.sets → x ≡ set_bound e p Q → Part e p 0 Q I old new → Part e p 0 (Q + 1) I old (set new (sets_from + Q) x)
  part_set Q I x new h ex w =
      part_more 0 Q I 0 (Q + 1) I (sets_from + Q) x new (omega arith) (here ex) other w
    where
      here : x ≡ set_bound e p Q → x ≡ part_at e p 0 (Q + 1) I (sets_from + Q)
      here ex =
          let z : sets_from + Q - sets_from ≡ Q = omega arith in
          rw (le-ltb (sets_from + Q) sets_from (omega arith), lt-ltb (sets_from + Q) facts_from (omega arith), z, lt-ltb Q (Q + 1) (omega arith)) ex

      other : (i : ℕ) → i ≢ sets_from + Q → part_at e p 0 (Q + 1) I i ≡ part_at e p 0 Q I i
      other i n =
          elim (dec_lt i sets_from) [
            | yes l ↦ rw (lt-ltb i sets_from l) refl
            | no l ↦ rw (ltb_more (i - sets_from) Q (omega arith)) refl
          ]

  pub part_total :
      (Q I b x : ℕ) (new : List ℕ) → Part e p 0 Q I old new → Added (set_bound e p) b e.sets x Q → e.sets ≤ Q
      → Part e p (total_bound e p) e.sets I old (set new 0 x)
  part_total Q I b x new w a h =
      let z : Q ≡ e.sets = omega (arith, a.within) in
      part_more 0 e.sets I (total_bound e p) e.sets I 0 x new (omega arith) (total (added_end (set_bound e p) b e.sets x Q a h).0) other
      (subst (λ n. Part e p 0 n I old new) z w)
    where
      total : x ≡ sum_to (set_bound e p) e.sets → x ≡ part_at e p (total_bound e p) e.sets I 0
      total q = unfold total_bound in q

      other : (i : ℕ) → i ≢ 0 → part_at e p (total_bound e p) e.sets I i ≡ part_at e p 0 e.sets I i
      other i n = rw (le-ltb i sets_from (omega arith)) refl

  -- all are written
  pub part_end : (mid new : List ℕ) → drop list_length mid ≡ drop list_length old → Part e p (total_bound e p) e.sets e.facts mid new → new ≡ table (number_at e p) list_length ++ drop list_length old
  unfolding number_at
  part_end mid new d w =
      let m = length-take-le list_length new (omega (arith, w.all, w.room)) in
      let h : take list_length new ≡ table (number_at e p) list_length =
      ext_get_or 0 (take list_length new) (table (number_at e p) list_length) (m ∙ sym (length_table (number_at e p) list_length))
      (λ i l.
      let k : i < list_length = omega (arith, m) in
      get_or-take list_length new i 0 k ∙ w.is i k ∙ sym (get_d_table (number_at e p) list_length i 0 k)) in
      sym (take-append-drop list_length new) ∙ ap₂ (λ (x y : List ℕ). x ++ y) h (w.later ∙ d)
