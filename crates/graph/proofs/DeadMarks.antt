-- The table of the nodes that are reached, edge by edge, and rule 26 by it.
use Prim.Native.Nat.{ℕ, ◌+◌, ◌≤◌, ◌<◌}
use native.Mathlib.Omega.{arith}
use native.Mathlib.Numerals.{add-one}
use native.Mathlib.Decide.{ℕ_discrete}
use mathlib.Core.Path.{◌≡◌, refl, sym, ◌∙◌, ap}
use mathlib.Core.Logic.{◌≢◌, inl, inr, ⊎_elim}
use mathlib.Core.Bool.{Bool, true, false, not, ◌||◌}
use mathlib.Core.List.{List}
use lib.Dec.{eqb}
use lib.Bits.{bit_or}
use lib.ListN.{length, get_or, set, length-set}
use lib.Seq.{get_or-set_same, get_or-set_other}
use Rattle.std.proofs.Common.{Option}
use Rattle.paper.specs.Lists.{bit, least, some}
use Rattle.paper.specs.Cases.{Case}
use Rattle.paper.specs.Graphs.{bad_entry, bad_return, reached, dead}
use Rattle.paper.specs.Known.{Shaped}
use Rattle.paper.proofs.Least.{least_same, none_some}
use Rattle.paper.proofs.Says.{says_bool, says_or, says_is, says_false, says_same}
use Rattle.layout.specs.Firsts.{first}
use Rattle.layout.proofs.FirstLaws.{first_same}
use Rattle.graph.specs.Filled.{Filled, Holds}
use Rattle.graph.specs.Reaching.{reached_to}
use Rattle.graph.proofs.Reaching.{turn_says, first_says, reached_marks}

-- the table after i edges
abbrev pub Marks : Case → ℕ → List ℕ → Type 0
Marks e i table = Holds (λ v. bit (reached_to e v i)) e.nodes table

or_bit : (a b : Bool) → bit_or (bit a) (bit b) ≡ bit (a || b)
or_bit true true = refl
or_bit true false = refl
or_bit false true = refl
or_bit false false = refl

module _ (e : Case) (table : List ℕ) where
  -- node 0 alone
  pub marks_start : (old : List ℕ) (x : ℕ) → x ≡ 1 → 1 ≤ e.nodes → e.nodes ≤ length old → Filled old table 0 e.nodes 0 → Marks e 0 (set table 0 x)
  marks_start old x one h r w =
      record {
        room = omega (arith, w.same, length-set table 0 x);
        at = λ v l.
            elim (ℕ_discrete v 0) [
              | yes p ↦ rw (says_is (first_says e v) p, p) (get_or-set_same table 0 x 0 (omega (arith, w.same)) ∙ one)
              | no n ↦ rw ((says_false (first_says e v)).1 n) (get_or-set_other table 0 v x 0 n ∙ w.within v (omega arith) l)
            ];
      }

  -- the turn of edge i, from u to v
  module _ (i u v : ℕ) (w : Marks e i table) (from : u ≡ e.from i) (to : v ≡ e.to i) (start : u < e.nodes) (end : v < e.nodes) where
    end_marked : reached_to e v (i + 1) ≡ (reached_to e v i || reached_to e u i)
    end_marked =
        rw (add-one, from)
        (says_same (⊎_elim inl (λ m. inr m.0)) (⊎_elim inl (λ m. inr (m, to))) (turn_says e v i) (says_or (says_bool _) (says_bool (reached_to e (e.from i) i))))

    -- nodes that it does not lead to are marked or not as before
    others_kept : (x : ℕ) → x ≢ v → reached_to e x (i + 1) ≡ reached_to e x i
    others_kept x n = rw add-one (says_same (⊎_elim (λ m. m) (λ m. absurd (n (m.1 ∙ sym to)))) inl (turn_says e x i) (says_bool (reached_to e x i)))

    pub marks_more : Marks e (i + 1) (set table v (bit_or (get_or table v 0) (get_or table u 0)))
    marks_more =
        record {
          room = omega (arith, w.room, length-set table v (bit_or (get_or table v 0) (get_or table u 0)));
          at = λ x q.
              elim (ℕ_discrete x v) [
                | yes p ↦
                    rw p
                    (get_or-set_same table v _ 0 (omega (arith, w.room))
                    ∙ rw (w.at v end, w.at u start) (or_bit (reached_to e v i) (reached_to e u i))
                    ∙ sym (ap bit end_marked))
                | no n ↦ rw (others_kept x n) (get_or-set_other table v x _ 0 n ∙ w.at x q)
              ];
        }

-- The least 0 of the table is the least dead node; so it is as an option, where there may be none.
pub least_dead : (e : Case) → Shaped e → some (bad_entry e) e.edges ≡ false → some (bad_return e) e.edges ≡ false → (table : List ℕ) → Marks e e.edges table →
    (i : ℕ) → i ≡ least (λ v. eqb (get_or table v 0) 0) e.nodes → i ≡ least (dead e) e.nodes
unfolding dead
least_dead e shape entries returns table w i p =
    p ∙ least_same _ _ e.nodes (λ v l. rw (w.at v l, reached_marks e shape (none_some _ _ entries) (none_some _ _ returns) v) (unmarked (reached e v)))
  where
    unmarked : (b : Bool) → eqb (bit b) 0 ≡ not b
    unmarked true = refl
    unmarked false = refl

pub first_dead_is : (e : Case) → Shaped e → some (bad_entry e) e.edges ≡ false → some (bad_return e) e.edges ≡ false → (table : List ℕ) → Marks e e.edges table →
    (r : Option ℕ) → r ≡ first (λ v. eqb (get_or table v 0) 0) e.nodes → r ≡ first (dead e) e.nodes
first_dead_is e shape entries returns table w r p =
    p ∙ first_same _ _ e.nodes (least_dead e shape entries returns table w _ refl)
