-- The table of what comes before each node, edge by edge; and the greatest number.
use Prim.Native.Nat.{ℕ, ◌+◌, ◌≤◌, ◌<◌, max}
use native.Mathlib.Omega.{arith}
use native.Mathlib.Numerals.{add-one}
use native.Mathlib.Decide.{ℕ_discrete}
use mathlib.Core.Path.{◌≡◌, refl, ◌∙◌}
use mathlib.Core.List.{List}
use borrow.Author.Tests.{eq-eqb, ne_eqb}
use lib.ListN.{get_or, set, length-set, replicate, get_or-replicate, length-replicate}
use lib.Seq.{get_or-set_same, get_or-set_other}
use Rattle.paper.specs.Lists.{highest_to}
use Rattle.paper.specs.Ceilings.{most_nodes}
use Rattle.paper.specs.Cases.{Case}
use Rattle.paper.specs.Known.{Shaped}
use Rattle.paper.specs.Times.{step_first}
use Rattle.timing.specs.Pushed.{cut, carried, before_to}
use Rattle.timing.specs.Ready.{entry}
use Rattle.timing.specs.Numbered.{Zeros, Numbered}
use Rattle.timing.proofs.Firsts.{first_le}
use Rattle.timing.proofs.Looking.{number_same}

-- the ends of an edge are nodes
pub ends : (e : Case) → Shaped e → (i u v : ℕ) → i < e.edges → u ≡ e.from i → v ≡ e.to i → (u < e.nodes) × (v < e.nodes)
ends e shape i u v h p q = (omega (arith, p, shape.ends i h), omega (arith, q, shape.ends i h))

pub zeros_start : (n : ℕ) → n ≤ most_nodes → Zeros n (replicate most_nodes 0)
zeros_start n h = record { room = omega (arith, length-replicate {A = ℕ} most_nodes 0); zero = λ v l. get_or-replicate most_nodes v 0 0 (omega arith) }

module _ (e : Case) (cost : ℕ → ℕ) (times : List ℕ) (k a : ℕ) (table : List ℕ) where
  -- a way begins at a
  pub numbered_start : Zeros e.nodes table → a < e.nodes → Numbered e cost times k a 0 (set table a 1)
  unfolding before_to
  numbered_start z h =
      record {
        room = omega (arith, z.room, length-set table a 1);
        at = λ v l.
            elim (ℕ_discrete v a) [
              | yes p ↦ rw (p, eq-eqb a a refl) (get_or-set_same table a 1 0 (omega (arith, z.room)))
              | no n ↦ rw (ne_eqb v a n) (get_or-set_other table a v 1 0 n ∙ z.zero v l)
            ];
      }

  -- the turn of edge i, from u to v
  module _ (i u v n r : ℕ) (w : Numbered e cost times k a i table) (from : u ≡ e.from i) (to : v ≡ e.to i) (start : u < e.nodes) (end : v < e.nodes) where
    carried_is : carried e cost (entry times) cut k (entry table) u v ≡ carried e cost (entry times) cut k (λ x. before_to e cost (entry times) cut k a i x) u v
    unfolding carried
    carried_is =
        rw (number_same e cost (entry times) cut k (entry table) u (λ x. before_to e cost (entry times) cut k a i x)
        (w.at (step_first e k u) (omega (arith, first_le e k u))))
        refl

    pub numbered_more :
        n ≡ carried e cost (entry times) cut k (entry table) u v → r ≡ max (get_or table v 0) n
        → Numbered e cost times k a (i + 1) (set table v r)
    unfolding before_to
    numbered_more c g =
        record {
          room = omega (arith, w.room, length-set table v r);
          at = λ x l.
              elim (ℕ_discrete x v) [
                | yes p ↦
                    rw (p, add-one, ← from, ← to, eq-eqb v v refl, ← carried_is, ← w.at v end, ← c)
                    (get_or-set_same table v r 0 (omega (arith, w.room)) ∙ g)
                | no q ↦
                    rw (add-one, ← to, ne_eqb x v q) (get_or-set_other table v x r 0 q ∙ w.at x l)
              ];
        }

-- the greatest so far
module _ (g : ℕ → ℕ) where
  pub greatest_more : (v x n r : ℕ) → x ≡ highest_to g v → n ≡ g v → r ≡ max x n → r ≡ highest_to g (v + 1)
  unfolding highest_to
  greatest_more v x n r p q z = rw add-one (omega (arith, p, q, z))
