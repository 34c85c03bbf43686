-- A table with a row for each node of a scope: where all that it says has its walk, and the edge rule is kept, it says exactly what is gathered. The fact's own limit is k, that of the table.
use Prim.Native.Nat.{ℕ, ◌<◌}
use native.Mathlib.Omega.{arith}
use native.Mathlib.Decide.{ℕ_discrete}
use mathlib.Core.Path.{◌≡◌, sym, ◌∙◌}
use mathlib.Core.Logic.{◌≢◌, ◌↔◌}
use mathlib.Core.Bool.{true}
use Rattle.paper.specs.Cases.{Row, Fact, Case, inside, scope_of}
use Rattle.paper.specs.Facts.{held}
use Rattle.paper.specs.Demands.{Gathered}
use Rattle.paper.specs.Finding.{Arrives, AtLeast}
use Rattle.paper.proofs.TableLaws.{length_table}
use Rattle.paper.proofs.Meaning.{Holds, SoundRow}
use Rattle.theory.proofs.Clear.{clear, walk}
use Rattle.theory.proofs.Blocks.{blocks, blocks_rising, mem_holds}
use Rattle.theory.proofs.Decided.{Reached, reached_from}
use Rattle.theory.proofs.SameRow.{Same, same_back, same_holds, same_sound}
use Rattle.theory.proofs.Needed.{Closed, begins, has}

module _ (e : Case) (t : Fact) where
  -- by the nodes of the walk, and by its edges
  pub arrives_reached : {v : ℕ} → Arrives e t v → Reached e t v
  arrives_reached a = reached_from e t a.starts (clear e t a.between a.walk a.free)

  pub reached_arrives : {v : ℕ} → Reached e t v → Arrives e t v
  reached_arrives h =
      let w = walk e t h.2.1 in
      record { start = h.0; between = w.between; starts = h.2.0; walk = w.walk; free = w.free }

  -- Row r of node v is one of the table, and all that it says has its walk.
  pub record Justified (v : ℕ) (r : Row) : Type 0 where
    pub row : SoundRow e t r
    pub since : r.number ≢ 9 → Reached e t v
    pub only : (c : ℕ) → Holds r c → Gathered e t v c
    pub many : r.number ≡ 8 → AtLeast e t t.limit v

  -- wherever the row is written
  pub same_justified : (v : ℕ) (r s : Row) → Same r s → Justified v r → Justified v s
  same_justified v r s w j =
      record {
        row = same_sound e t t.row r s w j.row;
        since = λ n. j.since (λ p. n (w.number ∙ p));
        only = λ c h. j.only c (same_holds s r (same_back r s w) c h);
        many = λ p. j.many (sym w.number ∙ p);
      }

  -- as many as the row holds are gathered
  pub held_gathered : (v : ℕ) (r : Row) → Justified v r → AtLeast e t (held r) v
  held_gathered v r j =
      record {
        blocks = blocks r;
        rising = blocks_rising r j.row.rising;
        many = omega (arith, length_table r.slot (held r));
        gathered = λ c m. j.only c (mem_holds r c m);
      }

  -- The table: closed, and each row justified.
  module _ (row : ℕ → Row) (closed : Closed e t row) (just : (v : ℕ) → inside (scope_of e t) v ≡ true → Justified v (row v)) where
    module _ (v : ℕ) (i : inside (scope_of e t) v ≡ true) where
      -- "9 where b has not been fetched"
      pub nine_exact : ((row v).number ≡ 9) ↔ (¬ Arrives e t v)
      nine_exact = (
        λ p a. let h = arrives_reached a in begins e t row closed h.2.1 h.2.0 p,
        λ n. elim (ℕ_discrete (row v).number 9) [ yes p ↦ p | no q ↦ absurd (n (reached_arrives ((just v i).since q))) ],
      )

      -- "the sets gathered over all walks"
      pub set_exact : (row v).number < 8 → (c : ℕ) → Holds (row v) c ↔ Gathered e t v c
      set_exact h c = ((just v i).only c, λ g. (has e t row closed g).1 (omega arith))
