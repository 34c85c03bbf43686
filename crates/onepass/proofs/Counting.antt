-- The counts, from the accesses found in each line.
use Prim.Native.Nat.{ℕ, suc, ◌+◌, ◌-◌, ◌<◌, ◌≤◌}
use native.Mathlib.Numerals.{add-one}
use native.Mathlib.Omega.{arith}
use mathlib.Core.Path.{◌≡◌, ◌∙◌, ap}
use mathlib.Core.List.{List, append-nil}
use lib.ListN.{length, get_or, set, replicate}
use Rattle.lines.specs.Lines.{weight_of}
use Rattle.paper.specs.Lists.{sum_to}
use Rattle.paper.specs.Machines.{empty_set}
use Rattle.paper.specs.AllWays.{misses_with}
use Rattle.paper.proofs.TableLaws.{Written, written_start, written_more, written_end}
use Rattle.inclusion.specs.FoundLines.{found_at}
use Rattle.inclusion.proofs.Found.{ways_found}
use Rattle.onepass.specs.Passes.{Found, eight_counts}

-- j counts are made; all accesses but those found in one of the first j lines are left
pub record Counting (sets : ℕ) (blocks counts : List ℕ) (left j : ℕ) : Type 0 where
  pub written : Written (λ i. misses_with sets blocks (suc i)) 8 (replicate 8 0) j counts
  pub rest : left + sum_to (found_at sets (λ q. empty_set) blocks) j ≡ length blocks

module _ {sets : ℕ} {blocks : List ℕ} where
  pub counting_start : Counting sets blocks (replicate 8 0) (length blocks) 0
  unfolding sum_to
  counting_start = record { written = written_start _ 8 (replicate 8 0) (omega arith); rest = omega arith }

  module _ {found : List ℕ} (all : Found sets blocks found) {counts : List ℕ} {left j : ℕ} (g : Counting sets blocks counts left j) (h : j < 8) {w : ℕ} (e : w ≡ weight_of j) where
    law : misses_with sets blocks (suc j) + (sum_to (found_at sets (λ q. empty_set) blocks) j + get_or found w 0) ≡ length blocks
    unfolding sum_to
    law = omega (arith, ways_found sets (suc j) (omega arith) (omega arith) blocks, all.is j h, ap (λ (x : ℕ). get_or found x 0) e)

    pub counting_enough : get_or found w 0 ≤ left
    counting_enough = omega (arith, law, g.rest)

    pub counting_more : Counting sets blocks (set counts j (left - get_or found w 0)) (left - get_or found w 0) (j + 1)
    unfolding sum_to
    counting_more =
        record {
          written = written_more _ 8 (replicate 8 0) j counts (left - get_or found w 0) g.written h (omega (arith, law, g.rest));
          rest = rw (add-one j) (omega (arith, law, g.rest, all.is j h, ap (λ (x : ℕ). get_or found x 0) e));
        }

  pub counting_end : {counts : List ℕ} {left j : ℕ} → Counting sets blocks counts left j → 8 ≤ j → counts ≡ eight_counts sets blocks
  counting_end {counts} {left} {j} g h = written_end _ 8 (replicate 8 0) j counts g.written h ∙ append-nil (eight_counts sets blocks)
