-- Numbers of 16 bits that stand side by side, and two rows that are the same.
use Rattle.std.specs.Prelude.{ℕ, zero, suc, ◌+◌, ◌*◌, ◌<◌, ◌≡◌, List}
use Rattle.paper.specs.Cases.{Row}
use Rattle.paper.specs.Records.{bits16}
use Rattle.paper.specs.Files.{u16_at}

-- number i of those that stand from p on
abbrev pub word_at : List ℕ → ℕ → ℕ → ℕ
word_at f p i = u16_at f (p + bits16 * i)

-- n numbers as one, the first the lowest
unfoldable pub packed : (ℕ → ℕ) → ℕ → ℕ
packed g zero = 0
packed g (suc n) = g 0 + 65536 * packed (λ i. g (suc i)) n

-- "the number and seven slots" of one are those of the other
pub record Alike (r s : Row) : Type 0 where
  pub number : r.number ≡ s.number
  pub slot : (i : ℕ) → i < 7 → r.slot i ≡ s.slot i
