-- docs/PIPE.md: "All numbers are little-endian."
use Rattle.std.specs.Prelude.{ℕ, zero, suc, ◌+◌, ◌*◌, ◌/◌, ◌%◌, ◌≡◌, refl, List, [], ◌∷◌, ◌++◌}
use Rattle.paper.specs.Lists.{table}
use Rattle.paper.specs.Files.{u16_at, u32_at}

-- The low bytes of x, width of them and the least first.
unfoldable pub little : ℕ → ℕ → List ℕ
little zero x = []
little (suc width) x = x % 256 ∷ little width (x / 256)

-- Numbers, width bytes each, one after another.
unfoldable pub littles : ℕ → List ℕ → List ℕ
littles width [] = []
littles width (x ∷ xs) = little width x ++ littles width xs

-- What holds of each kind of number: several of them are the bytes of one after another.
pub record NumberLaws {N : Type 0} (width : ℕ) (value_of : N → ℕ) (bytes_of : List N → List ℕ) : Type 0 where
  pub none : bytes_of [] ≡ []
  pub more : (x : N) (xs : List N) → bytes_of (x ∷ xs) ≡ little width (value_of x) ++ bytes_of xs

pub littles_laws : (width : ℕ) → NumberLaws width (λ (x : ℕ). x) (littles width)
unfolding littles
littles_laws width = record { none = refl; more = λ x xs. refl }

abbrev pub u64_at : List ℕ → ℕ → ℕ
u64_at l p = u32_at l p + 4294967296 * u32_at l (p + 4)

-- The first n numbers that stand in the bytes, each u16, each u32, and each u64.
abbrev pub u16s : List ℕ → ℕ → List ℕ
u16s l n = table (λ i. u16_at l (2 * i)) n

abbrev pub u32s : List ℕ → ℕ → List ℕ
u32s l n = table (λ i. u32_at l (4 * i)) n

abbrev pub u64s : List ℕ → ℕ → List ℕ
u64s l n = table (λ i. u64_at l (8 * i)) n
