-- A row's blocks as a list.
use Prim.Native.Nat.{ℕ, zero, suc, ◌<◌}
use native.Mathlib.Omega.{arith}
use mathlib.Core.Path.{◌≡◌, refl, sym}
use mathlib.Core.List.Memᴰ
use mathlib.Core.List.{List, [], ◌∷◌, Memᴰ}
use lib.ListN.{length, get_or}
use Rattle.paper.specs.Lists.{table}
use Rattle.paper.specs.Machines.{none}
use Rattle.paper.specs.Cases.{Row}
use Rattle.paper.specs.Facts.{held}
use Rattle.paper.specs.Demands.{Rising}
use Rattle.paper.proofs.Meaning.{Holds}

abbrev pub blocks : Row → List ℕ
blocks r = table r.slot (held r)

-- lists by index
table_mem : (g : ℕ → ℕ) (n i : ℕ) → i < n → Memᴰ (g i) (table g n)
unfolding table
table_mem g zero i h = absurd (omega arith)
table_mem g (suc n) zero h = Memᴰ.head refl
table_mem g (suc n) (suc i) h = Memᴰ.tail (table_mem (λ k. g (suc k)) n i (omega arith))

pub mem_table : (g : ℕ → ℕ) (n x : ℕ) → Memᴰ x (table g n) → (i : ℕ) × (i < n) × (g i ≡ x)
unfolding table
mem_table g zero x m = absurd (Memᴰ.not-nil m)
mem_table g (suc n) x (Memᴰ.head p) = (0, omega arith, sym p)
mem_table g (suc n) x (Memᴰ.tail m) = let t = mem_table (λ k. g (suc k)) n x m in (suc t.0, omega arith, t.2)

rises : (g : ℕ → ℕ) (n : ℕ) → ((k : ℕ) → suc k < n → g k < g (suc k)) → (i : ℕ) → suc i < n → g 0 < g (suc i)
rises g n h zero l = h 0 l
rises g n h (suc i) l = omega (arith, rises g n h i (omega arith), h (suc i) l)

pub table_rising : (g : ℕ → ℕ) (n : ℕ) → ((k : ℕ) → suc k < n → g k < g (suc k)) → Rising (table g n)
unfolding table
table_rising g zero h = tt
table_rising g (suc n) h = (
  λ y m. let t = mem_table (λ i. g (suc i)) n y m in omega (arith, rises g (suc n) h t.0 (omega arith), t.2),
  table_rising (λ i. g (suc i)) n (λ k l. h (suc k) (omega arith)),
)

pub blocks_rising : (r : Row) → ((k : ℕ) → suc k < held r → r.slot k < r.slot (suc k)) → Rising (blocks r)
blocks_rising r h = table_rising r.slot (held r) h

pub holds_mem : (r : Row) (x : ℕ) → Holds r x → Memᴰ x (blocks r)
holds_mem r x h = rw h.2 at (table_mem r.slot (held r) h.0 h.1)

pub mem_holds : (r : Row) (x : ℕ) → Memᴰ x (blocks r) → Holds r x
mem_holds r x m = mem_table r.slot (held r) x m

-- the list's own elements by index
pub at_mem : (l : List ℕ) (k : ℕ) → k < length l → Memᴰ (get_or l k none) l
at_mem [] k h = absurd (omega arith)
at_mem (x ∷ l) zero h = Memᴰ.head refl
at_mem (x ∷ l) (suc k) h = Memᴰ.tail (at_mem l k (omega arith))

pub mem_at : {c : ℕ} {l : List ℕ} → Memᴰ c l → (k : ℕ) × (k < length l) × (get_or l k none ≡ c)
mem_at (Memᴰ.head p) = (0, omega arith, sym p)
mem_at (Memᴰ.tail i) = let t = mem_at i in (suc t.0, omega arith, t.2)

pub rising_at : (l : List ℕ) → Rising l → (k : ℕ) → suc k < length l → get_or l k none < get_or l (suc k) none
rising_at [] h k i = absurd (omega arith)
rising_at (x ∷ l) h zero i = h.0 _ (at_mem l 0 (omega arith))
rising_at (x ∷ l) h (suc k) i = rising_at l h.1 k (omega arith)
