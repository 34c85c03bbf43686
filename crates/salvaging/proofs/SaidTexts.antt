-- The lines of the facts that were dropped: what is left of the loop over them, and of which facts they are.
use Prim.Native.Nat.{ℕ, suc, ◌+◌, ◌-◌, ◌*◌, ◌^◌, ◌≤◌, ◌<◌}
use native.Mathlib.Omega.{arith}
use mathlib.Core.Path.{◌≡◌, refl, ◌∙◌, ap}
use mathlib.Core.List.{List, [], ◌∷◌, ◌++◌}
use lib.ListN.{length, get_or}
use Rattle.paper.specs.declared.Refusal.{Refusal}
use Rattle.paper.specs.Listings.{decimal}
use Rattle.paper.specs.Salvaging.{listed}
use Rattle.print.proofs.Lengths.{short}
use Rattle.puts.specs.Put.{Fits}
use Rattle.puts.proofs.Putting.{Left}
use Rattle.salvaging.specs.Said.{fact_line, fact_lines, lines_from}

pub number_fits : {l : List ℕ} {at : ℕ} (n : ℕ) → n < 2 ^ 64 → at + 20 ≤ length l → Fits l at (decimal n)
number_fits n h r = record { room = omega (arith, short n h) }

-- a loop over n lines, of which the first i are put
module _ {old text l : List ℕ} {at to : ℕ} (g : ℕ → ℕ) (i n : ℕ) (f : Left old at text l to (lines_from g i (n - i))) where
  pub next_line : i < n → Left old at text l to (fact_line (g (3 * i)) (g (3 * i + 1)) (g (3 * i + 2)) ++ lines_from g (i + 1) (n - (i + 1)))
  unfolding lines_from
  next_line h =
      let e : n - i ≡ suc (n - (i + 1)) = omega arith in
      let s : suc i ≡ i + 1 = omega arith in
      rw s at (rw e at f)

  pub no_line : n ≤ i → Left old at text l to []
  unfolding lines_from
  no_line h =
      let e : n - i ≡ 0 = omega arith in
      rw e at f

-- three numbers a fact, one fact after another
pub lines_listed : (g : ℕ → ℕ) (i : ℕ) (rs : List Refusal) (more : List ℕ) → ((k : ℕ) → g (3 * i + k) ≡ get_or (listed rs ++ more) k 0) → lines_from g i (length rs) ≡ fact_lines rs
unfolding lines_from
lines_listed g i [] more h = refl
lines_listed g i (r ∷ rs) more h =
    let z : 3 * i ≡ 3 * i + 0 = omega arith in
    let number : g (3 * i) ≡ r.number = ap g z ∙ h 0 in
    let place : g (3 * i + 1) ≡ r.place = h 1 in
    let second : g (3 * i + 2) ≡ r.second = h 2 in
    let rest : lines_from g (suc i) (length rs) ≡ fact_lines rs =
    lines_listed g (suc i) rs more (λ (k : ℕ).
    let s : 3 * suc i + k ≡ 3 * i + suc (suc (suc k)) = omega arith in
    ap g s ∙ h (suc (suc (suc k)))) in
    rw (number, place, second, rest) refl

pub listed_length : (rs : List Refusal) → length (listed rs) ≡ 3 * length rs
listed_length [] = refl
listed_length (r ∷ rs) = omega (arith, listed_length rs)
