-- A pass over the first i edges, as its loop has it, and what comes of a whole pass: another pass, with less to do, or a table that is settled.
use Prim.Native.Nat.{ℕ, ◌+◌, ◌-◌, ◌*◌, ◌≤◌, ◌<◌, max}
use native.Mathlib.Omega.{arith}
use native.Mathlib.Numerals.{add-one}
use mathlib.Core.Path.{◌≡◌, refl, sym, ◌∙◌, ap, ap₂, subst}
use mathlib.Core.Bool.{Bool, true, false, cond, ◌||◌}
use mathlib.Core.List.{List}
use Rattle.paper.specs.Cases.{Fact, Case, size, scope_of, fetches}
use Rattle.paper.proofs.Says.{says_is}
use Rattle.paper.proofs.GraphLaws.{inside_says}
use Rattle.search.specs.Steps.{number_of}
use Rattle.search.specs.Passes.{table_row, changes, after_edge, pass_to, changed_to, asks, most_to}
use Rattle.search.proofs.Justly.{Asked}
use Rattle.search.proofs.Searching.{Searched, Settled, measure, measure_low, numbers_low, searched_to, searched_pass, measure_grows, pass_same, settled}

module _ (e : Case) (t : Fact) (old : List ℕ) where
  pub record Passing (i : ℕ) (l : List ℕ) (changed : Bool) : Type 0 where
    pub within : i ≤ e.edges
    pub table : l ≡ pass_to e t old i
    pub told : changed ≡ changed_to e t old i

  pub passing_start : Passing 0 old false
  unfolding pass_to changed_to
  passing_start = record { within = omega arith; table = refl; told = refl }

  pub passing_more : (i : ℕ) (l l' : List ℕ) (c b : Bool) → Passing i l c → i < e.edges → b ≡ changes e t l i → l' ≡ after_edge e t l i → Passing (i + 1) l' (c || b)
  unfolding pass_to changed_to
  passing_more i l l' c b w h p q =
      rw (add-one i)
      (record {
        within = h;
        table = q ∙ ap (λ (x : List ℕ). after_edge e t x i) w.table;
        told = ap₂ ◌||◌ w.told (p ∙ ap (λ (x : List ℕ). changes e t x i) w.table);
      })

  pub passing_searched : Asked e t → Searched e t old → (i : ℕ) (l : List ℕ) (c : Bool) → Passing i l c → Searched e t l
  passing_searched ask s i l c w = subst (Searched e t) (sym w.table) (searched_to e t ask old s i w.within)

  pub passing_end : (i : ℕ) (l : List ℕ) (c : Bool) → Passing i l c → e.edges ≤ i → (c ≡ changed_to e t old e.edges) × (l ≡ pass_to e t old e.edges)
  passing_end i l c w h =
      let z : i ≡ e.edges = omega (arith, w.within) in
      (w.told ∙ ap (changed_to e t old) z, w.table ∙ ap (pass_to e t old) z)

-- the numbers of the table's rows are small
pub row_low : (e : Case) (t : Fact) (l : List ℕ) → Searched e t l → (j : ℕ) → j < size (scope_of e t) → (r : List ℕ) → r ≡ table_row l j → number_of r ≤ 9
row_low e t l s j h r p =
    let first = (scope_of e t).first in
    let z : first + j - first ≡ j = omega arith in
    subst (λ (x : List ℕ). number_of x ≤ 9) (ap (table_row l) z ∙ sym p) (numbers_low e t l s (first + j) (says_is (inside_says (scope_of e t) (first + j)) (omega arith, omega arith)))

-- l' is the table after a whole pass over l, which tells b
module _ (e : Case) (t : Fact) (ask : Asked e t) (l l' : List ℕ) (b : Bool) (s : Searched e t l) (p : b ≡ changed_to e t l e.edges) (q : l' ≡ pass_to e t l e.edges) where
  pub pass_searched : Searched e t l'
  pass_searched = subst (Searched e t) (sym q) (searched_pass e t ask l s)

  pub pass_less : b ≡ true → 9 * size (scope_of e t) - measure e t l' < 9 * size (scope_of e t) - measure e t l
  pass_less h = omega (arith, measure_grows e t ask l s (sym p ∙ h), ap (measure e t) q, measure_low e t l' pass_searched)

  pub pass_settled : b ≡ false → Settled e t l'
  pass_settled h =
      let z = sym p ∙ h in
      subst (Settled e t) (sym (q ∙ pass_same e t ask l z)) (settled e t ask l s z)

-- the most that is asked for at the first j of n nodes
module _ (e : Case) (t : Fact) (l : List ℕ) where
  pub record Asking (n j most : ℕ) : Type 0 where
    pub within : j ≤ n
    pub is : most ≡ most_to e t l j

  pub asking_start : (n : ℕ) → Asking n 0 0
  unfolding most_to
  asking_start n = record { within = omega arith; is = refl }

  pub asking_more : (n j most more : ℕ) → Asking n j most → j < n →
      more ≡ cond (fetches e t j) (max most (asks (number_of (table_row l j)))) most → Asking n (j + 1) more
  unfolding most_to
  asking_more n j most more w h p =
      rw (add-one j)
      (record {
        within = h;
        is = p ∙ ap (λ (m : ℕ). cond (fetches e t j) (max m (asks (number_of (table_row l j)))) m) w.is;
      })

  pub asking_end : (n j most : ℕ) → Asking n j most → n ≤ j → (m : ℕ) → n ≡ m → most ≡ most_to e t l m
  asking_end n j most w h m p =
      let z : j ≡ m = omega (arith, w.within) in
      w.is ∙ ap (most_to e t l) z
