-- The run of a walk in any machine, interrupted or not: what each visit does to each set, and what it costs.
use Prim.Native.Nat.{ℕ, suc, ◌%◌, ◌≤◌, ◌<◌}
use native.Mathlib.Omega.{arith}
use mathlib.Core.Path.{◌≡◌, refl}
use mathlib.Core.Logic.{◌≢◌}
use mathlib.Core.Bool.{Bool, true, false, cond}
use mathlib.Core.List.{List, [], ◌∷◌}
use borrow.Author.Tests.{ne_eqb}
use lib.Dec.{eqb}
use Rattle.paper.specs.Machines.{none}
use Rattle.paper.specs.Cases.{Case}
use Rattle.paper.specs.Runs.{Event, visit, interruption, walk_of, interruptions}
use Rattle.paper.specs.Bounds.{lives}
use Rattle.paper.proofs.Says.{says_is}
use Rattle.theory.proofs.Law.{Machine, Fair}
use Rattle.paper.proofs.TestLaws.{lives_says}
use Rattle.theory.proofs.SumLaws.{cond_le}
use Rattle.theory.proofs.Costs.{Visit, paid}
use Rattle.theory.proofs.Passing.{ones}

-- the node fetches a block of set q
abbrev pub in_set : Case → ℕ → ℕ → Bool
in_set e q v = lives e q (e.block v)

module _ (e : Case) (M : Machine) where
  -- a state of each set
  abbrev pub Held : Type 0
  Held = ℕ → M.State

  abbrev pub Fine : Held → Type 0
  Fine c = (q : ℕ) → q < e.sets → M.Legal (c q)

  -- set q's state after a visit of v
  unfoldable pub moved : ℕ → ℕ → M.State → M.State
  moved q v s = cond (lives e q (e.block v)) (M.step (e.block v) s) s

  abbrev pub move : ℕ → Held → Held
  move v c q = moved q v (c q)

  unfoldable pub miss_at : ℕ → Held → ℕ
  miss_at v c = cond (eqb (e.block v) none) 0 (M.miss (e.block v) (c (e.block v % e.sets)))

  -- each visit costs its misses
  abbrev pub misses : List Event → Held → (ℕ → Held) → List Visit
  misses [] c left = []
  misses (visit v ∷ r) c left = record { node = v; cost = miss_at v c } ∷ misses r (move v c) left
  misses (interruption ∷ r) c left = misses r (left 0) (λ i. left (suc i))

  -- What the run starts with and what each interruption leaves, all legal.
  pub record Contents (r : List Event) : Type 0 where
    pub start : Held
    pub left : ℕ → Held
    pub fine : Fine start
    pub fines : (i : ℕ) → i < interruptions r → Fine (left i)

  abbrev pub costs : (r : List Event) → Contents r → List Visit
  costs r c = misses r c.start c.left

  pub moved_to : (q v : ℕ) (s : M.State) → e.block v ≢ none → e.block v % e.sets ≡ q → moved q v s ≡ M.step (e.block v) s
  unfolding moved
  moved_to q v s n h = rw (says_is (lives_says e q (e.block v)) (n, h)) refl

  pub miss_at_lem : (v : ℕ) (c : Held) → e.block v ≢ none → miss_at v c ≡ M.miss (e.block v) (c (e.block v % e.sets))
  unfolding miss_at
  miss_at_lem v c n = rw (ne_eqb (e.block v) none n) refl

  module _ (fair : Fair M) (v : ℕ) (c : Held) where
    pub move_fine : Fine c → Fine (move v c)
    unfolding moved
    move_fine h q l = go (lives e q (e.block v))
      where
        go : (t : Bool) → M.Legal (cond t (M.step (e.block v) (c q)) (c q))
        go true = fair.legal (e.block v) (c q) (h q l)
        go false = h q l

    miss_once : miss_at v c ≤ 1
    unfolding miss_at
    miss_once = go (eqb (e.block v) none)
      where
        go : (t : Bool) → cond t 0 (M.miss (e.block v) (c (e.block v % e.sets))) ≤ 1
        go true = omega arith
        go false = fair.once (e.block v) (c (e.block v % e.sets))

  -- as many misses as visits at most
  pub misses_le : Fair M → (test : ℕ → Bool) (r : List Event) (c : Held) (left : ℕ → Held) → paid test (misses r c left) ≤ paid test (ones (walk_of r))
  misses_le fair test [] c left = omega arith
  misses_le fair test (visit v ∷ r) c left = omega (arith, misses_le fair test r (move v c) left, cond_le (test v) (λ h. miss_once fair v c))
  misses_le fair test (interruption ∷ r) c left = misses_le fair test r (left 0) (λ i. left (suc i))
