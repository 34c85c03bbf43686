-- A fact that goes is replaced by at least as much: with one fact fewer no set bound and no total is lower.
use Prim.Native.Nat.{ℕ, zero, suc, ◌+◌, ◌-◌, ◌*◌, ◌≤◌, ◌<◌}
use native.Mathlib.Omega.{arith}
use native.Mathlib.Decide.{ℕ_discrete, dec_lt}
use native.Mathlib.Nat.{div-mul-le_self, le-div_iff_mul-le, le_trans, mul-le-mul_left}
use mathlib.Core.Path.{◌≡◌, refl, sym, ◌∙◌, ap}
use mathlib.Core.Logic.{dite}
use mathlib.Core.Bool.{Bool, true, false, cond, ◌&&◌}
use mathlib.Core.List.{List}
use borrow.Author.Tests.{lt-ltb, le-ltb}
use Rattle.paper.specs.Lists.{sum_to, lowest_to}
use Rattle.paper.specs.Policies.{parts_of}
use Rattle.paper.specs.Cases.{Fact, Case}
use Rattle.paper.specs.Graphs.{count, header_visits, innermost, outer, entries_of, entries}
use Rattle.paper.specs.Bounds.{floor_of, covers, counts, entered, fact_bound, lives, uncovered, sum_of, any_fact, A, up_to, M, floor_at, least_floor, set_bound, total_bound}
use Rattle.paper.specs.Files.{read_case}
use Rattle.paper.specs.Salvaging.{skip, without_fact, RemovalHolds}
use Rattle.paper.proofs.BoundLaws.{bound_low}
use Rattle.paper.proofs.Says.{Says, says_bool, holds, fails, says_and, says_true, both}
use Rattle.paper.proofs.Meaning.{Sound, Ordered}
use Rattle.paper.proofs.TestLaws.{lives_says, covers_says, uncovered_says}
use Rattle.paper.proofs.VerdictLaws.{file_sound, file_ordered}
use Rattle.theory.proofs.SumLaws.{sum_le, sum_same, sum_two}
use Rattle.theory.proofs.Once.{once}

-- the facts that are left where fact r goes
module _ (r j : ℕ) where
  skip_before : j < r → skip r j ≡ j
  skip_before h = rw (lt-ltb _ _ h) refl

  skip_after : r ≤ j → skip r j ≡ suc j
  skip_after h = rw (le-ltb _ _ h) refl

  skip_other : ¬ (skip r j ≡ r)
  skip_other p = dite (dec_lt j r) (λ h. omega (arith, skip_before h)) (λ h. omega (arith, skip_after (omega arith)))

  skip_low : (n : ℕ) → j < n → skip r j < suc n
  skip_low n l = dite (dec_lt j r) (λ h. omega (arith, skip_before h)) (λ h. omega (arith, skip_after (omega arith)))

-- a sum without one of its terms
sum_skip : (f : ℕ → ℕ) (r n : ℕ) → r ≤ n → sum_to f (suc n) ≡ sum_to (λ j. f (skip r j)) n + f r
unfolding sum_to
sum_skip f r zero l =
    let z : r ≡ 0 = omega arith in
    omega (arith, ap f z)
sum_skip f r (suc n) l = go (ℕ_discrete r (suc n)) (sum_skip f r n)
  where
    go : Dec (r ≡ suc n) → (r ≤ n → sum_to f n + f n ≡ sum_to (λ j. f (skip r j)) n + f r) →
        sum_to f n + f n + f (suc n) ≡ sum_to (λ j. f (skip r j)) n + f (skip r n) + f r
    go (yes p) ih =
        omega (
          arith,
          sum_same f (λ j. f (skip r j)) n (λ j q. ap f (sym (skip_before r j (omega arith)))),
          ap f (skip_before r n (omega arith)),
          ap f p,
        )
    go (no q) ih = omega (arith, ih (omega arith), ap f (skip_after r n (omega arith)))

-- a test that is one of two that exclude each other
cond_three : {P Q R : Type 0} {a b c : Bool} (n : ℕ) → Says P a → Says Q b → Says R c → (P → ¬ Q) → (P → R) → (Q → R) → cond a n 0 + cond b n 0 ≤ cond c n 0
cond_three n (holds p) (holds q) z f g h = absurd (f p q)
cond_three n (holds p) (fails q) (holds r) f g h = omega arith
cond_three n (holds p) (fails q) (fails r) f g h = absurd (r (g p))
cond_three n (fails p) (holds q) (holds r) f g h = omega arith
cond_three n (fails p) (holds q) (fails r) f g h = absurd (r (h q))
cond_three n (fails p) (fails q) z f g h = omega arith

lowest_mono : (f g : ℕ → ℕ) (a b n : ℕ) → a ≤ b → ((j : ℕ) → j < n → f j ≤ g j) → lowest_to f a n ≤ lowest_to g b n
unfolding lowest_to
lowest_mono f g a b zero h l = h
lowest_mono f g a b (suc n) h l = omega (arith, lowest_mono f g a b n h (λ j q. l j (omega arith)), l n (omega arith))

module _ (e : Case) (s : Sound e) (ordered : Ordered e) (r : ℕ) (low : r < e.facts) where
  abbrev d : Case
  d = without_fact e r

  module _ (test : Fact → Bool) (q : ℕ) where
    -- fact r is of set q and passes
    abbrev on : Bool
    on = lives e q (e.fact r).block && test (e.fact r)

    -- what fact r covered is uncovered without it, and was not with it
    at_node : (b : Bool) → on ≡ b → (v : ℕ) →
        cond (b && covers e (e.fact r) v) (count e v) 0 + cond (uncovered e test q v) (count e v) 0 ≤ cond (uncovered d test q v) (count e v) 0
    unfolding without_fact
    at_node b p v =
        cond_three (count e v) (says_and (says_bool b) (covers_says e (e.fact r) v)) (uncovered_says e (λ t. says_bool (test t)) q v) (uncovered_says d (λ t. says_bool (test t)) q v)
        (λ a n. n.1 (r, low, ((both (lives e q (e.fact r).block) (test (e.fact r)) (p ∙ a.0)).1, (a.1.0, a.1.1))))
        (λ a. (
          let z = says_true (lives_says e q (e.fact r).block) (both (lives e q (e.fact r).block) (test (e.fact r)) (p ∙ a.0)).0 in
              (rw a.1.1 z.0, rw a.1.1 z.1),
          λ n. skip_other r n.0
              (once e s ordered (skip r n.0) r v (omega (arith, skip_low r n.0 (e.facts - 1) n.1)) low n.2.1.0 a.1.0 (sym n.2.1.1 ∙ a.1.1)),
        ))
        (λ n. (n.0, λ m. n.1 (skip r m.0, omega (arith, skip_low r m.0 (e.facts - 1) m.1), (m.2.0, (m.2.1.0, m.2.1.1)))))

    -- what fact r was charged, where it was charged no more than what it covers
    charged : (each : Fact → ℕ) → each (e.fact r) ≤ counts e (covers e (e.fact r)) → (b : Bool) → on ≡ b →
        cond b (each (e.fact r)) 0 ≤ sum_to (λ v. cond (b && covers e (e.fact r) v) (count e v) 0) e.nodes
    unfolding counts
    charged each h true p = h
    charged each h false p = omega arith

    sum_grows : (each : Fact → ℕ) → each (e.fact r) ≤ counts e (covers e (e.fact r)) → sum_of e test each q ≤ sum_of d test each q
    unfolding without_fact sum_of counts lives count innermost header_visits
    sum_grows each h =
        let f : ℕ → ℕ = λ i. cond (lives e q (e.fact i).block && test (e.fact i)) (each (e.fact i)) 0 in
        let z : e.facts ≡ suc (e.facts - 1) = omega arith in
        omega (
          arith,
          ap (sum_to f) z,
          sum_skip f r (e.facts - 1) (omega arith),
          charged each h on refl,
          sum_two
              (λ v. cond (on && covers e (e.fact r) v) (count e v) 0)
              (λ v. cond (uncovered e test q v) (count e v) 0)
              (λ v. cond (uncovered d test q v) (count e v) 0)
              e.nodes (λ v l. at_node on refl v),
        )

  -- the lesser of E + p and N stands for E, and no bound is above N
  A_grows : (p q : ℕ) → A e p q ≤ A d p q
  unfolding without_fact A fact_bound entered counts covers entries entries_of outer count innermost header_visits
  A_grows p q = sum_grows (any_fact e) q (fact_bound e p) (bound_low e.policy e.ways (e.fact r).limit (entered e p (e.fact r)) (counts e (covers e (e.fact r))) (omega arith))

  M_grows : (p l q : ℕ) → M e p l q ≤ M d p l q
  unfolding without_fact M entered counts covers entries entries_of outer count innermost header_visits
  M_grows p l q = sum_grows (up_to e l) q (entered e p) (omega arith)

  floor_grows : (p q j : ℕ) → j < e.ways → floor_at e p q j ≤ floor_at d p q j
  unfolding without_fact floor_at floor_of
  floor_grows p q j l =
      let h : 0 < suc e.ways - suc j = omega arith in
      (le-div_iff_mul-le h).1
      (le_trans (div-mul-le_self (e.ways * M e p (suc j) q) (suc e.ways - suc j)) (mul-le-mul_left e.ways (M_grows p (suc j) q)))

  set_grows : (p q : ℕ) → set_bound e p q ≤ set_bound d p q
  unfolding without_fact set_bound
  set_grows p q = go (parts_of e.policy).floors
    where
      go : (b : Bool) → cond b (least_floor e p q) (A e p q) ≤ cond b (lowest_to (floor_at d p q) (A d p q) e.ways) (A d p q)
      go true = lowest_mono (floor_at e p q) (floor_at d p q) (A e p q) (A d p q) e.ways (A_grows p q) (floor_grows p q)
      go false = A_grows p q

  total_grows : (p : ℕ) → total_bound e p ≤ total_bound d p
  unfolding without_fact total_bound
  total_grows p = sum_le (set_bound e p) (set_bound d p) e.sets (λ q l. set_grows p q)

-- "Removing a fact from an accepted file never lowers a set bound or the total"
pub removal_holds : (f : List ℕ) → RemovalHolds f
removal_holds f h r low =
    let e = read_case f in
    let s = (file_sound f h).1 in
    let o = file_ordered f h in
    record { set = set_grows e s o r low; total = total_grows e s o r low }
