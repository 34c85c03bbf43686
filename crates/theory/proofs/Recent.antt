-- What LRU and FIFO know of b: the lines before b's are blocks of R that came since, and at most q others.
use Prim.Native.Nat.{ℕ, zero, suc, ◌+◌, ◌≤◌, ◌<◌}
use mathlib.Core.Path.{◌≡◌, refl, sym, ◌∙◌}
use mathlib.Core.Logic.{◌≢◌}
use mathlib.Core.Bool.{cond}
use mathlib.Core.List.{List, [], ◌∷◌}
use native.Mathlib.Decide.{ℕ_discrete, dec_le}
use native.Mathlib.Omega.{arith}
use borrow.Author.Tests.{eq-eqb, ne_eqb}
use lib.Dec.{eqb}
use lib.ListN.{length, get_or}
use Rattle.paper.specs.Machines.{none, line_of}
use Rattle.theory.proofs.Count.{sum, cnt}
use Rattle.theory.proofs.Ideal.{shift, lru, fifo, Apart}
use Rattle.theory.proofs.Lines.{line_cons, line_next, line_shift, line_front, fifo_in, fifo_out}
use Rattle.theory.proofs.Pigeon.{pigeon}

-- the lines are blocks of R, and then lines in which b stands at q or before
data Behind (b : ℕ) (R : List ℕ) (q : ℕ) : List ℕ → Type 0 where
  old : {l : List ℕ} → line_of l b ≤ q → Behind b R q l
  more : {y : ℕ} {l : List ℕ} → 1 ≤ cnt y R → Behind b R q l → Behind b R q (y ∷ l)

behind_wider : {b : ℕ} {R : List ℕ} {q : ℕ} {l : List ℕ} (R' : List ℕ) → ((y : ℕ) → 1 ≤ cnt y R → 1 ≤ cnt y R') → Behind b R q l → Behind b R' q l
behind_wider R' s (old h) = old h
behind_wider R' s (more h f) = more (s _ h) (behind_wider R' s f)

behind_shift : (b x : ℕ) (R : List ℕ) (q c : ℕ) {l : List ℕ} → x ≢ b → 1 ≤ cnt c R → Behind b R q l → Behind b R q (shift x c l)
unfolding shift
behind_shift b x R q c {l = []} n i (old h) = old h
behind_shift b x R q c {l = y ∷ l} n i (old h) =
    more
    {l = cond (eqb y x) l (shift x y l)}
    i
    (elim (ℕ_discrete y x) [
      | yes p ↦ rw eq-eqb (old {l = l} (omega (arith, line_next b y l (λ e. n (sym p ∙ e)))))
      | no r ↦ rw ne_eqb (old {l = shift x y l} (omega (arith, line_shift b x y l n)))
    ])
behind_shift b x R q c n i (more {y = y} {l = l} h f) =
    more {l = cond (eqb y x) l (shift x y l)} i (elim (ℕ_discrete y x) [ yes p ↦ rw eq-eqb f | no r ↦ rw ne_eqb (behind_shift b x R q y n h f) ])

-- how many of R's blocks lead
record Led (b : ℕ) (R : List ℕ) (q : ℕ) (l : List ℕ) : Type 0 where
  p : ℕ
  lead : (j : ℕ) → j < p → 1 ≤ cnt (get_or l j none) R
  line : line_of l b ≤ p + q

led : (b q : ℕ) (R l : List ℕ) → Behind b R q l → Led b R q l
led b q R l (old h) = record { p = 0; lead = λ j i. absurd (omega arith); line = omega arith }
led b q R (y ∷ l) (more h f) =
    let r = led b q R l f in
    record { p = suc r.p; lead = go r.p r.lead; line = omega (arith, line_cons b y l, r.line) }
  where
    go : (p : ℕ) → ((j : ℕ) → j < p → 1 ≤ cnt (get_or l j none) R) → (j : ℕ) → j < suc p → 1 ≤ cnt (get_or (y ∷ l) j none) R
    go p g zero i = h
    go p g (suc j) i = g j (omega arith)

-- since b's last access all accesses were of R, at most n blocks, and q lines were before b's already
pub record Recent (b n q : ℕ) (R l : List ℕ) : Type 0 where
  few : length R ≤ n
  real : cnt none R ≡ 0
  behind : Behind b R q l

module _ {b n q : ℕ} where
  pub recent_line : (R l : List ℕ) → Apart l → Recent b n q R l → line_of l b ≤ n + q
  recent_line R l v r =
      let d = led b q R l r.behind in
      omega (arith, d.line, pigeon d.p l R v r.real d.lead, r.few)

  pub recent_old : (l : List ℕ) → line_of l b ≤ q → Recent b n q [] l
  unfolding sum
  recent_old l h = record { few = omega arith; real = refl; behind = old h }

  pub recent_front : (l : List ℕ) → Recent b n q [] (lru b l)
  recent_front l = recent_old (lru b l) (omega (arith, line_front b l))

  pub recent_wider : {R l : List ℕ} (R' : List ℕ) → ((y : ℕ) → 1 ≤ cnt y R → 1 ≤ cnt y R') → length R' ≤ n → cnt none R' ≡ 0 → Recent b n q R l → Recent b n q R' l
  recent_wider R' i f e r = record { few = f; real = e; behind = behind_wider R' i r.behind }

  pub recent_lru : (x : ℕ) (R l : List ℕ) → x ≢ b → 1 ≤ cnt x R → Recent b n q R l → Recent b n q R (lru x l)
  recent_lru x R l u i r = record { few = r.few; real = r.real; behind = behind_shift b x R q x u i r.behind }

  pub recent_fifo : (x : ℕ) (R l : List ℕ) → x ≢ b → 1 ≤ cnt x R → Recent b n q R l → Recent b n q R (fifo x l)
  recent_fifo x R l u i r =
      elim (dec_le 1 (cnt x l)) [ yes h ↦ rw fifo_in r | no h ↦ rw fifo_out (recent_lru x R l u i r) ]
