-- NMRU: of b's accesses in a stay at most l miss. Each time b is lost it comes back in a higher line, and it never comes to line l.
use Prim.Native.Nat.{ℕ, suc, ◌+◌, ◌-◌, ◌*◌, ◌^◌, ◌≤◌, ◌<◌}
use mathlib.Core.Path.{◌≡◌, refl, sym, ◌∙◌, ap}
use mathlib.Core.Logic.{◌≢◌, ◌⊎◌, inl, inr}
use mathlib.Core.List.{List, []}
use native.Mathlib.Decide.{ℕ_discrete, dec_le}
use native.Mathlib.Omega.{arith}
use lib.ListN.{length, get_or}
use Rattle.paper.specs.declared.SetState.{SetState}
use Rattle.paper.specs.Machines.{none, bit_at, marked}
use Rattle.paper.proofs.Bits.{same, flipped}
use Rattle.theory.proofs.Count.{sum, one, cnt, one_yes, one_no}
use Rattle.theory.proofs.Ideal.{miss, freed, spot, nmru, LegalWays}
use Rattle.theory.proofs.Pigeon.{pigeon}
use Rattle.theory.proofs.Ways.{Marks, stands, others, there, swapped, stays_full, legal_placed}
use Rattle.theory.proofs.Spots.{NMRU, nmru_marks, own, rest, taken, by_bits}
use Rattle.theory.proofs.Law.{Law}

-- each line whose bit is 1 holds a block of R
abbrev Within : List ℕ → SetState → Type 0
Within R s = (j : ℕ) → bit_at s.bits j ≡ 1 → 1 ≤ cnt (get_or s.lines j none) R

module _ (b n k : ℕ) (bb : b ≢ none) (nk : n < k) (k2 : 2 ≤ k) where
  -- b after f misses in its stay. Lost, no line is empty, and none will be: a miss goes by the bits from then on. b has f lines below with the bit 1, all of them blocks of R; so it comes back above them, and f is at most n.
  data Held (R : List ℕ) (f : ℕ) (s : SetState) : Type 0 where
    here : (i : ℕ) → get_or s.lines i none ≡ b → f ≤ suc i → f ≤ suc n → (bit_at s.bits i ≡ 1 ⊎ Within R s) → Held R f s
    lost : cnt b s.lines ≡ 0 → cnt none s.lines ≡ 0 → Within R s → ((j : ℕ) → j < f → bit_at s.bits j ≡ 1) → Held R f s

  marks : Marks k (2 ^ k - 1) (freed k) (marked k)
  marks = nmru_marks k k2

  touched : (f : ℕ) (s : SetState) → LegalWays k (2 ^ k - 1) s → f ≤ suc (spot k b s) → f ≤ suc n → Held [] f (nmru k b s)
  touched f s v g h = here (spot k b s) (stands marks b s v) g h (inl (own k2 b s v))

  -- another block of R is accessed
  module _ (x : ℕ) (R : List ℕ) (s : SetState) (u : x ≢ b) (few : length R ≤ n) (real : cnt none R ≡ 0) (new∈ : 1 ≤ cnt x R) (v : LegalWays k (2 ^ k - 1) s) where
    within : ((i : ℕ) → i ≢ spot k x s → bit_at (nmru k x s).bits i ≡ 1 → 1 ≤ cnt (get_or s.lines i none) R) → Within R (nmru k x s)
    within h i on =
        elim (ℕ_discrete i (spot k x s)) [ yes e ↦ rw (e, stands marks x s v) new∈ | no e ↦ rw (others marks x s v i e) (h i e on) ]

    flip : ((i : ℕ) → i ≢ spot k x s → bit_at (nmru k x s).bits i ≡ 0) → Within R (nmru k x s)
    flip off = within (λ i e on. absurd (omega (arith, off i e)))

    -- while every line with the bit 1 holds a block of R the bits do not flip: that would need k blocks of R
    kept : Within R s → (i : ℕ) → i ≢ spot k x s → bit_at (nmru k x s).bits i ≡ bit_at s.bits i
    kept m =
        elim (rest k2 x s v) [
          | same i l e z h ↦ h
          | flipped ones off ↦
              absurd
              (omega (
                arith,
                pigeon k (nmru k x s).lines R (legal_placed marks x s v).apart real λ i l.
                    elim (ℕ_discrete i (spot k x s)) [ yes e ↦ rw (e, stands marks x s v) new∈ | no e ↦ rw (others marks x s v i e) (m i (ones i l e)) ],
              ))
        ]

    still : Within R s → Within R (nmru k x s)
    still m = within (λ i e on. m i (sym (kept m i e) ∙ on))

    ones : (f : ℕ) → Within R s → ((i : ℕ) → i < f → i ≢ spot k x s → bit_at s.bits i ≡ 1) → (i : ℕ) → i < f → bit_at (nmru k x s).bits i ≡ 1
    ones f m h i l = elim (ℕ_discrete i (spot k x s)) [ yes e ↦ rw e (own k2 x s v) | no e ↦ kept m i e ∙ h i l e ]

    lines_b : cnt b (nmru k x s).lines + one b (get_or s.lines (spot k x s) none) ≡ cnt b s.lines
    lines_b = omega (arith, swapped marks x s v b, one_no b x u)

    -- R has no empty line's number, so x is a block and fills the line it goes to
    full : cnt none s.lines ≡ 0 → cnt none (nmru k x s).lines ≡ 0
    full = stays_full marks x s v (λ e. omega (arith, ap (λ (y : ℕ). cnt y R) e))

    passed : (f : ℕ) → Held R f s → Held R f (nmru k x s)
    passed f (lost z o m g) = lost (omega (arith, lines_b)) (full o) (still m) (ones f m (λ i l e. g i l))
    passed f (here i a g h (inl on)) =
        elim (ℕ_discrete i (spot k x s)) [
          | yes e ↦ absurd (omega (arith, (taken k2 x s v b i bb u a e).1))
          | no e ↦
              here i (others marks x s v i e ∙ a) g h
              (elim (rest k2 x s v) [ same j l d z k ↦ inl (k i e ∙ on) | flipped o off ↦ inr (flip off) ])
        ]
    passed f (here i a g h (inr m)) =
        elim (ℕ_discrete i (spot k x s)) [
          | yes e ↦
              lost
              (omega (arith, lines_b, v.apart b bb, one_yes b (get_or s.lines (spot k x s) none) (ap (λ (j : ℕ). get_or s.lines j none) (sym e) ∙ a)))
              (full (taken k2 x s v b i bb u a e).0)
              (still m)
              (ones f m (λ j l d. (taken k2 x s v b i bb u a e).2 j (omega arith)))
          | no e ↦ here i (others marks x s v i e ∙ a) g h (inr (still m))
        ]

  record Kept (c : ℕ) (R : List ℕ) (s : SetState) : Type 0 where
    few : length R ≤ n
    real : cnt none R ≡ 0
    f : ℕ
    cf : c + f ≡ suc n
    held : Held R f s

  fresh : (f c : ℕ) (s : SetState) → LegalWays k (2 ^ k - 1) s → f ≤ suc (spot k b s) → f ≤ suc n → c + f ≡ suc n → Kept c [] (nmru k b s)
  unfolding sum
  fresh f c s v g h e = record { few = omega arith; real = refl; f = f; cf = e; held = touched f s v g h }

  held_wider : (R R' : List ℕ) (f : ℕ) (s : SetState) → ((y : ℕ) → 1 ≤ cnt y R → 1 ≤ cnt y R') → Held R f s → Held R' f s
  held_wider R R' f s w (here i a g h (inl o)) = here i a g h (inl o)
  held_wider R R' f s w (here i a g h (inr m)) = here i a g h (inr (λ j p. w _ (m j p)))
  held_wider R R' f s w (lost z o m g) = lost z o (λ j p. w _ (m j p)) g

  -- b comes back above the f lines: none is empty, so it goes by the bits
  above : (f : ℕ) (s : SetState) → LegalWays k (2 ^ k - 1) s → cnt b s.lines ≡ 0 → cnt none s.lines ≡ 0 → ((j : ℕ) → j < f → bit_at s.bits j ≡ 1) → f ≤ spot k b s
  above f s v z o g =
      elim (dec_le f (spot k b s)) [ yes h ↦ h | no h ↦ absurd (omega (arith, g (spot k b s) (omega arith), by_bits k2 b s v z o)) ]

  repeat : (m : ℕ) (R : List ℕ) (s : SetState) → LegalWays k (2 ^ k - 1) s → Kept m R s → (m' : ℕ) × (1 * miss b s.lines + m' ≤ 0 + m) × Kept m' [] (nmru k b s)
  repeat m R s v q =
      elim q.held [
        | here i a g h o ↦
            let t = there marks b s v bb i a in
            (m, omega (arith, t.0), fresh q.f m s v (omega (arith, t.1)) h q.cf)
        | lost z o w g ↦
            let p = pigeon q.f s.lines R v.apart q.real (λ j l. w j (g j l)) in (
              m - 1,
              omega (arith, q.cf, q.few),
              fresh (suc q.f) (m - 1) s v (omega (arith, above q.f s v z o g)) (omega (arith, q.few)) (omega (arith, q.cf, q.few)),
            )
      ]

  pub nmru_law : Law (NMRU k) b n 1 (suc n) 0
  nmru_law =
      record {
        enough = omega arith;
        Known = Kept;
        wider = λ m R R' s i f r q. record { few = f; real = r; f = q.f; cf = q.cf; held = held_wider R R' q.f s i q.held };
        other = λ m x R s u i v q.
            record {
              few = q.few;
              real = q.real;
              f = q.f;
              cf = q.cf;
              held = passed x R s u q.few q.real i v q.f q.held;
            };
        first = λ s v. (n, omega arith, fresh 1 n s v (omega arith) (omega arith) (omega arith));
        again = repeat;
      }
