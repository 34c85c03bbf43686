-- FIFO: of b's accesses the first in a stay misses, and of the others at most one in g.
use Prim.Native.Nat.{ℕ, suc, ◌+◌, ◌-◌, ◌*◌, ◌≤◌, ◌<◌}
use mathlib.Core.Path.{◌∙◌}
use mathlib.Core.List.{List, []}
use native.Mathlib.Nat.{suc-mul, mul-le-mul_right}
use native.Mathlib.Decide.{dec_le}
use native.Mathlib.Omega.{arith}
use Rattle.paper.specs.Machines.{line_of}
use Rattle.theory.proofs.Count.{cnt}
use Rattle.theory.proofs.Ideal.{miss, fifo, Apart, LegalLines}
use Rattle.theory.proofs.Lines.{length_fifo, apart_fifo, fifo_in, fifo_out, times_in, times_out, line_out, line_in, in_line}
use Rattle.theory.proofs.Recent.{Recent, recent_line, recent_old, recent_front, recent_wider, recent_fifo}
use Rattle.theory.proofs.Law.{Machine, Fair, Law}

abbrev pub FIFO : ℕ → Machine
FIFO k = record { State = List ℕ; miss = miss; step = fifo; Legal = LegalLines k }

pub fifo_fair : (k : ℕ) → Fair (FIFO k)
fifo_fair k =
    record {
      legal = λ x s h. record { apart = apart_fifo x s h.apart; lines_k = length_fifo x s ∙ h.lines_k };
      once = λ x s. omega arith;
    }

module _ (k b n g : ℕ) (gk : (g - 1) * n < k) where
  -- With m accesses of b since it came, b stands behind R's blocks and at most n others for each. After g - 1 it may miss, and nothing is said.
  abbrev Slow : ℕ → List ℕ → List ℕ → Type 0
  Slow m R l = suc m < g → Recent b n (m * n) R l

  abbrev Paid : ℕ → List ℕ → Type 0
  Paid p s = (m' : ℕ) × (g * miss b s + m' ≤ p) × Slow m' [] (fifo b s)

  line_slow : (m : ℕ) (R l : List ℕ) → Apart l → Slow m R l → suc m < g → line_of l b ≤ suc m * n
  line_slow m R l v s h = omega (arith, recent_line R l v (s h), suc-mul m n)

  gone : (m : ℕ) (R l : List ℕ) → LegalLines k l → Slow m R l → ¬ (1 ≤ cnt b l) → g ≤ suc m
  gone m R l v s o =
      elim (dec_le g (suc m)) [
        | yes h ↦ h
        | no h ↦
            let a : suc m * n ≤ (g - 1) * n = mul-le-mul_right n (omega arith) in
            absurd (omega (arith, line_slow m R l v.apart s (omega arith), line_out b l o, v.lines_k))
      ]

  start : (s : List ℕ) → Paid (g - 1 + 1) s
  start s =
      elim (dec_le 1 (cnt b s)) [
        | yes i ↦ (g, omega (arith, times_in g b s i), λ h. absurd (omega arith))
        | no i ↦ (0, omega (arith, times_out g b s i), λ h. rw fifo_out (recent_front s))
      ]

  repeat : (m : ℕ) (R s : List ℕ) → LegalLines k s → Slow m R s → Paid (1 + m) s
  repeat m R s v y =
      elim (dec_le 1 (cnt b s)) [
        | yes i ↦ (suc m, omega (arith, times_in g b s i), λ h. rw fifo_in (recent_old s (line_slow m R s v.apart y (omega arith))))
        | no i ↦ (0, omega (arith, times_out g b s i, gone m R s v y i), λ h. rw fifo_out (recent_front s))
      ]

  pub fifo_law : Law (FIFO k) b n g (g - 1) 1
  fifo_law =
      record {
        enough = omega arith;
        Known = Slow;
        wider = λ m R R' s i f r y h. recent_wider R' i f r (y h);
        other = λ m x R s u i v y h. recent_fifo x R s u i (y h);
        first = λ s v. start s;
        again = repeat;
      }

-- where no other block comes between, b stays in its line
module _ (k b : ℕ) (h : 0 < k) where
  stays : (s : List ℕ) → LegalLines k s → Recent b 0 (k - 1) [] (fifo b s)
  stays s v =
      elim (dec_le 1 (cnt b s)) [
        | yes i ↦ rw fifo_in (recent_old s (omega (arith, in_line b s i, v.lines_k)))
        | no i ↦ rw fifo_out (recent_front s)
      ]

  pub fifo_one_law : Law (FIFO k) b 0 1 1 0
  fifo_one_law =
      record {
        enough = omega arith;
        Known = λ m R s. Recent b 0 (k - 1) R s;
        wider = λ m R R' s i f r y. recent_wider R' i f r y;
        other = λ m x R s u i v y. recent_fifo x R s u i y;
        first = λ s v. (0, omega arith, stays s v);
        again = λ m R s v y. (0, omega (arith, line_in b s (omega (arith, recent_line R s v.apart y, v.lines_k))), stays s v);
      }
