-- LRU: of b's accesses at most the first in a stay misses.
use Prim.Native.Nat.{ℕ, ◌<◌}
use mathlib.Core.Path.{◌∙◌}
use mathlib.Core.List.{List}
use native.Mathlib.Omega.{arith}
use Rattle.theory.proofs.Ideal.{miss, lru, LegalLines}
use Rattle.theory.proofs.Lines.{length_shift, apart_lru, line_in}
use Rattle.theory.proofs.Recent.{Recent, recent_line, recent_front, recent_wider, recent_lru}
use Rattle.theory.proofs.Law.{Machine, Fair, Law}

abbrev pub LRU : ℕ → Machine
LRU k = record { State = List ℕ; miss = miss; step = lru; Legal = LegalLines k }

pub lru_fair : (k : ℕ) → Fair (LRU k)
lru_fair k =
    record {
      legal = λ x s h. record { apart = apart_lru x s h.apart; lines_k = length_shift x x s ∙ h.lines_k };
      once = λ x s. omega arith;
    }

-- b stands behind blocks of R alone, so at line n or before, and n is below k
pub lru_law : (k b n : ℕ) → n < k → Law (LRU k) b n 1 1 0
lru_law k b n h =
    record {
      enough = omega arith;
      Known = λ m R l. Recent b n 0 R l;
      wider = λ m R R' s i f r y. recent_wider R' i f r y;
      other = λ m x R s u i v y. recent_lru x R s u i y;
      first = λ s v. (0, omega arith, recent_front s);
      again = λ m R s v y. (0, omega (arith, line_in b s (omega (arith, recent_line R s v.apart y, v.lines_k))), recent_front s);
    }
