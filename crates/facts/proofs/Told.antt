-- What a turn tells, by its answer.
use Rattle.std.specs.Prelude.{Result, Ok, Err}
use Prim.Native.Nat.{ℕ}
use native.Mathlib.Omega.{arith}
use mathlib.Core.Path.{◌≡◌, ◌∙◌, subst}
use mathlib.Core.List.{List}
use Rattle.paper.specs.declared.Refusal.{Refusal}
use Rattle.paper.specs.declared.Trailer.{Trailer}
use Rattle.paper.specs.Answers.{Verdict}
use Rattle.facts.specs.declared.Kept.{Kept}
use Rattle.facts.specs.Turns.{Next, Told}

module _ (f : List ℕ) (trailer : Trailer) (p : ℕ) (chain : Verdict → Verdict) where
  pub told_refused : (r : Refusal) → Err r ≡ chain (Ok tt) → Told f trailer p chain (Err r)
  told_refused r e = record { verdict = e; next = λ k q. let z : ◌≡◌ {A = ℕ} 0 1 = cc in absurd (omega arith) }

  pub told_kept : (k : Kept) → (Ok tt) ≡ chain (Ok tt) → Next f trailer p k → Told f trailer p chain (Ok k)
  told_kept k e n = record { verdict = e; next = λ j q. let z : k ≡ j = cc in subst (Next f trailer p) z n }

  -- a chain that goes on where the other begins
  pub told_on : (other : Verdict → Verdict) (r : Result Kept Refusal) → other (Ok tt) ≡ chain (Ok tt) → Told f trailer p other r → Told f trailer p chain r
  told_on other r e w = record { verdict = w.verdict ∙ e; next = w.next }
