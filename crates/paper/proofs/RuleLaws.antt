-- The laws of a chain of rules, once for all chains.
use Rattle.std.specs.Prelude.{Ok, Err}
use Prim.Native.Nat.{ℕ, ◌≤◌, ◌<◌}
use native.Mathlib.Omega.{arith}
use mathlib.Core.Path.{◌≡◌, refl, sym, ◌∙◌, ap}
use mathlib.Core.Bool.{Bool, true, false}
use lib.Dec.{ltb}
use borrow.Author.Tests.{lt-ltb, le-ltb}
use Rattle.paper.specs.declared.Refusal.{Refusal}
use Rattle.paper.specs.Answers.{Verdict, refuse}
use Rattle.paper.specs.Lists.{least, some}
use Rattle.paper.specs.Rules.{rule_by, rule, rule_at, Passes}
pub use Rattle.paper.specs.Rules.{follow}

pub never : {P : Type 0} (r : Refusal) → ◌≡◌ {A = Verdict} (Err r) (Ok tt) → P
never r e = let z : ◌≡◌ {A = ℕ} 0 1 = cc in absurd (omega arith)

-- what an accepted chain says of its first rule, and of the rest
pub past_by : (r : Refusal) (broken : Bool) (rest : Verdict) → rule_by r broken rest ≡ Ok tt → (broken ≡ false) × (rest ≡ Ok tt)
past_by r true rest h = never _ h
past_by r false rest h = (refl, h)

pub past : (number place : ℕ) (broken : Bool) (rest : Verdict) → rule number place broken rest ≡ Ok tt → (broken ≡ false) × (rest ≡ Ok tt)
past number place broken rest h = past_by (refuse number place) broken rest h

-- a rule by the outcome b of its test: where it is kept the verdict is that of the rest, where it is broken the file is refused
module _ (why : Refusal) (broken : Bool) (rest : Verdict) (b : Bool) (e : b ≡ broken) where
  pub passes : (v : Verdict) → b ≡ false → v ≡ rest → v ≡ rule_by why broken rest
  passes v h s = rw (← e, h) s

  pub stops : (r : Refusal) → b ≡ true → r ≡ why → Err r ≡ rule_by why broken rest
  stops r h s = rw (← e, h) (ap Err s)

-- a rule that compares two numbers
module _ (why : Refusal) (a b : ℕ) (rest : Verdict) where
  pub passes_lt : (v : Verdict) → b ≤ a → v ≡ rest → v ≡ rule_by why (ltb a b) rest
  passes_lt v h s = rw (le-ltb a b h) s

  pub stops_lt : (r : Refusal) → a < b → r ≡ why → Err r ≡ rule_by why (ltb a b) rest
  stops_lt r h s = rw (lt-ltb a b h) (ap Err s)

-- a rule whose least place is i
module _ (p : ℕ → Bool) (n i : ℕ) where
  pub keeps : i ≡ least p n → n ≤ i → some p n ≡ false
  unfolding some
  keeps e h = rw (← e) (le-ltb i n h)

  breaks : i ≡ least p n → i < n → some p n ≡ true
  unfolding some
  breaks e h = rw (← e) (lt-ltb i n h)

module _ (number n : ℕ) (p : ℕ → Bool) (rest : Verdict) (i : ℕ) (e : i ≡ least p n) where
  pub passes_at : (v : Verdict) → n ≤ i → v ≡ rest → v ≡ rule_at number p n rest
  passes_at v h s = rw (keeps p n i e h) s

  pub stops_at : (r : Refusal) → i < n → r ≡ refuse number i → Err r ≡ rule_at number p n rest
  stops_at r h s = rw (breaks p n i e h) (ap Err (s ∙ ap (refuse number) e))

-- What follows a chain is reached only where the chain accepts.
abbrev pub Hands : (Verdict → Verdict) → Type 0
Hands chain = (rest : Verdict) → chain rest ≡ follow (chain (Ok tt)) rest

pub hands_by : (r : Refusal) (broken : Bool) → Hands (rule_by r broken)
hands_by r true rest = refl
hands_by r false rest = refl

pub hands_rule : (number place : ℕ) (broken : Bool) → Hands (rule number place broken)
hands_rule number place broken = hands_by (refuse number place) broken

regroup : (v w rest : Verdict) → follow v (follow w rest) ≡ follow (follow v w) rest
regroup (Ok tt) w rest = refl
regroup (Err r) w rest = refl

pub hands_then : (a b : Verdict → Verdict) → Hands a → Hands b → Hands (λ rest. a (b rest))
hands_then a b h k rest =
    h (b rest) ∙ ap (follow (a (Ok tt))) (k rest) ∙ regroup (a (Ok tt)) (b (Ok tt)) rest ∙ ap (λ v. follow v rest) (sym (h (b (Ok tt))))

-- what an accepted chain says of itself
pub passes_chain : (chain : Verdict → Verdict) → Hands chain → (rest : Verdict) → chain rest ≡ Ok tt → Passes chain
passes_chain chain h rest a = go (chain (Ok tt)) (sym (h rest) ∙ a)
  where
    go : (v : Verdict) → follow v rest ≡ Ok tt → v ≡ Ok tt
    go (Ok tt) p = refl
    go (Err r) p = never r p

-- the chain's own verdict is v
module _ (chain : Verdict → Verdict) (h : Hands chain) (rest v : Verdict) (a : v ≡ chain (Ok tt)) where
  pub accepted_on : v ≡ Ok tt → chain rest ≡ rest
  accepted_on e = h rest ∙ ap (λ w. follow w rest) (sym a ∙ e)

  pub refused_on : (r : Refusal) → v ≡ Err r → chain rest ≡ Err r
  refused_on r e = h rest ∙ ap (λ w. follow w rest) (sym a ∙ e)
