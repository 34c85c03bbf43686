-- What an answer tells determines the answer.
use Rattle.std.specs.Prelude.{Result, Option, Ok, Err, Some, None}
use Prim.Native.Nat.{ℕ, zero, suc}
use mathlib.Core.Path.{◌≡◌, refl, sym, ◌∙◌, ap}
use mathlib.Core.List.{List, [], ◌∷◌}
use Rattle.paper.specs.declared.Refusal.{Refusal}
use Rattle.paper.specs.declared.Outcome.{Outcome}
use Rattle.paper.specs.declared.Outcome.TheVariants.{Hit, Miss}
use Rattle.paper.specs.declared.Block.{Block}
use Rattle.paper.specs.declared.SetNumber.{SetNumber}
use Rattle.paper.specs.declared.Salvage.{Salvage}
use Rattle.paper.specs.Answers.{Verdict, refuse_at, Told, told, mark_of, found_or_none, told_verdict, told_trace, told_outcome, told_block, told_set, told_write, told_find, told_salvage, told_ways, told_time}

-- answers that tell the same are the same, where their values tell what is found
module _ {A : Type 0} (values : A → List ℕ) (back : List ℕ → A) (got_back : (a : A) → back (values a) ≡ a) where
  abbrev from : Refusal → Option (List ℕ) → Result A Refusal
  from r None = Err r
  from r (Some ns) = Ok (back ns)

  abbrev answer : Told → Result A Refusal
  answer t = from (refuse_at t.number t.place t.second) t.values

  answer_back : (v : Result A Refusal) → answer (told values v) ≡ v
  answer_back (Ok a) = ap Ok (got_back a)
  answer_back (Err r) = refl

  same : (v v' : Result A Refusal) → told values v ≡ told values v' → v ≡ v'
  same v v' e = sym (answer_back v) ∙ ap answer e ∙ answer_back v'

-- the first of the values
abbrev first : List ℕ → ℕ
first [] = 0
first (n ∷ rest) = n

pub same_verdict : (v v' : Verdict) → told_verdict v ≡ told_verdict v' → v ≡ v'
same_verdict = same (λ accepted. []) (λ ns. tt) (λ accepted. refl)

pub same_trace : (v v' : Result ℕ Refusal) → told_trace v ≡ told_trace v' → v ≡ v'
same_trace = same (λ n. n ∷ []) first (λ n. refl)

abbrev marked : ℕ → Outcome
marked zero = Hit
marked (suc n) = Miss

marked_back : (o : Outcome) → marked (mark_of o) ≡ o
marked_back Hit = refl
marked_back Miss = refl

pub same_outcome : (v v' : Result Outcome Refusal) → told_outcome v ≡ told_outcome v' → v ≡ v'
same_outcome = same (λ o. mark_of o ∷ []) (λ ns. marked (first ns)) marked_back

pub same_block : (v v' : Result Block Refusal) → told_block v ≡ told_block v' → v ≡ v'
same_block = same (λ b. b.0 ∷ []) (λ ns. record { 0 = first ns }) (λ b. refl)

pub same_set_lem : (v v' : Result SetNumber Refusal) → told_set v ≡ told_set v' → v ≡ v'
same_set_lem = same (λ s. s.0 ∷ []) (λ ns. record { 0 = first ns }) (λ s. refl)

pub same_write : (v v' : Result ℕ Refusal) → told_write v ≡ told_write v' → v ≡ v'
same_write = same_trace

abbrev limit_from : List ℕ → Option ℕ
limit_from [] = None
limit_from (l ∷ rest) = Some l

limit_back : (l : Option ℕ) → limit_from (found_or_none l) ≡ l
limit_back None = refl
limit_back (Some l) = refl

pub same_find : (v v' : Result (Option ℕ) Refusal) → told_find v ≡ told_find v' → v ≡ v'
same_find = same found_or_none limit_from limit_back

abbrev salvage_from : List ℕ → Salvage
salvage_from [] = record { length = 0; dropped = 0 }
salvage_from (n ∷ rest) = record { length = n; dropped = first rest }

pub same_salvage : (v v' : Result Salvage Refusal) → told_salvage v ≡ told_salvage v' → v ≡ v'
same_salvage = same (λ s. s.length ∷ s.dropped ∷ []) salvage_from (λ s. refl)

pub same_ways : (v v' : Result (List ℕ) Refusal) → told_ways v ≡ told_ways v' → v ≡ v'
same_ways = same (λ counts. counts) (λ counts. counts) (λ counts. refl)

pub same_time : (v v' : Result ℕ Refusal) → told_time v ≡ told_time v' → v ≡ v'
same_time = same_trace
