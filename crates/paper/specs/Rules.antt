-- "Numbers of refusal": the one form of a chain of rules. A chain takes the verdict of what follows it, and hands it on where none of its rules is broken.
use Rattle.std.specs.Prelude.{ℕ, ◌≡◌, Bool, cond, Ok, Err}
use Rattle.paper.specs.declared.Refusal.{Refusal}
use Rattle.paper.specs.Answers.{Verdict, refuse}
use Rattle.paper.specs.Lists.{least, some}

abbrev pub refused : ℕ → ℕ → Verdict
refused number place = Err (refuse number place)

-- A rule: its refusal, and whether it is broken; then the rest.
abbrev pub rule_by : Refusal → Bool → Verdict → Verdict
rule_by r broken rest = cond broken (Err r) rest

-- A rule with one place.
abbrev pub rule : ℕ → ℕ → Bool → Verdict → Verdict
rule number place broken rest = rule_by (refuse number place) broken rest

-- A rule whose test is p at the places below n: "The least place is given."
abbrev pub rule_at : ℕ → (ℕ → Bool) → ℕ → Verdict → Verdict
rule_at number p n rest = rule number (least p n) (some p n) rest

-- No rule of the chain is broken.
abbrev pub Passes : (Verdict → Verdict) → Type 0
Passes chain = chain (Ok tt) ≡ Ok tt

-- what comes of a verdict where the rest follows it
abbrev pub follow : Verdict → Verdict → Verdict
follow (Ok tt) rest = rest
follow (Err r) rest = Err r
