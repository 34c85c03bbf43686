-- "Each returns number and place and changes no lent memory." Every refusal is made by `refuse_at`.
-- "When an answer is an enum, a definition gives this paper's number and values for each of its cases. The promises use that definition." An answer is `Ok` with what is found, or `Err` with the refusal.
use Rattle.std.specs.Prelude.{ℕ, List, [], ◌∷◌, Option, Some, None, Result, Ok, Err, ⊤}
use Rattle.paper.specs.declared.Refusal.{Refusal}
use Rattle.paper.specs.declared.Outcome.{Outcome}
use Rattle.paper.specs.declared.Block.{Block}
use Rattle.paper.specs.declared.SetNumber.{SetNumber}
use Rattle.paper.specs.declared.Salvage.{Salvage}
use Rattle.paper.specs.declared.Outcome.TheVariants.{Hit, Miss}

-- "The result gets a second place."
abbrev pub refuse_at : ℕ → ℕ → ℕ → Refusal
refuse_at number place second = record { number = number; place = place; second = second }

-- "An accepted file's second place is 0, and so is that of every refusal not named here."
abbrev pub refuse : ℕ → ℕ → Refusal
refuse number place = refuse_at number place 0

-- What an answer tells: the refusal's number and places, all 0 where nothing is refused, and the values, none where something is.
pub record Told : Type 0 where
  pub number : ℕ
  pub place : ℕ
  pub second : ℕ
  pub values : Option (List ℕ)

abbrev pub tells_why : Refusal → Told
tells_why r = record { number = r.number; place = r.place; second = r.second; values = None }

abbrev pub tells : List ℕ → Told
tells values = record { number = 0; place = 0; second = 0; values = Some values }

-- A refusal tells why; any other answer tells the values that it has.
abbrev pub told : {A : Type 0} → (A → List ℕ) → Result A Refusal → Told
told values (Ok a) = tells (values a)
told values (Err r) = tells_why r

-- The check's answer, and that of each chain of its rules.
abbrev pub Verdict : Type 0
Verdict = Result ⊤ Refusal

-- The numbers of an accepted file are in the lent list; the verdict has none of its own.
abbrev pub told_verdict : Verdict → Told
told_verdict v = told (λ accepted. []) v

-- "returns the misses"
abbrev pub told_trace : Result ℕ Refusal → Told
told_trace v = told (λ misses. misses ∷ []) v

-- "1 for a miss and 0 for a hit"
abbrev pub mark_of : Outcome → ℕ
mark_of Hit = 0
mark_of Miss = 1

abbrev pub told_outcome : Result Outcome Refusal → Told
told_outcome v = told (λ outcome. mark_of outcome ∷ []) v

abbrev pub told_block : Result Block Refusal → Told
told_block v = told (λ block. block.0 ∷ []) v

abbrev pub told_set : Result SetNumber Refusal → Told
told_set v = told (λ set. set.0 ∷ []) v

-- the written file's length; its bytes are in the lent buffer
abbrev pub told_write : Result ℕ Refusal → Told
told_write v = told (λ length. length ∷ []) v

-- the limit that is found, no value where there is none; the rows are in the lent list
abbrev pub found_or_none : Option ℕ → List ℕ
found_or_none (Some limit) = limit ∷ []
found_or_none None = []

abbrev pub told_find : Result (Option ℕ) Refusal → Told
told_find v = told found_or_none v

-- the length of the rest, and how many facts were dropped; the bytes and the list are in lent memory
abbrev pub told_salvage : Result Salvage Refusal → Told
told_salvage v = told (λ rest. rest.length ∷ rest.dropped ∷ []) v

-- "Only the time is returned."
abbrev pub told_time : Result ℕ Refusal → Told
told_time v = told (λ time. time ∷ []) v

-- "no count returned" of a refusal; else the eight counts
abbrev pub told_ways : Result (List ℕ) Refusal → Told
told_ways v = told (λ counts. counts) v

-- The value told, or `before` where none is: a number that is written only where nothing is refused.
abbrev pub value_or : ℕ → Told → ℕ
value_or before t = first_or t.values
  where
    first_or : Option (List ℕ) → ℕ
    first_or None = before
    first_or (Some []) = before
    first_or (Some (n ∷ rest)) = n

-- The limit told, 0 where none is found, or `before` where the finder refuses.
abbrev pub limit_or : ℕ → Told → ℕ
limit_or before t = value_or (none_or t.values) t
  where
    none_or : Option (List ℕ) → ℕ
    none_or None = before
    none_or (Some values) = 0

-- The second value told, or `before` where nothing is told.
abbrev pub second_or : ℕ → Told → ℕ
second_or before t = next_or t.values
  where
    next_or : Option (List ℕ) → ℕ
    next_or None = before
    next_or (Some []) = before
    next_or (Some (n ∷ [])) = before
    next_or (Some (n ∷ m ∷ rest)) = m

-- The values told, or `before` where something is refused: numbers that are written only where nothing is.
abbrev pub counts_or : List ℕ → Told → List ℕ
counts_or before t = all_or t.values
  where
    all_or : Option (List ℕ) → List ℕ
    all_or None = before
    all_or (Some values) = values
