-- The part that the list takes is filled with 0; what follows it is left.
use Prim.Native.Nat.{ℕ, zero, suc}
use mathlib.Core.Path.{◌≡◌, refl, ◌∙◌, ap}
use mathlib.Core.List.{List, ◌∷◌, ◌++◌}
use lib.ListN.{length, replicate, take, drop}
use lib.Seq.{length-take-le}
use Rattle.paper.specs.Lists.{table}
use Rattle.paper.specs.Bounds.{list_length}
use Rattle.charge.specs.Tables.{zeros}
use Rattle.charge.proofs.clear.Goals as goal

all_zero : (n : ℕ) → replicate {A = ℕ} n 0 ≡ table (λ i. 0) n
unfolding table
all_zero zero = refl
all_zero (suc n) = ap {B = List ℕ} (λ l. 0 ∷ l) (all_zero n)

pub returns : goal.returns
returns c =
    let n : length (take list_length c.args.numbers.now) ≡ list_length = length-take-le list_length c.args.numbers.now c.requires in
    let e : c.fill.new.self ≡ zeros = c.fill.ensures.after (λ y q. q) ∙ ap (λ (k : ℕ). replicate {A = ℕ} k 0) n ∙ all_zero list_length in
    ap (λ (l : List ℕ). l ++ drop list_length c.args.numbers.now) e
