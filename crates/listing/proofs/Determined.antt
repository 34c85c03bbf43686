-- Two outcomes that the promise allows coincide.
use Prim.Native.Nat.{ℕ}
use mathlib.Core.Path.{◌≡◌, sym, ◌∙◌, ap}
use mathlib.Core.List.{List, ◌++◌}
use lib.ListN.{drop}
use Rattle.listing.specs.Listed.{Printed}

pub printed_determined : (text lent : List ℕ) (r r' : ℕ) (left left' : List ℕ) → Printed text lent r left → Printed text lent r' left' → (r ≡ r') × (left ≡ left')
printed_determined text lent r r' left left' p q =
    let e : r ≡ r' = p.count ∙ sym q.count in
    (e, p.bytes ∙ ap (λ n. text ++ drop n lent) e ∙ sym q.bytes)
