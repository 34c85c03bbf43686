-- The last four bytes are not the letters where one of them, and so a first one, is another.
use Prim.Native.Nat.{ℕ, suc, ◌+◌, ◌-◌, ◌≤◌, ◌<◌}
use native.Mathlib.Omega.{arith}
use mathlib.Core.Path.{◌≡◌, refl}
use mathlib.Core.Bool.{Bool, true, false, not, ◌&&◌, cond}
use mathlib.Core.List.{List, [], ◌∷◌}
use lib.Dec.{eqb, ltb}
use lib.ListN.{length, get_or, take, drop}
use lib.Pointwise.{pointwise}
use lib.Seq.{drop-cons}
use Rattle.paper.specs.Files.{end_at, letters, bad_letter, bad_letters}
use Rattle.paper.specs.Lists.{least_from, least, some}
use Rattle.layout.proofs.bad_letters.Goals as goal

-- four bytes, one by one
four : (f : List ℕ) (p : ℕ) → p + 4 ≤ length f
    → take 4 (drop p f) ≡ get_or f (p + 0) 0 ∷ get_or f (p + 1) 0 ∷ get_or f (p + 2) 0 ∷ get_or f (p + 3) 0 ∷ []
four f p h =
    let h0 : p < length f = omega arith in
    let h1 : suc p < length f = omega arith in
    let h2 : suc (suc p) < length f = omega arith in
    let h3 : suc (suc (suc p)) < length f = omega arith in
    let e0 : p + 0 ≡ p = omega arith in
    let e1 : p + 1 ≡ suc p = omega arith in
    let e2 : p + 2 ≡ suc (suc p) = omega arith in
    let e3 : p + 3 ≡ suc (suc (suc p)) = omega arith in
    rw (e0, e1, e2, e3, drop-cons f p 0 h0, drop-cons f (suc p) 0 h1, drop-cons f (suc (suc p)) 0 h2, drop-cons f (suc (suc (suc p))) 0 h3) refl

-- one of four is not as it should be where a first one is not
first : (a b c d : Bool) → not (a && (b && (c && (d && true)))) ≡ ltb (cond (not a) 0 (cond (not b) 1 (cond (not c) 2 (cond (not d) 3 4)))) 4
first false b c d = refl
first true false c d = refl
first true true false d = refl
first true true true false = refl
first true true true true = refl

-- the file's last four bytes are compared with the letters
wrong : (f : List ℕ) → 32 ≤ length f → not (pointwise eqb (take (length f - (end_at f + 28)) (drop (end_at f + 28) f)) letters) ≡ some (bad_letter f) 4
unfolding bad_letter some least least_from
wrong f h =
    let e : length f - (end_at f + 28) ≡ 4 = omega arith in
    rw (e, four f (end_at f + 28) (omega arith)) (first _ _ _ _)

pub returns : goal.returns
unfolding bad_letters
returns c =
    let w = rw c.end_of-end.ensures at c.ne.ensures in
    let v = rw c.end_of-end.ensures at c.is_bad_version.ensures in
    rw (w, v, wrong c.args.file.now c.requires) refl
