-- An answer that stands at the end of the lent bytes: a text that is put there, and what stands behind it.
use Prim.Native.Nat.{ℕ, ◌+◌, ◌≤◌}
use native.Mathlib.Omega.{arith}
use mathlib.Core.Path.{◌≡◌, ◌∙◌, ap, subst}
use mathlib.Core.List.{List, [], ◌++◌, append-nil, append_assoc}
use lib.ListN.{length, take, drop, drop_of_length-le}
use lib.Seq.{sets-eq, drop_at, length-take-le}
use Rattle.puts.specs.Put.{Put}
use Rattle.puts.proofs.Putting.{put_length}
use Rattle.frames.specs.declared.Head.{Head}
use Rattle.frames.specs.Frames.{Answered, front}

-- from its place on: the text, then what was there behind it
pub put_from : {l m s : List ℕ} {at to : ℕ} → to ≤ length l → Put l at s to m → drop at m ≡ s ++ drop to l
put_from {l} {m} {s} {at} {to} h p =
    let r : at + length s ≤ length l = omega (arith, p.place) in
    let e : m ≡ take at l ++ (s ++ drop (at + length s) l) = p.list ∙ sets-eq s l at r ∙ append_assoc (take at l) s (drop (at + length s) l) in
    rw p.place (ap (drop at) e ∙ drop_at (take at l) (s ++ drop (at + length s) l) at (length-take-le at l (omega arith)))

pub answered_as : {frame other l : List ℕ} {at : ℕ} → frame ≡ other → Answered frame at l → Answered other at l
answered_as {l = l} {at = at} e a = subst (λ (t : List ℕ). Answered t at l) e a

pub answered_before : {l m s : List ℕ} {at to : ℕ} (rest : List ℕ) → to ≤ length l → Put l at s to m → drop to l ≡ rest → Answered (s ++ rest) at m
answered_before {l} {m} {s} rest h p e =
    record { fits = omega (arith, put_length p, p.place); bytes = put_from h p ∙ ap (λ (t : List ℕ). s ++ t) e }

pub answered_whole : {l m s : List ℕ} {at to : ℕ} → to ≡ length l → Put l at s to m → Answered s at m
answered_whole {l} {m} {s} {at} {to} e p =
    let h : to ≤ length l = omega arith in
    let n : drop to l ≡ [] = drop_of_length-le l {i = to} (omega arith) in
    record { fits = omega (arith, put_length p, p.place); bytes = put_from h p ∙ ap (λ (t : List ℕ). s ++ t) n ∙ append-nil s }

-- at the start of a list that it fills
pub put_all : {l m s : List ℕ} {to : ℕ} → to ≡ length l → Put l 0 s to m → m ≡ s
put_all e p = (answered_whole e p).bytes

pub front_same : (operation width : ℕ) (rest : List ℕ) {h g : Head} → h ≡ g → front operation width h ++ rest ≡ front operation width g ++ rest
front_same operation width rest e = ap (λ (x : Head). front operation width x ++ rest) e
