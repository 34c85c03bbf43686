-- What a finder is asked for, from what is read, and that this leaves one answer: two frames that `FindAnswered` allows coincide.
use Rattle.std.specs.Prelude.{Result, Option}
use Prim.Native.Nat.{ℕ, ◌-◌}
use native.Mathlib.Omega.{arith}
use mathlib.Core.Path.{◌≡◌, sym, ◌∙◌, ap, subst}
use mathlib.Core.List.{List, ◌++◌}
use lib.ListN.{length, take, drop}
use Rattle.paper.specs.Files.{u16_at, u32_at}
use Rattle.frames.specs.declared.Head.{Head}
use Rattle.frames.specs.Little.{littles, u16s}
use Rattle.frames.specs.Places as Places
use Rattle.frames.specs.Frames.{Answered, FindAsked, FindAnswered, find_head, find_frame, front}
use Rattle.frames.proofs.FilledLists.{part_rest}
use Rattle.frames.proofs.Answering.{answered_as, front_same}
use Rattle.bolgverk.specs.Promises.{FindPromise}
use Rattle.bolgverk.proofs.Determined.{find_determined}
use Rattle.paper.specs.declared.Refusal.{Refusal}

module _ (r lent : List ℕ) where
  pub find_asked : {rows after : List ℕ} {scope block n m : ℕ} {a : (Result (Option ℕ) Refusal)} → scope ≡ u16_at r 0 → block ≡ u16_at r Places.find_block → n ≡ u32_at r Places.find_file →
      m ≡ u32_at r Places.find_numbers → rows ≡ u16s (take (length lent - n) (drop n lent)) m → FindPromise (take (n - 0) lent) scope block rows a after → FindAsked r lent a after
  find_asked {rows} {after} {scope} {block} {n} {m} {a} s b e k l p =
      let z : n - 0 ≡ n = omega arith in
      let c : u16s (drop n lent) m ≡ rows = sym (rw (part_rest lent n) at l) in
      rw (← s, ← b, ← e, ← k, c) (rw z at p.outcome)

  pub find_asked_once : (a b : Result (Option ℕ) Refusal) (rows rows' : List ℕ) → FindAsked r lent a rows → FindAsked r lent b rows' → (a ≡ b) × (rows ≡ rows')
  find_asked_once a b rows rows' p q = find_determined _ _ _ _ a b rows rows' (record { outcome = p }) (record { outcome = q })

  -- the bytes of an answer are fixed by those of the request
  pub find_answered_once : {at at' : ℕ} {left left' : List ℕ} → FindAnswered r lent at left → FindAnswered r lent at' left' → drop at left ≡ drop at' left'
  find_answered_once x y =
      let o = find_asked_once x.answer y.answer x.rows y.rows x.asked y.asked in
      x.answered.bytes
      ∙ (ap (λ (a : Result (Option ℕ) Refusal). find_frame a x.rows) o.0 ∙ ap (find_frame y.answer) o.1)
      ∙ sym y.answered.bytes

-- the frame of what is asked for, where the lent memory is a part of the bytes
pub find_framed : (r l : List ℕ) (a : Result (Option ℕ) Refusal) {h : Head} {rows left : List ℕ} {at : ℕ} → h ≡ find_head a → FindAsked r (take (length l - Places.lent_at) (drop Places.lent_at l)) a rows →
    Answered (front 7 Places.limit_width h ++ littles 2 rows) at left → FindAnswered r (drop Places.lent_at l) at left
find_framed r l a {h} {rows} e p w =
    record {
      answer = a;
      rows = rows;
      asked = subst (λ (t : List ℕ). FindAsked r t a rows) (part_rest l Places.lent_at) p;
      answered = answered_as (front_same 7 Places.limit_width _ e) w;
    }
