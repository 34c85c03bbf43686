-- What a salvage is asked for, from what is read: the file by itself, the lent bytes and the numbers behind them. And where its answer stands.
use Rattle.std.specs.Prelude.{Result}
use Prim.Native.Nat.{ℕ, ◌+◌, ◌-◌, ◌≤◌}
use native.Mathlib.Omega.{arith}
use mathlib.Core.Path.{◌≡◌, refl, sym, ◌∙◌, ap}
use mathlib.Core.List.{List, [], ◌++◌, append-nil, append_assoc}
use lib.ListN.{length, take, drop, length-append, length-drop, drop_of_length-le}
use lib.Seq.{sets-eq, take_at, drop_at, drop-drop, length-take-le}
use borrow.Rule.Slice.PartMut.{put_mid}
use Rattle.paper.specs.Files.{u32_at}
use Rattle.puts.specs.Put.{Put}
use Rattle.frames.specs.declared.SalvageHead.{SalvageHead}
use Rattle.frames.specs.Little.{littles, u64s}
use Rattle.frames.specs.Places as Places
use Rattle.frames.specs.Frames.{SalvageLeft, salvage_left, salvage_asked, salvage_head, salvage_front, salvage_frame}
use Rattle.frames.proofs.FilledLists.{part_rest}
use Rattle.bolgverk.specs.Promises.{SalvagePromise}
use Rattle.bolgverk.proofs.Determined.{salvage_answer_lem}
use Rattle.paper.specs.declared.Refusal.{Refusal}
use Rattle.paper.specs.declared.Salvage.{Salvage}

-- a part of m elements that is lent from place a on, when it comes back: what stands up to its end
pub part_left : (l ys : List ℕ) (a : ℕ) {m n : ℕ} → m ≡ n → a + m ≤ length l → length ys ≡ length (take (a + m - a) (drop a l)) →
    take (a + n) (put_mid a (a + m - a) l ys) ≡ take a l ++ ys
part_left l ys a {m} {n} e h k =
    let z : a + m - a ≡ m = omega arith in
    let w : length (take m (drop a l)) ≡ m = length-take-le m (drop a l) (omega (arith, length-drop a l)) in
    let y : length ys ≡ m = rw z at k ∙ w in
    let x : length (take a l ++ ys) ≡ a + n = omega (arith, length-append (take a l) ys, length-take-le a l (omega arith)) in
    ap (take (a + n)) (sym (append_assoc (take a l) ys (drop (a + m - a) (drop a l)))) ∙ take_at (take a l ++ ys) (drop (a + m - a) (drop a l)) (a + n) x

-- a text that is put behind that part, up to the end
pub put_behind : (l ys : List ℕ) (a : ℕ) {m n s : List ℕ} {i j to : ℕ} → i ≡ j → a ≤ length l → take (a + j) m ≡ take a l ++ ys → Put m (a + i) s to n → to ≡ length m → drop a n ≡ ys ++ s
put_behind l ys a {m} {n} {s} {i} {j} {to} q h e p k =
    let r : a + i + length s ≤ length m = omega (arith, p.place) in
    let z : drop (a + i + length s) m ≡ [] = drop_of_length-le m {i = a + i + length s} (omega (arith, p.place)) in
    let t : take (a + i) m ≡ take a l ++ ys = ap (λ (x : ℕ). take (a + x) m) q ∙ e in
    let w : n ≡ (take a l ++ ys) ++ s = p.list ∙ sets-eq s m (a + i) r ∙ rw (z, append-nil, t) refl in
    ap (drop a) (w ∙ append_assoc (take a l) ys s) ∙ drop_at (take a l) (ys ++ s) a (length-take-le a l h)

module _ (r file l : List ℕ) (n : length file ≡ u32_at r 0) where
  -- the lent memory is the file, and then what stands in the bytes
  asked_left : {m d : ℕ} → m ≡ u32_at r Places.salvage_out → d ≡ u32_at r Places.salvage_numbers →
      salvage_left file (take m (drop Places.lent_at l)) (u64s (drop (Places.lent_at + m) l) d) ≡ salvage_asked r (file ++ drop Places.lent_at l)
  unfolding salvage_asked
  asked_left {m} {d} e k =
      rw (
        ← k,
        ← e,
        ← n,
        take_at file (drop Places.lent_at l) (length file) refl,
        drop_at file (drop Places.lent_at l) (length file) refl,
        drop-drop m Places.lent_at l,
      )
      refl

  pub salvage_asked_lem : {numbers after listAfter : List ℕ} {m d : ℕ} {a : (Result Salvage Refusal)} → m ≡ u32_at r Places.salvage_out → d ≡ u32_at r Places.salvage_numbers →
      numbers ≡ u64s (take (length l - (Places.lent_at + m)) (drop (Places.lent_at + m) l)) d →
      SalvagePromise file (take (Places.lent_at + m - Places.lent_at) (drop Places.lent_at l)) numbers a after listAfter →
      let s = salvage_asked r (file ++ drop Places.lent_at l) in
      (a ≡ s.answer) × (after ≡ s.out) × (listAfter ≡ s.list)
  unfolding salvage_left
  salvage_asked_lem {numbers} {after} {listAfter} {m} {d} {a} e k b p =
      let z : Places.lent_at + m - Places.lent_at ≡ m = omega arith in
      let c : u64s (drop (Places.lent_at + m) l) d ≡ numbers = sym (rw (part_rest l (Places.lent_at + m)) at b) in
      rw (← asked_left e k, c) (rw z at (salvage_answer_lem _ _ _ _ _ _ p), rw z at p.bytes, rw z at p.dropped)

-- the head of what is asked for, and behind it the lent bytes and the numbers
pub salvage_framed : (s : SalvageLeft) {h : SalvageHead} {a : (Result Salvage Refusal)} {list : List ℕ} → h ≡ salvage_head a → a ≡ s.answer → list ≡ s.list →
    salvage_front h ++ (s.out ++ littles 8 list) ≡ salvage_frame s
salvage_framed s {h} {a} {list} e k l =
    ap (λ (x : SalvageHead). salvage_front x ++ (s.out ++ littles 8 list)) (e ∙ ap salvage_head k)
    ∙ ap (λ (x : List ℕ). salvage_front (salvage_head s.answer) ++ (s.out ++ littles 8 x)) l
