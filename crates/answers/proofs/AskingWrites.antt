-- What a writer is asked for, from what is read: the lists one after another in the lent memory, and the lent bytes behind them.
use Rattle.std.specs.Prelude.{Result}
use Prim.Native.Nat.{ℕ, ◌+◌, ◌-◌, ◌*◌}
use native.Mathlib.Omega.{arith}
use mathlib.Core.Path.{◌≡◌, sym, ◌∙◌, ap}
use mathlib.Core.List.{List, ◌++◌}
use lib.ListN.{length, take, drop}
use lib.Seq.{drop-drop}
use Rattle.paper.specs.Files.{u8_at}
use Rattle.paper.specs.Writing.{FileContent}
use Rattle.frames.specs.declared.Head.{Head}
use Rattle.frames.specs.Little.{u16s, u32s}
use Rattle.frames.specs.Places as Places
use Rattle.frames.specs.Frames.{Counted, content_with, content_asked, edges_from, loops_from, heads_from, rows_from, bytes_from, wrote, write_asked, write_head, write_frame, front}
use Rattle.frames.proofs.FilledLists.{part_rest}
use Rattle.frames.proofs.Answering.{front_same}
use Rattle.bolgverk.specs.Promises.{WritePromise}
use Rattle.bolgverk.proofs.Determined.{write_answer_lem}
use Rattle.paper.specs.declared.Refusal.{Refusal}

-- a list that is read from a place of the bytes on, as the one that stands in the lent memory
pub listed : (read : List ℕ → ℕ → List ℕ) (l : List ℕ) (from : ℕ) {xs : List ℕ} {p n m : ℕ} → xs ≡ read (drop p l) n → p ≡ Places.lent_at + from → n ≡ m →
    xs ≡ read (drop from (drop Places.lent_at l)) m
listed read l from {n = n} {m = m} e p h =
    e ∙ ap (λ (k : ℕ). read (drop k l) n) p ∙ ap (λ (t : List ℕ). read t n) (sym (drop-drop from Places.lent_at l))
    ∙ ap (λ (k : ℕ). read (drop from (drop Places.lent_at l)) k) h

module _ (r : List ℕ) where
  pub content_as : {nodes nodes' edges edges' loops loops' heads heads' rows rows' : List ℕ} → nodes ≡ nodes' → edges ≡ edges' → loops ≡ loops' → heads ≡ heads' → rows ≡ rows' →
      content_with r nodes edges loops heads rows ≡ content_with r nodes' edges' loops' heads' rows'
  content_as a b c d e = cc

  -- l: the bytes, with the lent memory from its place on
  pub lists_read : (l : List ℕ) {blocks pairs bounds firsts slots nodes edges loops heads rows : List ℕ} {a b c d e : ℕ} → Counted r blocks pairs bounds firsts slots →
      (nodes ≡ u16s (drop Places.lent_at l) (length blocks)) × (a ≡ Places.lent_at + 2 * length blocks) → (edges ≡ u16s (drop a l) (length pairs)) × (b ≡ a + 2 * length pairs) →
      (loops ≡ u32s (drop b l) (length bounds)) × (c ≡ b + 4 * length bounds) → (heads ≡ u16s (drop c l) (length firsts)) × (d ≡ c + 2 * length firsts) →
      (rows ≡ u16s (drop d l) (length slots)) × (e ≡ d + 2 * length slots) →
      (content_with r nodes edges loops heads rows ≡ content_asked r (drop Places.lent_at l)) × (e ≡ Places.lent_at + bytes_from r)
  unfolding content_asked
  lists_read l {a = a} {b = b} {c = c} {d = d} k n e p h w =
      let pe : a ≡ Places.lent_at + edges_from r = omega (arith, n.1, k.nodes) in
      let pl : b ≡ Places.lent_at + loops_from r = omega (arith, n.1, k.nodes, e.1, k.edges) in
      let ph : c ≡ Places.lent_at + heads_from r = omega (arith, n.1, k.nodes, e.1, k.edges, p.1, k.loops) in
      let pw : d ≡ Places.lent_at + rows_from r = omega (arith, n.1, k.nodes, e.1, k.edges, p.1, k.loops, h.1, k.heads) in (
        content_as
            (n.0 ∙ ap (λ (m : ℕ). u16s (drop Places.lent_at l) m) k.nodes)
            (listed u16s l (edges_from r) e.0 pe k.edges)
            (listed u32s l (loops_from r) p.0 pl k.loops)
            (listed u16s l (heads_from r) h.0 ph k.heads)
            (listed u16s l (rows_from r) w.0 pw k.rows),
        omega (arith, pw, w.1, k.rows),
      )

  pub write_asked_lem : (l : List ℕ) (at : ℕ) {nodes edges loops heads rows after : List ℕ} {a : (Result ℕ Refusal)} →
      WritePromise (u8_at r 0) (u8_at r Places.write_policy) (u8_at r Places.write_ways) (u8_at r Places.write_sets) nodes edges loops heads rows (take (length l - at) (drop at l)) a after →
      (a ≡ (wrote (content_with r nodes edges loops heads rows) (drop at l)).answer) × (after ≡ (wrote (content_with r nodes edges loops heads rows) (drop at l)).after)
  unfolding wrote
  write_asked_lem l at p =
      let e = part_rest l at in
      (rw e at (write_answer_lem _ _ _ _ _ _ _ _ _ _ _ _ p), rw e at p.bytes)

  pub wrote_asked : (l : List ℕ) {c : FileContent} {at : ℕ} → c ≡ content_asked r (drop Places.lent_at l) → at ≡ Places.lent_at + bytes_from r →
      wrote c (drop at l) ≡ write_asked r (drop Places.lent_at l)
  unfolding write_asked
  wrote_asked l {c} {at} e p =
      ap (λ (k : ℕ). wrote c (drop k l)) p ∙ ap (λ (t : List ℕ). wrote c t) (sym (drop-drop (bytes_from r) Places.lent_at l))
      ∙ ap (λ (k : FileContent). wrote k (drop (bytes_from r) (drop Places.lent_at l))) e

  -- the frame of what is asked for, where the lent memory is a part of the bytes
  pub write_framed : (l : List ℕ) {h : Head} {a : (Result ℕ Refusal)} {c : FileContent} {at : ℕ} → h ≡ write_head a → a ≡ (wrote c (drop at l)).answer → c ≡ content_asked r (drop Places.lent_at l) →
      at ≡ Places.lent_at + bytes_from r → front 6 Places.length_width h ++ (wrote c (drop at l)).after ≡ write_frame (write_asked r (drop Places.lent_at l))
  write_framed l e a k p = front_same 6 Places.length_width _ (e ∙ ap write_head a) ∙ ap write_frame (wrote_asked l k p)
