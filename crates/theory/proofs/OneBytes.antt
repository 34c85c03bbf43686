-- A file with other facts is a file of bytes where the facts are bytes; the file of one fact exactly when its rows are.
use Prim.Native.Nat.{ℕ, ◌<◌}
use native.Mathlib.Omega.{arith}
use mathlib.Core.Path.{sym, subst}
use mathlib.Core.List.Memᴰ
use mathlib.Core.List.{List, [], ◌++◌}
use lib.ListN.{take, drop, take-append-drop}
use Rattle.paper.specs.Cases.{Fact}
use Rattle.paper.specs.Files.{end_at, trailer_of, facts_at}
use Rattle.paper.specs.OneFact.{graph_bytes, head_bytes, with_facts, file_with}
use Rattle.paper.specs.Demands.{Bytes}
use Rattle.paper.proofs.Widths.{below_nil, below_cons, below_append, words_bytes}

left : (s t : List ℕ) → Bytes (s ++ t) → Bytes s
left s t h c m = h c (Memᴰ.append_left t m)

right : (s t : List ℕ) → Bytes (s ++ t) → Bytes t
right s t h c m = h c (Memᴰ.append_right s m)

split : (n : ℕ) (l : List ℕ) → Bytes l → Bytes (take n l ++ drop n l)
split n l = subst Bytes (sym (take-append-drop n l))

front : (n : ℕ) (l : List ℕ) → Bytes l → Bytes (take n l)
front n l h = left (take n l) (drop n l) (split n l h)

back : (n : ℕ) (l : List ℕ) → Bytes l → Bytes (drop n l)
back n l h = right (take n l) (drop n l) (split n l h)

-- A file's graph with other facts that are bytes.
pub with_bytes : (f facts : List ℕ) (n : ℕ) → Bytes f → Bytes facts → n < 65536 → Bytes (with_facts f facts n)
unfolding with_facts
with_bytes f facts n b h l =
    let last = back (end_at f) f b in
    let both = below_append 256 in
    both _ _ (front (facts_at (trailer_of f)) f b)
    (both _ _ h (both _ _ (front 22 _ last) (both _ _ (words_bytes _ (below_cons 65536 n [] l (below_nil 65536))) (back 24 _ last))))

module _ (f : List ℕ) (t : Fact) (rows : List ℕ) where
  pub rows_bytes : Bytes (file_with f t rows) → Bytes rows
  unfolding file_with with_facts
  rows_bytes h = right (head_bytes t) rows (left (head_bytes t ++ rows) _ (right (graph_bytes f) _ h))

  pub file_bytes : Bytes f → t.scope < 65536 → t.block < 65536 → t.limit < 65536 → Bytes rows → Bytes (file_with f t rows)
  unfolding file_with
  file_bytes b s x l r =
      let next = below_cons 65536 in
      with_bytes f (head_bytes t ++ rows) 1 b (below_append 256 _ _ (words_bytes _ (next _ _ s (next _ _ x (next _ _ l (below_nil 65536))))) r) (omega arith)
