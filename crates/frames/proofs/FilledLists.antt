-- A loop that fills a list from its start to its end leaves the table of what it wrote; and it may read from a part of the bytes.
use Prim.Native.Nat.{ℕ, suc, ◌+◌, ◌-◌, ◌<◌}
use native.Mathlib.Omega.{arith}
use native.Mathlib.Numerals.{add-one}
use mathlib.Core.Path.{◌≡◌, refl}
use mathlib.Core.List.{List, [], ◌++◌, append-nil, append_assoc}
use lib.ListN.{length, take, drop, set, length-set, length-drop, drop_of_length-le}
use lib.Seq.{drop-cons, set_at, take_all}
use Rattle.paper.specs.Lists.{table}
use Rattle.paper.proofs.TableLaws.{table_more, length_table}

-- the first k are written, the others are as they were, and the list is as long as it was
pub record Filled {N : Type 0} (g : ℕ → N) (old : List N) (k : ℕ) (l : List N) : Type 0 where
  pub len : length l ≡ length old
  pub list : l ≡ table g k ++ drop k old

module _ {N : Type 0} {g : ℕ → N} {old : List N} where
  pub filled_start : Filled g old 0 old
  unfolding table
  filled_start = record { len = refl; list = refl }

  pub filled_more : {k : ℕ} {l : List N} (x : N) → Filled g old k l → k < length l → x ≡ g k → Filled g old (k + 1) (set l k x)
  filled_more {k} {l} x f h e =
      let q : k < length old = omega (arith, f.len) in
      record {
        len = simp length-set f.len;
        list = rw (f.list, e, add-one, table_more g k, drop-cons old k x q, append_assoc) (set_at (table g k) _ (drop (suc k) old) (g k) k (length_table g k));
      }

  pub filled_end : {k : ℕ} {l : List N} → Filled g old k l → k ≡ length l → l ≡ table g (length old)
  filled_end {k} {l} f h =
      let e : k ≡ length old = omega (arith, f.len) in
      let n : drop (length old) old ≡ [] = drop_of_length-le old {i = length old} (omega arith) in
      rw (e, n, append-nil) at f.list

-- what stands from n on, as a part of the list
pub part_rest : (l : List ℕ) (n : ℕ) → take (length l - n) (drop n l) ≡ drop n l
part_rest l n = take_all (length l - n) (drop n l) (omega (arith, length-drop n l))
