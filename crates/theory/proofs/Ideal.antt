-- The machines on k lines and no more: what the paper's eight lines show when those from k on are cut away. A list of k blocks is a set's lines.
use Prim.Native.Nat.{ℕ, ◌-◌, ◌≤◌, ◌<◌}
use mathlib.Core.Path.{◌≡◌}
use mathlib.Core.Logic.{◌≢◌}
use mathlib.Core.Bool.{cond}
use mathlib.Core.List.{List, [], ◌∷◌}
use lib.Dec.{eqb}
use lib.ListN.{length, set}
use Rattle.paper.specs.declared.SetState.{SetState}
use Rattle.paper.specs.Machines.{none, line_of, victim, marked, tree_victim}
use Rattle.theory.proofs.Count.{cnt}

-- 1 where x stands in no line, and else 0
abbrev pub miss : ℕ → List ℕ → ℕ
miss x l = 1 - cnt x l

-- c comes to line 0 and the others one down, as far as the line that holds x, or the last: what stood there is there no more
unfoldable pub shift : ℕ → ℕ → List ℕ → List ℕ
shift x c [] = []
shift x c (y ∷ l) = c ∷ cond (eqb y x) l (shift x y l)

-- a hit and a miss of LRU are one shift
abbrev pub lru : ℕ → List ℕ → List ℕ
lru x l = shift x x l

unfoldable pub fifo : ℕ → List ℕ → List ℕ
fifo x l = cond (eqb (cnt x l) 0) (lru x l) l

-- "no block stands in two lines"
abbrev pub Apart : List ℕ → Type 0
Apart l = (x : ℕ) → x ≢ none → cnt x l ≤ 1

pub record LegalLines (k : ℕ) (l : List ℕ) : Type 0 where
  pub apart : Apart l
  pub lines_k : length l ≡ k

-- the lowest line that holds x, and j where none does
unfoldable pub at : ℕ → List ℕ → ℕ → ℕ
at x l j = cond (eqb (cnt x l) 0) j (line_of l x)

-- NMRU and tree: the line that holds x, or the one that v names where none does
unfoldable pub place : (SetState → ℕ) → ℕ → SetState → ℕ
place v x s = at x s.lines (v s)

-- x comes to its line, and m marks the line in the bits
abbrev pub placed : (SetState → ℕ) → (ℕ → ℕ → ℕ) → ℕ → SetState → SetState
placed v m x s = record { lines = set s.lines (place v x s) x; bits = m s.bits (place v x s) }

-- k lines, and bits below n
pub record LegalWays (k n : ℕ) (s : SetState) : Type 0 where
  pub apart : Apart s.lines
  pub lines_k : length s.lines ≡ k
  pub few : s.bits < n

-- NMRU: "the lowest empty line", or "the lowest line whose bit is 0"
unfoldable pub freed : ℕ → SetState → ℕ
freed k s = at none s.lines (victim k s.bits)

abbrev pub spot : ℕ → ℕ → SetState → ℕ
spot k x s = place (freed k) x s

abbrev pub nmru : ℕ → ℕ → SetState → SetState
nmru k x s = placed (freed k) (marked k) x s

-- tree: the line that the bits lead to, "empty or not"
abbrev pub led : ℕ → SetState → ℕ
led k s = tree_victim k s.bits
