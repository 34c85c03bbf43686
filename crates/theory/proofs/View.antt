-- The paper's machines, on eight lines and a byte of bits, seen as the machines on k lines: they miss at the same accesses, and a step keeps a state legal.
use Prim.Native.Nat.{ℕ, ◌≤◌}
use mathlib.Core.Path.{◌≡◌, refl, sym, ◌∙◌, ap, ap₂}
use mathlib.Core.Bool.{Bool, true, false, not, cond}
use mathlib.Core.List.{List, ◌++◌}
use native.Mathlib.Omega.{arith}
use borrow.Author.Tests.{eq-eqb, ne_eqb}
use lib.ListN.{length, take, drop, set, take-append-drop}
use lib.Seq.{take_at, take-set-lt, drop-set-lt}
use Rattle.paper.specs.declared.SetState.{SetState}
use Rattle.paper.specs.Lists.{bit}
use Rattle.paper.specs.Policies.{parts_of}
use Rattle.paper.specs.Machines.{none, line_of, hits, lru_step, fifo_step, nmru_step, line_or, miss_line, nmru_line, victim, marked, tree_line, tree_step, turned, step, offered}
use Rattle.paper.specs.Runs.{LegalSet}
use Rattle.paper.proofs.Says.{Says, holds, fails, says_true}
use Rattle.paper.proofs.States.{Offered, legal_below, below_legal, says_offered}
use Rattle.theory.proofs.Count.{cnt}
use Rattle.theory.proofs.Ideal.{miss, lru, fifo, at, place, placed, freed, led, LegalLines, LegalWays}
use Rattle.theory.proofs.Ways.{Marks, place_low, legal_placed, PLACED}
use Rattle.theory.proofs.Legal.{is_legal, front, joined}
use Rattle.theory.proofs.Cut.{says_in, same_miss, lru_lines, fifo_lines}
use Rattle.theory.proofs.Law.{Machine, Fair}
use Rattle.theory.proofs.Lru.{LRU, lru_fair}
use Rattle.theory.proofs.Fifo.{FIFO, fifo_fair}
use Rattle.theory.proofs.Spots.{NMRU, nmru_marks}
use Rattle.theory.proofs.Tree.{TREE, tree_marks}
use Rattle.theory.proofs.Policies.{Policy, Lru, Fifo, Nmru, Tree, number, ideal, offer}

-- A machine's states seen as those of another, which misses as it does
pub record View (M N : Machine) : Type 0 where
  pub view : M.State → N.State
  pub legal : (s : M.State) → M.Legal s → N.Legal (view s)
  pub kept : (x : ℕ) (s : M.State) → M.Legal s → M.Legal (M.step x s)
  pub step : (x : ℕ) (s : M.State) → M.Legal s → view (M.step x s) ≡ N.step x (view s)
  pub miss : (x : ℕ) (s : M.State) → M.Legal s → M.miss x s ≡ N.miss x (view s)

-- the paper's machine: its states, one step, hit or miss
abbrev pub board : ℕ → ℕ → Machine
board p k =
    record {
      State = SetState;
      miss = λ x s. bit (not (step p k s x).hit);
      step = λ x s. (step p k s x).state;
      Legal = LegalSet p k;
    }

-- LRU and FIFO: the bits stay
module _ (p k : ℕ) (o : Offered p k) (f : ℕ → List ℕ → List ℕ) (fair : Fair (record { State = List ℕ; miss = miss; step = f; Legal = LegalLines k }))
    (hit : (x : ℕ) (s : SetState) → (step p k s x).hit ≡ hits k s.lines x)
    (after : (x : ℕ) (s : SetState) → k ≤ length s.lines → (step p k s x).state ≡ record { lines = f x (take k s.lines) ++ drop k s.lines; bits = s.bits }) where
  lines_view : View (board p k) (record { State = List ℕ; miss = miss; step = f; Legal = LegalLines k })
  lines_view =
      let fits : (s : SetState) → LegalSet p k s → k ≤ length s.lines = λ s v. omega (arith, o.most, v.eight) in
      record {
        view = λ s. take k s.lines;
        legal = front p k o.most;
        kept = λ x s v.
            rw (after x s (fits s v))
            (joined p k o.most s v _ _ (fair.legal x (take k s.lines) (front p k o.most s v)) (is_legal p k o.most s v).bits);
        step = λ x s v.
            ap (λ (t : SetState). take k t.lines) (after x s (fits s v))
            ∙ take_at (f x (take k s.lines)) (drop k s.lines) k (fair.legal x (take k s.lines) (front p k o.most s v)).lines_k;
        miss = λ x s v. ap (λ (t : Bool). bit (not t)) (hit x s) ∙ same_miss k x s.lines o.least (fits s v);
      }

lru_view : (k : ℕ) → Offered 0 k → View (board 0 k) (LRU k)
unfolding step lru_step
lru_view k o =
    lines_view 0 k o lru (lru_fair k) (λ x s. refl) λ x s g t. record { lines = lru_lines k x s.lines o.least g t; bits = s.bits }

fifo_view : (k : ℕ) → Offered 1 k → View (board 1 k) (FIFO k)
unfolding step fifo_step
fifo_view k o =
    lines_view 1 k o fifo (fifo_fair k) (λ x s. refl) λ x s g t. record { lines = fifo_lines k x s.lines o.least g t; bits = s.bits }

-- NMRU and tree: an access goes to the line that holds the block, or to the one that v names, and marks it in the bits
module _ (p k : ℕ) (o : Offered p k) (u v : SetState → ℕ) (m : ℕ → ℕ → ℕ) (r : Marks k ((parts_of p).bits k) v m) where
  abbrev ways : SetState → SetState
  ways s = record { lines = take k s.lines; bits = s.bits }

  module _ (s : SetState) (g : LegalSet p k s) where
    legal_ways : LegalWays k ((parts_of p).bits k) (ways s)
    legal_ways =
        let f = front p k o.most s g in
        record { apart = f.apart; lines_k = f.lines_k; few = legal_below p k s.bits (is_legal p k o.most s g).bits }

    same_at : (x j : ℕ) → line_or k s.lines x j ≡ at x (take k s.lines) j
    unfolding line_or at
    same_at x j = go (hits k s.lines x) (says_in k x s.lines o.least (omega (arith, o.most, g.eight)))
      where
        go : (t : Bool) → Says (1 ≤ cnt x (take k s.lines)) t → cond t (line_of (take k s.lines) x) j ≡ at x (take k s.lines) j
        go true (holds i) = rw (ne_eqb (cnt x (take k s.lines)) 0 (omega arith))
        go false (fails n) = rw (eq-eqb (cnt x (take k s.lines)) 0 (omega arith))

  module _ (same : (s : SetState) → LegalSet p k s → u s ≡ v (ways s))
      (hit : (x : ℕ) (s : SetState) → (step p k s x).hit ≡ hits k s.lines x)
      (to : (x : ℕ) (s : SetState) →
      (step p k s x).state ≡ let j = line_or k s.lines x (u s) in record { lines = set s.lines j x; bits = m s.bits j }) where
    module _ (s : SetState) (g : LegalSet p k s) where
      same_place : (x : ℕ) → line_or k s.lines x (u s) ≡ place v x (ways s)
      unfolding place
      same_place x = same_at s g x (u s) ∙ ap (at x (take k s.lines)) (same s g)

      after : (x : ℕ) → (step p k s x).state ≡ record { lines = (placed v m x (ways s)).lines ++ drop k s.lines; bits = (placed v m x (ways s)).bits }
      after x =
          let j = place v x (ways s) in
          let low = place_low r x (ways s) (legal_ways s g) in
          let l =
          ap (λ (n : ℕ). set s.lines n x) (same_place x)
          ∙ sym (take-append-drop k (set s.lines j x))
          ∙ ap₂ ◌++◌ (take-set-lt k s.lines j x low) (drop-set-lt k s.lines j x low) in
          to x s ∙ λ t. record { lines = l t; bits = m s.bits (same_place x t) }

    placed_view : View (board p k) (PLACED k ((parts_of p).bits k) v m)
    placed_view =
        let next : (x : ℕ) (s : SetState) (g : LegalSet p k s) → LegalWays k ((parts_of p).bits k) (placed v m x (ways s)) =
        λ x s g. legal_placed r x (ways s) (legal_ways s g) in
        record {
          view = ways;
          legal = legal_ways;
          kept = λ x s g.
              rw (after s g x)
              (joined p k o.most s g _ _
              (record { apart = (next x s g).apart; lines_k = (next x s g).lines_k })
              (below_legal p k (placed v m x (ways s)).bits (next x s g).few));
          step = λ x s g.
              ap ways (after s g x)
              ∙ ap (λ (l : List ℕ). record { lines = l; bits = (placed v m x (ways s)).bits }) (take_at (placed v m x (ways s)).lines (drop k s.lines) k (next x s g).lines_k);
          miss = λ x s g. ap (λ (t : Bool). bit (not t)) (hit x s) ∙ same_miss k x s.lines o.least (omega (arith, o.most, g.eight));
        }

nmru_view : (k : ℕ) → Offered 2 k → View (board 2 k) (NMRU k)
unfolding step nmru_step nmru_line miss_line freed
nmru_view k o =
    let r = nmru_marks k (o.two refl) in
    placed_view 2 k o (miss_line k) (freed k) (marked k) r (λ s g. same_at 2 k o (miss_line k) (freed k) (marked k) r s g none (victim k s.bits)) (λ x s. refl) (λ x s. refl)

tree_view : (k : ℕ) → Offered 3 k → View (board 3 k) (TREE k)
unfolding step tree_step tree_line
tree_view k o = placed_view 3 k o (led k) (led k) (turned k) (tree_marks k (o.tree refl)) (λ s g. refl) (λ x s. refl) (λ x s. refl)

pub view_of : (P : Policy) (p k : ℕ) → p ≡ number P → offered p k ≡ true → View (board p k) (ideal P k)
view_of Lru p k e o = rw e (lru_view k (says_true (says_offered 0 k) (rw e at o)))
view_of Fifo p k e o = rw e (fifo_view k (says_true (says_offered 1 k) (rw e at o)))
view_of Nmru p k e o = rw e (nmru_view k (says_true (says_offered 2 k) (rw e at o)))
view_of Tree p k e o = rw e (tree_view k (says_true (says_offered 3 k) (rw e at o)))

-- every step keeps a state legal
pub kept : (p k : ℕ) (s : SetState) (b : ℕ) → offered p k ≡ true → LegalSet p k s → LegalSet p k (step p k s b).state
kept p k s b o v = let f = offer p k o in (view_of f.policy p k f.is o).kept b s v
