-- What the remaining tests say: of a trace's accesses, a line size, the trailer, and the order of facts.
use Rattle.std.specs.Prelude.{Option, Some, None}
use Prim.Native.Nat.{ℕ, ◌+◌, ◌≤◌, ◌<◌}
use mathlib.Core.Path.{◌≡◌, sym}
use mathlib.Core.Bool.{true, false}
use mathlib.Core.Logic.{◌⊎◌, inl, inr, ⊎_elim}
use mathlib.Core.List.Memᴰ
use mathlib.Core.List.{List, [], ◌∷◌, Memᴰ}
use native.Mathlib.Omega.{arith}
use native.Mathlib.Decide.{ℕ_discrete}
use borrow.Author.Tests.{eq-eqb, ne_eqb}
use lib.ListN.{length, get_or}
use Rattle.paper.specs.declared.Trailer.{Trailer}
use Rattle.paper.specs.declared.Previous.{Previous}
use Rattle.paper.specs.Machines.{none, stands, in_range}
use Rattle.paper.specs.Operations.{line_size}
use Rattle.paper.specs.Traces.{bad_access}
use Rattle.paper.specs.Cases.{Fact, Case, scope_of}
use Rattle.paper.specs.Facts.{wrong_order, bad_order}
use Rattle.paper.specs.Ceilings.{most_nodes, most_edges, most_loops, most_facts}
use Rattle.paper.specs.Records as Records
use Rattle.paper.specs.Files.{u8_at, u32_at, end_at, letters, bad_letter, bad_letters, bad_numbers, edges_at, loops_at, facts_at, bad_offsets}
use Rattle.paper.specs.Known.{Laid}
use Rattle.paper.proofs.Says.{Says, holds, fails, says_no, says_lt, says_le, says_eq, says_not, says_and, says_or, says_some, says_as, says_false, says_true}
use Rattle.paper.proofs.States.{says_range}

pub stands_says : (lines : List ℕ) (b : ℕ) → Says (Memᴰ b lines) (stands lines b)
unfolding stands
stands_says [] b = fails Memᴰ.not-nil
stands_says (x ∷ lines) b =
    elim (ℕ_discrete x b) [
      | yes e ↦ rw (eq-eqb x b e) (holds (Memᴰ.head (sym e)))
      | no n ↦ rw (ne_eqb x b n) (says_as Memᴰ.tail (λ m. ⊎_elim (λ e. absurd (n (sym e))) (λ i. i) (Memᴰ.cases_cons m)) (stands_says lines b))
    ]

-- "the line size is 8, 16, 32, 64 or 128"
pub size_says : (n : ℕ) → Says (Memᴰ n (8 ∷ 16 ∷ 32 ∷ 64 ∷ 128 ∷ [])) (line_size n)
unfolding line_size
size_says n = stands_says (8 ∷ 16 ∷ 32 ∷ 64 ∷ 128 ∷ []) n

pub access_says : (blocks : List ℕ) (i : ℕ) → Says (get_or blocks i 0 ≡ none) (bad_access blocks i)
unfolding bad_access
access_says blocks i = says_eq _ _

-- "versions other than 1 and 2"
pub version_says : (version : ℕ) → Says (¬ ((version ≡ Records.without_w) ⊎ (version ≡ Records.with_w))) (Records.bad_version version)
unfolding Records.bad_version
version_says version = says_not (says_or (says_eq _ _) (says_eq _ _))

-- 2
pub letters_says : (f : List ℕ) →
    Says
    (((k : ℕ) × (k < length letters) × ¬ (u8_at f (end_at f + Records.letters_field + k) ≡ get_or letters k 0))
    ⊎ ¬ ((u8_at f (end_at f + Records.version_field) ≡ Records.without_w) ⊎ (u8_at f (end_at f + Records.version_field) ≡ Records.with_w)))
    (bad_letters f)
unfolding bad_letters bad_letter
letters_says f = says_or (says_some (λ k. says_not (says_eq (u8_at f (end_at f + Records.letters_field + k)) (get_or letters k 0))) (length letters)) (version_says _)

-- 5
pub offsets_says : (f : List ℕ) (trailer : Trailer) →
    Says
    (¬ (u32_at f (end_at f) ≡ 0)
    ⊎ (¬ (u32_at f (end_at f + Records.edges_offset) ≡ edges_at trailer)
    ⊎ (¬ (u32_at f (end_at f + Records.loops_offset) ≡ loops_at trailer) ⊎ (¬ (u32_at f (end_at f + Records.facts_offset) ≡ facts_at trailer) ⊎ (end_at f < facts_at trailer)))))
    (bad_offsets f trailer)
unfolding bad_offsets
offsets_says f trailer =
    says_or (says_not (says_eq _ _))
    (says_or (says_not (says_eq _ _)) (says_or (says_not (says_eq _ _)) (says_or (says_not (says_eq _ _)) (says_lt _ _))))

-- 4
pub numbers_says : (trailer : Trailer) → Says ((trailer.nodes < 1) ⊎ ((most_nodes < trailer.nodes) ⊎ ((most_edges < trailer.edges) ⊎ ((most_loops < trailer.loops) ⊎ (most_facts < trailer.facts))))) (bad_numbers trailer)
unfolding bad_numbers
numbers_says trailer = says_or (says_lt _ _) (says_or (says_lt _ _) (says_or (says_lt _ _) (says_or (says_lt _ _) (says_lt _ _))))

-- A file that passes 1, 3, 4 and 5 is laid out as its trailer says.
pub laid : (f : List ℕ) (trailer : Trailer) → Records.trailer_size ≤ length f → in_range trailer.policy trailer.ways trailer.sets ≡ true → bad_numbers trailer ≡ false → bad_offsets f trailer ≡ false → Laid f trailer
laid f trailer long cache numbers offsets =
    let n = (says_false (numbers_says trailer)).0 numbers in
    let c = says_true (says_range trailer.policy trailer.ways trailer.sets) cache in
    let a : ¬ (trailer.nodes < 1) = λ p. n (inl p) in
    let b : ¬ (most_nodes < trailer.nodes) = λ p. n (inr (inl p)) in
    let d : ¬ (most_edges < trailer.edges) = λ p. n (inr (inr (inl p))) in
    let g : ¬ (most_loops < trailer.loops) = λ p. n (inr (inr (inr (inl p)))) in
    let h : ¬ (most_facts < trailer.facts) = λ p. n (inr (inr (inr (inr p)))) in
    let o : ¬ (end_at f < facts_at trailer) = λ q. (says_false (offsets_says f trailer)).0 offsets (inr (inr (inr (inr q)))) in
    record {
      long = long;
      room = omega arith;
      nodes_low = omega arith;
      nodes_high = omega arith;
      edges_high = omega arith;
      loops_high = omega arith;
      facts_high = omega arith;
      ways_high = c.0.most;
      sets_low = c.1.0;
      sets_high = c.1.1;
      cache = cache;
    }

-- 13: the fact stands before the one that it follows.
abbrev pub Misplaced : Case → Option Previous → Fact → Type 0
Misplaced e None t = ⊥
Misplaced e (Some p) t = (t.block < p.block) ⊎ ((t.block ≡ p.block) × ((scope_of e t).first ≤ p.last))

pub order_says : (e : Case) (p : Option Previous) (t : Fact) → Says (Misplaced e p t) (bad_order e p t)
unfolding bad_order wrong_order
order_says e None t = says_no
order_says e (Some p) t = says_or (says_lt _ _) (says_and (says_eq _ _) (says_le _ _))
