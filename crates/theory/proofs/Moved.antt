-- A fact's turn depends on the file through its graph and the fact's own bytes alone: where the bytes of a fact that passes its turn stand in another file with the same graph, the fact there ends as far on,
-- passes its turn, and is the same to the fact after it.
use Rattle.std.specs.Prelude.{Option}
use Prim.Native.Nat.{ℕ, ◌+◌, ◌-◌, ◌*◌, ◌≤◌, ◌<◌}
use native.Mathlib.Omega.{arith}
use mathlib.Core.Path.{◌≡◌, refl, sym, ◌∙◌, ap}
use mathlib.Core.Logic.{◌≢◌}
use mathlib.Core.List.{List}
use lib.ListN.{length, get_or}
use Rattle.paper.specs.declared.Loop.{Loop}
use Rattle.paper.specs.declared.Trailer.{Trailer}
use Rattle.paper.specs.declared.Previous.{Previous}
use Rattle.paper.specs.Lists.{part}
use Rattle.paper.specs.Machines.{none}
use Rattle.paper.specs.Cases.{size, scope_of}
use Rattle.paper.specs.Facts.{previous_of, bad_order}
use Rattle.paper.specs.Files.{u16_at, end_at, fact_at, fact_end, case_of}
use Rattle.paper.specs.Known.{Shaped}
use Rattle.paper.specs.Salvaging.{fact_part}
use Rattle.paper.proofs.FactLaws.{head_sound, evidence_law}
use Rattle.paper.proofs.VerdictLaws.{KeptTurn}
use Rattle.paper.proofs.Parts.{Stands}
use Rattle.paper.proofs.Spaces.{length_spaced, part_stands, part_read}
use Rattle.paper.proofs.Sections.{u16_same}
use Rattle.paper.proofs.SameGraphs.{SameGraph}
use Rattle.paper.proofs.SameFacts.{SameFact, head_same, scope_same, unfetched_same, evidence_same}

-- how far the fact that stands at p goes
abbrev pub span : List ℕ → Trailer → ℕ → ℕ
span f t p = fact_end f t p - p

pub length_fact : (f : List ℕ) (t : Trailer) (p : ℕ) → length (fact_part f t p) ≡ span f t p
length_fact f t p = length_spaced (λ q. get_or f q 0) 1 p (span f t p)

-- two files with the same graph
pub record Beside (f : List ℕ) (t : Trailer) (g : List ℕ) (u : Trailer) : Type 0 where
  pub graph : SameGraph (case_of f t) (case_of g u)
  pub shaped : Shaped (case_of f t)
  pub some_node : 1 ≤ t.nodes

module _ (f : List ℕ) (t : Trailer) (g : List ℕ) (u : Trailer) (b : Beside f t g u) (p q : ℕ) (here : Stands g q (fact_part f t p)) where
  word : (i k l : ℕ) → k ≡ p + i → l ≡ q + i → p + i + 2 ≤ fact_end f t p → u16_at f k ≡ u16_at g l
  word i k l a c h =
      ap (λ (n : ℕ). u16_at f n) a
      ∙ u16_same f g p q (fact_part f t p) (part_stands f p (span f t p)) here i (omega (arith, length_fact f t p))
      ∙ ap (λ (n : ℕ). u16_at g n) (sym c)

  same_fact : SameFact (size (scope_of (case_of f t) (fact_at f p))) (fact_at f p) (fact_at g q)
  unfolding fact_end case_of
  same_fact =
      record {
        scope = word 0 p q (omega arith) (omega arith) (omega arith);
        block = word 2 (p + 2) (q + 2) refl refl (omega arith);
        limit = word 4 (p + 4) (q + 4) refl refl (omega arith);
        rows = λ j l.
            record {
              number = word (6 + 16 * j) (p + 6 + 16 * j) (q + 6 + 16 * j) (omega arith) (omega arith) (omega arith);
              slot = λ i m. word (6 + 16 * j + 2 + 2 * i) (p + 6 + 16 * j + 2 + 2 * i) (q + 6 + 16 * j + 2 + 2 * i) (omega arith) (omega arith) (omega arith);
            };
      }

  module _ (previous : Option Previous) (k : KeptTurn f t previous p) where
    there : (fact_at f p).scope ≢ none → (fact_at f p).scope < t.loops
    unfolding case_of
    there = (head_sound (case_of f t) (fact_at f p) k.head).scope

    scope_moves : scope_of (case_of f t) (fact_at f p) ≡ scope_of (case_of g u) (fact_at g q)
    unfolding case_of
    scope_moves = scope_same (case_of f t) (case_of g u) b.graph (fact_at f p) (fact_at g q) same_fact there

    pub end_moves : fact_end g u q ≡ q + span f t p
    unfolding fact_end case_of
    end_moves =
        let e : q + 6 + 16 * size (scope_of (case_of g u) (fact_at g q)) ≡ q + 6 + 16 * size (scope_of (case_of f t) (fact_at f p))
        = ap (λ (l : Loop). q + 6 + 16 * size l) (sym scope_moves) in
        e ∙ omega arith

    pub previous_moves : previous_of (case_of f t) (fact_at f p) ≡ previous_of (case_of g u) (fact_at g q)
    previous_moves = rw (← scope_moves, same_fact.block) refl

    pub turn_moves : q + span f t p ≤ end_at g → KeptTurn g u previous q
    unfolding case_of bad_order
    turn_moves room =
        let e = case_of f t in
        let d = case_of g u in
        record {
          head = sym (head_same e d b.graph _ _ same_fact) ∙ k.head;
          order = rw (← scope_moves, ← same_fact.block) k.order;
          fetched = sym (unfetched_same e d b.graph _ _ same_fact there b.shaped b.some_node) ∙ k.fetched;
          room = omega (arith, room, end_moves);
          evidence =
              (evidence_law d (fact_at g q) 0).0
              ((evidence_same e d b.graph _ _ same_fact there b.shaped b.some_node 0).0 ((evidence_law e (fact_at f p) 0).1 k.evidence));
        }

    pub part_moves : fact_part g u q ≡ fact_part f t p
    part_moves =
        let n : span g u q ≡ span f t p = omega (arith, end_moves) in
        ap (part g q) n ∙ part_read g q (fact_part f t p) (span f t p) (length_fact f t p) here
