-- The facts that are kept pass their turns, each after the one kept before it; and where their bytes stand one after another in a file with the same graph, they pass their turns there.
use Rattle.std.specs.Prelude.{Ok, Err, Option}
use Prim.Native.Nat.{ℕ, zero, suc, ◌+◌, ◌≤◌, ◌<◌}
use native.Mathlib.Omega.{arith}
use mathlib.Core.Path.{◌≡◌, refl, sym, ◌∙◌, ap, subst}
use mathlib.Core.List.{List, [], ◌∷◌}
use lib.ListN.{length, get_or, length-append}
use Rattle.paper.specs.declared.Trailer.{Trailer}
use Rattle.paper.specs.declared.Previous.{Previous}
use Rattle.paper.specs.Answers.{Verdict}
use Rattle.paper.specs.Facts.{previous_of}
use Rattle.paper.specs.Files.{end_at, fact_at, fact_end, fact_place, case_of}
use Rattle.paper.specs.Verdicts.{turns_from}
use Rattle.paper.specs.Salvaging.{turn_of, last_kept, next_place, judged_from, fact_part, fact_parts, keep_if, kept_of}
use Rattle.paper.proofs.VerdictLaws.{KeptTurn, turn_tests, turn_passes, turns_on}
use Rattle.paper.proofs.Parts.{Stands, stands_left, stands_right, stands_move}
use Rattle.theory.proofs.Moved.{span, length_fact, Beside, end_moves, previous_moves, turn_moves, part_moves}

module _ (f : List ℕ) (t : Trailer) where
  -- The facts at these places pass their turns, the first after `previous`.
  abbrev pub PassInTurn : Option Previous → List ℕ → Type 0
  PassInTurn previous [] = Unit {0}
  PassInTurn previous (p ∷ places) = KeptTurn f t previous p × PassInTurn (previous_of (case_of f t) (fact_at f p)) places

  abbrev from : ℕ → ℕ → Option Previous → ℕ → List ℕ
  from n i previous p = kept_of (judged_from f t n i previous p)

  pub kept_follow : (n i : ℕ) (previous : Option Previous) (p : ℕ) → PassInTurn previous (from n i previous p)
  unfolding judged_from
  kept_follow zero i previous p = record {}
  kept_follow (suc n) i previous p = go (turn_of f t i previous p) refl (λ before. kept_follow n (suc i) before (next_place f t p))
    where
      go : (v : Verdict) → turn_of f t i previous p ≡ v → ((before : Option Previous) → PassInTurn before (from n (suc i) before (next_place f t p))) →
          PassInTurn previous (keep_if v p (from n (suc i) (last_kept f t v previous p) (next_place f t p)))
      go (Ok tt) e next = ((turn_tests f t i previous p (Ok tt) e).0, next (previous_of (case_of f t) (fact_at f p)))
      go (Err r) e next = next previous

  -- no more than there were
  pub kept_few : (n i : ℕ) (previous : Option Previous) (p : ℕ) → length (from n i previous p) ≤ n
  unfolding judged_from
  kept_few zero i previous p = omega arith
  kept_few (suc n) i previous p = go (turn_of f t i previous p) (λ before. kept_few n (suc i) before (next_place f t p))
    where
      go : (v : Verdict) → ((before : Option Previous) → length (from n (suc i) before (next_place f t p)) ≤ n) →
          length (keep_if v p (from n (suc i) (last_kept f t v previous p) (next_place f t p))) ≤ suc n
      go (Ok tt) next = omega (arith, next (previous_of (case_of f t) (fact_at f p)))
      go (Err r) next = omega (arith, next (last_kept f t (Err r) previous p))

module _ (f : List ℕ) (t : Trailer) (g : List ℕ) (u : Trailer) (b : Beside f t g u) where
  -- the facts of these places stand in g from q on, before its trailer
  pub record Lined (previous : Option Previous) (places : List ℕ) (q : ℕ) : Type 0 where
    pub follow : PassInTurn f t previous places
    pub here : Stands g q (fact_parts f t places)
    pub room : q + length (fact_parts f t places) ≤ end_at g

  module _ (previous : Option Previous) (p : ℕ) (places : List ℕ) (q : ℕ) (l : Lined previous (p ∷ places) q) where
    here : Stands g q (fact_part f t p)
    here = stands_left g q (fact_part f t p) (fact_parts f t places) l.here

    turn : KeptTurn f t previous p
    turn = l.follow.0

    parts_length : length (fact_parts f t (p ∷ places)) ≡ span f t p + length (fact_parts f t places)
    parts_length = length-append (fact_part f t p) (fact_parts f t places) ∙ omega (arith, length_fact f t p)

    first_end : fact_end g u q ≡ q + span f t p
    first_end = end_moves f t g u b p q here previous turn

    first_turn : KeptTurn g u previous q
    first_turn = turn_moves f t g u b p q here previous turn (omega (arith, l.room, parts_length))

    others : Lined (previous_of (case_of g u) (fact_at g q)) places (fact_end g u q)
    others =
        record {
          follow = subst (λ (before : Option Previous). PassInTurn f t before places) (previous_moves f t g u b p q here previous turn) l.follow.1;
          here = stands_move g _ (omega (arith, first_end, length_fact f t p)) (stands_right g q (fact_part f t p) (fact_parts f t places) l.here);
          room = omega (arith, l.room, parts_length, first_end);
        }

  -- so the turns there pass
  pub lined_turns : (places : List ℕ) (j : ℕ) (previous : Option Previous) (q : ℕ) (rest : Verdict) → Lined previous places q → turns_from g u (length places) j previous q rest ≡ rest
  unfolding turns_from
  lined_turns [] j previous q rest l = refl
  lined_turns (p ∷ places) j previous q rest l =
      turns_on g u (length places) j previous q rest (Ok tt) (sym (turn_passes g u j previous q (first_turn previous p places q l))) refl
      ∙ lined_turns places (suc j) (previous_of (case_of g u) (fact_at g q)) (fact_end g u q) rest (others previous p places q l)

  -- and end where the bytes end
  pub lined_end : (places : List ℕ) (j : ℕ) (previous : Option Previous) (q : ℕ) → Lined previous places q → fact_place g u j ≡ q → fact_place g u (j + length places) ≡ q + length (fact_parts f t places)
  unfolding fact_place
  lined_end [] j previous q l e =
      let z : j + 0 ≡ j = omega arith in
      rw z (omega (arith, e))
  lined_end (p ∷ places) j previous q l e =
      let z : j + suc (length places) ≡ suc j + length places = omega arith in
      let n = lined_end places (suc j) _ (fact_end g u q) (others previous p places q l) (ap (fact_end g u) e) in
      rw z (omega (arith, n, first_end previous p places q l, parts_length previous p places q l))

  -- each fact unchanged
  pub lined_part :
      (places : List ℕ) (j : ℕ) (previous : Option Previous) (q : ℕ) → Lined previous places q → fact_place g u j ≡ q
      → (i : ℕ) → i < length places → fact_part g u (fact_place g u (j + i)) ≡ fact_part f t (get_or places i 0)
  unfolding fact_place
  lined_part [] j previous q l e i h = absurd (omega arith)
  lined_part (p ∷ places) j previous q l e zero h =
      let z : j + 0 ≡ j = omega arith in
      rw (z, e) (part_moves f t g u b p q (here previous p places q l) previous (turn previous p places q l))
  lined_part (p ∷ places) j previous q l e (suc i) h =
      let z : j + suc i ≡ suc j + i = omega arith in
      rw z (lined_part places (suc j) _ (fact_end g u q) (others previous p places q l) (ap (fact_end g u) e) i (omega arith))
