-- What the request says of facts that are cut short and of the list, of the definitions.
use Rattle.std.specs.Prelude.{Option}
use Prim.Native.Nat.{ℕ, zero, suc, ◌+◌, ◌<◌}
use native.Mathlib.Omega.{arith}
use mathlib.Core.Path.{◌≡◌, refl, sym, ◌∙◌, ap}
use mathlib.Core.Logic.{◌⊎◌, inl}
use mathlib.Core.Bool.{Bool, true, cond}
use mathlib.Core.List.{List, [], ◌∷◌}
use borrow.Author.Tests.{lt-ltb}
use Rattle.paper.specs.declared.Refusal.{Refusal}
use Rattle.paper.specs.declared.Trailer.{Trailer}
use Rattle.paper.specs.declared.Previous.{Previous}
use Rattle.paper.specs.Answers.{refuse, refuse_at}
use Rattle.paper.specs.Facts.{wrong_scope}
use Rattle.paper.specs.Rules.{refused}
use Rattle.paper.specs.Files.{end_at, head_end, fact_at, fact_end}
use Rattle.paper.specs.Verdicts.{turn_rules}
use Rattle.paper.specs.Salvaging.{cut_short, next_place, turn_of, last_kept, judged_from, kept_of, dropped_of, listed}
use Rattle.paper.proofs.Says.{Says, says_bool, says_lt, says_or, says_is}

-- the numbers i, i + 1, … each refused with 11, n of them
abbrev pub elevens : ℕ → ℕ → List Refusal
elevens i zero = []
elevens i (suc n) = refuse 11 i ∷ elevens (suc i) n

module _ (f : List ℕ) (t : Trailer) where
  -- A fact's head or its rows are cut short, or: "Where a fact's scope number is bad its length is unknown, so it is treated as cut short."
  pub cut_says : (p : ℕ) → Says ((end_at f < head_end p) ⊎ ((wrong_scope t.loops (fact_at f p).scope ≡ true) ⊎ (end_at f < fact_end f t p))) (cut_short f t p)
  unfolding cut_short
  cut_says p = says_or (says_lt _ _) (says_or (says_bool (wrong_scope t.loops (fact_at f p).scope)) (says_lt _ _))

  cut_next : (p : ℕ) → cut_short f t p ≡ true → next_place f t p ≡ end_at f
  unfolding next_place
  cut_next p h = ap (λ (b : Bool). cond b (end_at f) (fact_end f t p)) h

  -- where the facts end, none is left
  end_turn : (i : ℕ) (previous : Option Previous) → turn_of f t i previous (end_at f) ≡ refused 11 i
  unfolding turn_rules
  end_turn i previous = rw (lt-ltb (end_at f) (end_at f + 6) (omega arith)) refl

  end_next : next_place f t (end_at f) ≡ end_at f
  end_next = cut_next (end_at f) (says_is (cut_says (end_at f)) (inl (omega arith)))

  at_end : (n i : ℕ) (previous : Option Previous) → (kept_of (judged_from f t n i previous (end_at f)) ≡ []) × (dropped_of (judged_from f t n i previous (end_at f)) ≡ elevens i n)
  unfolding judged_from
  at_end zero i previous = (refl, refl)
  at_end (suc n) i previous =
      let r = at_end n (suc i) (last_kept f t (refused 11 i) previous (end_at f)) in
      (rw (end_turn i previous, end_next) r.0, rw (end_turn i previous, end_next) (ap {B = List Refusal} (λ l. refuse 11 i ∷ l) r.1))

  -- "drops everything from a fact cut short onward"; "facts after a cut one get 11"
  pub after_cut : (p : ℕ) → cut_short f t p ≡ true → (n i : ℕ) (previous : Option Previous) →
      (kept_of (judged_from f t n i previous (next_place f t p)) ≡ []) × (dropped_of (judged_from f t n i previous (next_place f t p)) ≡ elevens i n)
  after_cut p h n i previous = rw (cut_next p h) (at_end n i previous)

-- The list tells which facts are dropped, "each with the first number it earns and places": it is got back.
abbrev unlisted : List ℕ → List Refusal
unlisted [] = []
unlisted (number ∷ []) = []
unlisted (number ∷ place ∷ []) = []
unlisted (number ∷ place ∷ second ∷ rest) = refuse_at number place second ∷ unlisted rest

unlisted_listed : (l : List Refusal) → unlisted (listed l) ≡ l
unlisted_listed [] = refl
unlisted_listed (r ∷ rest) = ap {B = List Refusal} (λ l. r ∷ l) (unlisted_listed rest)

pub listed_once : (l m : List Refusal) → listed l ≡ listed m → l ≡ m
listed_once l m e = sym (unlisted_listed l) ∙ ap unlisted e ∙ unlisted_listed m
