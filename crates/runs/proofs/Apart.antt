-- A run that holds the state of the last set apart, as those of LRU, NMRU and the tree do: what holds after i accesses, that it holds at first, when an access goes to a set, and after its step.
use Prim.Native.Nat.{ℕ, ◌+◌, ◌%◌, ◌<◌, ◌≤◌}
use native.Mathlib.Decide.{ℕ_discrete}
use native.Mathlib.Omega.{arith}
use mathlib.Core.Path.{◌≡◌, refl, sym, ap, ◌∙◌, subst}
use mathlib.Core.Bool.{not}
use mathlib.Core.List.{List}
use lib.ListN.{length, get_or, set, replicate, length-set}
use lib.Seq.{get_or-set_other}
use borrow.Author.Tests.{eq-eqb, ne_eqb}
use Rattle.paper.specs.declared.SetState.{SetState}
use Rattle.paper.specs.declared.Stepped.{Stepped}
use Rattle.paper.specs.Lists.{bit}
use Rattle.paper.specs.Machines.{empty_set, step}
use Rattle.paper.specs.Ready.{Ready}
use Rattle.paper.specs.Traces.{after}
use Rattle.runs.specs.TraceRuns.{held, held_apart, no_lines, Runs, Stands}
use Rattle.runs.proofs.Going.{same_content, Going, Access, going_start, going_same, going_more, set_legal, set_ready, set_by_bits, no_none}
use Rattle.runs.proofs.Held.{held_at, held_here, held_there, held_empty}

module _ (l : List SetState) (at : ℕ) (s : SetState) where
  pub apart_here : held_apart l at s at ≡ s
  unfolding held_apart
  apart_here = rw (eq-eqb at at refl)

  apart_there : (q : ℕ) → (q ≡ at → ⊥) → held_apart l at s q ≡ held l q
  unfolding held_apart
  apart_there q n = rw (ne_eqb q at n)

pub apart_empty : (n at q : ℕ) → held_apart (replicate n empty_set) at empty_set q ≡ empty_set
apart_empty n at q =
    elim (ℕ_discrete q at) [
      | yes e ↦ subst (λ (x : ℕ). held_apart (replicate n empty_set) at empty_set x ≡ empty_set) (sym e) (apart_here (replicate n empty_set) at empty_set)
      | no f ↦ apart_there (replicate n empty_set) at empty_set q f ∙ held_empty n q
    ]

-- another state for the set that is held apart changes no other
apart_other : (l : List SetState) (at : ℕ) (s t : SetState) (q : ℕ) → (q ≡ at → ⊥) → held_apart l at t q ≡ held_apart l at s q
apart_other l at s t q n = apart_there l at t q n ∙ sym (apart_there l at s q n)

-- the last set's state is put back, and that of another set is taken up: all are held as before
module _ (l : List SetState) (last at : ℕ) (s t : SetState) (low : last < length l) (fits : at < length l) (apart : at ≡ last → ⊥) (took : t ≡ get_or (set l last s) at no_lines) where
  taken : t ≡ held l at
  taken = took ∙ get_or-set_other l last at s no_lines apart ∙ sym (held_at l at fits)

  others : (q : ℕ) → held (set l last s) q ≡ held_apart l last s q
  others q =
      elim (ℕ_discrete q last) [
        | yes e ↦ rw e (held_here l last low s ∙ sym (apart_here l last s))
        | no g ↦ held_there l last low s q g ∙ sym (apart_there l last s q g)
      ]

  as_before : (q : ℕ) → held_apart (set l last s) at t q ≡ held_apart l last s q
  as_before q =
      elim (ℕ_discrete q at) [
        | yes e ↦ rw e (apart_here (set l last s) at t ∙ taken ∙ sym (apart_there l last s at apart))
        | no f ↦ apart_there (set l last s) at t q f ∙ others q
      ]

-- the same set again, or another in its place: all are held as before
module _ (states : List SetState) (last : ℕ) (state : SetState) {l : List SetState} {now : ℕ} {s : SetState} where
  pub stays_same : l ≡ states → s ≡ state → now ≡ last → (q : ℕ) → held_apart l now s q ≡ held_apart states last state q
  stays_same f g h q = rw (f, g, h)

  pub turns_same :
      {at : ℕ} → last < length states → at < length states → (at ≡ last → ⊥) → l ≡ set states last state → s ≡ get_or (set states last state) at no_lines → now ≡ at
      → (q : ℕ) → held_apart l now s q ≡ held_apart states last state q
  turns_same {at} low fits n f g h q = rw (f, h) (as_before states last at state s low fits n g q)

-- an access to the set that is held apart is one to the content
module _ (p k sets b : ℕ) (l : List SetState) (at : ℕ) (s : SetState) (home : at ≡ b % sets) where
  after_at : (q : ℕ) → Dec (q ≡ at) → held_apart l at (step p k s b).state q ≡ after p k sets (held_apart l at s) b q
  unfolding after
  after_at q (yes e) =
      rw (e, eq-eqb (b % sets) at (sym home))
      (apart_here l at (step p k s b).state ∙ ap (λ (x : SetState). (step p k x b).state) (sym (apart_here l at s)))
  after_at q (no f) = rw (ne_eqb (b % sets) q (λ e. f (sym e ∙ sym home))) (apart_other l at s (step p k s b).state q f)

  pub apart_after : held_apart l at (step p k s b).state ≡ after p k sets (held_apart l at s) b
  apart_after = same_content (λ q. after_at q (ℕ_discrete q at))

-- after i accesses
pub record Apart (p k sets : ℕ) (blocks lent out : List ℕ) (states : List SetState) (last : ℕ) (state : SetState) (misses i : ℕ) : Type 0 where
  pub going : Going p k sets blocks lent out (held_apart states last state) misses i
  pub long : length states ≡ 64
  pub low : last < 64

-- the same, and the set that is held apart is that of access i
pub record Turned (p k sets : ℕ) (blocks lent out : List ℕ) (states : List SetState) (last : ℕ) (state : SetState) (misses i : ℕ) : Type 0 where
  pub apart : Apart p k sets blocks lent out states last state misses i
  pub access : Access sets blocks i last

module _ {p k sets : ℕ} {blocks lent : List ℕ} (ok : Runs p k sets blocks lent) where
  pub apart_start : Apart p k sets blocks lent lent (replicate 64 empty_set) 0 empty_set 0 0
  apart_start = record { going = going_start ok (held_apart (replicate 64 empty_set) 0 empty_set) (λ q. apart_empty 64 0 q); long = refl; low = omega arith }

  module _ {out : List ℕ} {states : List SetState} {last : ℕ} {state : SetState} {misses i : ℕ} where
    -- an access to the set `at`, which is the last or another
    module _ (a : Apart p k sets blocks lent out states last state misses i) {at : ℕ} (x : Access sets blocks i at) {l : List SetState} {now : ℕ} {s : SetState} where
      turned : now ≡ at → length l ≡ 64 → ((q : ℕ) → held_apart l now s q ≡ held_apart states last state q) → Turned p k sets blocks lent out l now s misses i
      turned e n same =
          record {
            apart = record { going = going_same ok a.going (held_apart l now s) same; long = n; low = omega (arith, e, x.low) };
            access = subst (λ (y : ℕ). Access sets blocks i y) (sym e) x;
          }

      pub stays : at ≡ last → l ≡ states → s ≡ state → now ≡ last → Turned p k sets blocks lent out l now s misses i
      stays e f g h = turned (h ∙ sym e) (ap length f ∙ a.long) (stays_same states last state f g h)

      pub turns : (at ≡ last → ⊥) → l ≡ set states last state → s ≡ get_or (set states last state) at no_lines → now ≡ at → Turned p k sets blocks lent out l now s misses i
      turns n f g h =
          turned h (ap length f ∙ length-set states last state ∙ a.long)
          (turns_same states last state (omega (arith, a.low, a.long)) (omega (arith, x.low, a.long)) n f g h)

    module _ (u : Turned p k sets blocks lent out states last state misses i) where
      -- what a step asks for
      pub apart_ready : Ready k state.lines
      apart_ready = set_ready ok u.apart.going state last (apart_here states last state)

      -- and what a machine's step asks for
      pub apart_stands : Stands p k state (get_or blocks i 0)
      apart_stands =
          record {
            offers = ok.offers;
            legal = (set_legal ok u.apart.going state last (apart_here states last state)).legal;
            some = no_none ok u.access.within;
            by_bits = λ e. set_by_bits ok u.apart.going state last (apart_here states last state) e;
          }

      -- the step's state is held apart in the place of the one before
      pub apart_more :
          (t : Stepped) → t ≡ step p k state (get_or blocks i 0) → (m : ℕ) → m ≡ bit (not t.hit) → m ≤ 1
          → Apart p k sets blocks lent (set out i m) states last t.state (misses + m) (i + 1)
      apart_more t took m e f =
          let was : t ≡ step p k (held_apart states last state last) (get_or blocks i 0) = took ∙ ap (λ (s : SetState). step p k s (get_or blocks i 0)) (sym (apart_here states last state)) in
          record {
            going = going_more ok u.apart.going u.access t was (held_apart states last t.state) (apart_here states last t.state) (apart_other states last state t.state) m e f;
            long = u.apart.long;
            low = u.apart.low;
          }
