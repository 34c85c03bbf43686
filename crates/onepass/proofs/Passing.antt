-- The loop of the pass: what holds after i accesses, that it holds at first, that an access keeps it, and what it says at the end.
use Prim.Native.Nat.{ℕ, zero, suc, ◌+◌, ◌%◌, ◌<◌, ◌≤◌}
use native.Mathlib.Numerals.{add-one}
use native.Mathlib.Decide.{ℕ_discrete, dec_lt}
use native.Mathlib.Omega.{arith}
use mathlib.Core.Path.{◌≡◌, refl, sym, ap, ◌∙◌, subst}
use mathlib.Core.Bool.{Bool, true, false, cond}
use mathlib.Core.List.{List}
use lib.Dec.{eqb}
use lib.ListN.{length, get_or, drop, set, replicate, length-set, drop_of_length-le}
use lib.Seq.{drop-cons, get_or-set_same, get_or-set_other}
use borrow.Author.Tests.{eq-eqb, ne_eqb}
use Rattle.lines.specs.Lines.{weight_of, weighed}
use Rattle.paper.specs.declared.SetState.{SetState}
use Rattle.paper.specs.declared.Stepped.{Stepped}
use Rattle.paper.specs.Lists.{bit}
use Rattle.paper.specs.Machines.{empty_set, line_of, step}
use Rattle.paper.specs.Policies.{lru_policy}
use Rattle.paper.specs.Ready.{Ready}
use Rattle.paper.specs.Traces.{Content, after}
use Rattle.paper.specs.Runs.{LegalSet}
use Rattle.paper.proofs.Says.{says_true}
use Rattle.paper.proofs.States.{says_offered}
use Rattle.paper.proofs.LineLaws.{weight_bit, weight_less}
use Rattle.paper.proofs.MoveLaws as Moves
use Rattle.theory.proofs.View.{kept}
use Rattle.runs.specs.TraceRuns.{held_apart, no_lines, Runs}
use Rattle.runs.proofs.Going.{same_content, Access, no_none}
use Rattle.runs.proofs.Apart.{apart_here, apart_empty, stays_same, turns_same, apart_after}
use Rattle.inclusion.specs.FoundLines.{found_at}
use Rattle.inclusion.proofs.FirstLines.{empty_set_lem}
use Rattle.onepass.specs.Passes.{Found}

-- after i accesses, to contents c: those counted, and those to come
pub record Counted (sets : ℕ) (blocks found : List ℕ) (c : Content) (i : ℕ) : Type 0 where
  pub within : i ≤ length blocks
  pub counted : (j : ℕ) → j < 8 → get_or found (weight_of j) 0 + found_at sets c (drop i blocks) j ≡ found_at sets (λ q. empty_set) blocks j
  pub few : (w : ℕ) → get_or found w 0 ≤ i
  pub weights : length found ≡ 256
  pub legal : (q : ℕ) → LegalSet lru_policy 8 (c q)

-- the last set's state is held apart
pub record Passing (sets : ℕ) (blocks found : List ℕ) (states : List SetState) (last : ℕ) (state : SetState) (i : ℕ) : Type 0 where
  pub counts : Counted sets blocks found (held_apart states last state) i
  pub long : length states ≡ 64
  pub low : last < 64

-- the same, and the set that is held apart is that of access i
pub record Turned (sets : ℕ) (blocks found : List ℕ) (states : List SetState) (last : ℕ) (state : SetState) (i : ℕ) : Type 0 where
  pub passing : Passing sets blocks found states last state i
  pub access : Access sets blocks i last

zeros : (n q : ℕ) → get_or {A = ℕ} (replicate n 0) q 0 ≡ 0
zeros zero q = refl
zeros (suc n) zero = refl
zeros (suc n) (suc q) = zeros n q

module _ {sets : ℕ} {blocks : List ℕ} where
  same_counted : {found : List ℕ} {c : Content} {i : ℕ} (d : Content) → ((q : ℕ) → d q ≡ c q) → Counted sets blocks found c i → Counted sets blocks found d i
  same_counted {found} {c} {i} d e w = subst (λ (x : Content). Counted sets blocks found x i) (sym (same_content e)) w

  pub passing_start : Passing sets blocks (replicate 256 0) (replicate 64 empty_set) 0 empty_set 0
  passing_start =
      record {
        counts =
            same_counted (held_apart (replicate 64 empty_set) 0 empty_set) (λ q. apart_empty 64 0 q)
            (record {
              within = omega arith;
              counted = λ j h. omega (arith, zeros 256 (weight_of j));
              few = λ w. omega (arith, zeros 256 w);
              weights = refl;
              legal = λ q. empty_set_lem 8 (omega arith);
            });
        long = refl;
        low = omega arith;
      }

  module _ {found : List ℕ} {states : List SetState} {last : ℕ} {state : SetState} {i : ℕ} (a : Passing sets blocks found states last state i)
      {at : ℕ} (x : Access sets blocks i at) {l : List SetState} {now : ℕ} {s : SetState} where
    turned : now ≡ at → length l ≡ 64 → ((q : ℕ) → held_apart l now s q ≡ held_apart states last state q) → Turned sets blocks found l now s i
    turned e n same =
        record {
          passing = record { counts = same_counted (held_apart l now s) same a.counts; long = n; low = omega (arith, e, x.low) };
          access = subst (λ (y : ℕ). Access sets blocks i y) (sym e) x;
        }

    pub stays : at ≡ last → l ≡ states → s ≡ state → now ≡ last → Turned sets blocks found l now s i
    stays e f g h = turned (h ∙ sym e) (ap length f ∙ a.long) (stays_same states last state f g h)

    pub turns : (at ≡ last → ⊥) → l ≡ set states last state → s ≡ get_or (set states last state) at no_lines → now ≡ at → Turned sets blocks found l now s i
    turns n f g h =
        turned h (ap length f ∙ length-set states last state ∙ a.long)
        (turns_same states last state (omega (arith, a.low, a.long)) (omega (arith, x.low, a.long)) n f g h)

module _ {sets : ℕ} {blocks : List ℕ} (ok : Runs lru_policy 8 sets blocks blocks) {found : List ℕ} {states : List SetState} {last : ℕ} {state : SetState} {i : ℕ} (u : Turned sets blocks found states last state i) where
  abbrev now : Content
  now = held_apart states last state

  abbrev b : ℕ
  b = get_or blocks i 0

  legal_here : LegalSet lru_policy 8 state
  legal_here = subst (LegalSet lru_policy 8) (apart_here states last state) (u.passing.counts.legal last)

  -- what a step asks for
  pub passing_ready : Ready 8 state.lines
  passing_ready = Moves.legal_ready lru_policy 8 state legal_here.legal (says_true (says_offered lru_policy 8) ok.offers)

  -- w tells the line that b stands in
  module _ (w : ℕ) (e : w ≡ weighed state.lines b) where
    in_line : line_of state.lines b < 8 → w ≡ weight_of (line_of state.lines b)
    in_line h = (Moves.found 8 state.lines state.bits b w passing_ready (no_none ok u.access.within) legal_here.eight e h).0

    in_none : 8 ≤ line_of state.lines b → w ≡ 0
    in_none h = Moves.none_found 8 state.lines state.bits b w passing_ready (no_none ok u.access.within) legal_here.eight e h

    pub weight_low : w < 256
    unfolding weight_of
    weight_low = elim (dec_lt (line_of state.lines b) 8) [ yes y ↦ omega (arith, in_line y) | no y ↦ omega (arith, in_none (omega arith)) ]

    its_weight : (j : ℕ) → j < 8 → line_of state.lines b ≡ j → weight_of j ≡ w
    its_weight j h n = ap weight_of (sym n) ∙ sym (in_line (omega arith))

    no_other : (j : ℕ) → j < 8 → (line_of state.lines b ≡ j → ⊥) → weight_of j ≡ w → ⊥
    no_other j h n q =
        let m = line_of state.lines b in
        elim (dec_lt m 8) [
          | yes y ↦
              elim (dec_lt m j) [
                | yes z ↦ omega (arith, in_line y, weight_less j m h z)
                | no z ↦ omega (arith, in_line y, weight_less m j y (omega arith))
              ]
          | no y ↦ omega (arith, in_none (omega arith), (weight_bit j h).0)
        ]

    -- the step's state is held apart in the place of the one before
    module _ (t : Stepped) (took : t ≡ step lru_policy 8 state b) where
      next : held_apart states last t.state ≡ after lru_policy 8 sets now b
      next = ap (λ (y : Stepped). held_apart states last y.state) took ∙ apart_after lru_policy 8 sets b states last state u.access.home

      legal_after : (q : ℕ) → LegalSet lru_policy 8 (after lru_policy 8 sets now b q)
      unfolding after
      legal_after q = go (eqb (b % sets) q)
        where
          go : (x : Bool) → LegalSet lru_policy 8 (cond x (step lru_policy 8 (now q) b).state (now q))
          go true = kept lru_policy 8 (now q) b ok.offers (u.passing.counts.legal q)
          go false = u.passing.counts.legal q

      line_is : line_of (now (b % sets)).lines b ≡ line_of state.lines b
      line_is = ap (λ (q : ℕ). line_of (now q).lines b) (sym u.access.home) ∙ ap (λ (x : SetState). line_of x.lines b) (apart_here states last state)

      -- the access itself, and those after it
      opened : (j : ℕ) → found_at sets now (drop i blocks) j ≡ bit (eqb (line_of state.lines b) j) + found_at sets (held_apart states last t.state) (drop (suc i) blocks) j
      unfolding found_at
      opened j = rw (drop-cons blocks i 0 u.access.within, line_is, next)

      one_more : (j : ℕ) → j < 8 → get_or (set found w (get_or found w 0 + 1)) (weight_of j) 0 ≡ bit (eqb (line_of state.lines b) j) + get_or found (weight_of j) 0
      one_more j h =
          elim (ℕ_discrete (line_of state.lines b) j) [
            | yes n ↦
                let q = its_weight j h n in
                rw (eq-eqb (line_of state.lines b) j n, q)
                (get_or-set_same found w (get_or found w 0 + 1) 0 (omega (arith, weight_low, u.passing.counts.weights)) ∙ omega arith)
            | no n ↦
                rw (ne_eqb (line_of state.lines b) j n)
                (get_or-set_other found w (weight_of j) (get_or found w 0 + 1) 0 (no_other j h n) ∙ omega arith)
          ]

      few_more : (v : ℕ) → get_or (set found w (get_or found w 0 + 1)) v 0 ≤ suc i
      few_more v =
          elim (ℕ_discrete v w) [
            | yes n ↦
                rw n
                (omega (arith, get_or-set_same found w (get_or found w 0 + 1) 0 (omega (arith, weight_low, u.passing.counts.weights)), u.passing.counts.few w))
            | no n ↦ omega (arith, get_or-set_other found w v (get_or found w 0 + 1) 0 n, u.passing.counts.few v)
          ]

      pub passing_more : Passing sets blocks (set found w (get_or found w 0 + 1)) states last t.state (i + 1)
      passing_more =
          let k = u.passing.counts in
          record {
            counts =
                rw (add-one i)
                (record {
                  within = u.access.within;
                  counted = λ j h. omega (arith, one_more j h, opened j, k.counted j h);
                  few = few_more;
                  weights = length-set found w (get_or found w 0 + 1) ∙ k.weights;
                  legal = subst (λ (c : Content). (q : ℕ) → LegalSet lru_policy 8 (c q)) (sym next) legal_after;
                });
            long = u.passing.long;
            low = u.passing.low;
          }

pub passing_end :
    {sets : ℕ} {blocks : List ℕ} {found : List ℕ} {states : List SetState} {last : ℕ} {state : SetState} {i : ℕ}
    → Passing sets blocks found states last state i → length blocks ≤ i → Found sets blocks found
unfolding found_at
passing_end {sets} {blocks} {found} {states} {last} {state} {i} a h =
    record {
      is = λ j l.
          omega (
            arith,
            a.counts.counted j l,
            ap (λ (bs : List ℕ). found_at sets (held_apart states last state) bs j) (drop_of_length-le blocks {i = i} h),
          );
    }
