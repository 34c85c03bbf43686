-- The loop of a trace run, once for every policy: what holds after i accesses, that it holds at first, that an access keeps it, and what it says at the end.
use Prim.Native.Nat.{ℕ, suc, ◌+◌, ◌%◌, ◌^◌, ◌<◌, ◌≤◌}
use native.Mathlib.Nat.{add-zero, zero-add, add_assoc}
use native.Mathlib.Numerals.{add-one}
use native.Mathlib.Decide.{ℕ_discrete}
use native.Mathlib.Omega.{arith}
use mathlib.Core.Path.{◌≡◌, refl, ap, ap₂, sym, ◌∙◌, subst}
use mathlib.Core.Bool.{not}
use mathlib.Core.Logic.{◌≢◌}
use mathlib.Core.List.{List, [], ◌∷◌, ◌++◌, append_assoc}
use lib.ListN.{length, get_or, take, drop, set, length-set}
use lib.Seq.{drop-cons, take-suc, set_at, length-take-le, get_or-drop, drop-drop, take_all}
use borrow.Author.Tests.{eq-eqb, ne_eqb, eqb-false}
use Rattle.paper.specs.declared.SetState.{SetState}
use Rattle.paper.specs.declared.Stepped.{Stepped}
use Rattle.paper.specs.Lists.{bit}
use Rattle.paper.specs.Machines.{none, empty_set, step, victim, miss_line}
use Rattle.paper.specs.Policies.{nmru_policy}
use Rattle.paper.specs.Ready.{Ready}
use Rattle.paper.specs.Traces.{Content, after, miss_at, marks, total, bad_access}
use Rattle.paper.specs.Runs.{LegalSet}
use Rattle.paper.proofs.Says.{says_true}
use Rattle.paper.proofs.States.{says_offered, empty_legal}
use Rattle.paper.proofs.Fillings.{Filling, filling_empty, filling_line, filling_kept}
use Rattle.paper.proofs.MoveLaws.{legal_ready, nmru_bits}
use Rattle.theory.proofs.View as View
use Rattle.runs.specs.TraceRuns.{made, Runs, Ran}

pub same_content : {c d : Content} → ((q : ℕ) → c q ≡ d q) → c ≡ d
same_content h = λ j q. h q j

pub length_marks : (p k s : ℕ) (c : Content) (bs : List ℕ) → length (marks p k s c bs) ≡ length bs
unfolding marks
length_marks p k s c [] = refl
length_marks p k s c (b ∷ bs) = ap suc (length_marks p k s (after p k s c b) bs)

total_append : (a b : List ℕ) → total (a ++ b) ≡ total a + total b
unfolding total
total_append [] b = sym (zero-add (total b))
total_append (x ∷ a) b = ap (λ (n : ℕ). x + n) (total_append a b) ∙ sym (add_assoc x (total a) (total b))

total_more : (l : List ℕ) (i : ℕ) → i < length l → total (take (suc i) l) ≡ total (take i l) + get_or l i 0
unfolding total
total_more l i h = rw (take-suc l i 0 h, total_append) (omega arith)

-- one more of the marks m is put over those of d
put : (m d : List ℕ) (i : ℕ) → i < length m → i < length d → set (take i m ++ drop i d) i (get_or m i 0) ≡ take (suc i) m ++ drop (suc i) d
put m d i h g =
    rw (drop-cons d i 0 g, set_at (take i m) (get_or d i 0) (drop (suc i) d) (get_or m i 0) i (length-take-le i m (omega arith)))
    (sym (ap (λ (l : List ℕ). l ++ drop (suc i) d) (take-suc m i 0 h) ∙ append_assoc (take i m) (get_or m i 0 ∷ []) (drop (suc i) d)))

-- the marks from access i on: that of access i, and those after it
module _ (p k s : ℕ) (c : Content) (m bs : List ℕ) (i : ℕ) (h : i < length bs) (e : drop i m ≡ marks p k s c (drop i bs)) where
  opened : drop i m ≡ bit (miss_at p k s c (get_or bs i 0)) ∷ marks p k s (after p k s c (get_or bs i 0)) (drop (suc i) bs)
  unfolding marks
  opened = e ∙ rw (drop-cons bs i 0 h)

  mark_is : get_or m i 0 ≡ bit (miss_at p k s c (get_or bs i 0))
  mark_is = ap (λ (n : ℕ). get_or m n 0) (sym (add-zero i)) ∙ sym (get_or-drop i m 0 0) ∙ ap (λ (l : List ℕ). get_or l 0 0) opened

  rest_is : drop (suc i) m ≡ marks p k s (after p k s c (get_or bs i 0)) (drop (suc i) bs)
  rest_is = ap (λ (n : ℕ). drop n m) (sym (add-one i)) ∙ sym (drop-drop 1 i m) ∙ ap (λ (l : List ℕ). drop 1 l) opened

-- after i accesses; c is a state for each set
pub record Going (p k sets : ℕ) (blocks lent out : List ℕ) (c : Content) (misses i : ℕ) : Type 0 where
  pub within : i ≤ length blocks
  pub written : out ≡ take i (made p k sets blocks) ++ drop i lent
  pub ahead : drop i (made p k sets blocks) ≡ marks p k sets c (drop i blocks)
  pub counted : misses ≡ total (take i (made p k sets blocks))
  pub few : misses ≤ i
  pub same : length out ≡ length lent
  pub legal : (q : ℕ) → LegalSet p k (c q)
  -- no set has met a state in which an empty line and the bits tell two lines
  pub filling : p ≡ nmru_policy → (q : ℕ) → Filling k (c q)

-- access i, and the set that its block lives in
pub record Access (sets : ℕ) (blocks : List ℕ) (i at : ℕ) : Type 0 where
  pub within : i < length blocks
  pub home : at ≡ get_or blocks i 0 % sets
  pub low : at < 64

module _ {p k sets : ℕ} {blocks lent : List ℕ} (ok : Runs p k sets blocks lent) where
  pub few_ways : k ≤ 8
  few_ways = (says_true (says_offered p k) ok.offers).most

  -- the set that is found
  pub access_is : {i at n : ℕ} → i < length blocks → n ≡ sets → at ≡ get_or blocks i 0 % n → at < 64 → Access sets blocks i at
  access_is {i} h e f l = record { within = h; home = f ∙ ap (λ (m : ℕ). get_or blocks i 0 % m) e; low = l }

  pub going_start : (c : Content) → ((q : ℕ) → c q ≡ empty_set) → Going p k sets blocks lent lent c 0 0
  unfolding made total
  going_start c e =
      record {
        within = omega arith;
        written = refl;
        ahead = ap (λ (d : Content). marks p k sets d blocks) (sym (same_content e));
        counted = refl;
        few = omega arith;
        same = refl;
        legal = λ q. subst (LegalSet p k) (sym (e q)) (record { eight = refl; legal = empty_legal p k (says_true (says_offered p k) ok.offers).least });
        filling = λ f q. subst (Filling k) (sym (e q)) (filling_empty k);
      }

  -- "block 65,535 in a trace" is refused before
  pub no_none : {i : ℕ} → i < length blocks → get_or blocks i 0 ≢ none
  unfolding bad_access
  no_none {i} h = eqb-false (get_or blocks i 0) none (ok.good i h)

  module _ {out : List ℕ} {c : Content} {misses i : ℕ} (g : Going p k sets blocks lent out c misses i) where
    -- the same states, held in another way
    pub going_same : (d : Content) → ((q : ℕ) → d q ≡ c q) → Going p k sets blocks lent out d misses i
    going_same d e = subst (λ (x : Content). Going p k sets blocks lent out x misses i) (sym (same_content e)) g

    -- what a step of the set asks for
    module _ (s : SetState) (at : ℕ) (e : c at ≡ s) where
      pub set_legal : LegalSet p k s
      set_legal = subst (LegalSet p k) e (g.legal at)

      pub set_ready : Ready k s.lines
      set_ready = legal_ready p k s set_legal.legal (says_true (says_offered p k) ok.offers)

      pub set_bits : p ≡ nmru_policy → s.bits + 1 < 2 ^ k
      set_bits f = nmru_bits p k s set_legal.legal f

      pub set_by_bits : p ≡ nmru_policy → miss_line k s ≡ victim k s.bits
      set_by_bits f = filling_line k s (omega (arith, set_legal.eight, set_ready.high)) (subst (Filling k) e (g.filling f at))

    -- an access: the set's new state, its mark
    module _ {at : ℕ} (x : Access sets blocks i at) (t : Stepped) (took : t ≡ step p k (c at) (get_or blocks i 0))
        (d : Content) (here : d at ≡ t.state) (there : (q : ℕ) → (q ≡ at → ⊥) → d q ≡ c q) where
      set_is : d at ≡ (step p k (c at) (get_or blocks i 0)).state
      set_is = here ∙ ap (λ (y : Stepped). y.state) took

      after_at : (q : ℕ) → Dec (q ≡ at) → d q ≡ after p k sets c (get_or blocks i 0) q
      unfolding after
      after_at q (yes e) =
          let f : get_or blocks i 0 % sets ≡ q = sym x.home ∙ sym e in
          rw (eq-eqb (get_or blocks i 0 % sets) q f) (subst (λ (y : ℕ). d y ≡ (step p k (c y) (get_or blocks i 0)).state) (sym e) set_is)
      after_at q (no f) = rw (ne_eqb (get_or blocks i 0 % sets) q (λ e. f (sym e ∙ sym x.home))) (there q f)

      after_is : d ≡ after p k sets c (get_or blocks i 0)
      after_is = same_content (λ q. after_at q (ℕ_discrete q at))

      kept : (q : ℕ) → Dec (q ≡ at) → LegalSet p k (d q)
      kept q (yes e) =
          subst (λ (y : ℕ). LegalSet p k (d y)) (sym e)
          (subst (LegalSet p k) (sym set_is) (View.kept p k (c at) (get_or blocks i 0) ok.offers (g.legal at)))
      kept q (no f) = subst (LegalSet p k) (sym (there q f)) (g.legal q)

      fills : (f : p ≡ nmru_policy) (q : ℕ) → Dec (q ≡ at) → Filling k (d q)
      unfolding step
      fills f q (yes e) =
          let s = c at in
          let b = get_or blocks i 0 in
          let r = set_ready s at refl in
          subst (λ (y : ℕ). Filling k (d y)) (sym e)
          (subst (Filling k) (sym (set_is ∙ ap (λ (y : ℕ). (step y k s b).state) f))
          (filling_kept k s b (no_none x.within) (omega (arith, (g.legal at).eight, r.high)) (set_bits s at refl f) (g.filling f at)))
      fills f q (no n) = subst (Filling k) (sym (there q n)) (g.filling f q)

      marked : (m : ℕ) → m ≡ bit (not t.hit) → m ≡ get_or (made p k sets blocks) i 0
      unfolding miss_at
      marked m e =
          e
          ∙ ap (λ (y : Stepped). bit (not y.hit)) (took ∙ ap (λ (q : ℕ). step p k (c q) (get_or blocks i 0)) x.home)
          ∙ sym (mark_is p k sets c (made p k sets blocks) blocks i x.within g.ahead)

      long : length (made p k sets blocks) ≡ length blocks
      unfolding made
      long = length_marks p k sets (λ q. empty_set) blocks

      pub going_more : (m : ℕ) → m ≡ bit (not t.hit) → m ≤ 1 → Going p k sets blocks lent (set out i m) d (misses + m) (i + 1)
      going_more m em lm =
          let M = made p k sets blocks in
          let f = marked m em in
          let w : i < length M = omega (arith, long, x.within) in
          record {
            within = omega (arith, x.within);
            written = rw (add-one, g.written, f) (put M lent i w (omega (arith, ok.room, x.within)));
            ahead = rw add-one (rest_is p k sets c M blocks i x.within g.ahead ∙ ap (λ (y : Content). marks p k sets y (drop (suc i) blocks)) (sym after_is));
            counted = rw add-one (omega (arith, total_more M i w, g.counted));
            few = omega (arith, g.few);
            same = length-set out i m ∙ g.same;
            legal = λ q. kept q (ℕ_discrete q at);
            filling = λ f q. fills f q (ℕ_discrete q at);
          }

    pub going_end : length blocks ≤ i → Ran p k sets blocks lent misses out
    unfolding made
    going_end h =
        let n : i ≡ length blocks = omega (arith, g.within) in
        let e : take i (made p k sets blocks) ≡ made p k sets blocks = take_all i (made p k sets blocks) (omega (arith, length_marks p k sets (λ q. empty_set) blocks)) in
        record { counted = g.counted ∙ ap total e; written = g.written ∙ ap₂ (λ (x : List ℕ) (y : ℕ). x ++ drop y lent) e n }

-- the policy by its number
pub runs_at : {p q k s : ℕ} {bs ms : List ℕ} → p ≡ q → Runs p k s bs ms → Runs q k s bs ms
runs_at {p} {q} {k} {s} {bs} {ms} e r = subst (λ (x : ℕ). Runs x k s bs ms) e r

pub ran_at : {p q k s n : ℕ} {bs ms out : List ℕ} → p ≡ q → Ran p k s bs ms n out → Ran q k s bs ms n out
ran_at {p} {q} {k} {s} {n} {bs} {ms} {out} e r = subst (λ (x : ℕ). Ran x k s bs ms n out) e r
