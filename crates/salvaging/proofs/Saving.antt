-- What is written and said, by what the salvage answers.
use Rattle.std.specs.Prelude.{Result, Ok, Err}
use Prim.Native.Nat.{ℕ, ◌+◌, ◌*◌, ◌≤◌, ◌<◌}
use native.Mathlib.Omega.{arith}
use mathlib.Core.Path.{◌≡◌, refl, sym, ◌∙◌, ap, subst}
use mathlib.Core.List.{List, ◌++◌}
use borrow.Author.Tests.{lt-ltb, le-ltb}
use lib.ListN.{length, get_or, drop, length-append}
use Rattle.paper.specs.declared.Refusal.{Refusal}
use Rattle.paper.specs.declared.Salvage.{Salvage}
use Rattle.paper.specs.Answers.{Verdict, refuse}
use Rattle.paper.specs.Ceilings.{longest_input}
use Rattle.paper.specs.Listings.{refusal_line}
use Rattle.paper.specs.Salvaging.{salvaged, dropped, dropped_list, salvage_verdict, salvage_answer, lent_by}
use Rattle.puts.specs.Put.{Put}
use Rattle.listing.specs.Listed.{Printed}
use Rattle.listing.proofs.ListingTexts.{printed_whole, printed_as}
use Rattle.bolgverk.specs.Promises.{SalvagePromise}
use Rattle.bolgverk.proofs.Determined.{salvage_answer_lem}
use Rattle.salvaging.specs.declared.Saved.{Saved}
use Rattle.salvaging.specs.Said.{lines_from, fact_lines, list_room, verdict_of, Saves}
use Rattle.salvaging.proofs.SaidTexts.{lines_listed, listed_length}
use Rattle.salvaging.proofs.Rooms.{both_fit}

-- which of its cases an answer is, and what a salvage has
abbrev case : Result Salvage Refusal → ℕ
case (Ok s) = 0
case (Err r) = 1

abbrev kept_of_lem : Result Salvage Refusal → Salvage
kept_of_lem (Ok s) = s
kept_of_lem (Err r) = record { length = 0; dropped = 0 }

abbrev reason_of : Result Salvage Refusal → Refusal
reason_of (Ok s) = refuse 0 0
reason_of (Err r) = r

module _ (f : List ℕ) where
  accepted_as : (v : Verdict) (s : Salvage) → Ok s ≡ salvage_answer f v → (v ≡ Ok tt) × (s ≡ record { length = length (salvaged f); dropped = length (dropped f) })
  accepted_as (Ok tt) s e = (refl, ap kept_of_lem e)
  accepted_as (Err r) s e =
      let z : ◌≡◌ {A = ℕ} 0 1 = ap case e in
      absurd (omega arith)

  refused_as : (v : Verdict) (why : Refusal) → Err why ≡ salvage_answer f v → v ≡ Err why
  refused_as (Ok tt) why e =
      let z : ◌≡◌ {A = ℕ} 1 0 = ap case e in
      absurd (omega arith)
  refused_as (Err r) why e = ap Err (sym (ap reason_of e))

  -- a refusal leaves the bytes for the rest as they were
  pub refused_saves : {out text after textAfter : List ℕ} (why : Refusal) (r : Saved) → after ≡ out → r.rest ≡ 0 → Printed (refusal_line why) text r.said textAfter →
      Saves (Err why) f out text r after textAfter
  refused_saves {out} why r a z p =
      record { rest = record { count = z; fits = omega (arith, z); bytes = a ∙ ap (λ (n : ℕ). drop n out) (sym z) }; said = p }

  -- the verdict, where the lent bytes and the lent list are those of the program
  module _ {out list after listAfter : List ℕ} {a : (Result Salvage Refusal)} (p : SalvagePromise f out list a after listAfter) (o : length out ≡ longest_input) (l : length list ≡ list_room) where
    verdict_as : salvage_verdict f (length out) (length list) ≡ salvage_verdict f longest_input list_room
    verdict_as = rw (o, l) refl

    answer_as : a ≡ salvage_answer f (salvage_verdict f longest_input list_room)
    answer_as = salvage_answer_lem _ _ _ _ _ _ p ∙ ap (salvage_answer f) verdict_as

    kept : (s : Salvage) → a ≡ Ok s →
        (salvage_verdict f longest_input list_room ≡ Ok tt) × (s ≡ record { length = length (salvaged f); dropped = length (dropped f) })
    kept s e = accepted_as (salvage_verdict f longest_input list_room) s (sym e ∙ answer_as)

    pub told_refused : {text textAfter : List ℕ} (why : Refusal) (r : Saved) → a ≡ Err why → r.rest ≡ 0 → Printed (refusal_line why) text r.said textAfter →
        Saves (salvage_verdict f longest_input list_room) f out text r after textAfter
    told_refused {text} {textAfter} why r e z q =
        let v : salvage_verdict f longest_input list_room ≡ Err why = refused_as _ why (sym e ∙ answer_as) in
        let s : after ≡ out = p.bytes ∙ ap (lent_by (salvaged f) out) (verdict_as ∙ v) in
        subst (λ (w : Verdict). Saves w f out text r after textAfter) (sym v) (refused_saves why r s z q)

    pub told_few : (s : Salvage) → a ≡ Ok s → 3 * s.dropped ≤ list_room
    unfolding dropped_list
    told_few s e =
        let k = kept s e in
        let d : s.dropped ≡ length (dropped f) = ap (λ (x : Salvage). x.dropped) k.1 in
        omega (arith, (both_fit f longest_input list_room k.0).1, listed_length (dropped f))

    lines_said : (s : Salvage) → a ≡ Ok s → lines_from (λ i. get_or listAfter i 0) 0 s.dropped ≡ fact_lines (dropped f)
    unfolding dropped_list
    lines_said s e =
        let k = kept s e in
        let d : s.dropped ≡ length (dropped f) = ap (λ (x : Salvage). x.dropped) k.1 in
        let m = p.dropped ∙ ap (lent_by (dropped_list f) list) (verdict_as ∙ k.0) in
        ap (lines_from (λ i. get_or listAfter i 0) 0) d
        ∙ lines_listed (λ i. get_or listAfter i 0) 0 (dropped f) (drop (length (dropped_list f)) list)
        (λ (i : ℕ).
        let z : 3 * 0 + i ≡ i = omega arith in
        ap (λ (j : ℕ). get_or listAfter j 0) z ∙ ap (λ (x : List ℕ). get_or x i 0) m)

    pub told_salvaged : {text textAfter : List ℕ} (s : Salvage) (r : Saved) → a ≡ Ok s → r.rest ≡ s.length →
        Put text 0 (lines_from (λ i. get_or listAfter i 0) 0 s.dropped) r.said textAfter → r.said ≤ length text →
        Saves (salvage_verdict f longest_input list_room) f out text r after textAfter
    told_salvaged {text} {textAfter} s r e n q h =
        let k = kept s e in
        let c : r.rest ≡ length (salvaged f) = n ∙ ap (λ (x : Salvage). x.length) k.1 in
        let m : after ≡ salvaged f ++ drop (length (salvaged f)) out = p.bytes ∙ ap (lent_by (salvaged f) out) (verdict_as ∙ k.0) in
        let w : length after ≡ length (salvaged f) + length (drop (length (salvaged f)) out) = ap length m ∙ length-append (salvaged f) _ in
        let rest : Printed (salvaged f) out r.rest after = record { count = c; fits = omega arith; bytes = m ∙ ap (λ (i : ℕ). salvaged f ++ drop i out) (sym c) } in
        let said : Printed (fact_lines (dropped f)) text r.said textAfter = printed_as (lines_said s e) (printed_whole (record { room = omega (arith, q.place) }) q) in
        subst (λ (v : Verdict). Saves v f out text r after textAfter) (sym k.0) (record { rest = rest; said = said })

  pub longer_saves : {out text after textAfter : List ℕ} (why : Refusal) (r : Saved) → longest_input < length f → why ≡ refuse 28 0 → after ≡ out → r.rest ≡ 0 →
      Printed (refusal_line why) text r.said textAfter → Saves (verdict_of f) f out text r after textAfter
  unfolding verdict_of
  longer_saves why r h e a z p = rw (lt-ltb longest_input (length f) h, ← e) (refused_saves why r a z p)

  pub not_longer : {out text after textAfter : List ℕ} {r : Saved} → length f ≤ longest_input → Saves (salvage_verdict f longest_input list_room) f out text r after textAfter →
      Saves (verdict_of f) f out text r after textAfter
  unfolding verdict_of
  not_longer h s = rw (le-ltb longest_input (length f) h) s
