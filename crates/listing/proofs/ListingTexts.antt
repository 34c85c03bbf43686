-- What is printed, by the verdict: the 321 numbers are the bounds, and a file with no layout is refused.
use Rattle.std.specs.Prelude.{Ok, Err}
use Prim.Native.Nat.{ℕ, ◌≤◌, ◌<◌}
use native.Mathlib.Omega.{arith}
use mathlib.Core.Path.{◌≡◌, refl, sym, ap, subst}
use mathlib.Core.List.{List, ◌++◌}
use borrow.Author.Tests.{lt-ltb, le-ltb}
use lib.ListN.{length, take, drop}
use lib.Seq.{take_all, length-take-le}
use native.Mathlib.Decide.{dec_le}
use mathlib.Core.Logic.{dite}
use Rattle.paper.specs.declared.Refusal.{Refusal}
use Rattle.paper.specs.declared.Trailer.{Trailer}
use Rattle.paper.specs.Answers.{Verdict, refuse}
use Rattle.paper.specs.Cases.{Case}
use Rattle.paper.specs.Bounds.{fact_bound, set_bound, numbers}
use Rattle.paper.specs.Files.{trailer_of, case_of, read_case}
use Rattle.paper.specs.Verdicts.{verdict, lent_after}
use Rattle.paper.specs.Listings.{bound_lines, accepted, printed, refusal_line, listing_of}
use Rattle.layout.specs.Layouts.{layout_of}
use Rattle.paper.specs.Known.{Laid}
use Rattle.layout.proofs.Laws.{refused_rules, read_trailer, read_laid}
use Rattle.theory.proofs.Printed.{total_printed, set_printed, fact_printed}
use Rattle.puts.specs.Put.{Fits, Put}
use Rattle.puts.proofs.Putting.{put_length, put_whole}
use Rattle.listing.specs.Listed.{after, number_lines, Printed}
use Rattle.listing.proofs.Numbered.{lines_same}

numbers_text : (e : Case) (p : ℕ) (rest : List ℕ) → e.sets ≤ 64 → e.facts ≤ 256 → number_lines (numbers e p ++ rest) e.sets e.facts ≡ accepted e p
unfolding bound_lines
numbers_text e p rest s f =
    let b = numbers e p ++ rest in
    rw (
      total_printed e p rest,
      lines_same _ (after b 1) (set_bound e p) 0 e.sets (λ q h. set_printed e p rest q (omega arith) (omega arith)),
      lines_same _ (after b 65) (λ i. fact_bound e p (e.fact i)) 0 e.facts (λ i h. fact_printed e p rest i (omega arith) (omega arith)),
    )

-- a text that is put at the start
pub printed_whole : {text l m : List ℕ} {r : ℕ} → Fits l 0 text → Put l 0 text r m → Printed text l r m
printed_whole f p =
    let w = put_whole f p in
    record { count = w.0; fits = omega (arith, f.room, w.0, put_length p); bytes = w.1 }

pub printed_as : {text other l m : List ℕ} {r : ℕ} → text ≡ other → Printed text l r m → Printed other l r m
printed_as {text} {other} {l} {m} {r} e p = subst (λ (t : List ℕ). Printed t l r m) e p

module _ (f : List ℕ) (p : ℕ) where
  pub layout_text : (r : Refusal) → layout_of f ≡ Err r → refusal_line r ≡ printed f p (verdict f 321)
  unfolding verdict
  layout_text r e = ap (printed f p) (sym (refused_rules f r _ e))

  pub accepted_text : (lent after : List ℕ) (trailer : Trailer) (v : Verdict) → layout_of f ≡ Ok trailer → v ≡ verdict f 321 → after ≡ lent_after f p lent v → v ≡ Ok tt →
      number_lines after trailer.sets trailer.facts ≡ printed f p (verdict f 321)
  unfolding case_of
  accepted_text lent after trailer v l a n e =
      let d : Laid f (trailer_of f) = rw (read_trailer f trailer l) at (read_laid f trailer l) in
      rw (n, ← a, e, read_trailer f trailer l) (numbers_text (read_case f) p (drop 321 lent) d.sets_high d.facts_high)

  pub longer : (r : Refusal) → 65536 < length f → r ≡ refuse 28 0 → refusal_line r ≡ listing_of f p
  unfolding listing_of
  longer r h e = rw (lt-ltb 65536 (length f) h) (ap refusal_line e)

  pub not_longer : length f ≤ 65536 → printed f p (verdict f 321) ≡ listing_of f p
  unfolding listing_of
  not_longer h = rw (le-ltb 65536 (length f) h) refl

-- one byte more than is allowed shows that the input is longer: what the program reads has the listing of the whole
pub listing_read : (input : List ℕ) (p : ℕ) → listing_of (take 65537 input) p ≡ listing_of input p
unfolding listing_of
listing_read input p =
    dite (dec_le (length input) 65537)
    (λ (h : length input ≤ 65537). rw (take_all 65537 input h) refl)
    (λ (h : ¬ (length input ≤ 65537)).
    rw (lt-ltb 65536 (length (take 65537 input)) (omega (arith, length-take-le 65537 input (omega arith))), lt-ltb 65536 (length input) (omega arith)) refl)
