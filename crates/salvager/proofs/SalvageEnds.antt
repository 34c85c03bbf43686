-- How a salvage ends: refused, or with the file and the list.
use Rattle.std.specs.Prelude.{Result, Ok, Err}
use Prim.Native.Nat.{ℕ, ◌+◌, ◌*◌, ◌≤◌}
use native.Mathlib.Omega.{arith}
use mathlib.Core.Path.{◌≡◌, refl, sym, ◌∙◌, ap, subst}
use mathlib.Core.Bool.{true, false, ◌||◌}
use mathlib.Core.List.{List, ◌++◌}
use lib.Dec.{ltb}
use lib.ListN.{length, take, drop, length-append, length-take}
use borrow.Author.Tests.{ltb-false}
use Rattle.paper.specs.declared.Refusal.{Refusal}
use Rattle.paper.specs.declared.Trailer.{Trailer}
use Rattle.paper.specs.Answers.{Verdict, refuse}
use Rattle.paper.specs.Files.{trailer_of, facts_at, case_of}
use Rattle.paper.specs.Known.{Laid, Shaped}
use Rattle.paper.specs.OneFact.{trailer_with, with_facts}
use Rattle.paper.specs.Salvaging.{fact_parts, kept, salvaged, dropped_list, salvage_verdict}
use Rattle.paper.specs.Verdicts.{graph_rules}
use Rattle.paper.proofs.RuleLaws.{accepted_on, refused_on}
use Rattle.paper.proofs.Says.{neither}
use Rattle.paper.proofs.VerdictLaws.{graph_kept, hands_graph}
use Rattle.layout.specs.Layouts.{layout_of}
use Rattle.layout.proofs.Laws.{read_trailer, read_rules, refused_rules}
use Rattle.puts.specs.Put.{Put}
use Rattle.puts.proofs.Putting.{put_whole}
use Rattle.salvager.specs.declared.Sifted.{Sifted}
use Rattle.salvager.specs.Sieve.{dropped_by, Sieved}
use Rattle.salvager.specs.Done.{room_rule, Done}
use Rattle.salvager.proofs.KeptPut.{trailer_size_lem}
use Rattle.salvager.proofs.Sifts.{length_listed}
use Rattle.paper.specs.declared.Salvage.{Salvage}

module _ (f : List ℕ) (trailer : Trailer) (is : trailer ≡ trailer_of f) (laid : Laid f trailer) (s : Sifted) (spans whys : List ℕ) (t : Sieved f (trailer_of f) s spans whys) where
  abbrev facts : List ℕ
  facts = fact_parts f (trailer_of f) (kept f)

  -- n is where the facts begin
  module _ (n : ℕ) (q : n ≡ facts_at trailer) where
    -- the graph, the facts and the trailer, one after another
    file_parts : take n f ++ (facts ++ trailer_with f s.kept) ≡ salvaged f
    unfolding salvaged with_facts
    file_parts =
        ap (λ (m : ℕ). take m f ++ (facts ++ trailer_with f s.kept)) q
        ∙ ap (λ (x : Trailer). take (facts_at x) f ++ (facts ++ trailer_with f s.kept)) is
        ∙ ap (λ (k : ℕ). take (facts_at (trailer_of f)) f ++ (facts ++ trailer_with f k)) t.kept

    pub file_put : {l m : List ℕ} {to : ℕ} → Put l 0 (take n f ++ (facts ++ trailer_with f s.kept)) to m → Put l 0 (salvaged f) to m
    file_put {l} {m} {to} p = subst (λ (text : List ℕ). Put l 0 text to m) file_parts p

    -- its length
    pub size_is : n + s.size + 32 ≡ length (salvaged f)
    size_is =
        let e : n + s.size + 32 ≡ length (take n f ++ (facts ++ trailer_with f s.kept)) =
        omega (
          arith,
          length-append (take n f) (facts ++ trailer_with f s.kept),
          length-append facts (trailer_with f s.kept),
          length-take n f,
          trailer_size_lem f s.kept laid.long,
          t.size,
          laid.room,
        ) in
        e ∙ ap length file_parts

  pub list_is : take (3 * s.dropped) whys ≡ dropped_list f
  unfolding dropped_list
  list_is = t.whys_are

  pub numbers_is : 3 * s.dropped ≡ length (dropped_list f)
  unfolding dropped_list
  numbers_is = omega (arith, t.dropped, length_listed (dropped_by f (trailer_of f)))

-- 20 is passed: both fit
pub both_fit : (a b c d : ℕ) → (ltb a b || ltb c d) ≡ false → (b ≤ a) × (d ≤ c)
both_fit a b c d h =
    let n = neither (ltb a b) (ltb c d) h in
    (ltb-false a b n.0, ltb-false c d n.1)

module _ (f out list : List ℕ) (size numbers : ℕ) (e : size ≡ length (salvaged f)) (d : numbers ≡ length (dropped_list f)) where
  pub too_small : (x : Refusal) → (ltb (length out) size || ltb (length list) numbers) ≡ true → x ≡ refuse 20 0 →
      Done f out list (room_rule f (length out) (length list)) (Err x) out list
  too_small x h q =
      let z : (ltb (length out) (length (salvaged f)) || ltb (length list) (length (dropped_list f))) ≡ true = rw (← e, ← d) h in
      rw z (record { answer = ap Err q; bytes = refl; numbers = refl })

  pub filled : (dropped to : ℕ) (out_after listAfter : List ℕ) → (ltb (length out) size || ltb (length list) numbers) ≡ false → dropped ≡ length (dropped_by f (trailer_of f)) →
      Put out 0 (salvaged f) to out_after → listAfter ≡ dropped_list f ++ drop numbers list →
      Done f out list (room_rule f (length out) (length list)) (Ok (record { length = size; dropped = dropped })) out_after listAfter
  filled dropped to out_after listAfter h k p q =
      let z : (ltb (length out) (length (salvaged f)) || ltb (length list) (length (dropped_list f))) ≡ false = rw (← e, ← d) h in
      let n = both_fit (length out) (length (salvaged f)) (length list) (length (dropped_list f)) z in
      let v = put_whole (record { room = omega arith }) p in
      rw z
      (record {
        answer = rw (e, k) refl;
        bytes = v.1 ∙ ap (λ (n : ℕ). salvaged f ++ drop n out) v.0;
        numbers = q ∙ ap (λ (n : ℕ). dropped_list f ++ drop n list) d;
      })

-- Rules 6 to 10 and 26, then 20: v is the graph's verdict.
module _ (f : List ℕ) (trailer : Trailer) (v : Verdict) (a : v ≡ graph_rules (case_of f trailer) (Ok tt)) where
  pub graph_shaped : v ≡ Ok tt → Shaped (case_of f trailer)
  graph_shaped q = (graph_kept (case_of f trailer) (Ok tt) (sym a ∙ q)).0

  module _ (out list : List ℕ) (rest : Verdict) where
    pub graph_out : (x : Refusal) → v ≡ Err x → Done f out list (graph_rules (case_of f trailer) rest) (Err x) out list
    graph_out x q =
        subst (λ (u : Verdict). Done f out list u (Err x) out list)
        (sym (refused_on (graph_rules (case_of f trailer)) (hands_graph (case_of f trailer)) rest v a x q)) (record { answer = refl; bytes = refl; numbers = refl })

    pub graph_on : (r : Result Salvage Refusal) (out_after listAfter : List ℕ) → v ≡ Ok tt → Done f out list rest r out_after listAfter →
        Done f out list (graph_rules (case_of f trailer) rest) r out_after listAfter
    graph_on r out_after listAfter q w =
        subst (λ (u : Verdict). Done f out list u r out_after listAfter)
        (sym (accepted_on (graph_rules (case_of f trailer)) (hands_graph (case_of f trailer)) rest v a q)) w

-- Rules 1 to 5, then the others.
module _ (f out list : List ℕ) where
  pub unread : (x : Refusal) → layout_of f ≡ Err x → Done f out list (salvage_verdict f (length out) (length list)) (Err x) out list
  unfolding salvage_verdict
  unread x e =
      subst (λ (u : Verdict). Done f out list u (Err x) out list) (sym (refused_rules f x _ e)) (record { answer = refl; bytes = refl; numbers = refl })

  pub read_on : (trailer : Trailer) → layout_of f ≡ Ok trailer → (r : Result Salvage Refusal) (out_after listAfter : List ℕ) →
      Done f out list (graph_rules (case_of f trailer) (room_rule f (length out) (length list))) r out_after listAfter →
      Done f out list (salvage_verdict f (length out) (length list)) r out_after listAfter
  unfolding salvage_verdict
  read_on trailer e r out_after listAfter w =
      subst (λ (u : Verdict). Done f out list u r out_after listAfter)
      (ap (λ (x : Trailer). graph_rules (case_of f x) (room_rule f (length out) (length list))) (read_trailer f trailer e) ∙ sym (read_rules f trailer e _)) w
