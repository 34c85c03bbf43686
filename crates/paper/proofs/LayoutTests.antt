-- The tests of rules 1 to 5 one by one: what a file that keeps them says of its trailer, and that it is judged by what follows them.
use Rattle.std.specs.Prelude.{Ok}
use Prim.Native.Nat.{ℕ, ◌+◌, ◌≤◌}
use mathlib.Core.Path.{◌≡◌, refl}
use mathlib.Core.Bool.{true, false, not}
use mathlib.Core.List.{List}
use lib.Dec.{eqb, ltb}
use lib.ListN.{length}
use borrow.Author.Tests.{le-ltb, ltb-false, eqb-true, not-false}
use Rattle.paper.specs.declared.Trailer.{Trailer}
use Rattle.paper.specs.Answers.{Verdict}
use Rattle.paper.specs.Machines.{in_range}
use Rattle.paper.specs.Lists.{some}
use Rattle.paper.specs.Records.{bad_version}
use Rattle.paper.specs.Files.{u32_at, end_at, trailer_of, letters, bad_letter, bad_letters, bad_cache, bad_numbers, bad_offsets, edges_at, loops_at, facts_at}
use Rattle.paper.specs.Verdicts.{layout_rules}
use Rattle.paper.proofs.Says.{neither}
use Rattle.paper.proofs.RuleLaws.{past}

-- rules 1 to 5, test by test
pub record KeptLayout (f : List ℕ) (trailer : Trailer) : Type 0 where
  pub long : 32 ≤ length f
  pub letters : bad_letters f ≡ false
  pub version : bad_version trailer.version ≡ false
  pub cache : in_range trailer.policy trailer.ways trailer.sets ≡ true
  pub numbers : bad_numbers trailer ≡ false
  pub offsets : bad_offsets f trailer ≡ false

version_kept : (f : List ℕ) → bad_letters f ≡ false → bad_version (trailer_of f).version ≡ false
unfolding bad_letters trailer_of
version_kept f h = (neither (some (bad_letter f) (length letters)) _ h).1

pub tests_kept : (f : List ℕ) (rest : Verdict) → layout_rules f rest ≡ Ok tt → KeptLayout f (trailer_of f)
unfolding layout_rules bad_cache
tests_kept f rest h =
    let a = past 1 0 (ltb (length f) 32) _ h in
    let b = past 2 0 (bad_letters f) _ a.1 in
    let c = past 3 0 _ _ b.1 in
    let d = past 4 0 _ _ c.1 in
    record { long = ltb-false _ _ a.0; letters = b.0; version = version_kept f b.0; cache = not-false _ c.0; numbers = d.0; offsets = (past 5 0 _ _ d.1).0 }

-- and a file that keeps them is judged by what follows
pub layout_on : (f : List ℕ) (trailer : Trailer) → trailer_of f ≡ trailer → KeptLayout f trailer → (rest : Verdict) → layout_rules f rest ≡ rest
unfolding layout_rules bad_cache
layout_on f trailer e k rest = rw (e, le-ltb (length f) 32 k.long, k.letters, k.cache, k.numbers, k.offsets) refl

-- 5
pub record Offsets (f : List ℕ) (trailer : Trailer) : Type 0 where
  pub nodes : u32_at f (end_at f) ≡ 0
  pub edges : u32_at f (end_at f + 4) ≡ edges_at trailer
  pub loops : u32_at f (end_at f + 8) ≡ loops_at trailer
  pub facts : u32_at f (end_at f + 12) ≡ facts_at trailer
  pub room : facts_at trailer ≤ end_at f

pub offsets_at : (f : List ℕ) (trailer : Trailer) → bad_offsets f trailer ≡ false → Offsets f trailer
unfolding bad_offsets
offsets_at f trailer h =
    let a = neither (not (eqb (u32_at f (end_at f)) 0)) _ h in
    let b = neither (not (eqb (u32_at f (end_at f + 4)) (edges_at trailer))) _ a.1 in
    let c = neither (not (eqb (u32_at f (end_at f + 8)) (loops_at trailer))) _ b.1 in
    let d = neither (not (eqb (u32_at f (end_at f + 12)) (facts_at trailer))) _ c.1 in
    record {
      nodes = eqb-true _ _ (not-false _ a.0);
      edges = eqb-true _ _ (not-false _ b.0);
      loops = eqb-true _ _ (not-false _ c.0);
      facts = eqb-true _ _ (not-false _ d.0);
      room = ltb-false _ _ d.1;
    }
