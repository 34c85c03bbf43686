-- What `layout_of` says: where it reads a trailer the file passes the layout's rules, and is laid out as the trailer says; where it refuses, so do they.
use Rattle.std.specs.Prelude.{Ok, Err}
use Prim.Native.Nat.{ℕ}
use native.Mathlib.Omega.{arith}
use mathlib.Core.Path.{◌≡◌, refl, sym, ap}
use mathlib.Core.List.{List}
use Rattle.paper.specs.declared.Refusal.{Refusal}
use Rattle.paper.specs.declared.Trailer.{Trailer}
use Rattle.paper.specs.Answers.{Verdict}
use Rattle.paper.specs.Files.{trailer_of}
use Rattle.paper.specs.Known.{Laid}
use Rattle.paper.specs.Rules.{Passes}
use Rattle.paper.specs.Verdicts.{layout_rules}
use Rattle.paper.proofs.RuleLaws.{accepted_on, refused_on}
use Rattle.paper.proofs.VerdictLaws.{layout_kept, hands_layout}
use Rattle.layout.specs.Layouts.{reading, layout_of}

-- a verdict v, with the trailer s where it accepts
module _ (s : Trailer) (v : Verdict) where
  pub refuses : (r : Refusal) → Err r ≡ v → Err r ≡ reading s v
  unfolding reading
  refuses r e = ap (reading s) e

  pub reads : (trailer : Trailer) → trailer ≡ s → (Ok tt) ≡ v → Ok trailer ≡ reading s v
  unfolding reading
  reads trailer q e = rw q (ap (reading s) e)

read_is : (s trailer : Trailer) (v : Verdict) → reading s v ≡ Ok trailer → (trailer ≡ s) × (v ≡ Ok tt)
unfolding reading
read_is s trailer (Ok tt) e = let q : s ≡ trailer = cc in (sym q, refl)
read_is s trailer (Err r) e = let z : ◌≡◌ {A = ℕ} 0 1 = cc in absurd (omega arith)

refused_is : (s : Trailer) (r : Refusal) (v : Verdict) → reading s v ≡ Err r → v ≡ Err r
unfolding reading
refused_is s r (Ok tt) e = let z : ◌≡◌ {A = ℕ} 0 1 = cc in absurd (omega arith)
refused_is s r (Err x) e = let q : x ≡ r = cc in ap Err q

module _ (f : List ℕ) where
  module _ (trailer : Trailer) (e : layout_of f ≡ Ok trailer) where
    pub read_trailer : trailer ≡ trailer_of f
    unfolding layout_of
    read_trailer = (read_is (trailer_of f) trailer (layout_rules f (Ok tt)) e).0

    read_passes : Passes (layout_rules f)
    unfolding layout_of
    read_passes = (read_is (trailer_of f) trailer (layout_rules f (Ok tt)) e).1

    pub read_laid : Laid f trailer
    read_laid = rw read_trailer (layout_kept f (Ok tt) read_passes).0

    pub read_rules : (rest : Verdict) → layout_rules f rest ≡ rest
    read_rules rest = accepted_on (layout_rules f) (hands_layout f) rest _ refl read_passes

  pub refused_rules : (r : Refusal) (rest : Verdict) → layout_of f ≡ Err r → layout_rules f rest ≡ Err r
  unfolding layout_of
  refused_rules r rest e = refused_on (layout_rules f) (hands_layout f) rest _ refl r (refused_is (trailer_of f) r (layout_rules f (Ok tt)) e)
