-- What is promised of a salvaged file.
use Prim.Native.Nat.{ℕ}
use native.Mathlib.Omega.{arith}
use mathlib.Core.Path.{◌∙◌, ap}
use mathlib.Core.List.{List, [], ◌∷◌}
use lib.ListN.{take}
use Rattle.paper.specs.declared.Trailer.{Trailer}
use Rattle.paper.specs.Files.{trailer_of, facts_at, fact_place}
use Rattle.paper.specs.Demands.{Bytes}
use Rattle.paper.specs.Salvaging.{fact_part, fact_parts, kept, salvaged, SalvageHolds}
use Rattle.paper.proofs.Widths.{below_nil, below_append}
use Rattle.paper.proofs.Spaces.{part_below}
use Rattle.theory.proofs.WithFacts.{graph_same_bytes}
use Rattle.theory.proofs.OneBytes.{with_bytes}
use Rattle.theory.proofs.Unchanged.{salvaged_same}
use Rattle.theory.proofs.Rest.{parts, n, g, layout, few, accepted, unchanged, trailer}

-- the bytes of facts are bytes of the file
parts_bytes : (f : List ℕ) → Bytes f → (t : Trailer) (places : List ℕ) → Bytes (fact_parts f t places)
parts_bytes f b t [] = below_nil 256
parts_bytes f b t (p ∷ places) = below_append 256 _ _ (part_below 256 f (omega arith) b p _) (parts_bytes f b t places)

pub salvage_holds : (f : List ℕ) → SalvageHolds f
unfolding salvaged
salvage_holds f b passes =
    let file = g f passes in
    let e = trailer f passes in
    let sound = accepted f passes in
    record {
      accepted = sound;
      graph = ap (λ (s : Trailer). take (facts_at s) file) e ∙ graph_same_bytes f (parts f passes) (n f passes) (layout f passes);
      facts = ap (λ (s : Trailer). s.facts) e;
      unchanged = λ i l. ap (λ (s : Trailer). fact_part file s (fact_place file s i)) e ∙ unchanged f passes i l;
      version = ap (λ (s : Trailer). s.version) e;
      same = salvaged_same f b;
      again = salvaged_same file (with_bytes f (parts f passes) (n f passes) b (parts_bytes f b (trailer_of f) (kept f)) (omega (arith, few f passes))) sound;
    }
