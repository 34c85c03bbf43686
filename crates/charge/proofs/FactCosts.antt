-- What one fact costs: the code's numbers are the paper's.
use Prim.Native.Nat.{ℕ, ◌+◌, ◌≤◌, ◌<◌, min}
use native.Mathlib.Omega.{arith}
use native.Mathlib.Decide.{ℕ_discrete}
use mathlib.Core.Path.{◌≡◌, refl, subst}
use mathlib.Core.Logic.{◌≢◌}
use mathlib.Core.List.{List}
use borrow.Author.Tests.{eq-eqb, ne_eqb}
use lib.ListN.{length}
use Rattle.paper.specs.declared.Loop.{Loop}
use Rattle.paper.specs.declared.Trailer.{Trailer}
use Rattle.paper.specs.Machines.{none}
use Rattle.paper.specs.Cases.{size, range_of}
use Rattle.paper.specs.Graphs.{entries}
use Rattle.paper.specs.Bounds.{bound_of, fetches_in, covers, counts, entered, fact_bound}
use Rattle.paper.specs.Files.{end_at, head_end, row_place, fact_at, loop_at, fact_end, case_of}
use Rattle.paper.proofs.Meaning.{SoundHead}
use Rattle.charge.specs.ReadyFile.{Ready}
use Rattle.charge.specs.Chained.{Lowered}
use Rattle.charge.specs.Tables.{head_of, cost_of}
use Rattle.charge.specs.declared.facts.Cost.{Cost}
use Rattle.charge.specs.declared.heads.Head.{Head}

-- a fact's scope lies in the graph
pub scope_fits :
    (f : List ℕ) (trailer : Trailer) (c : List ℕ) (w : ℕ) (s : Loop) → Ready f trailer c → (w ≢ none → w < trailer.loops) → s ≡ range_of trailer.nodes (loop_at f trailer) w
    → (s.first ≤ s.last) × (s.last < trailer.nodes)
unfolding range_of case_of
scope_fits f trailer c w s r h e =
    rw e
    (elim (ℕ_discrete w none) [
      | yes q ↦ rw (eq-eqb w none q) (omega arith, omega (arith, r.laid.nodes_low))
      | no q ↦ rw (ne_eqb w none q) ((r.lawful.fits w (h q)).0, (r.lawful.fits w (h q)).1)
    ])

module _ (f : List ℕ) (trailer : Trailer) (p : ℕ) where
  -- rule 12: it is one of the loops or the whole graph
  pub scope_low : (w : ℕ) → w ≡ (fact_at f p).scope → SoundHead (case_of f trailer) (fact_at f p) → w ≢ none → w < trailer.loops
  unfolding case_of
  scope_low w ew h = rw ew h.scope

  -- the head of a fact that ends before the trailer
  pub head_room : fact_end f trailer p ≤ end_at f → head_end p ≤ length f
  unfolding fact_end
  head_room h = omega arith

  -- its rows follow
  pub next_is : (w : ℕ) (s : Loop) → w ≡ (fact_at f p).scope → s ≡ range_of trailer.nodes (loop_at f trailer) w → row_place p (size s) ≡ fact_end f trailer p
  unfolding fact_end
  next_is w s ew es = rw (← ew, ← es) refl

  pub head_is :
      (w b l x : ℕ) (s : Loop) → w ≡ (fact_at f p).scope → b ≡ (fact_at f p).block → l ≡ (fact_at f p).limit → s ≡ range_of trailer.nodes (loop_at f trailer) w → x ≡ fact_end f trailer p
      → ◌≡◌ {A = Head} (record { scope = w; block = b; limit = l; range = s; next = x }) (head_of f trailer p)
  unfolding head_of
  head_is w b l x s ew eb el es ex = rw (es, ew, eb, el, ex) refl

  module _ (h : Head) (eh : h ≡ head_of f trailer p) where
    pub cost_is :
        (interruptions E N m x : ℕ) → E ≡ entries (case_of f trailer) (fact_at f p) → N ≡ counts (case_of f trailer) (fetches_in (case_of f trailer) h.range h.block)
        → m ≡ min (E + interruptions) N → x ≡ bound_of trailer.policy trailer.ways h.limit m N
        → ◌≡◌ {A = Cost} (record { block = h.block; limit = h.limit; entered = m; bound = x; next = h.next }) (cost_of f trailer p interruptions)
    unfolding head_of cost_of fact_bound entered covers case_of
    cost_is interruptions E N m x eE eN em ex = rw (ex, em, eN, eE, eh) refl

    pub lowered_is :
        (old new : List ℕ) → Lowered (case_of f trailer) (fetches_in (case_of f trailer) h.range h.block) h.limit old new
        → Lowered (case_of f trailer) (covers (case_of f trailer) (fact_at f p)) (fact_at f p).limit old new
    unfolding head_of covers case_of
    lowered_is old new low =
        subst (λ (k : Head). Lowered (case_of f trailer) (fetches_in (case_of f trailer) k.range k.block) k.limit old new) eh low
