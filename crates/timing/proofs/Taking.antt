-- The tables of steps and times, as loops become steps from the last to the first.
use Prim.Native.Nat.{ℕ, suc, ◌+◌, ◌-◌, ◌*◌, ◌≤◌, ◌<◌, min}
use native.Mathlib.Omega.{arith}
use native.Mathlib.Decide.{ℕ_discrete}
use mathlib.Core.Path.{◌≡◌, sym, ◌∙◌, ap}
use mathlib.Core.Bool.{Bool}
use mathlib.Core.List.{List}
use lib.ListN.{length, get_or, set, length-set}
use lib.Seq.{get_or-set_same, get_or-set_other}
use Rattle.paper.specs.Lists.{highest_to}
use Rattle.paper.specs.declared.Trailer.{Trailer}
use Rattle.paper.specs.declared.Loop.{Loop}
use Rattle.paper.specs.Files.{loop_at, case_of}
use Rattle.paper.specs.Known.{Shaped}
use Rattle.paper.specs.Times.{step_loop, time_of, longest_way, longest, graph_time}
use Rattle.paper.proofs.Says.{Says, holds, fails}
use Rattle.paper.proofs.Meaning.{In}
use Rattle.paper.proofs.GraphLaws.{inside_says}
use Rattle.paper.proofs.TimeLaws.{time_is}
use Rattle.paper.proofs.CutLaws.{rounds_cut}
use Rattle.graph.specs.Filled.{Filled}
use Rattle.graph.proofs.Filling.{filled_out}
use Rattle.timing.specs.Pushed.{cut, number_by}
use Rattle.timing.specs.Ready.{entry, Ready}
use Rattle.timing.specs.Numbered.{Numbered}
use Rattle.timing.proofs.Pushing.{longest_pushed}
use Rattle.timing.proofs.Firsts.{loop_none, loop_in_lem, loop_out}

module _ (f : List ℕ) (trailer : Trailer) (costs : List ℕ) where
  -- no loop is a step yet
  pub ready_start :
      (old steps times : List ℕ) → Filled old steps 0 trailer.nodes trailer.loops → trailer.nodes ≤ length old → trailer.loops ≤ length times
      → Ready f trailer costs trailer.loops steps times
  unfolding case_of
  ready_start old steps times w h l =
      record {
        step_room = omega (arith, w.same);
        time_room = l;
        step = λ v b. w.within v (omega arith) b ∙ sym (loop_none (case_of f trailer) v);
        time = λ j a b. absurd (omega arith);
      }

  -- Loop n becomes a step: x is its longest way, r its time.
  module _ (n : ℕ) (below : n < trailer.loops) (l : Loop) (is : l ≡ loop_at f trailer n) (shape : Shaped (case_of f trailer)) where
    time_cut :
        (x r : ℕ)
        → x ≡ min (longest_way (case_of f trailer) (entry costs) (time_of (case_of f trailer) (entry costs)) (n + 1) l.first (l.last + 1)) cut
        → r ≡ min (l.bound * x) cut → r ≡ min (time_of (case_of f trailer) (entry costs) n) cut
    unfolding case_of
    time_cut x r p q =
        let e = case_of f trailer in
        let way = longest_way e (entry costs) (time_of e (entry costs)) (suc n) l.first (suc l.last) in
        let a : n + 1 ≡ suc n = omega arith in
        let z : l.last + 1 ≡ suc l.last = omega arith in
        q
        ∙ ap (λ (y : ℕ). min (l.bound * y) cut) (rw (a, z) at p)
        ∙ sym (rounds_cut cut l.bound way (rw is (shape.fits n below).2))
        ∙ ap (λ (y : ℕ). min y cut) (rw is (sym (time_is e (entry costs) n below)))

    pub ready_more :
        (old new times : List ℕ) (x r : ℕ) → Ready f trailer costs (suc n) old times → Filled old new l.first (l.last + 1) n
        → x ≡ min (longest_way (case_of f trailer) (entry costs) (time_of (case_of f trailer) (entry costs)) (n + 1) l.first (l.last + 1)) cut
        → r ≡ min (l.bound * x) cut → Ready f trailer costs n new (set times n r)
    unfolding case_of
    ready_more old new times x r w d p q =
        record {
          step_room = omega (arith, d.same, w.step_room);
          time_room = omega (arith, length-set times n r, w.time_room);
          step = λ v b. go v b (inside_says l v);
          time = λ j a b.
              elim (ℕ_discrete j n) [
                | yes z ↦ rw z (get_or-set_same times n r 0 (omega (arith, w.time_room)) ∙ time_cut x r p q)
                | no z ↦ get_or-set_other times n j r 0 z ∙ w.time j (omega arith) b
              ];
        }
      where
        go : (v : ℕ) → v < trailer.nodes → {b : Bool} → Says (In l v) b → get_or new v 0 ≡ step_loop (case_of f trailer) n v
        go v b (holds i) = d.within v i.0 (omega (arith, i.1)) ∙ sym (loop_in_lem (case_of f trailer) n below v (rw is at i))
        go v b (fails o) =
            filled_out d v (λ q. o (q.0, omega (arith, q.1))) ∙ w.step v b ∙ sym (loop_out (case_of f trailer) n below v (rw is at o))

  -- "the longest way": h is the greatest number of the table after all edges
  pub longest_found :
      Shaped (case_of f trailer) → (k a m : ℕ) (steps times table : List ℕ) → Ready f trailer costs k steps times
      → Numbered (case_of f trailer) (entry costs) times k a trailer.edges table → m ≤ trailer.nodes → (h r : ℕ)
      → h ≡ highest_to (number_by (case_of f trailer) (entry costs) (entry times) cut k (entry table)) m → r ≡ h - 1
      → r ≡ min (longest_way (case_of f trailer) (entry costs) (time_of (case_of f trailer) (entry costs)) k a m) cut
  unfolding case_of
  longest_found shape k a m steps times table w d l h r p q =
      let e = case_of f trailer in
      q
      ∙ ap (λ (x : ℕ). x - 1) p
      ∙ longest_pushed e shape (entry costs) (entry times) cut k a m (time_of e (entry costs)) (λ j b c. omega (arith, w.time j b c)) (entry table)
      (λ v b. d.at v (omega arith))

  -- the file's loop is a range of nodes
  pub loop_fits : Shaped (case_of f trailer) → (j : ℕ) → j < trailer.loops → (l : Loop) → l ≡ loop_at f trailer j → (l.first ≤ l.last) × (l.last < trailer.nodes)
  unfolding case_of
  loop_fits shape j h l z = rw z (omega (arith, shape.fits j h))

  -- "the longest way from node 0 in the same sense, plus penalty times the total miss bound"
  pub time_found :
      (penalty total x y r : ℕ) → x ≡ min (longest_way (case_of f trailer) (entry costs) (time_of (case_of f trailer) (entry costs)) 0 0 trailer.nodes) cut
      → y ≡ min (penalty * total) cut → r ≡ min (x + y) cut → r ≡ min (graph_time (case_of f trailer) (entry costs) penalty total) cut
  unfolding case_of graph_time longest time_of
  time_found penalty total x y r p q z = omega (arith, p, q, z)
