-- "Step: 3, 22, 21.": the answer of a single step, one law for each way that it ends.
use Prim.Native.Nat.{ℕ}
use mathlib.Core.Path.{◌≡◌}
use mathlib.Core.Logic.{◌≢◌}
use mathlib.Core.Bool.{true, false}
use borrow.Author.Tests.{eq-eqb, ne_eqb}
use Rattle.paper.specs.declared.SetState.{SetState}
use Rattle.paper.specs.declared.Block.{Block}
use Rattle.paper.specs.Machines.{none, offered, legal, step}
use Rattle.paper.specs.Operations.{refused_step, took_step, step_answer}

module _ (policy k : ℕ) (s : SetState) (b : Block) where
  pub step_3 : offered policy k ≡ false → step_answer policy k s b ≡ refused_step s 3
  unfolding step_answer
  step_3 o = rw o

  module _ (o : offered policy k ≡ true) where
    -- whatever the block
    pub step_22 : legal policy k s ≡ false → step_answer policy k s b ≡ refused_step s 22
    unfolding step_answer
    step_22 l = rw (o, l)

    module _ (l : legal policy k s ≡ true) where
      pub step_21 : b.0 ≡ none → step_answer policy k s b ≡ refused_step s 21
      unfolding step_answer
      step_21 e = rw (o, l, eq-eqb b.0 none e)

      pub step_taken : b.0 ≢ none → step_answer policy k s b ≡ took_step (step policy k s b.0)
      unfolding step_answer
      step_taken n = rw (o, l, ne_eqb b.0 none n)
