-- `evidence::steps::bad_steps`: edges before the first one looked at come from nodes before the scope, those after the last from nodes after it.
use native.Mathlib.Omega.{arith}
use Rattle.layout.proofs.FirstLaws.{first_found, first_end}
use Rattle.evidence.proofs.OneStep.{reached_start, reached_more, reached_after}
use Rattle.evidence.proofs.steps.bad_steps.Goals as goal

pub loop-i-init : goal.loop-i-init
loop-i-init c = reached_start _ _ _ c.requires.stands _ c.first_edge-i.ensures

pub returns-then-h-u : goal.returns-then-h-u
returns-then-h-u c =
    reached_after _ _ _ c.requires.stands _ c.loop-i.invariant c.loop-i-test.true c.requires.shaped _ c.from_at-u.ensures (omega (arith, c.if-h-u.true))

pub bad_step-requires : goal.bad_step-requires
bad_step-requires c =
    let w = c.loop-i.invariant in
    record {
      laid = c.requires.laid;
      ready = record { count = c.of-sets.ensures };
      stands = c.requires.stands;
      whole = c.requires.whole;
      sound_rows = c.requires.sound_rows;
      from = record {
        there = c.loop-i-test.true;
        from_is = c.from_at-u.ensures;
        low = omega (arith, w.above _ (omega arith) c.loop-i-test.true, c.from_at-u.ensures);
        high = omega (arith, c.if-h-u.false);
      };
    }

pub returns-then-bad_step : goal.returns-then-bad_step
returns-then-bad_step c =
    first_found _ _ _ c.loop-i.invariant.passed _ c.loop-i-test.true c.bad_step.ensures c.if-bad_step.true

pub loop-i-preserved : goal.loop-i-preserved
loop-i-preserved c =
    reached_more _ _ _ c.requires.stands _ c.loop-i.invariant c.loop-i-test.true _ c.bad_step.ensures c.if-bad_step.false

pub returns : goal.returns
returns c = first_end _ _ _ c.loop-i.invariant.passed c.loop-i-test.false
