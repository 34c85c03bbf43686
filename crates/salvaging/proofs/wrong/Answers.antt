-- `salvaging::wrong`: a number passes its own test of `wrong` and fails those before it.
use Rattle.salvaging.specs.Said.{wrong}
use Rattle.salvaging.proofs.wrong.Goals as goal

pub returns-in-11-clause-put : goal.returns-in-11-clause-put
unfolding wrong
returns-in-11-clause-put c = rw c.in-11.is c.word.ensures

pub returns-in-12-clause-put : goal.returns-in-12-clause-put
unfolding wrong
returns-in-12-clause-put c = rw c.in-12.is c.word-in-12.ensures

pub returns-in-13-clause-put : goal.returns-in-13-clause-put
unfolding wrong
returns-in-13-clause-put c = rw c.in-13.is c.word-in-13.ensures

pub returns-in-14-clause-put : goal.returns-in-14-clause-put
unfolding wrong
returns-in-14-clause-put c = rw c.in-14.is c.word-in-14.ensures

pub returns-in-15-clause-put : goal.returns-in-15-clause-put
unfolding wrong
returns-in-15-clause-put c = rw c.in-15.is c.word-in-15.ensures

pub returns-in-16-clause-put : goal.returns-in-16-clause-put
unfolding wrong
returns-in-16-clause-put c = rw c.in-16.is c.word-in-16.ensures

pub returns-in-17-clause-put : goal.returns-in-17-clause-put
unfolding wrong
returns-in-17-clause-put c = rw c.in-17.is c.word-in-17.ensures

pub returns-in-18-clause-put : goal.returns-in-18-clause-put
unfolding wrong
returns-in-18-clause-put c = rw c.in-18.is c.word-in-18.ensures

pub returns-in-24-clause-put : goal.returns-in-24-clause-put
unfolding wrong
returns-in-24-clause-put c = rw c.in-24.is c.word-in-24.ensures

pub returns-in-25-clause-put : goal.returns-in-25-clause-put
unfolding wrong
returns-in-25-clause-put c = rw c.in-25.is c.word-in-25.ensures
