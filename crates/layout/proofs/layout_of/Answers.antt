-- `layout_of` answers as `layout_of`: at each return, the rules that were kept and the one that was broken.
use Rattle.paper.specs.Verdicts.{layout_rules}
use Rattle.paper.proofs.RuleLaws.{passes, stops, passes_lt, stops_lt}
use Rattle.layout.specs.Layouts.{layout_of}
use Rattle.layout.proofs.Laws.{refuses, reads}
use Rattle.layout.proofs.layout_of.Goals as goal

pub returns-then-file-lt-TRAILER_SIZE : goal.returns-then-file-lt-TRAILER_SIZE
unfolding layout_of layout_rules
returns-then-file-lt-TRAILER_SIZE c = refuses _ _ _ (search stops_lt)

pub returns-then-bad_letters : goal.returns-then-bad_letters
unfolding layout_of layout_rules
returns-then-bad_letters c = refuses _ _ _ (search (passes_lt, stops))

pub returns-then-bad_cache : goal.returns-then-bad_cache
unfolding layout_of layout_rules
returns-then-bad_cache c = refuses _ _ _ (rw (← c.trailer_of-trailer.ensures) (search (passes_lt, passes, stops)))

pub returns-then-bad_numbers : goal.returns-then-bad_numbers
unfolding layout_of layout_rules
returns-then-bad_numbers c =
    let read = c.before.before.before.before.before in
    refuses _ _ _ (rw (← read.trailer_of-trailer.ensures) (search (passes_lt, passes, stops)))

pub returns-then-bad_offsets : goal.returns-then-bad_offsets
unfolding layout_of layout_rules
returns-then-bad_offsets c =
    refuses _ _ _ (rw (← c.trailer_of-trailer.ensures)
    (passes_lt _ _ _ _ _ c.if-file-lt-TRAILER_SIZE.false (passes _ _ _ _ c.bad_letters.ensures _ c.if-bad_letters.false
    (passes _ _ _ _ c.bad_cache.ensures _ c.if-bad_cache.false (passes _ _ _ _ c.bad_numbers.ensures _ c.if-bad_numbers.false
    (stops _ _ _ _ c.bad_offsets.ensures _ c.if-bad_offsets.true c.refuse-then-bad_offsets.ensures))))))

pub returns : goal.returns
unfolding layout_of layout_rules
returns c =
    let d = c.before in
    let read = d.before.before.before.before.before in
    reads _ _ _ read.trailer_of-trailer.ensures (rw (← read.trailer_of-trailer.ensures) (search (passes_lt, passes)))
