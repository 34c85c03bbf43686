-- `finder::search`: the table starts with nothing said, is settled, and gives the outcome.
use native.Mathlib.Omega.{arith}
use Rattle.finder.proofs.Ends.{asked, fits, started, ends_none, ends_found}
use Rattle.finder.proofs.search.Goals as goal

pub settle-requires : goal.settle-requires
settle-requires c =
    record {
      laid = c.requires.trailer_read.laid;
      scoped = c.requires.scoped;
      asked = asked _ _ _ _ c.requires.trailer_read c.args.rows.now c.requires.not_refused (λ i. (c.type_inv.file i).fits);
      searched = started _ _ c.args.q c.requires.scoped _ c.nodes.ensures.value _ (omega (arith, c.nodes.ensures.upper_bound, c.start.ensures.table_len_unchanged)) c.start.ensures.by_index;
    }

pub returns-then-l-eq-NO_LIMIT : goal.returns-then-l-eq-NO_LIMIT
returns-then-l-eq-NO_LIMIT c =
    ends_none _ _ _ _ c.requires.trailer_read _ c.requires.not_refused _ c.settle.ensures _ c.most_asked-l.ensures (omega (arith, c.if-l-eq-NO_LIMIT.true))

pub lend_rows-requires : goal.lend_rows-requires
lend_rows-requires c =
    record { scoped = c.requires.scoped; q_in_bounds = fits _ _ _ _ c.requires.trailer_read c.args.rows.now c.requires.not_refused }

pub returns : goal.returns
returns c =
    ends_found _ _ _ _ c.requires.trailer_read _ c.requires.not_refused _ c.settle.ensures _ c.most_asked-l.ensures
    (asked _ _ _ _ c.requires.trailer_read c.args.rows.now c.requires.not_refused (λ i. (c.type_inv.file i).fits)) c.if-l-eq-NO_LIMIT.false _ c.lend_rows.ensures
