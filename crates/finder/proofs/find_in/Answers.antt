-- `finder::find_in`: a refusal is the outcome; else the search's is, for the scope and the block that are handed over.
use Rattle.std.specs.Prelude.{Err}
use borrow.Author.Rules.{rules}
use mathlib.Core.Path.{◌≡◌}
use Rattle.finder.proofs.Asked.{named}
use Rattle.finder.proofs.Ends.{ends_refused, not_refused, shaped, head, not_refused_by, found_for}
use Rattle.finder.proofs.find_in.Goals as goal

pub returns-in_err-rules_on : goal.returns-in_err-rules_on
returns-in_err-rules_on c =
    let e : c.from_residual.result ≡ Err c.in_err-rules_on.field-0.0 = search rules in
    rw e (ends_refused _ _ _ _ c.requires _ _ c.rules_on.ensures _ c.in_err-rules_on.was)

pub sought_of-requires : goal.sought_of-requires
sought_of-requires c =
    let p = c.requires in
    let lent = c.args.rows.now in
    let passed = c.in_ok-rules_on.was in
    record {
      laid = p.laid;
      shaped = shaped _ _ _ _ p lent _ c.rules_on.ensures passed;
      scope_lt_loops = named _ _ _ _ (head _ _ _ _ p lent (not_refused _ _ _ _ p lent _ c.rules_on.ensures passed));
    }

pub search-requires : goal.search-requires
search-requires c =
    let w = c.sought_of.ensures in
    record {
      trailer_read = c.requires;
      scoped = w.scoped;
      not_refused = not_refused_by c.sought_of.result _ _ w.scope_value.0 w.scope_value.1 _ _ (not_refused _ _ _ _ c.requires c.args.rows.now _ c.rules_on.ensures c.in_ok-rules_on.was);
    }

pub returns : goal.returns
returns c =
    let w = c.sought_of.ensures.scope_value in
    found_for c.sought_of.result _ _ w.0 w.1 _ _ _ _ c.search.ensures
