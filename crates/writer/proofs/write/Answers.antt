-- `writer::write`: rules 2, 3 and 4 decide, or else what follows them does.
use Rattle.std.specs.Prelude.{Err}
use borrow.Author.Rules.{rules}
use mathlib.Core.Path.{◌≡◌, sym, ◌∙◌}
use Rattle.lists.specs.Listings.{offered}
use Rattle.writer.proofs.Written.{listing_out, listed_as, listing_in}
use Rattle.writer.proofs.write.Goals as goal

pub write_listed-requires : goal.write_listed-requires
write_listed-requires c =
    let a = c.args in
    listed_as (offered a.version a.policy a.ways a.sets a.nodes.now a.edges.now a.loops.now a.heads.now a.rows.now) _
    (sym c.listing_of.ensures ∙ c.in_ok-trailer.was)

pub returns : goal.returns
returns c =
    let a = c.args in
    listing_in (offered a.version a.policy a.ways a.sets a.nodes.now a.edges.now a.loops.now a.heads.now a.rows.now) _
    (sym c.listing_of.ensures ∙ c.in_ok-trailer.was) _ _ _ c.write_listed.ensures

pub returns-in_err-trailer : goal.returns-in_err-trailer
returns-in_err-trailer c =
    let a = c.args in
    let e : c.from_residual.result ≡ Err c.in_err-trailer.field-0.0 = search rules in
    rw e
    (listing_out (offered a.version a.policy a.ways a.sets a.nodes.now a.edges.now a.loops.now a.heads.now a.rows.now) _ _
    (sym c.listing_of.ensures ∙ c.in_err-trailer.was))
