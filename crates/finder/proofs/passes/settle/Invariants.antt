-- `finder::passes::settle`: a pass that changes the table leaves less to do; one that does not leaves it settled.
use Prim.Native.Nat.{◌*◌, ◌-◌}
use Rattle.paper.specs.Files.{case_of}
use Rattle.search.proofs.Searching.{Searched, measure}
use Rattle.finder.specs.Scopes.{fact_by, nodes_by}
use Rattle.finder.proofs.passes.settle.Given as goal

abbrev pub invariant-loop-trailer : goal.invariant-loop-trailer
invariant-loop-trailer l = Searched (case_of l.file l.trailer) (fact_by l.file l.trailer l.q) l.table

abbrev pub decreases-loop-trailer : goal.decreases-loop-trailer
decreases-loop-trailer l = 9 * nodes_by l.file l.trailer l.q - measure (case_of l.file l.trailer) (fact_by l.file l.trailer l.q) l.table
