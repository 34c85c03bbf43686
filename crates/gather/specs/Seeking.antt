-- What is sought, and what it says of a case and of the fact that is sought in it.
use Rattle.std.specs.Prelude.{◌%◌, ◌≡◌}
use Rattle.paper.specs.Cases.{Fact, Case, scope_of}
use Rattle.gather.specs.declared.sought.Sought.{Sought}

-- q says what t is in the case e.
pub record Seeks (e : Case) (t : Fact) (q : Sought) : Type 0 where
  pub first : q.first ≡ (scope_of e t).first
  pub last : q.last ≡ (scope_of e t).last
  pub block : q.block ≡ t.block
  pub limit : q.limit ≡ t.limit
  pub count : q.sets.count ≡ e.sets
  pub home : q.home ≡ t.block % e.sets
