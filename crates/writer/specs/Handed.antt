-- The lists that are lent, as the content of a file with the trailer's numbers.
use Rattle.paper.specs.declared.Trailer.{Trailer}
use Rattle.paper.specs.Writing.{FileContent}
use Rattle.lists.specs.Listed.{content, Facts}
use Rattle.writer.specs.declared.Lists.{Lists}

abbrev pub content_of : Trailer → Lists → FileContent
content_of t l = content t l.nodes.now l.edges.now l.loops.now l.heads.now l.rows.now

-- what the rules on the lists say of loops and facts
abbrev pub facts_of : Trailer → Lists → Type 0
facts_of t l = Facts t l.loops.now l.heads.now l.rows.now
