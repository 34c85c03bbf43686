-- `answers::writes::answer`: each list is lent as long as the arguments say.
use borrow.Author.Rules.{rules}
use Rattle.answers.proofs.writes.answer.Goals as goal

pub framed-requires : goal.framed-requires
framed-requires c =
    record { counted = record { nodes = search rules; edges = search rules; loops = search rules; heads = search rules; rows = search rules }; request_in_bounds = search rules }
