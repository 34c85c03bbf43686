-- `answers::salvages::salvaged` asks by the arguments in their order, on the file, the bytes and the numbers that are lent.
use Prim.Native.Nat.{ℕ}
use mathlib.Core.Path.{◌∙◌, ap}
use mathlib.Core.List.{List, ◌++◌}
use borrow.Author.Rules.{rules}
use lib.ListN.{take}
use Rattle.frames.specs.Places.{lent_at}
use Rattle.answers.proofs.AskingSalvages.{salvage_asked_lem, part_left}
use Rattle.answers.proofs.salvages.salvaged.Goals as goal

pub returns : goal.returns
returns c =
    let l = c.args.bytes.now in
    let a = salvage_asked_lem c.args.request.now c.args.file.now l c.requires.file_len c.u32_at.ensures c.requires.numbers_len c.read_list.ensures c.salvage.ensures in
    record { value = a.0; bytes_after = part_left l _ lent_at c.u32_at.ensures (search rules) (search rules) ∙ ap (λ (ys : List ℕ). take lent_at l ++ ys) a.1; numbers_after = a.2 }
