-- What a salvage answers and leaves in lent memory, by the verdict.
use Rattle.std.specs.Prelude.{ℕ, ◌≡◌, ◌||◌, List, ltb, length, Result, Ok}
use Rattle.paper.specs.Answers.{Verdict}
use Rattle.paper.specs.Rules.{rule}
use Rattle.paper.specs.Salvaging.{salvaged, dropped_list, salvage_answer, lent_by}
use Rattle.paper.specs.declared.Refusal.{Refusal}
use Rattle.paper.specs.declared.Salvage.{Salvage}

-- 20, "if file or list does not fit"
abbrev pub room_rule : List ℕ → ℕ → ℕ → Verdict
room_rule f room list_room = rule 20 0 (ltb room (length (salvaged f)) || ltb list_room (length (dropped_list f))) (Ok tt)

-- `out` and `list`: what is lent, before and after
pub record Done (f out list : List ℕ) (v : Verdict) (r : Result Salvage Refusal) (out_after listAfter : List ℕ) : Type 0 where
  pub answer : r ≡ salvage_answer f v
  pub bytes : out_after ≡ lent_by (salvaged f) out v
  pub numbers : listAfter ≡ lent_by (dropped_list f) list v
