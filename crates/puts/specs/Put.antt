-- A text that is put into a lent list.
use Rattle.std.specs.Prelude.{ℕ, ◌+◌, ◌≤◌, ◌≡◌, List, length}
use Rattle.std.proofs.lemmas.List.Edits.{sets}

-- there is room for the text in the places from `at` on
pub record Fits (l : List ℕ) (at : ℕ) (text : List ℕ) : Type 0 where
  pub room : at + length text ≤ length l

-- `after` is `before` with the text in the places from `at` on, one element after another, and `to` is the place after it
pub record Put (before : List ℕ) (at : ℕ) (text : List ℕ) (to : ℕ) (after : List ℕ) : Type 0 where
  pub list : after ≡ sets before at text
  pub place : to ≡ at + length text
