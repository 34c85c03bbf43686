-- "Checked numbers", those marked P, as a single list with one evaluator.
use Rattle.std.specs.Prelude.{ℕ, Bool, true, false, ◌&&◌, List, [], ◌∷◌, ◌++◌, eqb, drop, replicate, set, Ok, Err}
use Prim.Native.String.{String}
use Rattle.paper.specs.declared.SetState.{SetState}
use Rattle.paper.specs.declared.Stepped.{Stepped}
use Rattle.paper.specs.Answers.{Verdict}
use Rattle.paper.specs.Machines.{none, step}
use Rattle.paper.specs.Bounds.{g, bound_of, floor_of}
use Rattle.paper.specs.Verdicts.{verdict, lent_after}
use Rattle.paper.specs.Listings.{bytes, listing_of}

-- "A file and its listing": the 140 bytes, by policy.
abbrev pub paper_file : ℕ → List ℕ
paper_file policy =
    (255 ∷ 255 ∷ 5 ∷ 0 ∷ 6 ∷ 0 ∷ 255 ∷ 255 ∷ [])
    ++ ((0 ∷ 0 ∷ 1 ∷ 0 ∷ 1 ∷ 0 ∷ 2 ∷ 0 ∷ 2 ∷ 0 ∷ 1 ∷ 0 ∷ 2 ∷ 0 ∷ 3 ∷ 0 ∷ [])
    ++ ((1 ∷ 0 ∷ 2 ∷ 0 ∷ 10 ∷ 0 ∷ 0 ∷ 0 ∷ [])
    ++ ((0 ∷ 0 ∷ 5 ∷ 0 ∷ 2 ∷ 0 ∷ 1 ∷ 0 ∷ 6 ∷ 0 ∷ [])
    ++ (replicate 12 255
    ++ ((0 ∷ 0 ∷ [])
    ++ (replicate 14 255
    ++ ((0 ∷ 0 ∷ 6 ∷ 0 ∷ 2 ∷ 0 ∷ 0 ∷ 0 ∷ [])
    ++ (replicate 14 255
    ++ ((1 ∷ 0 ∷ 5 ∷ 0 ∷ [])
    ++ (replicate 12 255
    ++ ((0 ∷ 0 ∷ 0 ∷ 0 ∷ 8 ∷ 0 ∷ 0 ∷ 0 ∷ 24 ∷ 0 ∷ 0 ∷ 0 ∷ 32 ∷ 0 ∷ 0 ∷ 0 ∷ 4 ∷ 0 ∷ 4 ∷ 0 ∷ 1 ∷ 0 ∷ 2 ∷ 0 ∷ [])
    ++ (policy ∷ 2 ∷ 1 ∷ 1 ∷ 81 ∷ 77 ∷ 66 ∷ 84 ∷ []))))))))))))

pub data Checked : Type 0 where
  -- g of k and l
  is_g : ℕ → ℕ → ℕ → Checked
  -- a fact's bound: policy, k, l, E, N
  is_bound : ℕ → ℕ → ℕ → ℕ → ℕ → ℕ → Checked
  -- a FIFO set's floor: k, l, M(l)
  is_floor : ℕ → ℕ → ℕ → ℕ → Checked
  -- a step: policy, k, the lines below k, bits, block; hit, the lines below k, bits
  is_step : ℕ → ℕ → List ℕ → ℕ → ℕ → Bool → List ℕ → ℕ → Checked
  -- the listing of the paper's file, by policy and interruptions; and the 321 numbers: total, set 0, fact 0, fact 1, all others 0
  is_listing : ℕ → ℕ → String → Checked
  are_numbers : ℕ → ℕ → ℕ → ℕ → ℕ → ℕ → Checked

abbrev pub same_list : List ℕ → List ℕ → Bool
same_list [] [] = true
same_list [] (y ∷ b) = false
same_list (x ∷ a) [] = false
same_list (x ∷ a) (y ∷ b) = eqb x y && same_list a b

abbrev pub same_bool : Bool → Bool → Bool
same_bool true b = b
same_bool false true = false
same_bool false false = true

abbrev pub set_of : ℕ → List ℕ → ℕ → SetState
set_of k lines bits = record { lines = lines ++ drop k (replicate 8 none); bits = bits }

abbrev pub same_step : Stepped → Bool → SetState → Bool
same_step t hit s = same_bool t.hit hit && (same_list t.state.lines s.lines && eqb t.state.bits s.bits)

-- 321 numbers of a lent list of 322, each 7 before the check
abbrev pub listed : Verdict → List ℕ → ℕ → List ℕ
listed (Ok tt) f p = lent_after f p (replicate 322 7) (Ok tt)
listed (Err r) f p = []

abbrev pub holds_at : Checked → Bool
holds_at (is_g k l n) = eqb (g k l) n
holds_at (is_bound policy k l E N n) = eqb (bound_of policy k l E N) n
holds_at (is_floor k l M n) = eqb (floor_of k l M) n
holds_at (is_step policy k lines bits b hit lines' bits') = same_step (step policy k (set_of k lines bits) b) hit (set_of k lines' bits')
holds_at (is_listing policy p text) = same_list (listing_of (paper_file policy) p) (bytes text)
holds_at (are_numbers policy p total set0 fact0 fact1) =
    same_list (listed (verdict (paper_file policy) 322) (paper_file policy) p)
    (set (set (set (set (replicate 321 0 ++ (7 ∷ [])) 0 total) 1 set0) 65 fact0) 66 fact1)

abbrev pub all_hold : List Checked → Bool
all_hold [] = true
all_hold (c ∷ cs) = holds_at c && all_hold cs

-- 1 to 6. In 2, an N that is not given is that of E; in 6, as LRU and as NMRU the paper gives the total: "The NMRU total in case 6 becomes 2." (02, item 3) With one interruption "total 8, set 8, facts 6 and 6" (02, item 12).
abbrev pub checked_numbers : List Checked
checked_numbers =
    is_g 2 2 2 ∷ is_g 4 2 4 ∷ is_g 4 4 2 ∷ is_g 8 3 4 ∷ is_g 8 6 2
    ∷ is_bound 1 4 2 1 100 25 ∷ is_bound 1 4 2 3 3 3 ∷ is_bound 1 4 1 1 1 1
    ∷ is_floor 4 2 6 8 ∷ is_floor 4 4 6 24
    ∷ is_step 2 4 (10 ∷ 11 ∷ 12 ∷ 13 ∷ []) 9 20 false (10 ∷ 20 ∷ 12 ∷ 13 ∷ []) 11
    ∷ is_step 2 4 (10 ∷ 20 ∷ 12 ∷ 13 ∷ []) 11 13 true (10 ∷ 20 ∷ 12 ∷ 13 ∷ []) 11
    ∷ is_step 2 4 (10 ∷ 20 ∷ 12 ∷ 13 ∷ []) 11 12 true (10 ∷ 20 ∷ 12 ∷ 13 ∷ []) 4
    ∷ is_step 1 2 (11 ∷ 10 ∷ []) 0 10 true (11 ∷ 10 ∷ []) 0
    ∷ is_step 0 2 (11 ∷ 10 ∷ []) 0 10 true (10 ∷ 11 ∷ []) 0
    ∷ are_numbers 1 0 4 4 5 5 ∷ are_numbers 0 0 2 2 1 1 ∷ are_numbers 2 0 2 2 1 1 ∷ are_numbers 1 1 8 8 6 6
    ∷ is_listing 1 0 "total 4\nset 0 4\nfact 0 5\nfact 1 5\n"
    ∷ is_listing 1 1 "total 8\nset 0 8\nfact 0 6\nfact 1 6\n"
    ∷ is_listing 0 0 "total 2\nset 0 2\nfact 0 1\nfact 1 1\n"
    ∷ is_listing 2 0 "total 2\nset 0 2\nfact 0 1\nfact 1 1\n"
    ∷ []

-- The tree, worked by hand: 1 + log2 k is the last limit with E; a miss takes the line that the bits lead to, though another is empty, and a hit turns its path too; with two ways it is LRU.
abbrev pub tree_numbers : List Checked
tree_numbers =
    is_bound 3 2 2 1 100 1 ∷ is_bound 3 4 3 1 100 1 ∷ is_bound 3 4 4 1 100 100 ∷ is_bound 3 8 4 2 9 2 ∷ is_bound 3 8 5 2 9 9
    ∷ is_step 3 4 (10 ∷ none ∷ 12 ∷ 13 ∷ []) 0 20 false (20 ∷ none ∷ 12 ∷ 13 ∷ []) 3
    ∷ is_step 3 4 (20 ∷ none ∷ 12 ∷ 13 ∷ []) 3 21 false (20 ∷ none ∷ 21 ∷ 13 ∷ []) 6
    ∷ is_step 3 4 (20 ∷ none ∷ 21 ∷ 13 ∷ []) 6 13 true (20 ∷ none ∷ 21 ∷ 13 ∷ []) 2
    ∷ is_step 3 8 (10 ∷ 11 ∷ 12 ∷ 13 ∷ 14 ∷ 15 ∷ 16 ∷ 17 ∷ []) 37 20 false (10 ∷ 11 ∷ 12 ∷ 13 ∷ 14 ∷ 15 ∷ 20 ∷ 17 ∷ []) 96
    ∷ are_numbers 3 0 2 2 1 1
    ∷ []
