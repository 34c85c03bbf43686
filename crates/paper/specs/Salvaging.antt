-- "Salvage a file with bad facts": which facts are kept and which are dropped, the file that is written, the list of dropped facts, and the refusals.
use Rattle.std.specs.Prelude.{ℕ, zero, suc, ◌-◌, ◌≤◌, ◌<◌, ◌≡◌, Bool, cond, ◌||◌, List, [], ◌∷◌, ◌++◌, ltb, length, get_or, drop, Result, Ok, Err, Option}
use Rattle.paper.specs.declared.Refusal.{Refusal}
use Rattle.paper.specs.declared.Trailer.{Trailer}
use Rattle.paper.specs.declared.Previous.{Previous}
use Rattle.paper.specs.Answers.{Verdict}
use Rattle.paper.specs.Lists.{part}
use Rattle.paper.specs.Cases.{Case}
use Rattle.paper.specs.Facts.{none_previous, previous_of, wrong_scope}
use Rattle.paper.specs.Bounds.{set_bound, total_bound}
use Rattle.paper.specs.Files.{end_at, trailer_of, facts_at, head_end, fact_at, fact_end, fact_place, case_of, read_case}
use Rattle.paper.specs.Rules.{rule, Passes}
use Rattle.paper.specs.Verdicts.{turn_rules, whole_file_rules, file_verdict}
use Rattle.paper.specs.OneFact.{graph_bytes, with_facts}
use Rattle.paper.specs.Demands.{Bytes}
use Rattle.paper.specs.declared.Salvage.{Salvage}

-- A fact's turn: where the fact stands, and what the turn came to.
pub record Judgement : Type 0 where
  pub place : ℕ
  pub verdict : Verdict

module _ (f : List ℕ) (trailer : Trailer) where
  -- The fact that stands at p is cut short: its head or its rows are, or "a fact's scope number is bad", so that "its length is unknown".
  unfoldable pub cut_short : ℕ → Bool
  cut_short p = ltb (end_at f) (head_end p) || (wrong_scope trailer.loops (fact_at f p).scope || ltb (end_at f) (fact_end f trailer p))

  -- Where the fact after it stands. After a fact cut short nothing is left, so that "facts after a cut one get 11".
  unfoldable pub next_place : ℕ → ℕ
  next_place p = cond (cut_short p) (end_at f) (fact_end f trailer p)

  -- 11 to 18, as in the check: "each with the first number it earns"
  abbrev pub turn_of : ℕ → Option Previous → ℕ → Verdict
  turn_of i previous p = turn_rules f trailer i previous p (Ok tt)

  -- "An order fault (13) is judged against the last fact kept."
  abbrev pub last_kept : Verdict → Option Previous → ℕ → Option Previous
  last_kept (Ok tt) previous p = previous_of (case_of f trailer) (fact_at f p)
  last_kept (Err r) previous p = previous

  -- n facts, from fact i on, which stands at p
  unfoldable pub judged_from : ℕ → ℕ → Option Previous → ℕ → List Judgement
  judged_from zero i previous p = []
  judged_from (suc n) i previous p =
      let v = turn_of i previous p in
      record { place = p; verdict = v } ∷ judged_from n (suc i) (last_kept v previous p) (next_place p)

  unfoldable pub judged : List Judgement
  judged = judged_from trailer.facts 0 none_previous (facts_at trailer)

  -- the bytes of the fact that stands at p, its head and its rows
  abbrev pub fact_part : ℕ → List ℕ
  fact_part p = part f p (fact_end f trailer p - p)

  abbrev pub fact_parts : List ℕ → List ℕ
  fact_parts [] = []
  fact_parts (p ∷ places) = fact_part p ++ fact_parts places

-- where the facts stand that are kept
abbrev pub keep_if : Verdict → ℕ → List ℕ → List ℕ
keep_if (Ok tt) p rest = p ∷ rest
keep_if (Err r) p rest = rest

abbrev pub kept_of : List Judgement → List ℕ
kept_of [] = []
kept_of (j ∷ rest) = keep_if j.verdict j.place (kept_of rest)

-- why the others are dropped, "each with the first number it earns and places"
abbrev pub drop_if : Verdict → List Refusal → List Refusal
drop_if (Ok tt) rest = rest
drop_if (Err r) rest = r ∷ rest

abbrev pub dropped_of : List Judgement → List Refusal
dropped_of [] = []
dropped_of (j ∷ rest) = drop_if j.verdict (dropped_of rest)

-- three numbers a dropped fact: the number, the place, which is its number in the first file, and the second place
abbrev pub listed : List Refusal → List ℕ
listed [] = []
listed (r ∷ rest) = r.number ∷ r.place ∷ r.second ∷ listed rest

module _ (f : List ℕ) where
  abbrev pub kept : List ℕ
  kept = kept_of (judged f (trailer_of f))

  abbrev pub dropped : List Refusal
  dropped = dropped_of (judged f (trailer_of f))

  -- "writes the rest": the graph, every fact kept, unchanged and in order, no stray bytes, and the trailer with the number of facts kept
  unfoldable pub salvaged : List ℕ
  salvaged = with_facts f (fact_parts f (trailer_of f) kept) (length kept)

  unfoldable pub dropped_list : List ℕ
  dropped_list = listed dropped

  -- "Refusals: 1 to 10 and 26 as in the check, then 20 if file or list does not fit."
  unfoldable pub salvage_verdict : ℕ → ℕ → Verdict
  salvage_verdict room list_room = whole_file_rules f (rule 20 0 (ltb room (length salvaged) || ltb list_room (length dropped_list)) (Ok tt))

  abbrev pub salvage_answer : Verdict → Result Salvage Refusal
  salvage_answer (Ok tt) = Ok (record { length = length salvaged; dropped = length dropped })
  salvage_answer (Err r) = Err r

-- What is lent, afterwards: what is written stands first, and "room past the end stays"; on a refusal all stays.
abbrev pub lent_by : List ℕ → List ℕ → Verdict → List ℕ
lent_by written lent (Ok tt) = written ++ drop (length written) lent
lent_by written lent (Err r) = lent

-- What is promised of the file g that is salvaged from f.
pub record Salvages (f g : List ℕ) : Type 0 where
  -- "The result is accepted"
  pub accepted : file_verdict g ≡ Ok tt
  -- "holds every kept fact unchanged"
  pub graph : graph_bytes g ≡ graph_bytes f
  pub facts : (trailer_of g).facts ≡ length (kept f)
  pub unchanged :
      (i : ℕ)
      → i < length (kept f)
      → fact_part g (trailer_of g) (fact_place g (trailer_of g) i) ≡ fact_part f (trailer_of f) (get_or (kept f) i 0)
  -- "has the first file's version"
  pub version : (trailer_of g).version ≡ (trailer_of f).version
  -- "and when the first file was already sound it is the same file"
  pub same : file_verdict f ≡ Ok tt → g ≡ f
  -- so salvaging twice changes nothing
  pub again : salvaged g ≡ g

abbrev pub SalvageHolds : List ℕ → Type 0
SalvageHolds f = Bytes f → Passes (whole_file_rules f) → Salvages f (salvaged f)

-- "Removing a fact from an accepted file": the facts but fact r
abbrev pub skip : ℕ → ℕ → ℕ
skip r i = cond (ltb i r) i (suc i)

unfoldable pub without_fact : Case → ℕ → Case
without_fact e r =
    record {
      policy = e.policy;
      ways = e.ways;
      sets = e.sets;
      nodes = e.nodes;
      edges = e.edges;
      loops = e.loops;
      facts = e.facts - 1;
      block = e.block;
      from = e.from;
      to = e.to;
      loop = e.loop;
      fact = λ i. e.fact (skip r i);
    }

-- "never lowers a set bound or the total", for however many interruptions
pub record RaisesBounds (e d : Case) : Type 0 where
  pub set : (p q : ℕ) → set_bound e p q ≤ set_bound d p q
  pub total : (p : ℕ) → total_bound e p ≤ total_bound d p

abbrev pub RemovalHolds : List ℕ → Type 0
RemovalHolds f = file_verdict f ≡ Ok tt → (r : ℕ) → r < (read_case f).facts → RaisesBounds (read_case f) (without_fact (read_case f) r)
