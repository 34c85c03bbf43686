-- Rules 2, 3 and 4 on the lists: what they say where they are passed, and the chain by the answer.
use Rattle.std.specs.Prelude.{Result, Ok, Err}
use Prim.Native.Nat.{ℕ, ◌/◌, ◌%◌, ◌≤◌}
use native.Mathlib.Omega.{arith}
use native.Mathlib.Nat.{div-add-mod}
use mathlib.Core.Path.{◌≡◌, refl, sym, ◌∙◌, ap}
use mathlib.Core.Bool.{Bool, true, false, cond, not, ◌||◌}
use mathlib.Core.List.{List}
use lib.Dec.{eqb, ltb}
use lib.ListN.{length}
use borrow.Author.Tests.{eqb-true, ltb-false, not-false}
use Rattle.paper.specs.declared.Refusal.{Refusal}
use Rattle.paper.specs.declared.Trailer.{Trailer}
use Rattle.paper.specs.Answers.{Verdict, refuse}
use Rattle.paper.specs.Ceilings.{most_nodes, most_edges, most_loops, most_facts}
use Rattle.paper.specs.Machines.{in_range}
use Rattle.paper.specs.Records.{bad_version}
use Rattle.paper.specs.Files.{bad_cache, bad_numbers}
use Rattle.paper.specs.Rules.{rule}
use Rattle.paper.specs.Writing.{FileContent, per_loop, trailer_in, rows_named, bad_lists, list_rules}
use Rattle.paper.proofs.Says.{neither, says_true}
use Rattle.paper.proofs.States.{says_range}
use Rattle.lists.specs.Listed.{plain, Listed}
use Rattle.lists.specs.Listings.{offered, listing_of}

pub or_right : (a b : Bool) → b ≡ true → true ≡ (a || b)
or_right true b e = refl
or_right false b e = sym e

pub or_left : (a b : Bool) → b ≡ false → a ≡ (a || b)
or_left true b e = refl
or_left false b e = sym e

module _ (c : FileContent) (cache : bad_cache (trailer_in c) ≡ false) (e : (bad_lists c || bad_numbers (trailer_in c)) ≡ false) where
  -- the lists are whole, the numbers small
  pub whole : Listed c (trailer_in c)
  unfolding bad_lists bad_numbers bad_cache trailer_in
  whole =
      let w = neither (bad_lists c) _ e in
      let a = neither (not (eqb (length c.edges % 2) 0)) _ w.0 in
      let p = per_loop c.version in
      let b = neither (not (eqb (length c.loops % p) 0)) _ a.1 in
      let d = neither (not (eqb (length c.heads % 4) 0)) _ b.1 in
      let edges : length c.edges % 2 ≡ 0 = eqb-true _ _ (not-false _ a.0) in
      let loops : length c.loops % p ≡ 0 = eqb-true _ _ (not-false _ b.0) in
      let heads : length c.heads % 4 ≡ 0 = eqb-true _ _ (not-false _ d.0) in
      let n = neither (ltb (length c.nodes) 1) _ w.1 in
      let m = neither (ltb most_nodes (length c.nodes)) _ n.1 in
      let k = neither (ltb most_edges (length c.edges / 2)) _ m.1 in
      let l = neither (ltb most_loops (length c.loops / p)) _ k.1 in
      let r = says_true (says_range c.policy c.ways c.sets) (not-false _ cache) in
      record {
        is = refl;
        lists = w.0;
        nodes = refl;
        edges = omega arith;
        loops = omega (arith, div-add-mod (length c.loops) p);
        heads = omega arith;
        rows = eqb-true _ _ (not-false _ d.1);
        nodes_low = ltb-false _ _ n.0;
        nodes_high = ltb-false _ _ m.0;
        edges_high = ltb-false _ _ k.0;
        loops_high = ltb-false _ _ l.0;
        facts_high = ltb-false _ _ l.1;
        sets_low = r.1.0;
        sets_high = r.1.1;
      }

-- the answer, by the outcomes of the tests
abbrev answer_by : Bool → Bool → Bool → Trailer → Result Trailer Refusal
answer_by v a b t = cond v (Err (refuse 2 0)) (cond a (Err (refuse 3 0)) (cond b (Err (refuse 4 0)) (Ok t)))

refused_by : (v a b : Bool) (t : Trailer) (r : Refusal) (rest : Verdict) → answer_by v a b t ≡ Err r → rule 2 0 v (rule 3 0 a (rule 4 0 b rest)) ≡ Err r
refused_by true a b t r rest h = let z : refuse 2 0 ≡ r = cc in ap Err z
refused_by false true b t r rest h = let z : refuse 3 0 ≡ r = cc in ap Err z
refused_by false false true t r rest h = let z : refuse 4 0 ≡ r = cc in ap Err z
refused_by false false false t r rest h = let z : ◌≡◌ {A = ℕ} 0 1 = cc in absurd (omega arith)

read_by : (v a b : Bool) (t s : Trailer) → answer_by v a b t ≡ Ok s → (v ≡ false) × (a ≡ false) × (b ≡ false) × (t ≡ s)
read_by true a b t s h = let z : ◌≡◌ {A = ℕ} 0 1 = cc in absurd (omega arith)
read_by false true b t s h = let z : ◌≡◌ {A = ℕ} 0 1 = cc in absurd (omega arith)
read_by false false true t s h = let z : ◌≡◌ {A = ℕ} 0 1 = cc in absurd (omega arith)
read_by false false false t s h = let z : t ≡ s = cc in (refl, refl, refl, z)

few_facts : (a b c d : Bool) (m n : ℕ) → (a || (b || (c || (d || ltb m n)))) ≡ false → n ≤ m
few_facts a b c d m n e = ltb-false m n (neither d _ (neither c _ (neither b _ (neither a _ e).1).1).1).1

-- the facts are few where the numbers are in range
pub few : (nodes edges loops facts : ℕ) →
    (ltb nodes 1 || (ltb most_nodes nodes || (ltb most_edges edges || (ltb most_loops loops || ltb most_facts facts)))) ≡ false → facts ≤ most_facts
few nodes edges loops facts e = few_facts (ltb nodes 1) (ltb most_nodes nodes) (ltb most_edges edges) (ltb most_loops loops) most_facts facts e

-- the answer by what was tested: the version, the cache, then the lists
module _ (version policy ways sets : ℕ) (nodes edges loops heads rows : List ℕ) (v : Bool) (e : v ≡ bad_version version) where
  abbrev c : FileContent
  c = offered version policy ways sets nodes edges loops heads rows

  pub listing_2 : v ≡ true → (r : Refusal) → r ≡ refuse 2 0 → Err r ≡ listing_of c
  unfolding listing_of
  listing_2 h r q = rw (← e, h) (ap Err q)

  module _ (n : v ≡ false) (a : Bool) (x : a ≡ in_range policy ways sets) where
    cache_is : not a ≡ bad_cache (trailer_in c)
    unfolding bad_cache trailer_in
    cache_is = ap not x

    pub listing_3 : not a ≡ true → (r : Refusal) → r ≡ refuse 3 0 → Err r ≡ listing_of c
    unfolding listing_of
    listing_3 h r q = rw (← e, n, ← cache_is, h) (ap Err q)

    module _ (k : not a ≡ false) (b : Bool) (y : b ≡ (bad_lists (plain version nodes edges loops heads rows) || bad_numbers (trailer_in (plain version nodes edges loops heads rows)))) where
      lists_are : b ≡ (bad_lists c || bad_numbers (trailer_in c))
      unfolding bad_lists bad_numbers trailer_in rows_named
      lists_are = y

      pub listing_4 : b ≡ true → (r : Refusal) → r ≡ refuse 4 0 → Err r ≡ listing_of c
      unfolding listing_of
      listing_4 h r q = rw (← e, n, ← cache_is, k, ← lists_are, h) (ap Err q)

      module _ (h : b ≡ false) where
        pub listing_5 : Ok (trailer_in c) ≡ listing_of c
        unfolding listing_of
        listing_5 = rw (← e, n, ← cache_is, k, ← lists_are, h) refl

        numbers : Listed c (trailer_in c)
        numbers = whole c (sym cache_is ∙ k) (sym lists_are ∙ h)

        pub small : (length nodes ≤ 1024) × (length edges / 2 ≤ 4096) × (length loops / per_loop version ≤ 64) × (length heads / 4 ≤ 256)
        unfolding trailer_in
        small = (numbers.nodes_high, numbers.edges_high, numbers.loops_high, numbers.facts_high)

module _ (c : FileContent) where
  pub listing_refused : (r : Refusal) → listing_of c ≡ Err r → (rest : Verdict) → list_rules c rest ≡ Err r
  unfolding listing_of list_rules
  listing_refused r h rest = refused_by (bad_version c.version) (bad_cache (trailer_in c)) (bad_lists c || bad_numbers (trailer_in c)) (trailer_in c) r rest h

  module _ (t : Trailer) (h : listing_of c ≡ Ok t) where
    outcomes : (bad_version c.version ≡ false) × (bad_cache (trailer_in c) ≡ false) × ((bad_lists c || bad_numbers (trailer_in c)) ≡ false) × (trailer_in c ≡ t)
    unfolding listing_of
    outcomes = read_by (bad_version c.version) (bad_cache (trailer_in c)) (bad_lists c || bad_numbers (trailer_in c)) (trailer_in c) t h

    pub listing_on : (rest : Verdict) → list_rules c rest ≡ rest
    unfolding list_rules
    listing_on rest = rw (outcomes.0, outcomes.1, outcomes.2) refl

    pub listing_trailer : trailer_in c ≡ t
    listing_trailer = outcomes.3

    pub listing_lists : bad_lists c ≡ false
    listing_lists = (neither (bad_lists c) _ outcomes.2).0

    pub listing_whole : Listed c (trailer_in c)
    listing_whole = whole c outcomes.1 outcomes.2
