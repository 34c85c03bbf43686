-- What walks gather is decided, and listed.
use Prim.Native.Nat.{ℕ, suc, ◌≤◌, ◌<◌, ◌%◌}
use native.Mathlib.Omega.{arith}
use native.Mathlib.Decide.{ℕ_discrete, map_dec}
use mathlib.Core.Path.{◌≡◌, refl}
use mathlib.Core.Logic.Dec
use mathlib.Core.Logic.{◌≢◌, ◌↔◌}
use mathlib.Core.Bool.{Bool, true, false}
use mathlib.Core.List.{List, Memᴰ}
use lib.ListN.{length}
use Rattle.paper.specs.Cases.{Fact, Case, inside, scope_of}
use Rattle.paper.specs.Walks.{Edge}
use Rattle.paper.specs.Demands.{Rising, EdgeInside, Other, Gathered, FewGathered}
use Rattle.paper.proofs.Says.{says_true}
use Rattle.paper.proofs.GraphLaws.{inside_says}
use Rattle.paper.proofs.Reach.{last, next, join, way?, some?, Dec·and₃}
use Rattle.theory.proofs.Sorted.{no_longer, Those, those}
use Rattle.theory.proofs.Clear.{Clear, split, gather}

true? : (b : Bool) → Dec (b ≡ true)
true? true = yes refl
true? false = no (λ h. let z : ◌≡◌ {A = ℕ} 0 1 = cc in omega arith)

edge? : (e : Case) (u v : ℕ) → Dec (Edge e u v)
edge? e u v =
    map_dec (λ h. (h.0, h.1, h.2.0, h.2.1)) (λ h. (h.0, h.1, (h.2, h.3)))
    (some? (λ i. Dec.and (ℕ_discrete (e.from i) u) (ℕ_discrete (e.to i) v)) e.edges)

module _ (e : Case) (t : Fact) where
  -- all nodes of the scope lie below this
  abbrev top : ℕ
  top = suc (scope_of e t).last

  within : (v : ℕ) → inside (scope_of e t) v ≡ true → v < top
  within v h = let i = says_true (inside_says (scope_of e t) v) h in omega arith

  clear? : (u v : ℕ) → Dec (Clear e t u v)
  clear? u v =
      way? (λ u v. Dec·and₃ (edge? e u v) (true? _) (true? _)) (λ x. Dec.not (ℕ_discrete (e.block x) t.block)) top
      (λ x y s. within y s.2) u v

  below : {u v : ℕ} → Clear e t u v → u < top
  below {u} (last s) = within u s.1
  below {u} (next s p w) = within u s.1

  -- a walk from a fetch of the block comes to v, past no other
  abbrev pub Reached : ℕ → Type 0
  Reached v = (s : ℕ) × (s < top) × ((e.block s ≡ t.block) × Clear e t s v)

  pub reached? : (v : ℕ) → Dec (Reached v)
  reached? v = some? (λ s. Dec.and (ℕ_discrete (e.block s) t.block) (clear? s v)) top

  pub reached_from : {s v : ℕ} → e.block s ≡ t.block → Clear e t s v → Reached v
  reached_from {s} p w = (s, below w, (p, w))

  pub reached_first : {u v : ℕ} → EdgeInside e t u v → e.block u ≡ t.block → Reached v
  reached_first s p = reached_from p (last s)

  -- a gathered block by the node that fetches it
  abbrev Parts : ℕ → ℕ → Type 0
  Parts v c = (x : ℕ) × (x < top) × ((e.block x ≡ c) × Other e t c × (Reached x × Clear e t x v))

  parts : {v c : ℕ} → Gathered e t v c → Parts v c
  parts g =
      let w = split e t g.passed g.walk g.free in
      (g.node, below w.1, (g.fetches, g.other, ((g.start, below w.0, (g.starts, w.0)), w.1)))

  whole : {v c : ℕ} → Parts v c → Gathered e t v c
  whole h = gather e t h.2.2.0.2.0 h.2.2.0.2.1 h.2.0 h.2.1 h.2.2.1

  gathered? : (v c : ℕ) → Dec (Gathered e t v c)
  gathered? v c =
      map_dec whole parts
      (some?
      (λ x.
      Dec·and₃ (ℕ_discrete (e.block x) c)
      (Dec·and₃ (Dec.not (ℕ_discrete c _)) (Dec.not (ℕ_discrete c _)) (ℕ_discrete (c % e.sets) _))
      (Dec.and (reached? x) (clear? x v)))
      top)

  -- what is gathered before a node that fetches another block is gathered after it, and that block too
  pub reached_on : {u v : ℕ} → EdgeInside e t u v → e.block u ≢ t.block → Reached u → Reached v
  reached_on s n h = (h.0, h.1, (h.2.0, join h.2.1 n (last s)))

  pub gathered_on : {u v : ℕ} → EdgeInside e t u v → e.block u ≢ t.block → (c : ℕ) → Gathered e t u c → Gathered e t v c
  gathered_on s n c g = let h = parts g in whole (h.0, h.1, (h.2.0, h.2.1, (h.2.2.0, join h.2.2.1 n (last s))))

  pub gathered_new : {u v : ℕ} → EdgeInside e t u v → Other e t (e.block u) → Reached u → Gathered e t v (e.block u)
  gathered_new {u} s o h = whole (u, within u s.1, (refl, o, (h, last s)))

  -- Blocks are numbers of 16 bits.
  module _ (small : (v : ℕ) → e.block v < 65536) where
    -- the blocks gathered at v, in rising order
    all : (v : ℕ) → Those (Gathered e t v) 0 65536
    all v = those (gathered? v) 65536 0

    pub gathered : ℕ → List ℕ
    gathered v = (all v).list

    pub gathered_rising : (v : ℕ) → Rising (gathered v)
    unfolding gathered
    gathered_rising v = (all v).rising

    pub gathered_iff : (v c : ℕ) → Memᴰ c (gathered v) ↔ Gathered e t v c
    unfolding gathered
    gathered_iff v c = (λ m. ((all v).only c m).1, λ g. (all v).all c (omega arith) (omega (arith, small g.node, g.fetches)) g)

    pub gathered_most : (v : ℕ) (r : List ℕ) → Rising r → ((c : ℕ) → Memᴰ c r → Gathered e t v c) → length r ≤ length (gathered v)
    gathered_most v r o g = no_longer (gathered v) r (gathered_rising v) o (λ c m. (gathered_iff v c).1 (g c m))

    pub few_gathered : FewGathered e t → (v : ℕ) → inside (scope_of e t) v ≡ true → e.block v ≡ t.block → length (gathered v) < t.limit
    few_gathered b v i p = b v i p (gathered v) (gathered_rising v) (λ c. (gathered_iff v c).0)
