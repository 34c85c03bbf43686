-- Rows that keep the edge rule, as sound evidence does, have what walks gather.
use Prim.Native.Nat.{ℕ, ◌≤◌, ◌<◌}
use native.Mathlib.Omega.{arith}
use mathlib.Core.Path.{◌≡◌, refl}
use mathlib.Core.Logic.{◌≢◌}
use mathlib.Core.Bool.{true}
use mathlib.Core.List.{List, [], ◌∷◌, Memᴰ}
use lib.ListN.{length}
use Rattle.paper.specs.Cases.{Row, Fact, Case, inside, scope_of, row_of}
use Rattle.paper.specs.Facts.{held}
use Rattle.paper.specs.Demands.{Rising, EdgeInside, Other, Gathered, FewGathered}
use Rattle.paper.proofs.Says.{says_true}
use Rattle.paper.proofs.GraphLaws.{inside_says}
use Rattle.paper.proofs.RowLaws.{held_set}
use Rattle.paper.proofs.TableLaws.{length_table}
use Rattle.paper.proofs.Meaning.{In, Holds, SoundRow, EdgeRule, SoundEvidence}
use Rattle.paper.proofs.Reach.{last, next}
use Rattle.theory.proofs.Clear.{Clear, split}
use Rattle.theory.proofs.Sorted.{no_longer}
use Rattle.theory.proofs.Blocks.{blocks, blocks_rising, holds_mem}

-- the row has the block: "many" has all
abbrev pub Has : Row → ℕ → Type 0
Has r c = (r.number ≢ 9) × (r.number ≢ 8 → Holds r c)

module _ (e : Case) (t : Fact) where
  -- what one edge does, from a node that fetches x, another block
  module _ (x : ℕ) (r s : Row) (rule : EdgeRule e t x r s) (o : x ≢ t.block) (n : r.number ≢ 9) where
    lives : s.number ≢ 9
    lives p = let c = rule.other o n (omega arith) in omega (arith, c.set_after)

    keeps : (c : ℕ) → Has r c → Has s c
    keeps c h = (
      lives,
      λ m.
          let k = rule.other o n m in
          let i = h.1 k.set_before in
          rw i.2 at (k.keeps i.0 i.1),
    )

    gains : Other e t x → Has s x
    gains w = (lives, λ m. (rule.other o n m).adds w)

  -- the rows keep the edge rule along each edge inside the scope
  abbrev pub Closed : (ℕ → Row) → Type 0
  Closed row = (u v : ℕ) → EdgeInside e t u v → EdgeRule e t (e.block u) (row u) (row v)

  module _ (row : ℕ → Row) (rule : Closed row) where
    along : {u v : ℕ} (c : ℕ) → Clear e t u v → e.block u ≢ t.block → Has (row u) c → Has (row v) c
    along c (last s) n h = keeps _ _ _ (rule _ _ s) n h.0 c h
    along c (next s p w) n h = along c w p (keeps _ _ _ (rule _ _ s) n h.0 c h)

    lasts : {u v : ℕ} → Clear e t u v → e.block u ≢ t.block → (row u).number ≢ 9 → (row v).number ≢ 9
    lasts (last s) n h = lives _ _ _ (rule _ _ s) n h
    lasts (next s p w) n h = lasts w p (lives _ _ _ (rule _ _ s) n h)

    pub begins : {u v : ℕ} → Clear e t u v → e.block u ≡ t.block → (row v).number ≢ 9
    begins (last s) b = (rule _ _ s).after_block b
    begins (next s p w) b = lasts w p ((rule _ _ s).after_block b)

    passes : {x v : ℕ} → Clear e t x v → (row x).number ≢ 9 → Other e t (e.block x) → Has (row v) (e.block x)
    passes (last s) n o = gains _ _ _ (rule _ _ s) o.0 n o
    passes (next s p w) n o = along _ w p (gains _ _ _ (rule _ _ s) o.0 n o)

    pub has : {v c : ℕ} → Gathered e t v c → Has (row v) c
    has {v} g =
        let w = split e t g.passed g.walk g.free in
        rw g.fetches at (passes {x = g.node} {v = v} w.1 (begins w.0 g.starts) (rw g.fetches g.other))

  -- a row that is not "many" has fewer than the limit
  pub few : 1 ≤ t.limit → (s : Row) → SoundRow e t s → s.number ≢ 8 → (r : List ℕ) → Rising r → ((c : ℕ) → Memᴰ c r → Has s c) → length r < t.limit
  few l s z n [] o h = omega arith
  few l s z n (x ∷ r) o h =
      let nine = (h x (Memᴰ.head refl)).0 in
      let set : s.number < 8 = omega (arith, z.number) in
      omega (
        arith,
        z.few set,
        held_set s set,
        length_table s.slot (held s),
        no_longer (blocks s) (x ∷ r) (blocks_rising s z.rising) o (λ c m. holds_mem s c ((h c m).1 n)),
      )

  within : (v : ℕ) → inside (scope_of e t) v ≡ true → In (scope_of e t) v
  within v h = says_true (inside_says (scope_of e t) v) h

  pub sound_few : 1 ≤ t.limit → SoundEvidence e t → FewGathered e t
  sound_few l a v i b r o g =
      few l (row_of e t v) (a.rows v (within v i)) (a.many v (within v i) b) r o
      (λ c m. has (row_of e t) (λ x y s. a.edges x y s.0 (within x s.1) (within y s.2)) (g c m))
