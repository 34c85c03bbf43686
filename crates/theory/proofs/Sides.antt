-- Both sides of a bit of the tree: b stands in one, and where the bit points there, a line in the other holds a block of R.
use Prim.Native.Nat.{ℕ, zero, suc, ◌+◌, ◌-◌, ◌*◌, ◌≤◌, ◌<◌}
use mathlib.Core.Path.{◌≡◌, refl, sym, ◌∙◌, ap}
use mathlib.Core.Logic.{◌≢◌}
use mathlib.Core.List.{List}
use native.Mathlib.Decide.{ℕ_discrete}
use native.Mathlib.Omega.{arith}
use lib.ListN.{get_or}
use Rattle.paper.specs.declared.SetState.{SetState}
use Rattle.paper.specs.Machines.{none}
use Rattle.paper.specs.Trees.{parent, pointed}
use Rattle.paper.proofs.TreeLaws.{above, Deep}
use Rattle.theory.proofs.Count.{cnt}
use Rattle.theory.proofs.Pigeon.{line_holds}
use Rattle.theory.proofs.Loads.{sides_apart, higher, load, load_line, load_sides}

-- r is the number of line 0
module _ (b r : ℕ) where
  -- a line d levels below p holds a block of R
  pub record Seen (R l : List ℕ) (d p : ℕ) : Type 0 where
    pub at : ℕ
    pub below : above d (r + at) ≡ p
    pub block : 1 ≤ cnt (get_or l at none) R

  -- b stands d levels below p, and where a bit between points to b, a line on its other side holds a block of R
  pub data Safe (R : List ℕ) (s : SetState) : ℕ → ℕ → Type 0 where
    line : {p : ℕ} (j : ℕ) → r + j ≡ p → get_or s.lines j none ≡ b → Safe R s 0 p
    side : {d p : ℕ} (v : ℕ) → v ≤ 1 → Safe R s d (2 * p + 1 + v) → (pointed s.bits p ≡ 2 * p + 1 + v → Seen R s.lines d (2 * p + 2 - v)) → Safe R s (suc d) p

  pub safe_stands : (R : List ℕ) (s : SetState) (d p : ℕ) → b ≢ none → Safe R s d p → 1 ≤ cnt b s.lines
  safe_stands R s d p n (line j e a) = rw a at (line_holds s.lines j none (λ q. n (sym a ∙ q)))
  safe_stands R s d p n (side {d = c} v h y g) = safe_stands R s c (2 * p + 1 + v) n y

  pub safe_wider : (R R' : List ℕ) (s : SetState) (d p : ℕ) → ((y : ℕ) → 1 ≤ cnt y R → 1 ≤ cnt y R') → Safe R s d p → Safe R' s d p
  safe_wider R R' s d p w (line j e a) = line j e a
  safe_wider R R' s d p w (side {d = c} v h y g) =
      side v h (safe_wider R R' s c (2 * p + 1 + v) w y)
      (λ on. let o = g on in record { at = o.at; below = o.below; block = w _ o.block })

  -- where nothing below p changes
  pub safe_same : (R : List ℕ) (s t : SetState) (d p : ℕ) → Safe R s d p
      → ((f u : ℕ) → above f u ≡ p → pointed t.bits u ≡ pointed s.bits u)
      → ((f i : ℕ) → above f (r + i) ≡ p → get_or t.lines i none ≡ get_or s.lines i none) → Safe R t d p
  unfolding above parent
  safe_same R s t d p (line j e a) bs ls = line j e (ls 0 j e ∙ a)
  safe_same R s t d p (side {d = c} v h y g) bs ls =
      side v h
      (safe_same R s t c (2 * p + 1 + v) y (λ f u e. bs (suc f) u (omega arith)) (λ f i e. ls (suc f) i (omega arith)))
      (λ on.
      let o = g (sym (bs 0 p refl) ∙ on) in
      record { at = o.at; below = o.below; block = rw (ls (suc c) o.at (omega (arith, o.below))) o.block })

  -- An access of x in line j, D levels below the root, led from s to t: the line holds x, the bits above it point away from it, and the rest stays.
  pub record Accessed (D j x : ℕ) (s t : SetState) : Type 0 where
    pub deep : Deep D (r + j)
    pub has : get_or t.lines j none ≡ x
    pub others : (i : ℕ) → i ≢ j → get_or t.lines i none ≡ get_or s.lines i none
    pub away : (e : ℕ) → e < D → above e (r + j) ≢ pointed t.bits (above (suc e) (r + j))
    pub beside : (u : ℕ) → ((e : ℕ) → e < D → u ≢ above (suc e) (r + j)) → pointed t.bits u ≡ pointed s.bits u

  -- where b is accessed no bit on its path points to it
  pub safe_own : (R : List ℕ) (D j : ℕ) (s t : SetState) → Accessed D j b s t → (d p : ℕ) → d ≤ D → above d (r + j) ≡ p → Safe R t d p
  unfolding above parent
  safe_own R D j s t w zero p h e = line j e w.has
  safe_own R D j s t w (suc d) p h e =
      let v = above d (r + j) - (2 * p + 1) in
      let i = w.deep.inner d h in
      side v (omega arith) (safe_own R D j s t w d (2 * p + 1 + v) (omega arith) (omega arith))
      (λ on. absurd (omega (arith, w.away d h, ap (pointed t.bits) e)))

  -- x comes to line j: it stands there already, or the bits lead to it and fewer blocks of R than levels stand below p
  pub data Comes (R : List ℕ) (D j x : ℕ) (s : SetState) (d p : ℕ) : Type 0 where
    stood : get_or s.lines j none ≡ x → Comes R D j x s d p
    missed :
        ((e : ℕ) → e < D → above e (r + j) ≡ pointed s.bits (above (suc e) (r + j)))
        → load R d p r s.lines < d → Comes R D j x s d p

  -- another block x of R is accessed
  module _ (R : List ℕ) (D j x : ℕ) (s t : SetState) (w : Accessed D j x s t) (u : x ≢ b) (i : 1 ≤ cnt x R) (real : cnt none R ≡ 0) where
    -- in the other side of p from b's: nothing changes in b's
    safe_beside : (d p v : ℕ) → v ≤ 1 → above d (r + j) ≡ 2 * p + 2 - v → Safe R s d (2 * p + 1 + v) → Safe R t d (2 * p + 1 + v)
    safe_beside d p v h e y =
        safe_same R s t d (2 * p + 1 + v) y
        (λ f n a.
        w.beside n λ g l q.
        let o = higher (suc g) f (r + j) in
        sides_apart p v o.0 d (r + j) h (o.1 ∙ sym (ap (above f) q) ∙ a) e)
        (λ f n a. w.others n λ q. sides_apart p v f d (r + j) h (ap (λ (m : ℕ). above f (r + m)) (sym q) ∙ a) e)

    -- In b's side of p the bit turns from b, and if it pointed there, a block of R is on the other side; in the other side x is such a block.
    pub safe_other : (d p : ℕ) → d ≤ D → above d (r + j) ≡ p → Safe R s d p → Comes R D j x s d p → Safe R t d p
    unfolding above parent
    safe_other d p h e (line m a y) (stood g) =
        let q : j ≡ m = omega arith in
        absurd (u (sym g ∙ ap (λ (n : ℕ). get_or s.lines n none) q ∙ y))
    safe_other d p h e (line m a y) (missed f l) = absurd (omega arith)
    safe_other d p h e (side {d = c} v o y g) k =
        let z = w.deep.inner c h in
        elim (ℕ_discrete (above c (r + j)) (2 * p + 1 + v)) [
          | yes q ↦
              side v o
              (safe_other c (2 * p + 1 + v) (omega arith) q y
              (elim k [
                | stood a ↦ stood a
                | missed f l ↦
                    let n = g (omega (arith, f c h, ap (pointed s.bits) e)) in
                    missed f (omega (arith, load_sides R c p v r s.lines o, load_line R c (2 * p + 2 - v) r s.lines n.at real n.below n.block))
              ]))
              (λ on. absurd (omega (arith, w.away c h, ap (pointed t.bits) e)))
          | no q ↦
              let n : above c (r + j) ≡ 2 * p + 2 - v = omega arith in
              side v o (safe_beside c p v o n y) (λ on. record { at = j; below = n; block = rw w.has i })
        ]
