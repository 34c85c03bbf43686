-- What one edge of a sound graph does.
use Prim.Native.Nat.{ℕ, ◌≤◌, ◌<◌}
use native.Mathlib.Omega.{arith}
use native.Mathlib.Decide.{dec_le, dec_lt, ℕ_discrete}
use mathlib.Core.Path.{◌≡◌, ap}
use mathlib.Core.Logic.{dite}
use Rattle.paper.specs.declared.Loop.{Loop}
use Rattle.paper.specs.Cases.{Case}
use Rattle.paper.specs.Walks.{Edge}
use Rattle.paper.proofs.Meaning.{In, SoundGraph}

-- The loop holds t, and its header is before t.
abbrev pub Over : ℕ → Loop → Type 0
Over t l = (l.first < t) × (t ≤ l.last)

module _ (e : Case) (s : SoundGraph e) where
  -- an earlier header is that of an earlier loop
  pub earlier : (i j : ℕ) → i < e.loops → j < e.loops → (e.loop i).first < (e.loop j).first → i < j
  earlier i j m n h =
      elim (dec_lt i j) [
        | yes q ↦ q
        | no q ↦
            absurd
            (elim (ℕ_discrete i j) [
              | yes p ↦ omega (arith, ap (λ (x : ℕ). (e.loop x).first) p)
              | no p ↦ omega (arith, s.rises j i (omega arith) m)
            ])
      ]

  -- a loop that begins in one with an earlier header ends in it
  pub ends_in : (i j : ℕ) → i < e.loops → j < e.loops → Over (e.loop j).first (e.loop i) → (e.loop j).last ≤ (e.loop i).last
  ends_in i j m n h = s.nested i j (earlier i j m n h.0) n h.1

  -- "Two loops have different headers"
  one_header : (i j : ℕ) → i < e.loops → j < e.loops → (e.loop i).first ≡ (e.loop j).first → i ≡ j
  one_header i j m n h =
      elim (ℕ_discrete i j) [
        | yes p ↦ p
        | no p ↦ absurd (dite (dec_lt i j) (λ q. omega (arith, s.rises i j q n)) (λ q. omega (arith, s.rises j i (omega arith) m)))
      ]

  module _ (u v : ℕ) (d : Edge e u v) where
    -- a node of a loop, but its header, is reached from inside
    pub from_inside : (j : ℕ) → j < e.loops → Over v (e.loop j) → In (e.loop j) u
    from_inside j m i = dite (dec_le v u) back_edge forward_edge
      where
        back_edge : v ≤ u → In (e.loop j) u
        back_edge h =
            let (x, n, q, o) = s.back u v d h in
            omega (arith, ends_in j x m n (omega arith))

        forward_edge : ¬ (v ≤ u) → In (e.loop j) u
        forward_edge h =
            dite (dec_le (e.loop j).first u) (λ q. omega arith)
            (λ q. absurd (let z = s.forward u v d (omega arith) j m (omega arith) (λ o. q o.0) in omega arith))

    -- "An edge u to v with u < v may enter a loop only at its header", and no other edge enters one
    pub enters : (j : ℕ) → j < e.loops → In (e.loop j) v → ¬ In (e.loop j) u → (v ≡ (e.loop j).first) × (u < v)
    enters j m i out = (at_header, forwards)
      where
        at_header : v ≡ (e.loop j).first
        at_header = dite (dec_le v (e.loop j).first) (λ h. omega arith) (λ h. absurd (out (from_inside j m (omega arith))))

        forwards : u < v
        forwards = dite (dec_le v u) (λ h. absurd (out (around h))) (λ h. omega arith)
          where
            around : v ≤ u → In (e.loop j) u
            around h =
                let (x, n, q, o) = s.back u v d h in
                rw (one_header j x m n (omega (arith, at_header))) o

    -- where each loop over t begins before a, a node from a to below t is reached from below t
    pub from_below : (t a : ℕ) → ((j : ℕ) → j < e.loops → Over t (e.loop j) → (e.loop j).first < a) → a ≤ v → v < t → u < t
    from_below t a inner h k =
        dite (dec_le v u)
        (λ q.
        let (x, n, r, o) = s.back u v d q in
        dite (dec_le t u) (λ z. absurd (let y = inner x n (omega arith) in omega arith)) (λ z. omega arith))
        (λ q. omega arith)
