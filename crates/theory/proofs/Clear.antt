-- Walks inside a fact's scope that pass no fetch of its block: a walk past a node is one to it and one from it.
use Prim.Native.Nat.{ℕ}
use mathlib.Core.Path.{◌≡◌, refl}
use mathlib.Core.Logic.{◌≢◌, ⊎_elim}
use mathlib.Core.List.Memᴰ
use mathlib.Core.List.{List, [], ◌∷◌, Memᴰ}
use Rattle.paper.specs.Cases.{Fact, Case}
use Rattle.paper.specs.Demands.{EdgeInside, WalkInside, Other, Gathered}
use Rattle.paper.proofs.Reach.{Way, last, next}

module _ (e : Case) (t : Fact) where
  abbrev pub Clear : ℕ → ℕ → Type 0
  Clear = Way (EdgeInside e t) (λ x. e.block x ≢ t.block)

  abbrev pub Free : List ℕ → Type 0
  Free m = (x : ℕ) → Memᴰ x m → e.block x ≢ t.block

  pub clear : {u v : ℕ} (m : List ℕ) → WalkInside e t u m v → Free m → Clear u v
  clear [] w f = last w
  clear (x ∷ m) w f = next w.0 (f x (Memᴰ.head refl)) (clear m w.1 (λ y i. f y (Memᴰ.tail i)))

  pub split : {x u v : ℕ} {m : List ℕ} → Memᴰ x m → WalkInside e t u m v → Free m → Clear u x × Clear x v
  split (Memᴰ.head {xs = m} p) w f = rw p (last w.0, clear m w.1 (λ z i. f z (Memᴰ.tail i)))
  split (Memᴰ.tail {x = y} i) w f =
      let r = split i w.1 (λ z j. f z (Memᴰ.tail j)) in (next w.0 (f y (Memᴰ.head refl)) r.0, r.1)

  -- a walk with its nodes between, of which P holds
  pub record Past (u v : ℕ) (P : List ℕ → Type 0) : Type 0 where
    pub between : List ℕ
    pub walk : WalkInside e t u between v
    pub free : Free between
    pub known : P between

  more : {P R : List ℕ → Type 0} {u x v : ℕ} → EdgeInside e t u x → e.block x ≢ t.block → ((m : List ℕ) → P m → R (x ∷ m)) → Past x v P → Past u v R
  more {x = x} s p h w =
      record {
        between = x ∷ w.between;
        walk = (s, w.walk);
        free = λ y i. ⊎_elim (λ q. rw q p) (w.free y) (Memᴰ.cases_cons i);
        known = h _ w.known;
      }

  pub walk : {u v : ℕ} → Clear u v → Past u v (λ m. Unit {0})
  walk (last s) = record { between = []; walk = s; free = λ y i. absurd (Memᴰ.not-nil i); known = tt }
  walk (next s p w) = more s p (λ m k. tt) (walk w)

  glue : {u x v : ℕ} → Clear u x → e.block x ≢ t.block → Past x v (λ m. Unit {0}) → Past u v (Memᴰ x)
  glue (last s) p w = more s p (λ m k. Memᴰ.head refl) w
  glue (next s r w') p w = more s r (λ m i. Memᴰ.tail i) (glue w' p w)

  pub gather : {s x v c : ℕ} → e.block s ≡ t.block → Clear s x → e.block x ≡ c → Other e t c → Clear x v → Gathered e t v c
  gather {s} {x} b w f o w' =
      let p = glue w (rw f o.0) (walk w') in
      record {
        start = s;
        between = p.between;
        node = x;
        starts = b;
        walk = p.walk;
        free = p.free;
        passed = p.known;
        fetches = f;
        other = o;
      }
