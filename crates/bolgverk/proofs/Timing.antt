-- The time put together: the layout's refusals, else the answer for a file that is laid out; and what is promised of it.
use Rattle.std.specs.Prelude.{Result, Ok, Err}
use Prim.Native.Nat.{ℕ}
use native.Mathlib.Omega.{arith}
use mathlib.Core.Path.{◌≡◌, refl, sym, ◌∙◌, ap, subst}
use mathlib.Core.List.{List}
use lib.ListN.{length, get_or}
use Rattle.paper.specs.declared.Refusal.{Refusal}
use Rattle.paper.specs.declared.Trailer.{Trailer}
use Rattle.paper.specs.Answers.{Verdict, told_time}
use Rattle.paper.specs.Files.{trailer_of, read_case}
use Rattle.paper.specs.Rules.{follow}
use Rattle.paper.specs.Verdicts.{file_verdict}
use Rattle.paper.specs.Times.{time_rules, time_answer, file_time, time_verdict, file_time_answer, TimeHolds}
use Rattle.layout.specs.Layouts.{layout_of}
use Rattle.layout.proofs.Laws.{read_rules, refused_rules, read_trailer}
use Rattle.clock.specs.Timed.{time_for}
use Rattle.theory.proofs.Accepted.{accepted_time}
use Rattle.bolgverk.specs.Promises.{TimePromise}

-- a refusal tells no time, and a time that is told is the one that the rules were asked about
time_told : (x time : ℕ) (v : Verdict) → time_answer v x ≡ Ok time → (v ≡ Ok tt) × (x ≡ time)
time_told x time (Ok tt) h = (refl, ap value h)
  where
    value : Result ℕ Refusal → ℕ
    value (Ok n) = n
    value (Err r) = 0
time_told x time (Err r) h = let z : ◌≡◌ {A = ℕ} 0 1 = cc in absurd (omega arith)

follow_accepted : (v w : Verdict) → follow v w ≡ Ok tt → v ≡ Ok tt
follow_accepted (Ok tt) w h = refl
follow_accepted (Err r) w h = h

module _ (f costs : List ℕ) (penalty p : ℕ) where
  time_answered : (r : Result ℕ Refusal) → r ≡ file_time_answer f costs penalty p → (time : ℕ) → r ≡ Ok time → TimeHolds (read_case f) p (λ v. get_or costs v 0) penalty time
  unfolding file_time_answer time_verdict
  time_answered r z time h =
      let t = time_told (file_time f costs penalty p) time (time_verdict f costs penalty p) (sym z ∙ h) in
      subst (TimeHolds (read_case f) p (λ v. get_or costs v 0) penalty) t.1 (accepted_time f (follow_accepted (file_verdict f) _ t.0) costs penalty p)

  -- the answer brings the demand with it
  pub time_kept : (r : Result ℕ Refusal) → r ≡ file_time_answer f costs penalty p → TimePromise f costs penalty p r
  time_kept r z = record { told = ap told_time z; holds = time_answered r z }

  -- the answer for a verdict on the file
  abbrev by : Verdict → Result ℕ Refusal
  by u = time_answer (follow u (time_rules (read_case f).nodes (length costs) (file_time f costs penalty p) (Ok tt))) (file_time f costs penalty p)

  unread_is : (r : Refusal) → layout_of f ≡ Err r → Err r ≡ file_time_answer f costs penalty p
  unfolding file_time_answer time_verdict
  unread_is r h = ap by (sym (refused_rules f r _ h))

  pub unread_time : (r : Refusal) → layout_of f ≡ Err r → TimePromise f costs penalty p (Err r)
  unread_time r h = time_kept (Err r) (unread_is r h)

  read_is : (trailer : Trailer) → layout_of f ≡ Ok trailer → time_for f (trailer_of f) costs penalty p ≡ file_time_answer f costs penalty p
  unfolding time_for file_time_answer time_verdict file_time
  read_is trailer h = ap by (sym (read_rules f trailer h _))

  pub read_time : (trailer : Trailer) → layout_of f ≡ Ok trailer → (r : Result ℕ Refusal) → r ≡ time_for f trailer costs penalty p → TimePromise f costs penalty p r
  read_time trailer h r z = time_kept r (z ∙ ap (λ (t : Trailer). time_for f t costs penalty p) (read_trailer f trailer h) ∙ read_is trailer h)
