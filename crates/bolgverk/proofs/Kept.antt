-- Demands 1 and 2 give demand 3: whoever has the verdict and the lent list has the whole promise.
use Rattle.std.specs.Prelude.{Ok}
use Prim.Native.Nat.{ℕ}
use mathlib.Core.Path.{◌≡◌, sym, ◌∙◌, ap, subst}
use mathlib.Core.List.{List}
use lib.ListN.{length, drop}
use Rattle.paper.specs.Answers.{Verdict, told_verdict}
use Rattle.paper.specs.Files.{read_case}
use Rattle.paper.specs.Verdicts.{verdict, lent_after}
use Rattle.paper.specs.Demands.{Holds}
use Rattle.theory.proofs.Accepted.{accepted_holds}
use Rattle.theory.proofs.Exact.{file_exact}
use Rattle.bolgverk.specs.Promises.{CheckPromise}

pub check_kept : (file : List ℕ) (p : ℕ) (lent : List ℕ) (r : Verdict) (after : List ℕ) → r ≡ verdict file (length lent) → after ≡ lent_after file p lent r → CheckPromise file p lent r after
check_kept file p lent r after a n =
    record {
      told = ap told_verdict a;
      numbers = n;
      holds = λ e.
          let z : after ≡ lent_after file p lent (Ok tt) = n ∙ ap (lent_after file p lent) e in
          subst (Holds (read_case file) p) (sym z) (accepted_holds file (length lent) (sym a ∙ e) p (drop 321 lent));
      exact = file_exact file;
    }
