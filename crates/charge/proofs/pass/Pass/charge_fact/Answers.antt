-- Each number is read or computed from what was read of the fact, so the cost is the fact's.
use Prim.Native.Nat.{◌≤◌}
use native.Mathlib.Omega.{arith}
use mathlib.Core.Path.{◌≡◌, ap}
use Rattle.paper.specs.Files.{u16_at, fact_at, case_of}
use Rattle.formulas.specs.Largest.{largest_visits}
use Rattle.charge.specs.Tables.{head_of}
use Rattle.charge.specs.declared.heads.Head.{Head}
use Rattle.charge.proofs.Entries.{entries_low}
use Rattle.charge.proofs.FactCosts.{scope_low, cost_is, lowered_is}
use Rattle.charge.proofs.pass.Pass.charge_fact.Goals as goal

scope : (c : goal.After-head_at-h) → c.head_at-h.result.scope ≡ u16_at c.args.self.now.of.file.now c.args.p
unfolding head_of
scope c = ap (λ (h : Head). h.scope) c.head_at-h.ensures

pub entries_of-e-requires-clause-scope_lt_loops : goal.entries_of-e-requires-clause-scope_lt_loops
entries_of-e-requires-clause-scope_lt_loops c = scope_low _ _ _ _ (scope c) c.requires.sound_head

-- E is a count, or 1
pub entered-x-requires : goal.entered-x-requires
entered-x-requires c =
    let t = fact_at c.args.self.now.of.file.now c.args.p in
    omega (arith, c.entries_of-e.ensures, entries_low _ c.args.self.now.of.ready.lawful t c.requires.sound_head.scope)

pub bound_of-requires : goal.bound_of-requires
unfolding case_of head_of
bound_of-requires c =
    let s = c.requires.sound_head in
    let el = ap (λ (k : Head). k.limit) c.head_at-h.ensures in
    let low : c.entered-x.result ≤ largest_visits = omega (arith, c.entered-x.ensures, c.cover_nodes-n.ensures.upper_bound) in
    record { l_le_k = omega (arith, el, s.high); k_bound = c.args.self.now.of.ready.laid.ways_high; e_bound = low; n_bound = c.cover_nodes-n.ensures.upper_bound }

pub returns : goal.returns
returns c =
    let eh = c.head_at-h.ensures in
    record { value = cost_is _ _ _ _ eh _ _ _ _ _ c.entries_of-e.ensures c.cover_nodes-n.ensures.value c.entered-x.ensures c.bound_of.ensures; lowered = lowered_is _ _ _ _ eh _ _ c.cover_nodes-n.ensures.lowered }
