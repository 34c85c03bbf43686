-- `frames::operations::Operation::of`: a number that names no operation fails each test of `argument_bytes`.
use native.Mathlib.Omega.{arith}
use mathlib.Core.Logic.{◌≢◌}
use borrow.Author.Tests.{ne_eqb}
use Rattle.frames.specs.Frames.{argument_bytes}
use Rattle.frames.proofs.operations.Operation.of.Goals as goal

pub returns-in_default-clause-unknown : goal.returns-in_default-clause-unknown
unfolding argument_bytes
returns-in_default-clause-unknown c none =
    let n1 : c.args.number ≢ 1 = omega arith in
    let n2 : c.args.number ≢ 2 = omega arith in
    let n3 : c.args.number ≢ 3 = omega arith in
    let n4 : c.args.number ≢ 4 = omega arith in
    let n5 : c.args.number ≢ 5 = omega arith in
    let n6 : c.args.number ≢ 6 = omega arith in
    let n7 : c.args.number ≢ 7 = omega arith in
    let n8 : c.args.number ≢ 8 = omega arith in
    let n9 : c.args.number ≢ 9 = omega arith in
    let n10 : c.args.number ≢ 10 = omega arith in
    rw (ne_eqb _ 1 n1, ne_eqb _ 2 n2, ne_eqb _ 3 n3, ne_eqb _ 4 n4, ne_eqb _ 5 n5, ne_eqb _ 6 n6, ne_eqb _ 7 n7, ne_eqb _ 8 n8, ne_eqb _ 9 n9, ne_eqb _ 10 n10)
