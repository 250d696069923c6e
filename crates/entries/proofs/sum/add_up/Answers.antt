use Rattle.std.proofs.Common.{◌≡◌, ◌+◌, cond, get_or, arith}
use Rattle.std.proofs.ByRecursion.{All-get_or}
use Rattle.std.proofs.lemmas.Bool.Decides.{nat_tests}
use Rattle.entries.specs.Octets.{up, down}
use Rattle.entries.specs.Sums.{Within}
use Rattle.entries.proofs.SumLaws.{blank, added_more, added_all, bound_more}
use Rattle.entries.proofs.sum.add_up.Goals as goal
use Rattle.entries.proofs.sum.add_up.Goals.{then-counts_for, else-counts_for}

pub overflow_add-uplink : goal.overflow_add-uplink
overflow_add-uplink c = let w = All-get_or Within c.args.entries.now c.loop-e.e-index blank c.loop-e-test.true c.requires.within in omega arith

pub overflow_add-downlink : goal.overflow_add-downlink
overflow_add-downlink c = let w = All-get_or Within c.args.entries.now c.loop-e.e-index blank c.loop-e-test.true c.requires.within in omega arith

pub loop-e-preserved : goal.loop-e-preserved
loop-e-preserved c =
    let es = c.args.entries.now in
    let i = c.loop-e.e-index in
    let b = c.counts_for.result in
    let w = All-get_or Within es i blank c.loop-e-test.true c.requires.within in
    let u : c.if-counts_for.uplink ≡ c.loop-e.uplink + cond b (get_or es i blank).uplink.0 0 =
    elim c.if-counts_for.branch [ then-counts_for w ↦ grind (arith, nat_tests) | else-counts_for w ↦ grind (arith, nat_tests) ] in
    let d : c.if-counts_for.downlink ≡ c.loop-e.downlink + cond b (get_or es i blank).downlink.0 0 =
    elim c.if-counts_for.branch [ then-counts_for w ↦ grind (arith, nat_tests) | else-counts_for w ↦ grind (arith, nat_tests) ] in (
      bound_more b _ _ _ i w.0 c.loop-e.invariant.0 u,
      bound_more b _ _ _ i w.1 c.loop-e.invariant.1 d,
      added_more up _ _ es i b _ _ _ c.loop-e-test.true c.counts_for.ensures u c.loop-e.invariant.2,
      added_more down _ _ es i b _ _ _ c.loop-e-test.true c.counts_for.ensures d c.loop-e.invariant.3,
    )

pub returns : goal.returns
returns c =
    let u = added_all up c.args.line c.args.period c.args.entries.now _ _ c.loop-e-test.false c.loop-e.invariant.2 in
    let d = added_all down c.args.line c.args.period c.args.entries.now _ _ c.loop-e-test.false c.loop-e.invariant.3 in
    cc
