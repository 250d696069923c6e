use Rattle.std.proofs.Common.{◌≡◌, ◌+◌, ◌≤◌, cond, get_or, ap, ◌∙◌, arith}
use Rattle.std.proofs.lemmas.List.{at_drop_all}
use Rattle.std.proofs.lemmas.Bool.Decides.{nat_tests}
use Rattle.session.specs.State.{State}
use Rattle.session.specs.View.{view}
use Rattle.batch.specs.Batch.{accepted_of}
use Rattle.batch.proofs.Staying.{stays_open}
use Rattle.batch.proofs.Stepping.{no_call, accepted_more}
use Rattle.batch.proofs.make_calls.Goals as goal
use Rattle.batch.proofs.make_calls.Goals.{then-make_call, else-make_call}

pub loop-call-preserved : goal.loop-call-preserved
loop-call-preserved c =
    let cs = c.args.calls.now in
    let i = c.loop-call.call-index in
    let s = view c.loop-call.session.ledger in
    let e = c.make_call.ensures in
    let same = stays_open s (get_or cs i no_call) c.loop-call.invariant.3 in
    let n : c.if-make_call.accepted ≡ c.loop-call.accepted + cond c.make_call.result 1 0 =
    elim c.if-make_call.branch [ then-make_call w ↦ grind (arith, nat_tests) | else-make_call w ↦ grind (arith, nat_tests) ] in
    let up : cond c.make_call.result 1 0 ≤ 1 = grind (arith, nat_tests) in (
      accepted_more s (view c.make_call.new.session.ledger) cs i _ _ _ c.make_call.result c.loop-call-test.true e.answer e.after n c.loop-call.invariant.0,
      omega (arith, n, up, c.loop-call.invariant.1),
      e.down,
      ap (λ (x : State). x.marks.phase) e.after ∙ same.0,
      ap (λ (x : State). x.id) e.after ∙ same.1 ∙ c.loop-call.invariant.4,
    )

pub returns : goal.returns
returns c =
    let s = view c.loop-call.session.ledger in
    let none = at_drop_all (accepted_of s) c.args.calls.now c.loop-call.call-index c.loop-call-test.false in
    record { count = omega (arith, none, c.loop-call.invariant.0); phase = c.loop-call.invariant.3; id = c.loop-call.invariant.4 }
