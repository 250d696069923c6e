use Rattle.std.proofs.Common.{true, false, ◌∙◌, arith}
use Rattle.session.proofs.Overrides.{turn_some, turn_past, turn_all}
use Rattle.session.proofs.profile.apply.Goals as goal
use Rattle.session.proofs.profile.apply.Goals.{in-Some+then-apply_one, in-Some+else-apply_one, in_default}

pub loop-i-preserved : goal.loop-i-preserved
loop-i-preserved g c =
    elim c.match-override_at.branch [
      | in-Some+then-apply_one w ↦
          turn_some w.in-Some.o _ true w.in-Some.ensures.value c.override_at.ensures.few w.rule.ensures w.if-apply_one.ensures.answer
          (w.settings-is ∙ w.apply_one.ensures.after) w.applied-is w.seen-is c.loop-i.invariant
      | in-Some+else-apply_one w ↦
          turn_some w.in-Some.o _ false w.in-Some.ensures.value c.override_at.ensures.few w.rule.ensures w.if-apply_one.ensures.answer
          (w.settings-is ∙ w.apply_one.ensures.after) (omega (arith, w.applied-is)) w.seen-is c.loop-i.invariant
      | in_default w ↦ turn_past w.in_default.ensures.value c.override_at.ensures.few w.settings-is w.applied-is w.seen-is c.loop-i.invariant
    ]

pub returns : goal.returns
returns g c =
    let k = turn_all c.loop-i-test.false c.loop-i.invariant in
    record { after = k.0; applied = k.1; passed = omega (arith, k.1, k.2) }
