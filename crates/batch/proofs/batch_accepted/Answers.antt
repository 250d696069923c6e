use Rattle.std.proofs.Common.{false, refl, ap, ◌∙◌}
use Rattle.session.specs.State.{State}
use Rattle.batch.specs.Batch.{accepted_on}
use Rattle.batch.proofs.batch_accepted.Goals as goal

pub returns-in-Ok : goal.returns-in-Ok
returns-in-Ok c =
    let m = c.in-Ok.ensures in
    (m.memory, c.count_accepted.ensures ∙ ap (λ (s : State). accepted_on s c.args.calls.now) m.becomes)

pub returns : goal.returns
returns c = (false, refl)
