use Rattle.std.proofs.Common.{ap, ◌∙◌, arith}
use Rattle.std.proofs.lemmas.Bool.{false≢true}
use Rattle.entries.specs.Columns.{converged}
use Rattle.entries.specs.Keys.{services}
use Rattle.session.specs.Steps.{is_accepted}
use Rattle.session.specs.View.{view}
use Rattle.session.proofs.Staying.{shelves}
use Rattle.batch.proofs.give_back.Goals as goal

pub unreachable-requires : goal.unreachable-requires
unreachable-requires c =
    false≢true (ap is_accepted c.in-Err.ensures.does.answers
    ∙ shelves services converged (view c.args.session.now.ledger) c.args.slip.id c.last.result
    (record { phase = c.requires.phase; own = c.requires.own; late = omega (arith, c.last.ensures) }))
