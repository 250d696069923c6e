use Rattle.session.specs.declared.event.Event.TheVariants.{Finish}
use Rattle.session.proofs.Decided.{decided_fits}
use Rattle.session.proofs.ledger.Ledger.finish.Goals as goal

pub perform-requires-clause-fit : goal.perform-requires-clause-fit
perform-requires-clause-fit g c =
    decided_fits c.args.self.now (Finish c.args.cause) tt c.args.slip c.args.t c.in_ok-act.act c.in_ok-act.ensures
