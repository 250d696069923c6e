use Rattle.session.proofs.Decided.{decided_fits}
use Rattle.session.proofs.ledger.Ledger.carry_out.Goals as goal

pub perform-requires-clause-fit : goal.perform-requires-clause-fit
perform-requires-clause-fit g c =
    decided_fits c.args.self.now c.args.event c.requires 0 c.args.t c.in_ok-act.act c.in_ok-act.ensures
