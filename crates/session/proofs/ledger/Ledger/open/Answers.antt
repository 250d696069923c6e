use Rattle.std.proofs.Common.{arith}
use Rattle.session.specs.declared.event.Event.TheVariants.{Open as Opening}
use Rattle.session.specs.View.{view}
use Rattle.session.proofs.Decided.{decided_fits, opening_closes_none}
use Rattle.session.proofs.ledger.Ledger.open.Goals as goal

pub perform-requires : goal.perform-requires
perform-requires g c =
    let self = c.args.self.now in
    let none = opening_closes_none (view self) 0 c.args.t c.in_ok-act.act c.in_ok-act.ensures in
    record {
      fit = decided_fits self Opening tt 0 c.args.t c.in_ok-act.act c.in_ok-act.ensures;
      space = omega (arith, none, self.waiting.ok.0, self.short);
      numbers = omega (arith, none, self.numbered);
    }
