use Rattle.std.proofs.Common.{arith}
use Rattle.session.specs.declared.event.Event.TheVariants.{Shelve}
use Rattle.session.specs.View.{view}
use Rattle.session.proofs.Decided.{decided_fits, shelving_closes_none}
use Rattle.session.proofs.ledger.Ledger.shelve.Goals as goal

pub perform-requires : goal.perform-requires
perform-requires c =
    let e = c.in_ok-act.ensures in
    let n = shelving_closes_none (view c.args.self.now) c.args.slip c.args.t c.in_ok-act.act e in
    record {
      fit = decided_fits c.args.self.now Shelve tt c.args.slip c.args.t c.in_ok-act.act e;
      space = omega (arith, n, c.args.self.now.waiting.ok.0, c.args.self.now.short);
      numbers = omega (arith, n);
    }
