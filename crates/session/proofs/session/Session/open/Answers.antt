use Rattle.std.proofs.Common.{rules, ◌≡◌, Err, refl}
use Rattle.session.specs.declared.event.Event.TheVariants.{Open as Opening}
use Rattle.session.specs.Answers.{told_opening}
use Rattle.session.specs.Steps.{fed}
use Rattle.session.specs.View.{view}
use Rattle.session.proofs.Lawful.{carried}
use Rattle.session.proofs.session.Session.open.Goals as goal

pub returns-clause-does : goal.returns-clause-does
returns-clause-does g c =
    (carried g.M.Key.LineKey.coding g.met.M.Key.LineKey.distinct g.met.M.Key.LineKey.kinds g.M.Method.column g.met.M.Method.tariff
    (view c.args.self.now.ledger) _ (fed Opening 0 c.args.t (g.F.Taker.room c.args.function.now) (g.F.ChargingFunction.profile c.args.function.now)) told_opening _ refl _ g.F.Taker.book g.F.Taker.took c.args.function.now _ c.in_ok-opened.ensures.comes).0

pub returns-in_err-opened-clause-does : goal.returns-in_err-opened-clause-does
returns-in_err-opened-clause-does g c =
    let e : c.from_residual.result ≡ Err c.in_err-opened.field-0.0 = search rules in
    rw e
    (carried g.M.Key.LineKey.coding g.met.M.Key.LineKey.distinct g.met.M.Key.LineKey.kinds g.M.Method.column g.met.M.Method.tariff
    (view c.args.self.now.ledger) _ (fed Opening 0 c.args.t (g.F.Taker.room c.args.function.now) (g.F.ChargingFunction.profile c.args.function.now)) told_opening _ refl _ g.F.Taker.book g.F.Taker.took c.args.function.now _ c.in_err-opened.ensures.comes).0
