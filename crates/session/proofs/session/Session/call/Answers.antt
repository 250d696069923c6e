use Rattle.std.proofs.Common.{rules, []}
use Rattle.session.specs.Answers.{told_report}
use Rattle.session.specs.Steps.{fed}
use Rattle.session.specs.View.{view}
use Rattle.session.proofs.Lawful.{carried, reports}
use Rattle.session.proofs.session.Session.call.Goals as goal

pub returns : goal.returns
returns g c =
    let e = rw c.see.ensures.seen at c.call.ensures.comes in
    let s = view c.args.self.now.ledger in
    let d = carried g.M.Key.LineKey.coding g.met.M.Key.LineKey.distinct g.met.M.Key.LineKey.kinds g.M.Method.column g.met.M.Method.tariff
    s _ (fed c.args.event 0 c.args.t (g.T.Taker.room c.args.taker.now) []) told_report _ (reports g.M.Key.LineKey.coding g.M.Method.column s c.args.event c.args.t (g.T.Taker.room c.args.taker.now) c.requires) _ g.T.Taker.book g.T.Taker.took c.args.taker.now _ e in
    record { does = d.0; lends = d.1; refused = search rules }
