use Rattle.std.proofs.Common.{rules, [], sym, refl, ◌∙◌}
use Rattle.session.specs.declared.event.Event.TheVariants.{Finish}
use Rattle.session.specs.Answers.{told_finish}
use Rattle.session.specs.Steps.{fed}
use Rattle.session.specs.View.{view}
use Rattle.session.proofs.Lawful.{carried}
use Rattle.session.proofs.session.Session.finish.Goals as goal

pub returns : goal.returns
returns g c =
    let e = rw (← c.settle.ensures.same) at c.finish-answer.ensures.comes in
    let s = view c.args.self.now.ledger in
    let d = carried g.M.Key.LineKey.coding g.met.M.Key.LineKey.distinct g.met.M.Key.LineKey.kinds g.M.Method.column g.met.M.Method.tariff
    s _ (fed (Finish c.args.cause) c.args.slip.id c.args.t (g.T.Taker.room c.args.taker.now) []) told_finish _ refl _ g.T.Taker.book g.T.Taker.took c.args.taker.now _ e in
    record { does = d.0; lends = d.1; back = c.settle.ensures.back; refused = λ h. let r = c.finish-answer.ensures.refused (sym c.settle.ensures.alike ∙ h) in search rules }
