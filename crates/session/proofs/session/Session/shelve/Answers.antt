use Rattle.std.proofs.Common.{rules, [], sym, ap, ◌∙◌}
use Rattle.session.specs.declared.event.Event.TheVariants.{Shelve}
use Rattle.session.specs.Answers.{told_shelving}
use Rattle.session.specs.Deciding.{decide}
use Rattle.session.specs.Steps.{fed}
use Rattle.session.specs.View.{view}
use Rattle.session.proofs.Lawful.{does, shelving_adds}
use Rattle.session.proofs.session.Session.shelve.Goals as goal

pub returns : goal.returns
returns g c =
    let e = c.shelve-answer.ensures in
    let s = view c.args.self.now.ledger in
    record {
      does = does g.M.Key.LineKey.coding g.met.M.Key.LineKey.distinct g.met.M.Key.LineKey.kinds g.M.Method.column g.met.M.Method.tariff
          s _ (fed Shelve c.args.slip.id c.args.t 0 []) _ (ap told_shelving (c.settle.ensures.same ∙ e.answer)) e.after;
      adds = shelving_adds s c.args.t (decide s Shelve c.args.slip.id c.args.t);
      back = c.settle.ensures.back;
      refused = λ h. let r = e.refused (sym c.settle.ensures.alike ∙ h) in search rules;
    }
