use Rattle.std.proofs.Common.{rules, tests}
use Rattle.session.specs.Profiles.{setting_made}
use Rattle.session.specs.State.{no_setting}
use Rattle.session.proofs.Filling.{filled}
use Rattle.session.proofs.thresholds.Thresholds.settings.Goals as goal

pub returns : goal.returns
returns g c =
    filled _ (λ n. setting_made (g.M.Method.column n) c.args.self.now n) _ (λ n x q k. search (rules, tests)) no_setting c.from_fn.result 21 c.from_fn.ensures.items
