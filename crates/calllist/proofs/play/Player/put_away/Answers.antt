use Rattle.std.proofs.Common.{rules, ap}
use Rattle.session.specs.Answers.{told_shelving}
use Rattle.session.specs.Slips.{without_slip}
use Rattle.session.specs.Steps.{is_accepted}
use Rattle.calllist.proofs.Holding.{takes}
use Rattle.calllist.proofs.play.Player.put_away.Goals as goal

pub unreachable-requires : goal.unreachable-requires
unreachable-requires g c =
    takes c.in-Some.slip c.shelve.ensures.does (ap (λ r. is_accepted (told_shelving (without_slip r))) c.in-Err.is) (search rules) (rw c.in-Some.is at c.args.self.holds)
