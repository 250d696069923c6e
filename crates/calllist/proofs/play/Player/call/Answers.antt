use Rattle.std.proofs.Common.{refl}
use Rattle.calllist.proofs.Holding.{keeps}
use Rattle.calllist.proofs.play.Player.call.Goals as goal

pub invariant_of-self : goal.invariant_of-self
invariant_of-self g c = record { holds = keeps c.start.ensures.does refl _ c.args.self.now.holds }

pub invariant_of-self-in-Usage : goal.invariant_of-self-in-Usage
invariant_of-self-in-Usage g c = record { holds = keeps c.usage.ensures.does refl _ c.args.self.now.holds }

pub invariant_of-self-in-End : goal.invariant_of-self-in-End
invariant_of-self-in-End g c = record { holds = keeps c.end.ensures.does refl _ c.args.self.now.holds }

pub invariant_of-self-in-Change : goal.invariant_of-self-in-Change
invariant_of-self-in-Change g c = record { holds = keeps c.change.ensures.does refl _ c.args.self.now.holds }

pub invariant_of-self-in-Tick : goal.invariant_of-self-in-Tick
invariant_of-self-in-Tick g c = record { holds = keeps c.tick.ensures.does refl _ c.args.self.now.holds }

pub invariant_of-self-in-Intervene : goal.invariant_of-self-in-Intervene
invariant_of-self-in-Intervene g c = record { holds = keeps c.intervene.ensures.does refl _ c.args.self.now.holds }

pub invariant_of-self-in-Push : goal.invariant_of-self-in-Push
invariant_of-self-in-Push g c = record { holds = keeps c.push.ensures.does refl _ c.args.self.now.holds }
