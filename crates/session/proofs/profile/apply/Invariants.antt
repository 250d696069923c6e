use Rattle.session.proofs.Overrides.{Turn}
use Rattle.session.proofs.profile.apply.Given as goal

abbrev pub invariant-loop-i : goal.invariant-loop-i
invariant-loop-i g l = Turn g.M.Method.column (g.F.ChargingFunction.profile l.function) l.initial.settings l.settings l.i l.applied l.seen
