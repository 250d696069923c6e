use Rattle.std.proofs.Common.{refl, arith}
use Rattle.sample.proofs.Keeping.{keeps}
use Rattle.speed.proofs.count_reports.Goals as goal

pub loop-n-preserved : goal.loop-n-preserved
loop-n-preserved g c = λ slip h. keeps c.usage.ensures.does refl (omega arith) slip (c.loop-n.invariant slip h)
