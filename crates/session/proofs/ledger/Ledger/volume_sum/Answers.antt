use Rattle.std.proofs.Common.{vec_items, arith}
use Rattle.session.proofs.Bounds.{volume_bound}
use Rattle.session.proofs.ledger.Ledger.volume_sum.Goals as goal

pub overflow_add-result-2 : goal.overflow_add-result-2
overflow_add-result-2 c =
    omega (arith, volume_bound c.args.self.now.last (vec_items c.args.self.now.lines) c.args.self.now.sound, c.args.self.now.counted, c.args.self.now.few, c.args.self.now.lines.ok.0)
