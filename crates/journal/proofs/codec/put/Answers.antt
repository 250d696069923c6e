use Rattle.std.proofs.Common.{arith}
use Rattle.entries.proofs.WrittenLaws.{written_part}
use Rattle.journal.proofs.codec.put.Goals as goal

pub returns : goal.returns
returns g c = written_part c.args.out.now c.args.at _ c.args.bytes _ c.copy_from_slice.ensures.after (omega arith)
