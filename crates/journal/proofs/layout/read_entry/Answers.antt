use Rattle.std.proofs.Common.{arith}
use Rattle.journal.proofs.LayoutLaws.{entry_reads}
use Rattle.journal.proofs.layout.read_entry.Goals as goal

pub returns : goal.returns
returns c = cc (entry_reads c.args.bytes.now (omega arith))
