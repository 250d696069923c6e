use Rattle.std.proofs.Common.{arith}
use Rattle.journal.proofs.LayoutLaws.{header_writes}
use Rattle.journal.proofs.layout.write_header.Goals as goal

pub returns : goal.returns
returns c = cc (header_writes c.args.bytes.now c.args.entries c.args.requests (omega arith))
