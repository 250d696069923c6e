use Rattle.std.proofs.Common.{arith}
use Rattle.journal.specs.Layout.{header_widths}
use Rattle.journal.proofs.CodecLaws.{words_read}
use Rattle.journal.proofs.layout.read_header.Goals as goal

pub returns : goal.returns
returns c =
    let w = words_read 0 header_widths c.args.bytes.now (omega arith) in
    record { entries = cc; requests = cc; free = cc; spare = cc }
