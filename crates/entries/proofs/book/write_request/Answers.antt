use Rattle.std.proofs.Common.{arith}
use Rattle.entries.proofs.WrittenLaws.{written_first}
use Rattle.entries.proofs.book.write_request.Goals as goal

pub returns : goal.returns
returns c =
    written_first c.args.table.now c.args.at _ _ c.args.containers.now _ (omega arith)
    c.copy_from_slice.ensures.after (omega arith)
