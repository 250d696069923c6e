use Rattle.std.proofs.Common.{arith}
use Rattle.journal.proofs.GrowthLaws.{request_grown}
use Rattle.journal.proofs.writing.write_request.Goals as goal

pub returns-clause-bytes : goal.returns-clause-bytes
returns-clause-bytes c =
    request_grown c.args.bytes.now c.args.entries c.args.requests c.args.head.now c.args.containers.now _ _ _ _ _
    (omega arith) c.entry_offset-free.ensures c.entry_bytes.ensures.bytes c.put.ensures c.write_entries.ensures.bytes c.write_header.ensures
