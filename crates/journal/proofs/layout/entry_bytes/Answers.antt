use Rattle.std.proofs.Common.{◌≡◌, ◌%◌, replicate, refl, arith}
use Rattle.journal.specs.Layout.{entry_size}
use Rattle.journal.proofs.LayoutLaws.{entry_writes}
use Rattle.journal.proofs.layout.entry_bytes.Goals as goal

pub returns-clause-bytes : goal.returns-clause-bytes
returns-clause-bytes c =
    let kind : c.args.e.kind % 256 ≡ c.args.e.kind = omega arith in
    let cause : c.args.e.cause % 256 ≡ c.args.e.cause = omega arith in
    cc (entry_writes (replicate entry_size 0) c.args.e refl)
