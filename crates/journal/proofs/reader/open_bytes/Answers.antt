use Rattle.std.proofs.Common.{arith}
use Rattle.std.proofs.lemmas.Bool.Decides.{nat_tests}
use Rattle.std.proofs.lemmas.Grind.{common_steps}
use Rattle.journal.specs.Layout.{word, requests_at}
use Rattle.journal.specs.Reading.{read}
use Rattle.journal.proofs.ReadingLaws.{counted_read}
use Rattle.journal.proofs.reader.open_bytes.Goals as goal

pub returns-in_err-requests : goal.returns-in_err-requests
unfolding read
returns-in_err-requests c =
    let h = counted_read c.args.bytes.now c.read_header-header.result.entries c.read_header-header.result.free (word requests_at c.args.bytes.now) _ _
    (omega arith) (omega arith) c.as_chunks.ensures.front c.in_err-requests.ensures in
    grind (arith, nat_tests, common_steps)

pub returns-then-requests-header : goal.returns-then-requests-header
unfolding read
returns-then-requests-header c =
    let h = counted_read c.args.bytes.now c.read_header-header.result.entries c.read_header-header.result.free (word requests_at c.args.bytes.now) _ _
    (omega arith) (omega arith) c.as_chunks.ensures.front c.in_ok-requests.ensures in
    grind (arith, nat_tests)

pub returns : goal.returns
unfolding read
returns c =
    let h = counted_read c.args.bytes.now c.read_header-header.result.entries c.read_header-header.result.free (word requests_at c.args.bytes.now) _ _
    (omega arith) (omega arith) c.as_chunks.ensures.front c.in_ok-requests.ensures in
    grind (arith, nat_tests)
