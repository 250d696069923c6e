use Rattle.std.proofs.Common.{◌<◌, ◌∙◌, arith}
use Rattle.std.proofs.ByRecursion.{All-from_get_or}
use Rattle.journal.specs.Readers.{answer}
use Rattle.journal.proofs.ReadingLaws.{answer_meant}
use Rattle.journal.proofs.SoundLaws.{journal_read}
use Rattle.journal.proofs.reader.Reader.new.Goals as goal

pub returns-clause-meaning : goal.returns-clause-meaning
returns-clause-meaning c =
    answer_meant c.args.bytes.now (All-from_get_or (λ b. b < 256) c.args.bytes.now 0 (λ i l. omega (arith, c.type_inv.bytes i)))
    (answer c.open_bytes.result) c.open_bytes.ensures

pub returns-clause-complete : goal.returns-clause-complete
returns-clause-complete c = λ es fit g. c.open_bytes.ensures ∙ journal_read c.args.bytes.now es fit g
