use Rattle.journal.proofs.JournalLaws.{reads_back}
use Rattle.journal.proofs.journal.Journal.reader.Goals as goal

pub returns-clause-back : goal.returns-clause-back
returns-clause-back c = reads_back c.args.self.now _ c.new.ensures.value
