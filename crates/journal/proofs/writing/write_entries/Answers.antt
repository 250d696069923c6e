use Rattle.std.proofs.Common.{sym, arith}
use Rattle.std.proofs.ByRecursion.{All-more}
use Rattle.entries.proofs.WrittenLaws.{written_none}
use Rattle.journal.specs.Layout.{EntryFits}
use Rattle.journal.proofs.LayoutLaws.{append_more}
use Rattle.journal.proofs.writing.write_entries.Goals as goal

pub loop-i-init : goal.loop-i-init
loop-i-init c = record { bytes = sym (written_none _ _); fits = tt }

pub loop-i-preserved : goal.loop-i-preserved
loop-i-preserved c = record {
  bytes =
      append_more c.args.bytes.now c.args.at c.args.es.now c.loop-i.i _ _ _ _
      c.loop-i-test.true (omega arith) c.loop-i.invariant.bytes c.entry_bytes.ensures.bytes c.put.ensures;
  fits = All-more EntryFits c.args.es.now c.loop-i.i _ c.loop-i-test.true c.loop-i.invariant.fits c.entry_bytes.ensures.fits;
}
