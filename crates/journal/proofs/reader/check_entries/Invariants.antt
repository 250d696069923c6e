use Rattle.std.proofs.Common.{◌≡◌, ◌+◌, map, length, drop}
use Rattle.entries.specs.Sequences.{judge, requests_in}
use Rattle.journal.specs.Layout.{entry_of}
use Rattle.journal.proofs.reader.check_entries.Given as goal

abbrev pub invariant-loop-i : goal.invariant-loop-i
invariant-loop-i l = record {
  left : l.sequence.left + l.i ≡ length l.entries;
  judged : judge l.i l.sequence.due l.sequence.requests (drop l.i (map entry_of l.entries)) ≡ requests_in (map entry_of l.entries);
}
