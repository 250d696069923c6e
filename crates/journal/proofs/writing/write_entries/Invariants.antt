use Rattle.std.proofs.Common.{◌≡◌, take}
use Rattle.std.specs.List.{AllByRecursion}
use Rattle.entries.specs.Written.{written}
use Rattle.journal.specs.Layout.{EntryFits, all_bytes}
use Rattle.journal.proofs.writing.write_entries.Given as goal

abbrev pub invariant-loop-i : goal.invariant-loop-i
invariant-loop-i l = record {
  bytes : l.bytes ≡ written l.initial.bytes l.at (all_bytes (take l.i l.es));
  fits : AllByRecursion EntryFits (take l.i l.es);
}
