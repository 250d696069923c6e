-- The entries that a reader shows.
use Rattle.std.specs.Prelude.{ℕ, List, map, Some, None, Ok, Err, Option, Result}
use Rattle.std.specs.List.{slice_get}
use Rattle.entries.specs.declared.entry.Entry.{Entry}
use Rattle.journal.specs.declared.fault.Fault.{Fault}
use Rattle.journal.specs.declared.fault.PastEnd.{PastEnd}
use Rattle.journal.specs.declared.reader.Reader.{Reader}
use Rattle.journal.specs.declared.reader.Entries.{Entries}
use Rattle.journal.specs.Layout.{entry_of}

abbrev pub shown : Reader → List Entry
shown d = map entry_of d.entries.now

-- the entries that are left to come
abbrev pub left_of : Entries → List Entry
left_of s = map entry_of s.rest.now

-- a reader's making by what it shows
abbrev pub answer : Result Reader Fault → Result (List Entry) Fault
answer (Ok d) = Ok (shown d)
answer (Err f) = Err f

-- the entry of an index, refused past the end
abbrev pub or_past_end : Option Entry → Result Entry PastEnd
or_past_end None = Err (record {})
or_past_end (Some e) = Ok e

abbrev pub entry_at : List Entry → (index : ℕ) → Result Entry PastEnd
entry_at es i = or_past_end (slice_get es i)
