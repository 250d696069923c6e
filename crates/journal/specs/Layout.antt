-- The layout of a journal: a header of four numbers, and entries one after the other.
use Rattle.std.specs.Prelude.{ℕ, zero, suc, ◌+◌, ◌-◌, ◌*◌, ◌/◌, List, [], ◌∷◌, ◌++◌, length, take, drop, slice_index}
use Rattle.std.specs.List.{flat_map}
use Rattle.entries.specs.declared.entry.Entry.{Entry}
use Rattle.entries.specs.Written.{written}
use Rattle.journal.specs.Codec.{value, pack, unpack, Fit, total, place_of}

-- the widths of an entry: kind, cause, period, number, from, to, code, uplink, downlink
abbrev pub entry_widths : List ℕ
entry_widths = 1 ∷ 1 ∷ 2 ∷ 4 ∷ 4 ∷ 4 ∷ 8 ∷ 8 ∷ 8 ∷ []

abbrev pub entry_size : ℕ
entry_size = total entry_widths

abbrev pub fields : Entry → List ℕ
fields e = e.kind ∷ e.cause ∷ e.period ∷ e.number ∷ e.from ∷ e.to ∷ e.code ∷ e.uplink.0 ∷ e.downlink.0 ∷ []

abbrev pub of_fields : List ℕ → Entry
of_fields vs = record {
  kind = slice_index vs 0;
  cause = slice_index vs 1;
  period = slice_index vs 2;
  number = slice_index vs 3;
  from = slice_index vs 4;
  to = slice_index vs 5;
  code = slice_index vs 6;
  uplink = record { 0 = slice_index vs 7 };
  downlink = record { 0 = slice_index vs 8 };
}

unfoldable pub entry_bytes : Entry → List ℕ
entry_bytes e = pack entry_widths (fields e)

-- the entry that the first bytes of a list write
unfoldable pub entry_of : List ℕ → Entry
entry_of bs = of_fields (unpack entry_widths bs)

-- the fields of an entry fit their widths
unfoldable pub EntryFits : Entry → Type 0
EntryFits e = Fit entry_widths (fields e)

-- the bytes of a number of the header
abbrev pub word_size : ℕ
word_size = 4

-- the widths of the header: entries, requests, free offset, spare
abbrev pub header_widths : List ℕ
header_widths = word_size ∷ word_size ∷ word_size ∷ word_size ∷ []

abbrev pub header_size : ℕ
header_size = total header_widths

-- where its numbers begin
abbrev pub entries_at : ℕ
entries_at = place_of 0 header_widths

abbrev pub requests_at : ℕ
requests_at = place_of 1 header_widths

abbrev pub free_at : ℕ
free_at = place_of 2 header_widths

abbrev pub spare_at : ℕ
spare_at = place_of 3 header_widths

-- what the spare number is
abbrev pub spare : ℕ
spare = 0

-- the most bytes of a journal
abbrev pub most_bytes : ℕ
most_bytes = 1048576

-- where the entry of an index begins; that of n entries, the free offset, is where the next one would
abbrev pub entry_offset : ℕ → ℕ
entry_offset i = header_size + entry_size * i

abbrev pub header_fields : (entries requests : ℕ) → List ℕ
header_fields n q = n ∷ q ∷ entry_offset n ∷ spare ∷ []

unfoldable pub header_bytes : (entries requests : ℕ) → List ℕ
header_bytes n q = pack header_widths (header_fields n q)

-- the bytes of entries, one after the other
abbrev pub all_bytes : List Entry → List ℕ
all_bytes es = flat_map entry_bytes es

-- the header and the bytes of these entries, which are so many requests
abbrev pub journal_bytes : (requests : ℕ) → List Entry → List ℕ
journal_bytes q es = header_bytes (length es) q ++ all_bytes es

-- the first n entries that bytes write, in a layout: the bytes of an entry, and how one is read
abbrev pub entries_by : (size : ℕ) → (List ℕ → Entry) → (n : ℕ) → List ℕ → List Entry
entries_by size dec zero bs = []
entries_by size dec (suc n) bs = dec bs ∷ entries_by size dec n (drop size bs)

abbrev pub entries_in : (n : ℕ) → List ℕ → List Entry
entries_in n bs = entries_by entry_size entry_of n bs

-- a number of the header, by its place
abbrev pub word : (place : ℕ) → List ℕ → ℕ
word place bs = value (take word_size (drop place bs))

-- the first n entries behind the header
abbrev pub book_in : (n : ℕ) → List ℕ → List Entry
book_in n bs = entries_in n (drop header_size bs)

-- how many entries fit behind n in so many bytes
abbrev pub room_for : (bytes n : ℕ) → ℕ
room_for bytes n = (bytes - entry_offset n) / entry_size

-- the bytes of a journal of n entries in q requests after one more: its entries from the free offset on, and the header of
-- all; every other byte stays
abbrev pub grown : List ℕ → (n q : ℕ) → List Entry → List ℕ
grown bs n q es = written (written bs (entry_offset n) (all_bytes es)) 0 (header_bytes (n + length es) (q + 1))
