-- What a reader answers of any bytes, and what its answer says.
use Rattle.std.specs.Prelude.{◌≡◌, ℕ, Bool, true, false, cond, ◌&&◌, List, length, take, Ok, Err, Result, ◌==◌, nat_le}
use Rattle.std.specs.List.{AllByRecursion}
use Rattle.entries.specs.declared.entry.Entry.{Entry}
use Rattle.entries.specs.Sequences.{requests_in, Requests, StopsAt}
use Rattle.journal.specs.declared.fault.Fault.{Fault}
use Rattle.journal.specs.declared.fault.Fault.TheVariants.{Length, FreeOffset, Spare, Form, RequestCount}
use Rattle.journal.specs.Layout.{header_size, most_bytes, spare, entries_at, requests_at, free_at, spare_at, entry_offset, word, book_in, journal_bytes, EntryFits}

-- the bytes are neither too few nor too many
abbrev pub sized : List ℕ → Bool
sized bs = nat_le header_size (length bs) && nat_le (length bs) most_bytes

-- the free offset is that of as many entries, and not past the end
abbrev pub ended : List ℕ → Bool
ended bs = word free_at bs == entry_offset (word entries_at bs) && nat_le (word free_at bs) (length bs)

abbrev pub spared : List ℕ → Bool
spared bs = word spare_at bs == spare

-- as many entries behind the header as it says
abbrev pub entries_told : List ℕ → List Entry
entries_told bs = book_in (word entries_at bs) bs

-- the requests that entries are, or the place of the first that breaks the form of a request
abbrev pub placed : Result ℕ ℕ → Result ℕ Fault
placed (Ok count) = Ok count
placed (Err index) = Err (Form (entry_offset index))

-- the entries, or the first that breaks the form of a request; the request count is compared last
abbrev pub counted : (requests : ℕ) → List Entry → Result ℕ ℕ → Result (List Entry) Fault
counted q es (Ok count) = cond (count == q) (Ok es) (Err RequestCount)
counted q es (Err index) = Err (Form (entry_offset index))

-- the entries of a journal, or what is wrong with it
unfoldable pub read : List ℕ → Result (List Entry) Fault
read bs =
    cond (sized bs)
    (cond (ended bs)
    (cond (spared bs)
    (counted (word requests_at bs) (entries_told bs) (requests_in (entries_told bs)))
    (Err Spare))
    (Err FreeOffset))
    (Err (Length (length bs)))

-- what it says

-- up to the free offset the bytes are the header and the encoding of these entries, which are well-formed requests
pub record JournalOf (bs : List ℕ) (es : List Entry) : Type 0 where
  pub size : sized bs ≡ true
  pub requests : ℕ
  pub formed : Requests requests es
  pub bytes : take (entry_offset (length es)) bs ≡ journal_bytes requests es

-- the header has the right free offset and spare
pub record Framed (bs : List ℕ) : Type 0 where
  pub size : sized bs ≡ true
  pub end : ended bs ≡ true
  pub rest : spared bs ≡ true

-- an entry is the first at which the entries stop being well-formed requests, and begins at that place
pub record Broken (bs : List ℕ) (place : ℕ) : Type 0 where
  pub frame : Framed bs
  pub index : ℕ
  pub at : place ≡ entry_offset index
  pub stops : StopsAt index (entries_told bs)

-- the entries are well-formed requests, and not as many as the header says
pub record Miscounted (bs : List ℕ) : Type 0 where
  pub frame : Framed bs
  pub requests : ℕ
  pub formed : Requests requests (entries_told bs)
  pub other : requests ≡ word requests_at bs → ⊥

abbrev pub Wrong : List ℕ → Fault → Type 0
Wrong bs (Length n) = (n ≡ length bs) × (sized bs ≡ false)
Wrong bs FreeOffset = (sized bs ≡ true) × (ended bs ≡ false)
Wrong bs Spare = (sized bs ≡ true) × (ended bs ≡ true) × (spared bs ≡ false)
Wrong bs (Form place) = Broken bs place
Wrong bs RequestCount = Miscounted bs

abbrev pub Meant : List ℕ → Result (List Entry) Fault → Type 0
Meant bs (Ok es) = JournalOf bs es
Meant bs (Err f) = Wrong bs f

-- bytes that are a journal of entries whose fields fit their widths are accepted, and show these entries
abbrev pub Complete : List ℕ → Result (List Entry) Fault → Type 0
Complete bs r = (es : List Entry) → AllByRecursion EntryFits es → JournalOf bs es → r ≡ Ok es
