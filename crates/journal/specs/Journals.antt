-- What a journal holds, what it is after a request, and how it is made.
use Rattle.std.specs.Prelude.{◌≡◌, ℕ, suc, ◌+◌, ◌≤◌, true, List, [], ◌∷◌, ◌++◌, length, take, Some, None, Ok, Err, Option, Result}
use Rattle.std.specs.Borrow.{MutBor}
use Rattle.std.specs.List.{AllByRecursion}
use Rattle.entries.specs.declared.entry.Entry.{Entry}
use Rattle.entries.specs.declared.taker.Override.{Override}
use Rattle.entries.specs.declared.making.Unmade.{Unmade}
use Rattle.entries.specs.declared.making.Refused.{Refused}
use Rattle.entries.specs.Makings.{unmade}
use Rattle.entries.specs.Requests.{well_formed}
use Rattle.entries.specs.Written.{written}
use Rattle.journal.specs.declared.fault.Fault.{Fault}
use Rattle.journal.specs.declared.journal.Journal.{Journal}
use Rattle.journal.specs.Layout.{header_size, most_bytes, header_bytes, entry_offset, EntryFits, journal_bytes, book_in, room_for, grown}
use Rattle.journal.specs.Reading.{read}

abbrev pub bytes_of : Journal → List ℕ
bytes_of j = j.bytes.now

-- each request has a head besides its containers
abbrev pub entry_count : Journal → ℕ
entry_count j = j.requests + j.containers

-- the entries taken
abbrev pub entries_of : Journal → List Entry
entries_of j = book_in (entry_count j) (bytes_of j)

-- the entries that it would accept
abbrev pub places_left : Journal → ℕ
places_left j = room_for (length (bytes_of j)) (entry_count j)

abbrev pub overrides_of : Journal → List Override
overrides_of j = j.profile

-- the journal after a request that it takes: its entries are written behind those taken before, the header follows, and no
-- other byte changes
pub record Grown (before : Journal) (head : Entry) (containers : List Entry) (after : Journal) : Type 0 where
  pub bytes : bytes_of after ≡ grown (bytes_of before) (entry_count before) before.requests (head ∷ containers)
  pub requests : after.requests ≡ before.requests + 1
  pub containers_taken : after.containers ≡ before.containers + length containers
  pub overrides : overrides_of after ≡ overrides_of before
  pub formed : well_formed head containers ≡ true
  pub room : length containers + 1 ≤ places_left before
  pub fit : AllByRecursion EntryFits (head ∷ containers)

-- why a making is refused
abbrev pub unmade_journal : (overrides bytes : ℕ) → Option Unmade
unmade_journal overrides bytes = unmade overrides bytes header_size most_bytes

-- an empty journal over lent bytes, of which the making writes the header alone, with a profile
pub record NewJournal (lent : List ℕ) (profile : List Override) (j : Journal) : Type 0 where
  pub bytes : bytes_of j ≡ written lent 0 (header_bytes 0 0)
  pub requests : j.requests ≡ 0
  pub containers : j.containers ≡ 0
  pub overrides : overrides_of j ≡ profile

-- a journal is made where nothing stands against it; a refused making gives the bytes back as they were
abbrev pub JournalMade : List ℕ → List Override → Result Journal (Refused Unmade (MutBor (List ℕ))) → Type 0
JournalMade lent profile (Ok j) = (unmade_journal (length profile) (length lent) ≡ None) × NewJournal lent profile j
JournalMade lent profile (Err r) = (unmade_journal (length profile) (length lent) ≡ Some r.why) × (r.left.now ≡ lent)

-- a journal that was made and then took so many requests, with these entries
pub data Used : Journal → (requests : ℕ) → List Entry → Type 0 where
  made : {lent : List ℕ} {profile : List Override} {j : Journal} → JournalMade lent profile (Ok j) → Used j 0 []
  took : {j k : Journal} {q : ℕ} {es : List Entry} {h : Entry} {cs : List Entry} → Used j q es → Grown j h cs k → Used k (suc q) (es ++ (h ∷ cs))

-- what a journal's own reader answers
abbrev pub reading : Journal → Result (List Entry) Fault
reading j = read (bytes_of j)

-- reading a journal gives exactly the entries taken, and these written again are its bytes up to the free offset
pub record ReadsBack (j : Journal) (requests : ℕ) (es : List Entry) (r : Result (List Entry) Fault) : Type 0 where
  pub entries : r ≡ Ok es
  pub book : es ≡ entries_of j
  pub bytes : take (entry_offset (length es)) (bytes_of j) ≡ journal_bytes requests es

-- so it is whatever a journal took since its making
abbrev pub Faithful : Journal → Result (List Entry) Fault → Type 0
Faithful j r = (requests : ℕ) (es : List Entry) → Used j requests es → ReadsBack j requests es r
