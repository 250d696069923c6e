-- What a book holds, what it is after a request, and how it is made.
use Rattle.std.specs.Prelude.{◌≡◌, ℕ, ◌+◌, ◌-◌, List, ◌∷◌, length, take, Some, None, Ok, Err, Option, Result}
use Rattle.std.specs.Borrow.{MutBor}
use Rattle.entries.specs.declared.entry.Entry.{Entry}
use Rattle.entries.specs.declared.taker.Override.{Override}
use Rattle.entries.specs.declared.making.Unmade.{Unmade}
use Rattle.entries.specs.declared.making.Refused.{Refused}
use Rattle.entries.specs.declared.book.Book.{Book}
use Rattle.entries.specs.Makings.{unmade}
use Rattle.entries.specs.Written.{written}

-- the most entries of a lent table
abbrev pub most_entries : ℕ
most_entries = 4096

-- the entries taken
abbrev pub entries_of : Book → List Entry
entries_of b = take b.used b.table.now

-- the places left
abbrev pub places_left : Book → ℕ
places_left b = length b.table.now - b.used

abbrev pub overrides_of : Book → List Override
overrides_of b = b.profile

-- the book after a request: it is written behind the entries taken before, and no other place of the table changes
pub record Grown (before : Book) (head : Entry) (containers : List Entry) (after : Book) : Type 0 where
  pub table : after.table.now ≡ written before.table.now before.used (head ∷ containers)
  pub used : after.used ≡ before.used + (length containers + 1)
  pub overrides : overrides_of after ≡ overrides_of before

-- why a making is refused
abbrev pub unmade_book : (overrides entries : ℕ) → Option Unmade
unmade_book overrides entries = unmade overrides entries 0 most_entries

-- an empty book over a table with a profile, which writes nothing
pub record NewBook (lent : List Entry) (profile : List Override) (b : Book) : Type 0 where
  pub table : b.table.now ≡ lent
  pub used : b.used ≡ 0
  pub overrides : overrides_of b ≡ profile

-- a book is made where nothing stands against it; a refused making gives the table back as it was
abbrev pub BookMade : List Entry → List Override → Result Book (Refused Unmade (MutBor (List Entry))) → Type 0
BookMade lent profile (Ok b) = (unmade_book (length profile) (length lent) ≡ None) × NewBook lent profile b
BookMade lent profile (Err r) = (unmade_book (length profile) (length lent) ≡ Some r.why) × (r.left.now ≡ lent)
