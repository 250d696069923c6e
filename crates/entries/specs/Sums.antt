-- The sum over a book for a key and a tariff period.
use Rattle.std.specs.Prelude.{ℕ, ◌≤◌, cond, List, length, is_ok, Some, None, Ok, Err, Option, Result, nat_le}
use Rattle.entries.specs.declared.entry.Entry.{Entry}
use Rattle.entries.specs.declared.key.LineId.{LineId}
use Rattle.entries.specs.declared.sum.Octets.{Octets}
use Rattle.entries.specs.declared.sum.Unsummed.{Unsummed}
use Rattle.entries.specs.declared.sum.Unsummed.TheVariants.{TooManyEntries, KeyOutOfRange, NotRequests}
use Rattle.entries.specs.Entries.{most_octets}
use Rattle.entries.specs.Keys.{Coding, named}
use Rattle.entries.specs.Octets.{up, down, in_book}
use Rattle.entries.specs.Sequences.{requests_in}

-- the most entries that are summed
abbrev pub most_summed : ℕ
most_summed = 32768

-- the number that a caller meets
abbrev pub unsummed_number : Unsummed → ℕ
unsummed_number TooManyEntries = 4
unsummed_number KeyOutOfRange = 4
unsummed_number NotRequests = 4

-- octets within the bound of a container, each way
abbrev pub Within : Entry → Type 0
Within e = (e.uplink.0 ≤ most_octets) × (e.downlink.0 ≤ most_octets)

-- the octets of a line and a tariff period, each way
abbrev pub line_octets : List Entry → LineId → (period : ℕ) → Octets
line_octets es k p = record { uplink = record { 0 = in_book up k p es }; downlink = record { 0 = in_book down k p es } }

abbrev pub sum_of_line : List Entry → Option LineId → (period : ℕ) → Result Octets Unsummed
sum_of_line es None p = Err KeyOutOfRange
sum_of_line es (Some k) p = cond (is_ok (requests_in es)) (Ok (line_octets es k p)) (Err NotRequests)

-- the sum for a key and a tariff period over entries that are well-formed requests
abbrev pub summed : {K : Type 0} → Coding K → List Entry → K → (period : ℕ) → Result Octets Unsummed
summed x es k p = cond (nat_le (length es) most_summed) (sum_of_line es (named x k) p) (Err TooManyEntries)
