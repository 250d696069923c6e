-- What a reader refuses, as the number and the place that a caller meets.
use Rattle.std.specs.Prelude.{ℕ}
use Rattle.journal.specs.declared.fault.Fault.{Fault}
use Rattle.journal.specs.declared.fault.Fault.TheVariants.{Length, FreeOffset, Spare, Form, RequestCount}
use Rattle.journal.specs.Layout.{free_at, spare_at, requests_at}

abbrev pub fault_number : Fault → ℕ
fault_number (Length n) = 11
fault_number FreeOffset = 12
fault_number Spare = 12
fault_number (Form place) = 13
fault_number RequestCount = 12

-- the length, the offset of the header's number, or that of the entry
abbrev pub fault_place : Fault → ℕ
fault_place (Length n) = n
fault_place FreeOffset = free_at
fault_place Spare = spare_at
fault_place (Form place) = place
fault_place RequestCount = requests_at

-- an index past the end
abbrev pub past_end_number : ℕ
past_end_number = 4
