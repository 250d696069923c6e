-- The octets of a line and a tariff period in a book.
use Rattle.std.specs.Prelude.{ℕ, ◌+◌, Bool, cond, ◌&&◌, List, [], ◌∷◌, ◌==◌}
use Rattle.entries.specs.declared.entry.Entry.{Entry}
use Rattle.entries.specs.declared.key.LineId.{LineId}
use Rattle.entries.specs.Keys.{line_id, same_line}

pub data Direction : Type 0 where
  up down : Direction

-- of two counts, that of a direction
abbrev pub in_direction : Direction → (uplink downlink : ℕ) → ℕ
in_direction up u w = u
in_direction down u w = w

abbrev pub octets_of : Direction → Entry → ℕ
octets_of d e = in_direction d e.uplink.0 e.downlink.0

-- the line that an entry names, if it is a container
abbrev pub line_of : Entry → LineId
line_of e = line_id e.kind e.code

-- whether an entry is a container of the line and the tariff period
abbrev pub counts_for : LineId → (period : ℕ) → Entry → Bool
counts_for k p e = same_line (line_of e) k && e.period == p

-- the octets of a line and a tariff period in a book
abbrev pub in_book : Direction → LineId → (period : ℕ) → List Entry → ℕ
in_book d k p [] = 0
in_book d k p (e ∷ es) = cond (counts_for k p e) (octets_of d e) 0 + in_book d k p es
