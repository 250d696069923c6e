-- The kinds of entries, and the bounds of what they hold.
use Rattle.std.specs.Prelude.{ℕ}

-- heads
abbrev pub initial : ℕ
initial = 1

abbrev pub update : ℕ
update = 2

abbrev pub termination : ℕ
termination = 3

-- containers
abbrev pub service_line : ℕ
service_line = 4

abbrev pub qos_line : ℕ
qos_line = 5

-- the most octets of a container, a total or a threshold
abbrev pub most_octets : ℕ
most_octets = 999999999999

-- the largest number of 32 bits: charging ids, times, container numbers
abbrev pub largest_32 : ℕ
largest_32 = 4294967295

-- the most containers of a request
abbrev pub most_containers : ℕ
most_containers = 128
