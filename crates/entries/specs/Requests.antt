-- The form of a request, and what a taker answers to one.
use Rattle.std.specs.Prelude.{ℕ, ◌+◌, Bool, cond, ◌&&◌, List, length, Ok, Err, Result, ◌==◌, nat_le, nat_lt}
use Rattle.std.specs.List.{list_all}
use Rattle.entries.specs.declared.entry.Entry.{Entry}
use Rattle.entries.specs.declared.taker.Declined.{Declined}
use Rattle.entries.specs.declared.taker.Declined.TheVariants.{Malformed, IntakeTooSmall}
use Rattle.entries.specs.Entries.{initial, termination, service_line, qos_line, most_octets, largest_32, most_containers}
use Rattle.entries.specs.Triggers.{between}

-- a container: of a kind of lines, numbered, not ending before it begins, octets within the bound each way
abbrev pub container_formed : Entry → Bool
container_formed e =
    between service_line qos_line e.kind && (nat_lt 0 e.number && (nat_le e.from e.to
    && (nat_le e.uplink.0 most_octets && nat_le e.downlink.0 most_octets)))

abbrev pub containers_formed : List Entry → Bool
containers_formed es = list_all container_formed es

-- the head of n containers: any cause, period and time; a charging id for its code; no octets
abbrev pub head_formed : Entry → ℕ → Bool
head_formed h n =
    between initial termination h.kind && (h.number == n && (h.from == h.to
    && (nat_le h.code largest_32 && (h.uplink.0 == 0 && h.downlink.0 == 0))))

abbrev pub well_formed : Entry → List Entry → Bool
well_formed h cs = nat_le (length cs) most_containers && (head_formed h (length cs) && containers_formed cs)

-- why a request is not taken, as the number that a caller meets
abbrev pub declined_number : Declined → ℕ
declined_number Malformed = 4
declined_number IntakeTooSmall = 10

-- a taker takes a request exactly when it is well formed and its head and containers are within the intake
abbrev pub take_answer : Entry → List Entry → (intake : ℕ) → Result (Unit {0}) Declined
take_answer h cs intake =
    cond (well_formed h cs) (cond (nat_le (length cs + 1) intake) (Ok tt) (Err IntakeTooSmall)) (Err Malformed)
