use Rattle.std.proofs.Common.{◌≡◌, ◌+◌, ◌*◌, ◌≤◌, drop}
use Rattle.entries.specs.Entries.{most_octets}
use Rattle.entries.specs.Octets.{up, down, in_book}
use Rattle.entries.proofs.sum.add_up.Given as goal

abbrev pub invariant-loop-e : goal.invariant-loop-e
invariant-loop-e l =
    (l.uplink ≤ most_octets * l.e-index) × (l.downlink ≤ most_octets * l.e-index)
    × (l.uplink + in_book up l.line l.period (drop l.e-index l.entries) ≡ in_book up l.line l.period l.entries)
    × (l.downlink + in_book down l.line l.period (drop l.e-index l.entries) ≡ in_book down l.line l.period l.entries)
