-- What every session keeps, so that its numbers fit and its requests are well formed: a line has an entry kind of lines, is
-- open since no later than the last call, and its open octets are among its totals; so is the volume sum.
use Rattle.std.specs.Prelude.{ℕ, ◌≤◌, Bool, true, false, ◌&&◌, List, [], ◌∷◌, nat_le}
use Rattle.entries.specs.Entries.{service_line, qos_line, most_octets}
use Rattle.entries.specs.Triggers.{between}
use Rattle.session.specs.declared.state.Line.{Line}
use Rattle.session.specs.declared.state.Phase.{Phase}
use Rattle.session.specs.declared.state.Phase.TheVariants.{Fresh, Open, Ended, Shelved}
use Rattle.session.specs.State.{volume_sum}

-- the phases in which calls are accepted
abbrev pub live : Phase → Bool
live Fresh = true
live Open = true
live Ended = false
live Shelved = false

abbrev pub bounded : Line → Bool
bounded l =
    (nat_le l.uplink.0 l.total_uplink.0 && nat_le l.total_uplink.0 most_octets)
    && (nat_le l.downlink.0 l.total_downlink.0 && nat_le l.total_downlink.0 most_octets)

abbrev pub sound_line : ℕ → Line → Bool
sound_line t l = between service_line qos_line l.id.kind && (nat_le l.since t && bounded l)

abbrev pub sound_lines : ℕ → List Line → Bool
sound_lines t [] = true
sound_lines t (l ∷ ls) = sound_line t l && sound_lines t ls

-- the volume sum of all totals
abbrev pub volume_of_all : List Line → ℕ
volume_of_all [] = 0
volume_of_all (l ∷ ls) = volume_sum (volume_of_all ls) l.total_uplink.0 l.total_downlink.0

-- the bounds of a line, as facts
pub record Bounded (l : Line) : Type 0 where
  pub up : l.uplink.0 ≤ l.total_uplink.0
  pub up_total : l.total_uplink.0 ≤ most_octets
  pub down : l.downlink.0 ≤ l.total_downlink.0
  pub down_total : l.total_downlink.0 ≤ most_octets
