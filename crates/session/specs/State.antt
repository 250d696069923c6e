-- A session's state, its triggers and its lines.
use Rattle.std.specs.Prelude.{ℕ, ◌+◌, Bool, true, false, cond, ◌&&◌, ◌||◌, List, [], ◌∷◌, Some, None, Option, nat_le, nat_lt, slice_index_or}
use Rattle.entries.specs.declared.entry.Entry.{Entry}
use Rattle.entries.specs.declared.key.LineId.{LineId}
use Rattle.entries.specs.Entries.{most_octets}
use Rattle.entries.specs.Keys.{same_line}
use Rattle.session.specs.declared.state.Line.{Line}
use Rattle.session.specs.declared.state.Marks.{Marks}
use Rattle.session.specs.declared.state.Phase.{Phase}
use Rattle.session.specs.declared.state.Setting.{Setting}

pub record State : Type 0 where
  pub id : ℕ
  pub settings : List Setting
  pub marks : Marks
  pub last : ℕ
  pub closed : ℕ
  pub owed : Bool
  pub lines : List Line
  pub waiting : List Entry

-- triggers

abbrev pub no_setting : Setting
no_setting = record { known = false; enabled = false; immediate = false; threshold = 0 }

abbrev pub setting : State → ℕ → Setting
setting s n = slice_index_or s.settings n no_setting

-- a limit can fire only if enabled with a threshold above 0
abbrev pub can_fire : State → ℕ → Bool
can_fire s n = (setting s n).enabled && nat_lt 0 (setting s n).threshold

-- and fires where what it limits has met the threshold
abbrev pub limit_met : State → ℕ → (measure : ℕ) → Bool
limit_met s n measure = can_fire s n && nat_le (setting s n).threshold measure

-- a report is due where an enabled immediate trigger fires
abbrev pub is_urgent : State → ℕ → Bool
is_urgent s n = (setting s n).enabled && (setting s n).immediate

-- marks

abbrev pub in_phase : Phase → Marks → Marks
in_phase p m = record { phase = p; period = m.period; volume = m.volume; changes = m.changes; since = m.since }

abbrev pub with_volume : ℕ → Marks → Marks
with_volume v m = record { phase = m.phase; period = m.period; volume = v; changes = m.changes; since = m.since }

abbrev pub with_since : ℕ → Marks → Marks
with_since t m = record { phase = m.phase; period = m.period; volume = m.volume; changes = m.changes; since = t }

-- the volume sum with octets of both directions added
abbrev pub volume_sum : (sum uplink downlink : ℕ) → ℕ
volume_sum sum uplink downlink = sum + (uplink + downlink)

-- lines

abbrev pub no_line : Line
no_line = record {
  id = record { kind = 0; code = 0 };
  active = false;
  since = 0;
  uplink = record { 0 = 0 };
  downlink = record { 0 = 0 };
  total_uplink = record { 0 = 0 };
  total_downlink = record { 0 = 0 };
}

-- the line of an index
abbrev pub line_at : State → ℕ → Line
line_at s i = slice_index_or s.lines i no_line

-- the index of the first line with an identity, counted from i
abbrev pub place_from : ℕ → LineId → List Line → Option ℕ
place_from i k [] = None
place_from i k (l ∷ ls) = cond (same_line l.id k) (Some i) (place_from (i + 1) k ls)

abbrev pub place_of : State → LineId → Option ℕ
place_of s k = place_from 0 k s.lines

-- a line that is active from t, with nothing open
abbrev pub new_line : LineId → ℕ → Line
new_line k t = record {
  id = k;
  active = true;
  since = t;
  uplink = record { 0 = 0 };
  downlink = record { 0 = 0 };
  total_uplink = record { 0 = 0 };
  total_downlink = record { 0 = 0 };
}

abbrev pub started : ℕ → Line → Line
started t l = record {
  id = l.id;
  active = true;
  since = t;
  uplink = record { 0 = 0 };
  downlink = record { 0 = 0 };
  total_uplink = l.total_uplink;
  total_downlink = l.total_downlink;
}

abbrev pub stopped : Line → Line
stopped l = record {
  id = l.id;
  active = false;
  since = l.since;
  uplink = l.uplink;
  downlink = l.downlink;
  total_uplink = l.total_uplink;
  total_downlink = l.total_downlink;
}

-- a report counted
abbrev pub counted : (uplink downlink : ℕ) → Line → Line
counted uplink downlink l = record {
  id = l.id;
  active = l.active;
  since = l.since;
  uplink = record { 0 = l.uplink.0 + uplink };
  downlink = record { 0 = l.downlink.0 + downlink };
  total_uplink = record { 0 = l.total_uplink.0 + uplink };
  total_downlink = record { 0 = l.total_downlink.0 + downlink };
}

abbrev pub over_total : Line → Bool
over_total l = nat_lt most_octets l.total_uplink.0 || nat_lt most_octets l.total_downlink.0

-- the open octets of both directions
abbrev pub open_octets : Line → ℕ
open_octets l = l.uplink.0 + l.downlink.0
