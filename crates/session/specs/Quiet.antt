-- Quiet reports: usage reports that meet no limit while nothing is due. They are counted, and nothing else happens.
use Rattle.std.specs.Prelude.{◌≡◌, ℕ, true, false, [], Some, Ok, Result, nat_lt, slice_set}
use Rattle.entries.specs.declared.key.LineId.{LineId}
use Rattle.entries.specs.Triggers.{session_volume_limit, line_volume_limit}
use Rattle.session.specs.declared.answer.Due.TheVariants.{Nothing as NotDue}
use Rattle.session.specs.declared.answer.Refusal.{Refusal}
use Rattle.session.specs.declared.answer.Reported.{Reported}
use Rattle.session.specs.Performing.{Outcome, report_waits}
use Rattle.session.specs.State.{State, limit_met, volume_sum, with_volume, line_at, place_of, counted, over_total, open_octets}

-- a report of uplink and downlink octets at t on the line k, which stands at place i
pub record Quiet (s : State) (k : LineId) (uplink downlink t i : ℕ) : Type 0 where
  pub timely : nat_lt t s.last ≡ false
  pub place : place_of s k ≡ Some i
  pub active : (line_at s i).active ≡ true
  pub total : over_total (counted uplink downlink (line_at s i)) ≡ false
  pub session_limit : limit_met s session_volume_limit (volume_sum s.marks.volume uplink downlink) ≡ false
  pub line_limit : limit_met s line_volume_limit (open_octets (counted uplink downlink (line_at s i))) ≡ false
  pub nothing_due : report_waits s ≡ false

-- the session once it is counted
abbrev pub counted_at : State → (uplink downlink t i : ℕ) → State
counted_at s u w t i = record {
  id = s.id;
  settings = s.settings;
  marks = with_volume (volume_sum s.marks.volume u w) s.marks;
  last = t;
  closed = s.closed;
  owed = s.owed;
  lines = slice_set s.lines i (counted u w (line_at s i));
  waiting = s.waiting;
}

-- what it comes to: no line closed, nothing due, and nothing added to the book
abbrev pub quietly : State → Outcome (Result Reported Refusal)
quietly s = record { state = s; answer = Ok (record { closed = 0; due = NotDue }); added = [] }
