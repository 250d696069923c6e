-- What an act keeps to, so that it can be performed: it is in time, its edit and its stop lie within the lines, the edit
-- keeps the bounds of the lines and does not change how many of them close.
use Rattle.std.specs.Prelude.{◌≡◌, ℕ, ◌<◌, ◌≤◌, true, List, length, Some, None, Option}
use Rattle.entries.specs.declared.key.LineId.{LineId}
use Rattle.entries.specs.Entries.{service_line, qos_line}
use Rattle.entries.specs.Triggers.{between}
use Rattle.session.specs.declared.state.Act.{Act}
use Rattle.session.specs.declared.state.Edit.{Edit}
use Rattle.session.specs.declared.state.Edit.TheVariants.{Keep, Put, Add}
use Rattle.session.specs.declared.state.Line.{Line}
use Rattle.session.specs.Closing.{closes, closing_count}
use Rattle.session.specs.Deciding.{Call, started_key, most_lines}
use Rattle.session.specs.Performing.{edited}
use Rattle.session.specs.Sound.{live, sound_lines, volume_of_all}
use Rattle.session.specs.State.{State}

-- a line that a call starts has an entry kind of lines
abbrev pub LineKnown : Option (Option LineId) → Type 0
LineKnown None = Unit {0}
LineKnown (Some None) = Unit {0}
LineKnown (Some (Some k)) = between service_line qos_line k.kind ≡ true

abbrev pub Known : Call → Type 0
Known c = LineKnown (started_key c)

abbrev pub EditWithin : Edit → List Line → Type 0
EditWithin Keep ls = Unit {0}
EditWithin (Put i l) ls = i < length ls
EditWithin (Add l) ls = length ls < most_lines

abbrev pub StopWithin : Option ℕ → List Line → Type 0
StopWithin None ls = Unit {0}
StopWithin (Some i) ls = i < length ls

pub record Fit (s : State) (t : ℕ) (a : Act) : Type 0 where
  pub alive : live s.marks.phase ≡ true
  pub late : s.last ≤ t
  pub edit : EditWithin a.edit s.lines
  pub stop : StopWithin a.stop s.lines
  pub sound : sound_lines t (edited a.edit s.lines) ≡ true
  pub volume : a.marks.volume ≤ volume_of_all (edited a.edit s.lines)
  pub count : closing_count (closes a.chosen t) (edited a.edit s.lines) ≡ closing_count (closes a.chosen t) s.lines
