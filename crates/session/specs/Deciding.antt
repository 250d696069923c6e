-- Deciding: what an accepted call does, or why it is refused. Deciding changes nothing.
use Rattle.std.specs.Prelude.{ℕ, ◌+◌, ◌-◌, Bool, true, false, cond, not, ◌&&◌, ◌||◌, length, Some, None, Ok, Err, Option, Result, ◌==◌, nat_le, nat_lt}
use Rattle.entries.specs.declared.key.LineId.{LineId}
use Rattle.entries.specs.Triggers.{tariff_time, session_time_limit, session_volume_limit, condition_changes, line_time_limit, line_volume_limit, line_end, intervention, session_end, abort, is_condition}
use Rattle.session.specs.declared.answer.Refusal.{Refusal}
use Rattle.session.specs.declared.answer.Refusal.TheVariants.{WrongPhase, OtherSlip, Early, OutOfRange, LineActive, NoActiveLine, TooManyLines, TooLarge}
use Rattle.session.specs.declared.event.Event.{Event}
use Rattle.session.specs.declared.event.Event.TheVariants.{Open as Opening, Start, Usage, End, Change, Tick, Intervene, Push, Finish, Shelve}
use Rattle.session.specs.declared.state.Act.{Act}
use Rattle.session.specs.declared.state.Edit.{Edit}
use Rattle.session.specs.declared.state.Edit.TheVariants.{Keep, Put, Add}
use Rattle.session.specs.declared.state.Line.{Line}
use Rattle.session.specs.declared.state.Marks.{Marks}
use Rattle.session.specs.declared.state.Phase.{Phase}
use Rattle.session.specs.declared.state.Phase.TheVariants.{Fresh, Open, Ended, Shelved}
use Rattle.session.specs.declared.state.Selection.{Selection}
use Rattle.session.specs.declared.state.Selection.TheVariants.{Nothing, Active, One, OpenFor}
use Rattle.session.specs.Closing.{closes, closing_count}
use Rattle.session.specs.State.{State, setting, can_fire, limit_met, is_urgent, in_phase, with_volume, with_since, volume_sum, line_at, place_of, new_line, started, counted, over_total, open_octets}

-- a call as the steps see it: of its key, the line that it names, or none where the key is out of range
abbrev pub Call : Type 0
Call = Event (Option LineId)

-- the key that a call starts
abbrev pub started_key : {K : Type 0} → Event K → Option K
started_key Opening = None
started_key (Start k) = Some k
started_key (Usage k u w) = None
started_key (End k) = None
started_key (Change n) = None
started_key Tick = None
started_key Intervene = None
started_key Push = None
started_key (Finish c) = None
started_key Shelve = None

abbrev pub most_lines : ℕ
most_lines = 32

abbrev pub largest_period : ℕ
largest_period = 65535

-- an act that closes nothing
abbrev pub quiet : Edit → Marks → (due : Bool) → Act
quiet edit marks due = record {
  edit = edit;
  chosen = Nothing;
  cause = 0;
  stop = None;
  marks = marks;
  due = due;
  report = 0;
}

-- an act of a trigger that fired: it closes what it chooses, and where it is urgent a report is due with its number
abbrev pub closing : Edit → Selection → (cause : ℕ) → Marks → (urgent : Bool) → Act
closing edit chosen cause marks urgent = record {
  edit = edit;
  chosen = chosen;
  cause = cause;
  stop = None;
  marks = marks;
  due = urgent;
  report = cond urgent cause 0;
}

-- opening: the time mark is set
abbrev pub open_act : State → ℕ → Act
open_act s t = quiet Keep (in_phase Open (with_since t s.marks)) false

-- a start: a known line that is not active becomes active again, an unknown one is added behind the others
abbrev pub start_at : State → LineId → ℕ → Option ℕ → Result Act Refusal
start_at s k t (Some i) =
    cond (line_at s i).active (Err LineActive) (Ok (quiet (Put i (started t (line_at s i))) s.marks false))
start_at s k t None = cond (nat_le most_lines (length s.lines)) (Err TooManyLines) (Ok (quiet (Add (new_line k t)) s.marks false))

abbrev pub start_act : State → Option LineId → ℕ → Result Act Refusal
start_act s None t = Err OutOfRange
start_act s (Some k) t = start_at s k t (place_of s k)

-- the line that a key names and its place, where it is active
abbrev pub active_at : State → LineId → Option ℕ → Result (LineId × ℕ) Refusal
active_at s k None = Err NoActiveLine
active_at s k (Some i) = cond (line_at s i).active (Ok (k, i)) (Err NoActiveLine)

abbrev pub active_place : State → Option LineId → Result (LineId × ℕ) Refusal
active_place s None = Err OutOfRange
active_place s (Some k) = active_at s k (place_of s k)

-- a usage report: it is counted; then the session's volume limit closes all active lines, or else the line's own limit
-- closes that line
abbrev pub count_act : State → LineId → (i uplink downlink : ℕ) → Line → Act
count_act s k i u w l =
    cond (limit_met s session_volume_limit (volume_sum s.marks.volume u w))
    (closing (Put i l) Active session_volume_limit (with_volume 0 s.marks) (is_urgent s session_volume_limit))
    (cond (limit_met s line_volume_limit (open_octets l))
    (closing (Put i l) (One k) line_volume_limit (with_volume (volume_sum s.marks.volume u w) s.marks) (is_urgent s line_volume_limit))
    (quiet (Put i l) (with_volume (volume_sum s.marks.volume u w) s.marks) false))

abbrev pub usage_at : State → LineId → (uplink downlink : ℕ) → Option ℕ → Result Act Refusal
usage_at s k u w None = Err NoActiveLine
usage_at s k u w (Some i) =
    cond (not (line_at s i).active) (Err NoActiveLine)
    (cond (over_total (counted u w (line_at s i))) (Err TooLarge) (Ok (count_act s k i u w (counted u w (line_at s i)))))

abbrev pub usage_act : State → Option LineId → (uplink downlink : ℕ) → Result Act Refusal
usage_act s None u w = Err OutOfRange
usage_act s (Some k) u w = usage_at s k u w (place_of s k)

-- the end of a line: it closes, enabled or not, and then stops
abbrev pub ending : State → LineId → ℕ → Act
ending s k i = record {
  edit = Keep;
  chosen = One k;
  cause = line_end;
  stop = Some i;
  marks = s.marks;
  due = is_urgent s line_end;
  report = cond (is_urgent s line_end) line_end 0;
}

abbrev pub end_at : State → LineId → Option ℕ → Result Act Refusal
end_at s k None = Err NoActiveLine
end_at s k (Some i) = cond (line_at s i).active (Ok (ending s k i)) (Err NoActiveLine)

abbrev pub end_act : State → Option LineId → Result Act Refusal
end_act s None = Err OutOfRange
end_act s (Some k) = end_at s k (place_of s k)

-- a change of conditions: where its trigger is enabled, all active lines close and the change counts towards the limit of
-- changes, if that can fire; a tariff change raises the period
abbrev pub counts_change : State → ℕ → Bool
counts_change s n = (setting s n).enabled && can_fire s condition_changes

abbrev pub changes_full : State → ℕ → Bool
changes_full s n = (setting s n).enabled && limit_met s condition_changes (s.marks.changes + 1)

abbrev pub changed_marks : State → ℕ → Marks
changed_marks s n = record {
  phase = s.marks.phase;
  period = cond (n == tariff_time) (s.marks.period + 1) s.marks.period;
  volume = s.marks.volume;
  changes = cond (changes_full s n) 0 (cond (counts_change s n) (s.marks.changes + 1) s.marks.changes);
  since = s.marks.since;
}

abbrev pub changing : State → ℕ → Act
changing s n = record {
  edit = Keep;
  chosen = cond (setting s n).enabled Active Nothing;
  cause = n;
  stop = None;
  marks = changed_marks s n;
  due = (changes_full s n && is_urgent s condition_changes) || is_urgent s n;
  report = cond (changes_full s n) condition_changes (cond (is_urgent s n) n 0);
}

abbrev pub change_act : State → ℕ → Result Act Refusal
change_act s n =
    cond (not (is_condition n && (setting s n).known)) (Err OutOfRange)
    (cond (n == tariff_time && nat_le largest_period s.marks.period) (Err TooLarge) (Ok (changing s n)))

-- the time goes on: the session's time limit closes all active lines, or else each line that is open for too long closes
abbrev pub tick_act : State → ℕ → Act
tick_act s t =
    cond (limit_met s session_time_limit (t - s.marks.since))
    (closing Keep Active session_time_limit (with_since t s.marks) (is_urgent s session_time_limit))
    (cond (can_fire s line_time_limit)
    (closing Keep (OpenFor (setting s line_time_limit).threshold) line_time_limit s.marks
    (is_urgent s line_time_limit && nat_lt 0 (closing_count (closes (OpenFor (setting s line_time_limit).threshold) t) s.lines)))
    (quiet Keep s.marks false))

abbrev pub intervene_act : State → Act
intervene_act s = closing Keep Active intervention s.marks (is_urgent s intervention)

abbrev pub push_act : State → Act
push_act s = quiet Keep s.marks true

abbrev pub finish_act : State → ℕ → Result Act Refusal
finish_act s c =
    cond (c == session_end || c == abort) (Ok (closing Keep Active c (in_phase Ended s.marks) false)) (Err OutOfRange)

abbrev pub shelve_act : State → Act
shelve_act s = quiet Keep (in_phase Shelved s.marks) false

-- checks before all others

abbrev pub own_slip : State → ℕ → Result Act Refusal → Result Act Refusal
own_slip s slip d = cond (slip == s.id) d (Err OtherSlip)

abbrev pub timely : State → ℕ → Result Act Refusal → Result Act Refusal
timely s t d = cond (nat_lt t s.last) (Err Early) d

-- phase and call decide together

abbrev pub when_fresh : State → Call → ℕ → Result Act Refusal
when_fresh s Opening t = timely s t (Ok (open_act s t))
when_fresh s (Start k) t = Err WrongPhase
when_fresh s (Usage k u w) t = Err WrongPhase
when_fresh s (End k) t = Err WrongPhase
when_fresh s (Change n) t = Err WrongPhase
when_fresh s Tick t = Err WrongPhase
when_fresh s Intervene t = Err WrongPhase
when_fresh s Push t = Err WrongPhase
when_fresh s (Finish c) t = Err WrongPhase
when_fresh s Shelve t = Err WrongPhase

abbrev pub when_open : State → Call → (slip t : ℕ) → Result Act Refusal
when_open s Opening slip t = Err WrongPhase
when_open s (Start k) slip t = timely s t (start_act s k t)
when_open s (Usage k u w) slip t = timely s t (usage_act s k u w)
when_open s (End k) slip t = timely s t (end_act s k)
when_open s (Change n) slip t = timely s t (change_act s n)
when_open s Tick slip t = timely s t (Ok (tick_act s t))
when_open s Intervene slip t = timely s t (Ok (intervene_act s))
when_open s Push slip t = timely s t (Ok (push_act s))
when_open s (Finish c) slip t = own_slip s slip (timely s t (finish_act s c))
when_open s Shelve slip t = own_slip s slip (timely s t (Ok (shelve_act s)))

abbrev pub decide_in : Phase → State → Call → (slip t : ℕ) → Result Act Refusal
decide_in Fresh s c slip t = when_fresh s c t
decide_in Open s c slip t = when_open s c slip t
decide_in Ended s c slip t = Err WrongPhase
decide_in Shelved s c slip t = Err WrongPhase

abbrev pub decide : State → Call → (slip t : ℕ) → Result Act Refusal
decide s c slip t = decide_in s.marks.phase s c slip t
