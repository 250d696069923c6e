-- Performing an act, and handing over what it makes due.
use Rattle.std.specs.Prelude.{ℕ, ◌+◌, ◌-◌, Bool, true, cond, not, ◌||◌, List, [], ◌∷◌, ◌++◌, length, Some, None, Ok, Err, Option, Result, nat_le, nat_lt, slice_index_or, slice_set}
use Rattle.entries.specs.declared.entry.Entry.{Entry}
use Rattle.entries.specs.declared.taker.Override.{Override}
use Rattle.entries.specs.Columns.{Column}
use Rattle.entries.specs.Entries.{initial, update, termination, largest_32}
use Rattle.session.specs.declared.answer.Due.{Due}
use Rattle.session.specs.declared.answer.Due.TheVariants.{Nothing as NotDue, Sent, Held}
use Rattle.session.specs.declared.answer.Opened.{Opened}
use Rattle.session.specs.declared.answer.Refusal.{Refusal}
use Rattle.session.specs.declared.answer.Refusal.TheVariants.{TooLarge, WaitingFull, IntakeTooSmall}
use Rattle.session.specs.declared.answer.Reported.{Reported}
use Rattle.session.specs.declared.state.Act.{Act}
use Rattle.session.specs.declared.state.Edit.{Edit}
use Rattle.session.specs.declared.state.Edit.TheVariants.{Keep, Put, Add}
use Rattle.session.specs.declared.state.Line.{Line}
use Rattle.session.specs.Closing.{closes, closing_count, closed_lines, closings}
use Rattle.session.specs.Profiles.{applied, applied_count}
use Rattle.session.specs.State.{State, no_line, stopped}

-- at most so many containers wait, and with more than so many a report is due
abbrev pub most_waiting : ℕ
most_waiting = 128

abbrev pub report_above : ℕ
report_above = 96

-- what a call comes to: the session after it, its answer, and what it added to the book
pub record Outcome (A : Type 0) : Type 0 where
  pub state : State
  pub answer : A
  pub added : List Entry

-- a refused call changes nothing
abbrev pub refusal : {A : Type 0} → State → Refusal → Outcome (Result A Refusal)
refusal s r = record { state = s; answer = Err r; added = [] }

-- the act

abbrev pub edited : Edit → List Line → List Line
edited Keep ls = ls
edited (Put i l) ls = slice_set ls i l
edited (Add l) ls = ls ++ (l ∷ [])

abbrev pub stopped_at : Option ℕ → List Line → List Line
stopped_at None ls = ls
stopped_at (Some i) ls = slice_set ls i (stopped (slice_index_or ls i no_line))

-- how many lines of a session an act closes
abbrev pub closed_by : State → Act → ℕ → ℕ
closed_by s a t = closing_count (closes a.chosen t) s.lines

-- the session after the act: the edit, the closings, the stop and the marks
abbrev pub acted : State → Act → ℕ → State
acted s a t = record {
  id = s.id;
  settings = s.settings;
  marks = a.marks;
  last = t;
  closed = s.closed + closing_count (closes a.chosen t) (edited a.edit s.lines);
  owed = s.owed;
  lines = stopped_at a.stop (closed_lines (closes a.chosen t) t (edited a.edit s.lines));
  waiting = s.waiting ++ closings (closes a.chosen t) a.cause s.marks.period t s.closed (edited a.edit s.lines);
}

-- why there is no place for the containers of an act
abbrev pub no_place : State → Act → ℕ → Option Refusal
no_place s a t =
    cond (nat_lt largest_32 (s.closed + closed_by s a t)) (Some TooLarge)
    (cond (nat_lt most_waiting (length s.waiting + closed_by s a t)) (Some WaitingFull) None)

-- an answer, unless there is a reason to refuse it
abbrev pub unless : {A : Type 0} → Option Refusal → A → Result A Refusal
unless None a = Ok a
unless (Some r) a = Err r

-- requests

abbrev pub head : (kind cause period number time id : ℕ) → Entry
head kind cause period number time id = record {
  kind = kind;
  cause = cause;
  period = period;
  number = number;
  from = time;
  to = time;
  code = id;
  uplink = record { 0 = 0 };
  downlink = record { 0 = 0 };
}

-- the head of all that waits
abbrev pub head_of : State → (kind cause t : ℕ) → Entry
head_of s kind cause t = head kind cause s.marks.period (length s.waiting) t s.id

-- the session once what waits was offered: taken, nothing waits and nothing is owed; declined, the report is owed
abbrev pub offered : State → (taken : Bool) → State
offered s taken = record {
  id = s.id;
  settings = s.settings;
  marks = s.marks;
  last = s.last;
  closed = s.closed;
  owed = not taken;
  lines = s.lines;
  waiting = cond taken [] s.waiting;
}

abbrev pub offer_taken : State → (cause t : ℕ) → (taken : Bool) → Outcome Due
offer_taken s cause t taken = record {
  state = offered s taken;
  answer = cond taken (Sent (length s.waiting)) (Held (length s.waiting));
  added = cond taken (head_of s update cause t ∷ s.waiting) [];
}

-- an Update with all that waits
abbrev pub offer : State → (cause t intake : ℕ) → Outcome Due
offer s cause t intake = offer_taken s cause t (nat_le (length s.waiting + 1) intake)

-- a report is due whatever the call: one is owed, or too many containers wait
abbrev pub report_waits : State → Bool
report_waits s = s.owed || nat_lt report_above (length s.waiting)

-- a report is due by the call, because one is owed, or because too many containers wait
abbrev pub report : State → (due : Bool) → (cause t intake : ℕ) → Outcome Due
report s due cause t intake =
    cond (due || (s.owed || nat_lt report_above (length s.waiting))) (offer s cause t intake)
    (record { state = s; answer = NotDue; added = [] })

-- what an accepted decision comes to, by the kind of call

-- calls that may report
abbrev pub reported : State → Act → ℕ → Outcome Due → Outcome (Result Reported Refusal)
reported s a t o = record {
  state = o.state;
  answer = Ok (record { closed = closed_by s a t; due = o.answer });
  added = o.added;
}

abbrev pub report_unless : Option Refusal → State → Act → (t intake : ℕ) → Outcome (Result Reported Refusal)
report_unless (Some r) s a t intake = refusal s r
report_unless None s a t intake = reported s a t (report (acted s a t) a.due a.report t intake)

abbrev pub reporting : State → (t intake : ℕ) → Result Act Refusal → Outcome (Result Reported Refusal)
reporting s t intake (Err r) = refusal s r
reporting s t intake (Ok a) = report_unless (no_place s a t) s a t intake

-- a finish: a Termination takes all that waits
abbrev pub all_waiting : State → Act → ℕ → ℕ
all_waiting s a t = length s.waiting + closed_by s a t

abbrev pub terminated : State → Act → ℕ → Outcome (Result ℕ Refusal)
terminated s a t = record {
  state = offered (acted s a t) true;
  answer = Ok (all_waiting s a t);
  added = head_of (acted s a t) termination a.cause t ∷ (acted s a t).waiting;
}

abbrev pub finish_unless : Option Refusal → State → Act → (t intake : ℕ) → Outcome (Result ℕ Refusal)
finish_unless (Some r) s a t intake = refusal s r
finish_unless None s a t intake = cond (nat_le (all_waiting s a t + 1) intake) (terminated s a t) (refusal s IntakeTooSmall)

abbrev pub finishing : State → (t intake : ℕ) → Result Act Refusal → Outcome (Result ℕ Refusal)
finishing s t intake (Err r) = refusal s r
finishing s t intake (Ok a) = finish_unless (no_place s a t) s a t intake

-- a shelving
abbrev pub shelving : State → ℕ → Result Act Refusal → Outcome (Result ℕ Refusal)
shelving s t (Err r) = refusal s r
shelving s t (Ok a) = record { state = acted s a t; answer = Ok (length s.waiting); added = [] }

-- an opening: the profile is applied, and an Initial with no container is handed over
abbrev pub with_settings : State → Column → List Override → State
with_settings s column profile = record {
  id = s.id;
  settings = applied column profile s.settings;
  marks = s.marks;
  last = s.last;
  closed = s.closed;
  owed = s.owed;
  lines = s.lines;
  waiting = s.waiting;
}

abbrev pub opened : Column → List Override → State → Act → ℕ → Outcome (Result Opened Refusal)
opened column profile s a t = record {
  state = with_settings (acted s a t) column profile;
  answer = Ok (record { applied = applied_count column profile; passed = length profile - applied_count column profile });
  added = head initial 0 s.marks.period 0 t s.id ∷ [];
}

abbrev pub opening : Column → List Override → State → (t intake : ℕ) → Result Act Refusal → Outcome (Result Opened Refusal)
opening column profile s t intake (Err r) = refusal s r
opening column profile s t intake (Ok a) = cond (nat_le 1 intake) (opened column profile s a t) (refusal s IntakeTooSmall)
