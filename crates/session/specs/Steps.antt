-- A session step by step: its making, and one step for each call, fed with the call and with the intake and the profile of
-- what it is lent.
use Rattle.std.specs.Prelude.{◌≡◌, ℕ, Bool, true, false, cond, ◌&&◌, List, [], ◌∷◌, ◌++◌, Some, None, Ok, Err, Option, Result, nat_le}
use Rattle.entries.specs.declared.entry.Entry.{Entry}
use Rattle.entries.specs.declared.key.LineId.{LineId}
use Rattle.entries.specs.declared.making.Refused.{Refused}
use Rattle.entries.specs.declared.taker.Override.{Override}
use Rattle.entries.specs.Columns.{Column}
use Rattle.entries.specs.Entries.{largest_32}
use Rattle.entries.specs.Keys.{Coding, named}
use Rattle.session.specs.declared.answer.NotMade.{NotMade}
use Rattle.session.specs.declared.answer.NotMade.TheVariants.{OutOfRange, NoMemory}
use Rattle.session.specs.declared.event.Event.{Event}
use Rattle.session.specs.declared.event.Event.TheVariants.{Open as Opening, Start, Usage, End, Change, Tick, Intervene, Push, Finish, Shelve}
use Rattle.session.specs.declared.thresholds.Thresholds.{Thresholds}
use Rattle.session.specs.declared.state.Phase.{Phase}
use Rattle.session.specs.declared.state.Setting.{Setting}
use Rattle.session.specs.declared.state.Phase.TheVariants.{Fresh, Shelved}
use Rattle.session.specs.Answers.{Answer, refused, told_opening, told_report, told_finish, told_shelving}
use Rattle.session.specs.Answers.{opened as was_opened, reported as was_reported, sent as was_sent, waiting as was_shelved}
use Rattle.session.specs.Deciding.{Call, decide}
use Rattle.session.specs.Performing.{Outcome, opening, reporting, finishing, shelving}
use Rattle.session.specs.Profiles.{in_range, settings_made}
use Rattle.session.specs.State.{State}

-- makings

-- a charging id, thresholds, and whether there was memory
pub record Making : Type 0 where
  pub id : ℕ
  pub thresholds : Thresholds
  pub memory : Bool

abbrev pub making_refused : Making → Option NotMade
making_refused m =
    cond (nat_le m.id largest_32 && in_range m.thresholds) (cond m.memory None (Some NoMemory)) (Some OutOfRange)

abbrev pub first_phase : Option NotMade → Phase
first_phase None = Fresh
first_phase (Some r) = Shelved

-- a session before its first call
abbrev pub before_calls : ℕ → List Setting → Phase → State
before_calls id settings phase = record {
  id = id;
  settings = settings;
  marks = record { phase = phase; period = 0; volume = 0; changes = 0; since = 0 };
  last = 0;
  closed = 0;
  owed = false;
  lines = [];
  waiting = [];
}

-- the session as made; shelved if its making is refused
abbrev pub as_made : Column → Making → State
as_made column m = before_calls m.id (settings_made column m.thresholds) (first_phase (making_refused m))

-- what is made, or left of a refused making, and why it is refused
abbrev pub made : {W T : Type 0} → Result T (Refused W T) → T
made (Ok s) = s
made (Err r) = r.left

abbrev pub refused_why : {W T L : Type 0} → Result T (Refused W L) → Option W
refused_why (Ok s) = None
refused_why (Err r) = Some r.why

-- a session was made: whether there was memory is all that its answer leaves open
pub record Made (column : Column) (id : ℕ) (thresholds : Thresholds) (answer : Option NotMade) (s : State) : Type 0 where
  pub memory : Bool
  pub answers : answer ≡ making_refused (record { id = id; thresholds = thresholds; memory = memory })
  pub becomes : s ≡ as_made column (record { id = id; thresholds = thresholds; memory = memory })

-- steps

-- a call with what it is fed: its slip's charging id, its time and, of what it is lent, the intake and the profile
pub record Fed (K : Type 0) : Type 0 where
  pub call : Event K
  pub slip : ℕ
  pub time : ℕ
  pub intake : ℕ
  pub profile : List Override

abbrev pub fed : {K : Type 0} → Event K → (slip time intake : ℕ) → List Override → Fed K
fed call slip time intake profile = record { call = call; slip = slip; time = time; intake = intake; profile = profile }

abbrev pub answered : {A B : Type 0} → (A → B) → Outcome A → Outcome B
answered f o = record { state = o.state; answer = f o.answer; added = o.added }

abbrev pub step_of : Call → Column → State → Fed (Option LineId) → Outcome Answer
step_of Opening column s f =
    answered told_opening (opening column f.profile s f.time f.intake (decide s Opening f.slip f.time))
step_of (Start k) column s f = answered told_report (reporting s f.time f.intake (decide s (Start k) f.slip f.time))
step_of (Usage k u w) column s f = answered told_report (reporting s f.time f.intake (decide s (Usage k u w) f.slip f.time))
step_of (End k) column s f = answered told_report (reporting s f.time f.intake (decide s (End k) f.slip f.time))
step_of (Change n) column s f = answered told_report (reporting s f.time f.intake (decide s (Change n) f.slip f.time))
step_of Tick column s f = answered told_report (reporting s f.time f.intake (decide s Tick f.slip f.time))
step_of Intervene column s f = answered told_report (reporting s f.time f.intake (decide s Intervene f.slip f.time))
step_of Push column s f = answered told_report (reporting s f.time f.intake (decide s Push f.slip f.time))
step_of (Finish c) column s f = answered told_finish (finishing s f.time f.intake (decide s (Finish c) f.slip f.time))
step_of Shelve column s f = answered told_shelving (shelving s f.time (decide s Shelve f.slip f.time))

abbrev pub step : Column → State → Fed (Option LineId) → Outcome Answer
step column s f = step_of f.call column s f

-- the calls that may report: all but opening, finish and shelving
abbrev pub may_report : {K : Type 0} → Event K → Bool
may_report Opening = false
may_report (Start k) = true
may_report (Usage k u w) = true
may_report (End k) = true
may_report (Change n) = true
may_report Tick = true
may_report Intervene = true
may_report Push = true
may_report (Finish c) = false
may_report Shelve = false

abbrev pub is_accepted : Answer → Bool
is_accepted (refused n) = false
is_accepted (was_opened a p) = true
is_accepted (was_reported n d) = true
is_accepted (was_sent n) = true
is_accepted (was_shelved n) = true

abbrev pub accepted : Outcome Answer → Bool
accepted o = is_accepted o.answer

-- a call over keys of a kind, as the steps see it

abbrev pub seen_event : {K : Type 0} → Coding K → Event K → Call
seen_event x Opening = Opening
seen_event x (Start k) = Start (named x k)
seen_event x (Usage k u w) = Usage (named x k) u w
seen_event x (End k) = End (named x k)
seen_event x (Change n) = Change n
seen_event x Tick = Tick
seen_event x Intervene = Intervene
seen_event x Push = Push
seen_event x (Finish c) = Finish c
seen_event x Shelve = Shelve

abbrev pub seen : {K : Type 0} → Coding K → Fed K → Fed (Option LineId)
seen x f = record { call = seen_event x f.call; slip = f.slip; time = f.time; intake = f.intake; profile = f.profile }

-- runs

-- the session after calls, and all that they added to books
pub record Run : Type 0 where
  pub state : State
  pub taken : List Entry

abbrev pub after : {K : Type 0} → Coding K → Column → Run → List (Fed K) → Run
after x column r [] = r
after x column r (f ∷ fs) =
    after x column (record {
      state = (step column r.state (seen x f)).state;
      taken = r.taken ++ (step column r.state (seen x f)).added;
    }) fs

abbrev pub run : {K : Type 0} → Coding K → Column → Making → List (Fed K) → Run
run x column m fs = after x column (record { state = as_made column m; taken = [] }) fs
