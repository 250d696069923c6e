-- A list of starts and usage reports on a converged session without limits, while its link is down.
use Rattle.std.specs.Prelude.{ℕ, ◌+◌, Bool, cond, List, [], ◌∷◌, None}
use Rattle.entries.specs.declared.key.ServiceKey.{ServiceKey}
use Rattle.entries.specs.Columns.{converged}
use Rattle.entries.specs.Keys.{services}
use Rattle.session.specs.declared.event.Event.{Event}
use Rattle.session.specs.declared.event.Event.TheVariants.{Open as Opening, Start, Usage}
use Rattle.session.specs.Answers.{Answer}
use Rattle.session.specs.Performing.{Outcome}
use Rattle.session.specs.State.{State}
use Rattle.session.specs.Steps.{as_made, fed, seen, step, accepted}
use Rattle.batch.specs.declared.Call.{Call}

abbrev pub group_key : ℕ → ServiceKey
group_key group = record { rating_group = group; service_id = None }

abbrev pub event_of : Call → Event ServiceKey
event_of c = cond c.is_usage (Usage (group_key c.rating_group) c.uplink c.downlink) (Start (group_key c.rating_group))

-- the step of a call; while the link is down the intake is 0
abbrev pub stepped : State → Call → Outcome Answer
stepped s c = step converged s (seen services (fed (event_of c) 0 c.time 0 []))

-- how many calls of a list are accepted
abbrev pub accepted_of : State → List Call → ℕ
accepted_of s [] = 0
accepted_of s (c ∷ cs) = cond (accepted (stepped s c)) 1 0 + accepted_of (stepped s c).state cs

-- the opening at 0, on a book of one place
abbrev pub opening_of : State → Outcome Answer
opening_of s = step converged s (seen services (fed Opening 0 0 1 []))

-- how many are accepted behind an opening
abbrev pub accepted_on : State → List Call → ℕ
accepted_on s cs = cond (accepted (opening_of s)) (accepted_of (opening_of s).state cs) 0

-- a session with charging id 7 and no limits
abbrev pub new_session : (memory : Bool) → State
new_session memory = as_made converged (record {
  id = 7;
  thresholds = record { session_time = 0; session_volume = 0; changes = 0; line_time = 0; line_volume = 0 };
  memory = memory;
})
