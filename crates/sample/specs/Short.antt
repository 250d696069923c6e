-- The short session, call by call.
use Rattle.std.specs.Prelude.{◌≡◌, ℕ, true, List, [], ◌∷◌, ◌++◌, None}
use Rattle.entries.specs.declared.entry.Entry.{Entry}
use Rattle.entries.specs.declared.key.ServiceKey.{ServiceKey}
use Rattle.entries.specs.declared.taker.Override.{Override}
use Rattle.entries.specs.Columns.{converged}
use Rattle.entries.specs.Keys.{services}
use Rattle.entries.specs.Triggers.{tariff_time, session_end}
use Rattle.session.specs.declared.event.Event.TheVariants.{Open as Opening, Start, Usage, Change, Finish, Shelve}
use Rattle.session.specs.Answers.{Answer}
use Rattle.session.specs.Performing.{Outcome}
use Rattle.session.specs.State.{State}
use Rattle.session.specs.Steps.{Making, Fed, fed, seen, step, accepted, Run, after}

-- charging id 7 and no limits, where there is memory
abbrev pub short_making : Making
short_making = record {
  id = 7;
  thresholds = record { session_time = 0; session_volume = 0; changes = 0; line_time = 0; line_volume = 0 };
  memory = true;
}

abbrev pub key : ServiceKey
key = record { rating_group = 10; service_id = None }

-- the intakes that a charging function had at the calls between opening and finish
pub record Intakes : Type 0 where
  pub start : ℕ
  pub first : ℕ
  pub change : ℕ
  pub second : ℕ

-- these calls
abbrev pub counting : Intakes → List (Fed ServiceKey)
counting room =
    fed (Start key) 0 100 room.start [] ∷ fed (Usage key 500 1500) 0 110 room.first [] ∷ fed (Change tariff_time) 0 120 room.change []
    ∷ fed (Usage key 200 0) 0 130 room.second [] ∷ []

-- and all six: the opening is fed with the profile, the finish with the session's own slip
abbrev pub short_calls : (opening finish : ℕ) → Intakes → List Override → (slip : ℕ) → List (Fed ServiceKey)
short_calls opening finish room profile slip =
    fed Opening 0 100 opening profile ∷ (counting room ++ (fed (Finish session_end) slip 140 finish [] ∷ []))

abbrev pub run_from : State → List (Fed ServiceKey) → Run
run_from s fs = after services converged (record { state = s; taken = [] }) fs

abbrev pub AllAccepted : State → List (Fed ServiceKey) → Type 0
AllAccepted s [] = Unit {0}
AllAccepted s (f ∷ fs) = (accepted (step converged s (seen services f)) ≡ true) × AllAccepted (step converged s (seen services f)).state fs

-- calls that are all accepted, a session as they leave it, and a book that gained what they add
pub record Ran (s : State) (fs : List (Fed ServiceKey)) (s' : State) (before later : List Entry) : Type 0 where
  pub each : AllAccepted s fs
  pub becomes : s' ≡ (run_from s fs).state
  pub gains : later ≡ before ++ (run_from s fs).taken

-- the calls between opening and finish were made, whatever the intakes
pub record Counted (s s' : State) (before later : List Entry) : Type 0 where
  pub room : Intakes
  pub ran : Ran s (counting room) s' before later

-- all six were, the opening with the intake that the function had before
pub record Charged (s s' : State) (opening : ℕ) (profile : List Override) (before later : List Entry) : Type 0 where
  pub finish : ℕ
  pub room : Intakes
  pub ran : Ran s (short_calls opening finish room profile s.id) s' before later

-- giving the slip up
abbrev pub given_up : State → (slip : ℕ) → Outcome Answer
given_up s slip = step converged s (seen services (fed Shelve slip 140 0 []))
