-- Worked figures: the book of a short session, sums to check by, and what the laws need.
use Rattle.std.specs.Prelude.{◌≡◌, ℕ, Bool, true, false, cond, List, [], ◌∷◌, map, length, take, replicate, Some, None, Option, ◌==◌}
use Rattle.entries.specs.declared.entry.Entry.{Entry}
use Rattle.entries.specs.declared.key.Qfi.{Qfi}
use Rattle.entries.specs.declared.key.ServiceKey.{ServiceKey}
use Rattle.entries.specs.declared.taker.Override.{Override}
use Rattle.entries.specs.Columns.{Column, rule, converged, qos_flow}
use Rattle.entries.specs.Keys.{Coding, line_id, services, flows}
use Rattle.entries.specs.Triggers.{qos, tariff_time, session_volume_limit, line_volume_limit, session_end}
use Rattle.session.specs.declared.answer.Due.TheVariants.{Nothing as NotDue}
use Rattle.session.specs.declared.event.Event.{Event}
use Rattle.session.specs.declared.event.Event.TheVariants.{Open as Opening, Start, Usage, Change, Finish}
use Rattle.session.specs.declared.state.Line.{Line}
use Rattle.session.specs.Answers.{Answer, refused, opened, reported, sent}
use Rattle.session.specs.Laws.{Lawful}
use Rattle.session.specs.State.{State, open_octets}
use Rattle.session.specs.Steps.{Making, Fed, fed, seen, step, Run, run}

abbrev pub key : ℕ → Option ℕ → ServiceKey
key group id = record { rating_group = group; service_id = id }

abbrev pub flow : ℕ → Qfi
flow n = record { 0 = n }

-- a session with charging id 7, and limits of its volume and of a line's
abbrev pub seven : (volume line : ℕ) → Making
seven volume line = record {
  id = 7;
  thresholds = record { session_time = 0; session_volume = volume; changes = 0; line_time = 0; line_volume = line };
  memory = true;
}

-- a call at a time, lent a taker with plenty of room and no profile
abbrev pub call : {K : Type 0} → Event K → ℕ → Fed K
call e t = fed e 7 t 4096 []

abbrev pub on_converged : (volume line : ℕ) → List (Fed ServiceKey) → Run
on_converged volume line fs = run services converged (seven volume line) fs

-- the answer to a call after others
abbrev pub answer_after : {K : Type 0} → Coding K → Column → List (Fed K) → Fed K → Answer
answer_after x column fs f = (step column (run x column (seven 0 0) fs).state (seen x f)).answer

-- a short session, and its book

abbrev pub short_session : List (Fed ServiceKey)
short_session =
    call Opening 100 ∷ call (Start (key 10 None)) 100 ∷ call (Usage (key 10 None) 500 1500) 110 ∷ call (Change tariff_time) 120
    ∷ call (Usage (key 10 None) 200 0) 130 ∷ call (Finish session_end) 140 ∷ []

abbrev pub entry : (kind cause period number from to code uplink downlink : ℕ) → Entry
entry kind cause period number from to code uplink downlink = record {
  kind = kind;
  cause = cause;
  period = period;
  number = number;
  from = from;
  to = to;
  code = code;
  uplink = record { 0 = uplink };
  downlink = record { 0 = downlink };
}

abbrev pub short_book : List Entry
short_book =
    entry 1 0 0 0 100 100 7 0 0 ∷ entry 3 19 1 2 140 140 7 0 0 ∷ entry 4 7 0 1 100 120 1310720 500 1500
    ∷ entry 4 19 1 2 120 140 1310720 200 0 ∷ []

-- sums to check by

abbrev pub causes : List Entry → List ℕ
causes es = map (λ (e : Entry). e.cause) es

-- a line on which so many octets are counted
abbrev pub counting : ℕ → List (Fed ServiceKey)
counting n = call Opening 1 ∷ call (Start (key 10 None)) 1 ∷ call (Usage (key 10 None) n 0) 2 ∷ []

-- the open octets of each line
abbrev pub open_counts : State → List ℕ
open_counts s = map (λ (l : Line). open_octets l) s.lines

-- a line that so many changes of QoS close
abbrev pub changes : ℕ → List (Fed ServiceKey)
changes n = call Opening 1 ∷ call (Start (key 10 None)) 1 ∷ replicate n (call (Change qos) 2)

abbrev pub flow_started : ℕ → Answer
flow_started n = answer_after flows qos_flow (call Opening 1 ∷ []) (call (Start (flow n)) 2)

-- an opening with one override in the profile
abbrev pub opened_under : Override → Answer
opened_under o = answer_after services converged [] (fed Opening 0 1 1 (o ∷ []))

-- a finish with one container waiting and one more to close
abbrev pub finished_at : (intake : ℕ) → Answer
finished_at intake = answer_after services converged (changes 1) (fed (Finish session_end) 7 3 intake [])

pub record Figures : Type 0 where
  pub book : (on_converged 0 0 short_session).taken ≡ short_book
  pub no_id : services.line (key 10 None) ≡ line_id 4 1310720
  pub first_id : services.line (key 10 (Some 0)) ≡ line_id 4 1310721
  pub last_id : services.line (key 65535 (Some 65535)) ≡ line_id 4 8589869056
  pub flow_63 : flow_started 63 ≡ reported 0 NotDue
  pub flow_0 : flow_started 0 ≡ refused 4
  pub flow_64 : flow_started 64 ≡ refused 4
  pub below_limit : (on_converged 0 2000 (counting 1999)).state.waiting ≡ []
  pub still_open : open_counts (on_converged 0 2000 (counting 1999)).state ≡ (1999 ∷ [])
  pub at_limit : (on_converged 0 2000 (counting 2000)).state.waiting ≡ (entry 4 line_volume_limit 0 1 1 2 1310720 2000 0 ∷ [])
  pub none_open : open_counts (on_converged 0 2000 (counting 2000)).state ≡ (0 ∷ [])
  pub both_limits : causes (on_converged 2000 2000 (counting 2000)).taken ≡ (0 ∷ session_volume_limit ∷ session_volume_limit ∷ [])
  pub tariff_stays : opened_under (record { trigger = tariff_time; switch = 2; category = 0; threshold = 0 }) ≡ opened 0 1
  pub waits : length (on_converged 0 0 (changes 96)).taken ≡ 1
  pub sends : length (on_converged 0 0 (changes 97)).taken ≡ 99
  pub without_cause : take 2 (on_converged 0 0 (changes 97)).taken ≡ (entry 1 0 0 0 1 1 7 0 0 ∷ entry 2 0 0 97 2 2 7 0 0 ∷ [])
  pub intake_2 : finished_at 2 ≡ refused 10
  pub intake_3 : finished_at 3 ≡ sent 2

-- what the laws need

-- a kind of keys that gives two keys one code
abbrev pub one_code : Coding Bool
one_code = record { ranged = λ k. true; line = λ k. line_id 4 0 }

-- a column whose tariff time can be switched
abbrev pub switchable : Column
switchable n = cond (n == tariff_time) (Some (rule false false true)) (converged n)

-- without the law of keys, or with a tariff time that can be switched, the laws do not hold of every list of calls
pub record PremisesAreNeeded : Type 0 where
  pub keys : ((m : Making) (fs : List (Fed Bool)) → Lawful one_code converged m fs) → ⊥
  pub tariff : ((m : Making) (fs : List (Fed ServiceKey)) → Lawful services switchable m fs) → ⊥
