-- What holds after every list of calls from any making: every octet has one place, containers follow one another, finished
-- sessions agree, and requests are well formed.
use Rattle.std.specs.Prelude.{◌≡◌, ℕ, ◌+◌, max, Bool, true, false, cond, ◌&&◌, List, [], ◌∷◌, ◌++◌, length, drop, Some, None, filter, Option, ◌==◌}
use Rattle.std.specs.List.{AllZip}
use Rattle.entries.specs.declared.entry.Entry.{Entry}
use Rattle.entries.specs.declared.key.LineId.{LineId}
use Rattle.entries.specs.Columns.{Column}
use Rattle.entries.specs.Entries.{service_line, qos_line}
use Rattle.entries.specs.Keys.{Coding, same_line}
use Rattle.entries.specs.Octets.{Direction, in_direction, line_of, in_book}
use Rattle.entries.specs.Requests.{well_formed}
use Rattle.entries.specs.Triggers.{tariff_time, between}
use Rattle.session.specs.declared.event.Event.{Event}
use Rattle.session.specs.declared.event.Event.TheVariants.{Open as Opening, Start, Usage, End, Change, Tick, Intervene, Push, Finish, Shelve}
use Rattle.session.specs.declared.state.Line.{Line}
use Rattle.session.specs.declared.state.Phase.TheVariants.{Ended}
use Rattle.session.specs.Answers.{Answer}
use Rattle.session.specs.Deciding.{started_key}
use Rattle.session.specs.Performing.{Outcome}
use Rattle.session.specs.State.{State}
use Rattle.session.specs.Steps.{Making, as_made, Fed, seen, step, accepted, run}
use Rattle.session.specs.Taking.{Handed}

-- keys

-- a test that decides whether keys in range are equal
pub record Decides {K : Type 0} (x : Coding K) (same : K → K → Bool) : Type 0 where
  pub equal : (a b : K) → x.ranged a ≡ true → x.ranged b ≡ true → same a b ≡ true → a ≡ b
  pub itself : (a : K) → x.ranged a ≡ true → same a a ≡ true

-- every octet has one place

-- the octets that a call reports on the key k: those of a usage whose key is k
abbrev pub reported_on : {K : Type 0} → (K → K → Bool) → Direction → K → Event K → ℕ
reported_on same d k Opening = 0
reported_on same d k (Start j) = 0
reported_on same d k (Usage j u w) = cond (same j k) (in_direction d u w) 0
reported_on same d k (End j) = 0
reported_on same d k (Change n) = 0
reported_on same d k Tick = 0
reported_on same d k Intervene = 0
reported_on same d k Push = 0
reported_on same d k (Finish c) = 0
reported_on same d k Shelve = 0

abbrev pub is_tariff_change : {K : Type 0} → Event K → Bool
is_tariff_change Opening = false
is_tariff_change (Start j) = false
is_tariff_change (Usage j u w) = false
is_tariff_change (End j) = false
is_tariff_change (Change n) = n == tariff_time
is_tariff_change Tick = false
is_tariff_change Intervene = false
is_tariff_change Push = false
is_tariff_change (Finish c) = false
is_tariff_change Shelve = false

-- the tariff period after a call: one more after an accepted change of the tariff time
abbrev pub next_period : {K : Type 0} → (accepted : Bool) → Event K → ℕ → ℕ
next_period ok c q = cond (ok && is_tariff_change c) (q + 1) q

abbrev pub period_after : {K : Type 0} → Coding K → Column → State → ℕ → List (Fed K) → ℕ
period_after x column s q [] = q
period_after x column s q (f ∷ fs) =
    period_after x column (step column s (seen x f)).state (next_period (accepted (step column s (seen x f))) f.call q) fs

-- the octets of accepted reports on the key k in the tariff period p, where q changes of it were accepted before
abbrev pub accepted_octets : {K : Type 0} → Coding K → (K → K → Bool) → Column → State → (q : ℕ) → Direction → K → (p : ℕ) → List (Fed K) → ℕ
accepted_octets x same column s q d k p [] = 0
accepted_octets x same column s q d k p (f ∷ fs) =
    cond (accepted (step column s (seen x f)) && q == p) (reported_on same d k f.call) 0
    + accepted_octets x same column (step column s (seen x f)).state (next_period (accepted (step column s (seen x f))) f.call q) d k p fs

abbrev pub open_of : Direction → Line → ℕ
open_of d l = in_direction d l.uplink.0 l.downlink.0

-- the open count of a line; 0 where there is no line
abbrev pub open_on : Direction → LineId → List Line → ℕ
open_on d k [] = 0
open_on d k (l ∷ ls) = cond (same_line l.id k) (open_of d l) 0 + open_on d k ls

-- it is of the present tariff period only
abbrev pub open_in : Direction → LineId → (p : ℕ) → State → ℕ
open_in d k p s = cond (s.marks.period == p) (open_on d k s.lines) 0

-- accepted octets are in taken containers, in waiting ones, or open
pub record EveryOctetHasOnePlace {K : Type 0} (x : Coding K) (same : K → K → Bool) (column : Column) (m : Making) (fs : List (Fed K)) : Type 0 where
  pub present : (run x column m fs).state.marks.period ≡ period_after x column (as_made column m) 0 fs
  pub octets : (d : Direction) (k : K) → x.ranged k ≡ true → (p : ℕ)
      → accepted_octets x same column (as_made column m) 0 d k p fs
      ≡ in_book d (x.line k) p (run x column m fs).taken + in_book d (x.line k) p (run x column m fs).state.waiting
      + open_in d (x.line k) p (run x column m fs).state

-- containers follow one another

abbrev pub is_container : Entry → Bool
is_container e = between service_line qos_line e.kind

abbrev pub containers : List Entry → List Entry
containers es = filter is_container es

-- what happened to lines: a key's line was started at a time, or a line was closed into a container
pub data Happening (K : Type 0) : Type 0 where
  started_at : K → ℕ → Happening K
  closed_into : Entry → Happening K

-- the containers that a call closed: those taken by it and then those that wait after it, without those that waited before
abbrev pub closed_in_call : State → Outcome Answer → List Entry
closed_in_call s o = drop (length s.waiting) (containers o.added ++ o.state.waiting)

abbrev pub noted_closings : {K : Type 0} → List Entry → List (Happening K) → List (Happening K)
noted_closings [] past = past
noted_closings (e ∷ es) past = noted_closings es (closed_into e ∷ past)

abbrev pub noted_start : {K : Type 0} → (accepted : Bool) → Option K → ℕ → List (Happening K) → List (Happening K)
noted_start ok None t past = past
noted_start ok (Some k) t past = cond ok (started_at k t ∷ past) past

-- the history of calls, the newest first: accepted starts, and what was closed
abbrev pub history : {K : Type 0} → Coding K → Column → State → List (Happening K) → List (Fed K) → List (Happening K)
history x column s past [] = past
history x column s past (f ∷ fs) =
    history x column (step column s (seen x f)).state
    (noted_closings (closed_in_call s (step column s (seen x f)))
    (noted_start (accepted (step column s (seen x f))) (started_key f.call) f.time past)) fs

-- the containers of a history, the oldest first
abbrev pub closed_in : {K : Type 0} → List (Happening K) → List Entry
closed_in [] = []
closed_in (started_at j t ∷ past) = closed_in past
closed_in (closed_into e ∷ past) = closed_in past ++ (e ∷ [])

abbrev pub Numbered : ℕ → List Entry → Type 0
Numbered n [] = Unit {0}
Numbered n (e ∷ es) = (e.number ≡ n + 1) × Numbered (n + 1) es

-- where a line was last started, and where its last container ended
abbrev pub last_start : {K : Type 0} → (K → K → Bool) → K → List (Happening K) → Option ℕ
last_start same k [] = None
last_start same k (started_at j t ∷ past) = cond (same j k) (Some t) (last_start same k past)
last_start same k (closed_into e ∷ past) = last_start same k past

abbrev pub last_end : {K : Type 0} → LineId → List (Happening K) → ℕ
last_end k [] = 0
last_end k (started_at j t ∷ past) = last_end k past
last_end k (closed_into e ∷ past) = cond (same_line (line_of e) k) e.to (last_end k past)

abbrev pub not_before : ℕ → Option ℕ → Option ℕ
not_before t None = None
not_before t (Some u) = Some (max u t)

-- where a key's next container begins: at the end of its last one or at its last start, whichever is later
abbrev pub begins_at : {K : Type 0} → Coding K → (K → K → Bool) → K → List (Happening K) → Option ℕ
begins_at x same k past = not_before (last_end (x.line k) past) (last_start same k past)

-- a container is of the line of a key in range, and begins where that key's next one has to
pub record Follows {K : Type 0} (x : Coding K) (same : K → K → Bool) (e : Entry) (past : List (Happening K)) : Type 0 where
  pub its_key : (k : K) × ((x.ranged k ≡ true) × (x.line k ≡ line_of e))
  pub begins : (k : K) → x.ranged k ≡ true → x.line k ≡ line_of e → begins_at x same k past ≡ Some e.from

abbrev pub AllFollow : {K : Type 0} → Coding K → (K → K → Bool) → List (Happening K) → Type 0
AllFollow x same [] = Unit {0}
AllFollow x same (started_at j t ∷ past) = AllFollow x same past
AllFollow x same (closed_into e ∷ past) = Follows x same e past × AllFollow x same past

-- containers taken and then waiting are those that the history closed, in its order, numbered 1, 2, 3 and on
pub record ContainersFollowOneAnother {K : Type 0} (x : Coding K) (same : K → K → Bool) (column : Column) (m : Making) (fs : List (Fed K)) : Type 0 where
  pub listed : containers ((run x column m fs).taken ++ (run x column m fs).state.waiting) ≡ closed_in (history x column (as_made column m) [] fs)
  pub numbered : Numbered 0 (containers ((run x column m fs).taken ++ (run x column m fs).state.waiting))
  pub follow : AllFollow x same (history x column (as_made column m) [] fs)

-- finished sessions agree

-- the same call at the same time, whatever its slip and its taker
pub record SameCall {K : Type 0} (f g : Fed K) : Type 0 where
  pub call : f.call ≡ g.call
  pub time : f.time ≡ g.time

abbrev pub acceptances : {K : Type 0} → Coding K → Column → State → List (Fed K) → List Bool
acceptances x column s [] = []
acceptances x column s (f ∷ fs) = accepted (step column s (seen x f)) ∷ acceptances x column (step column s (seen x f)).state fs

-- another session with the same calls, of which the same are refused, has charged the same once both are finished
abbrev pub FinishedSessionsAgree : {K : Type 0} → Coding K → Column → Making → List (Fed K) → Type 0
FinishedSessionsAgree {K} x column m fs =
    (n : Making) (gs : List (Fed K)) → AllZip SameCall fs gs
    → acceptances x column (as_made column m) fs ≡ acceptances x column (as_made column n) gs
    → (run x column m fs).state.marks.phase ≡ Ended → (run x column n gs).state.marks.phase ≡ Ended
    → (d : Direction) (k : K) → x.ranged k ≡ true → (p : ℕ)
    → in_book d (x.line k) p (run x column m fs).taken ≡ in_book d (x.line k) p (run x column n gs).taken

-- every request is well formed, so that a taker takes it exactly when its intake suffices

abbrev pub WellFormed : List Entry → Type 0
WellFormed [] = Unit {0}
WellFormed (h ∷ cs) = well_formed h cs ≡ true

abbrev pub RequestsWellFormed : {K : Type 0} → Coding K → Column → State → List (Fed K) → Type 0
RequestsWellFormed x column s [] = Unit {0}
RequestsWellFormed x column s (f ∷ fs) =
    WellFormed (step column s (seen x f)).added × RequestsWellFormed x column (step column s (seen x f)).state fs

-- the laws, of a making and a list of calls; there is a test of equal keys, and they hold by every such test
pub record Lawful {K : Type 0} (x : Coding K) (column : Column) (m : Making) (fs : List (Fed K)) : Type 0 where
  pub decided : (same : K → K → Bool) × Decides x same
  pub one_place : (same : K → K → Bool) → Decides x same → EveryOctetHasOnePlace x same column m fs
  pub in_order : (same : K → K → Bool) → Decides x same → ContainersFollowOneAnother x same column m fs
  pub agreement : FinishedSessionsAgree x column m fs
  pub requests : RequestsWellFormed x column (as_made column m) fs

-- what a call does

-- the answer and the session after it are those of the step; and whatever making and calls the session comes from, it is
-- then where they and this call lead, and the laws hold of them
pub record Does {K : Type 0} (x : Coding K) (column : Column) (s : State) (f : Fed K) (answer : Answer) (s' : State) : Type 0 where
  pub answers : answer ≡ (step column s (seen x f)).answer
  pub becomes : s' ≡ (step column s (seen x f)).state
  pub leads : (m : Making) (fs : List (Fed K)) → s ≡ (run x column m fs).state → s' ≡ (run x column m (fs ++ (f ∷ []))).state
  pub lawful : (m : Making) (fs : List (Fed K)) → s ≡ (run x column m fs).state → Lawful x column m (fs ++ (f ∷ []))

-- what a call leaves of the taker that it was lent: its book gains what the step adds, and its memory is as one taking of
-- that leaves it, or as it was where nothing is added
pub record Lends {T : Type 0} (added : List Entry) (book : T → List Entry) (took : T → Entry → List Entry → T → Type 0) (before after : T) : Type 0 where
  pub gains : book after ≡ book before ++ added
  pub hands : Handed took before added after
