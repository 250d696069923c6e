-- What every accepted call does to the lines, whatever it decides by, and that the decisions keep to it.
use Rattle.std.proofs.Common.{◌≡◌, ℕ, zero, suc, ◌+◌, ◌-◌, ◌<◌, ◌≤◌, Bool, true, false, cond, not, ◌&&◌, ◌||◌, eqb, ltb, leb, List, [], ◌∷◌, ◌++◌, length, get_or, set, Some, None, Ok, Err, Option, Result, sym, refl, ap, ◌∙◌, subst, arith}
use Rattle.std.specs.List.{AllByRecursion}
use Rattle.std.proofs.ByRecursion.{All-weaker, All-push}
use Rattle.std.proofs.lemmas.Bool.{eqb-true, and_parts, and_from, true≢false, cond_both, not-false, ltb-false}
use Rattle.entries.specs.declared.key.LineId.{LineId}
use Rattle.entries.specs.Keys.{same_line}
use Rattle.entries.specs.Octets.{Direction, up, down, in_direction}
use Rattle.entries.specs.Triggers.{tariff_time, session_time_limit, session_volume_limit, line_time_limit, line_volume_limit, session_end, abort, is_condition}
use Rattle.session.specs.declared.answer.Refusal.{Refusal}
use Rattle.session.specs.declared.answer.Refusal.TheVariants.{OtherSlip, Early, OutOfRange, LineActive, NoActiveLine, TooManyLines, TooLarge}
use Rattle.session.specs.declared.event.Event.TheVariants.{Open as Opening, Start, Usage, End, Change, Tick, Intervene, Push, Finish, Shelve}
use Rattle.session.specs.declared.state.Act.{Act}
use Rattle.session.specs.declared.state.Edit.TheVariants.{Keep}
use Rattle.session.specs.declared.state.Line.{Line}
use Rattle.session.specs.declared.state.Phase.{Phase}
use Rattle.session.specs.declared.state.Phase.TheVariants.{Fresh, Open, Ended, Shelved}
use Rattle.session.specs.declared.state.Selection.{Selection}
use Rattle.session.specs.declared.state.Selection.TheVariants.{Nothing, Active, One, OpenFor}
use Rattle.session.specs.Closing.{closes, restarted, closed_lines}
use Rattle.session.specs.Deciding.{Call, open_act, start_at, count_act, usage_at, ending, end_at, changing, change_act, tick_act, intervene_act, push_act, finish_act, shelve_act}
use Rattle.session.specs.Deciding.{most_lines, largest_period, own_slip, timely, when_fresh, when_open, decide, decide_in}
use Rattle.session.specs.Laws.{is_tariff_change, open_of, open_on}
use Rattle.session.specs.Performing.{edited, stopped_at}
use Rattle.session.specs.State.{State, setting, can_fire, limit_met, line_at, no_line, new_line, counted, started, stopped, over_total, open_octets, volume_sum, place_of}
use Rattle.session.proofs.Places.{place_found}
use Rattle.session.proofs.Updates.{is_line, active_line, any, update, Apart, Idle, same_sym, same_refl, not_active, apart_update, all_update, open_update, none_are, apart_push, open_push, count_one}
use Rattle.session.proofs.Updates.{place_none, update_at, any_at, none_active, closed_update}

pub no_way : {A : Type 0} → false ≡ true → A
no_way h = absurd (true≢false (sym h))

pub all_two : {X : Type 0} (P Q R : X → Type 0) → ((x : X) → P x → Q x → R x) → (xs : List X) → AllByRecursion P xs → AllByRecursion Q xs → AllByRecursion R xs
all_two P Q R f [] h k = tt
all_two P Q R f (x ∷ xs) h k = (f x h.0 k.0, all_two P Q R f xs h.1 k.1)

-- sessions that can be met
pub record Sound (s : State) : Type 0 where
  pub apart : Apart s.lines
  pub idle : AllByRecursion Idle s.lines
  pub tariff : (setting s tariff_time).known ≡ true → (setting s tariff_time).enabled ≡ true
  pub settled : s.marks.phase ≡ Ended → (s.waiting ≡ []) × ((d : Direction) (k : LineId) → open_on d k s.lines ≡ 0)

-- the lines after a call's own start or count; which of them close, with which cause; which of them then stop
pub record Deed : Type 0 where
  pub lines : List Line
  pub closes : Line → Bool
  pub stops : Line → Bool
  pub cause : ℕ

abbrev pub Silent : Line → Type 0
Silent l = (d : Direction) → open_of d l ≡ 0

-- every active line closes, but for such that have nothing open
abbrev pub Whole : Deed → Type 0
Whole a = (l : Line) → l.active ≡ true → a.closes l ≡ false → Silent l

-- the phase after a call, and which call is a finish

abbrev pub next_phase : Call → Phase → Phase
next_phase Opening p = Open
next_phase (Start k) p = p
next_phase (Usage k u w) p = p
next_phase (End k) p = p
next_phase (Change n) p = p
next_phase Tick p = p
next_phase Intervene p = p
next_phase Push p = p
next_phase (Finish c) p = Ended
next_phase Shelve p = Shelved

abbrev pub is_finish : Call → Bool
is_finish Opening = false
is_finish (Start k) = false
is_finish (Usage k u w) = false
is_finish (End k) = false
is_finish (Change n) = false
is_finish Tick = false
is_finish Intervene = false
is_finish Push = false
is_finish (Finish c) = true
is_finish Shelve = false

-- each active line is open since the time that b has for it
abbrev pub Since : (LineId → Option ℕ) → List Line → Type 0
Since b ls = AllByRecursion (λ l. l.active ≡ true → b l.id ≡ Some l.since) ls

-- what a call starts, and what it reports, by the lines that its keys name

abbrev pub names : LineId → Option LineId → Bool
names k None = false
names k (Some j) = same_line j k

abbrev pub started_line : Call → Option LineId
started_line Opening = None
started_line (Start k) = k
started_line (Usage k u w) = None
started_line (End k) = None
started_line (Change n) = None
started_line Tick = None
started_line Intervene = None
started_line Push = None
started_line (Finish c) = None
started_line Shelve = None

abbrev pub starts : Call → LineId → Bool
starts c k = names k (started_line c)

abbrev pub reported_by : Direction → LineId → Call → ℕ
reported_by d k Opening = 0
reported_by d k (Start j) = 0
reported_by d k (Usage j u w) = cond (names k j) (in_direction d u w) 0
reported_by d k (End j) = 0
reported_by d k (Change n) = 0
reported_by d k Tick = 0
reported_by d k Intervene = 0
reported_by d k Push = 0
reported_by d k (Finish c) = 0
reported_by d k Shelve = 0

-- what a call's own start or count leaves of the lines
pub record Moved (s : State) (c : Call) (t : ℕ) (ls : List Line) : Type 0 where
  pub apart : Apart ls
  pub idle : AllByRecursion Idle ls
  pub since : (b b' : LineId → Option ℕ) → ((k : LineId) → starts c k ≡ true → b' k ≡ Some t)
      → ((k : LineId) → starts c k ≡ false → b' k ≡ b k) → Since b s.lines → Since b' ls
  pub counts : (d : Direction) (k : LineId) → open_on d k ls ≡ open_on d k s.lines + reported_by d k c

-- what every deed keeps to: only active lines close, and a line stops, the period ends and the session ends with nothing
-- left open
pub record Fair (s : State) (c : Call) (t : ℕ) (a : Deed) : Type 0 where
  pub moved : Moved s c t a.lines
  pub active : (l : Line) → a.closes l ≡ true → l.active ≡ true
  pub stops : (l : Line) → a.stops l ≡ true → l.active ≡ true → a.closes l ≡ false → Silent l
  pub tariff : is_tariff_change c ≡ true → Whole a
  pub final : is_finish c ≡ true → Whole a

-- the deed of an act
abbrev pub deed : State → Act → ℕ → (Line → Bool) → Deed
deed s a t stops = record { lines = edited a.edit s.lines; closes = closes a.chosen t; stops = stops; cause = a.cause }

pub record FairAct (s : State) (c : Call) (t : ℕ) (a : Act) : Type 0 where
  pub stops : Line → Bool
  pub fair : Fair s c t (deed s a t stops)
  pub stopped_is : stopped_at a.stop (closed_lines (closes a.chosen t) t (edited a.edit s.lines))
      ≡ update stops stopped (update (closes a.chosen t) (restarted t) (edited a.edit s.lines))
  pub period : a.marks.period ≡ cond (is_tariff_change c) (s.marks.period + 1) s.marks.period
  pub phase : a.marks.phase ≡ next_phase c s.marks.phase

abbrev pub Good : State → Call → ℕ → Result Act Refusal → Type 0
Good s c t (Err r) = Unit {0}
Good s c t (Ok a) = FairAct s c t a

abbrev pub GoodInTime : State → Call → ℕ → Result Act Refusal → Type 0
GoodInTime s c t (Err r) = Unit {0}
GoodInTime s c t (Ok a) = (s.last ≤ t) × FairAct s c t a

-- only active lines close
pub closes_active : (x : Selection) (t : ℕ) (l : Line) → closes x t l ≡ true → l.active ≡ true
closes_active Nothing t l h = no_way h
closes_active Active t l h = h
closes_active (One k) t l h = (and_parts l.active (same_line l.id k) h).0
closes_active (OpenFor n) t l h = (and_parts l.active (leb n (t - l.since)) h).0

-- the lines as they are
pub unmoved : (s : State) (c : Call) (t : ℕ) → Sound s → ((d : Direction) (k : LineId) → reported_by d k c ≡ 0)
    → ((k : LineId) → starts c k ≡ false) → Moved s c t s.lines
unmoved s c t sound none begun = record {
  apart = sound.apart;
  idle = sound.idle;
  since = λ b b' yes' no' h.
      All-weaker (λ l. l.active ≡ true → b l.id ≡ Some l.since) (λ l. l.active ≡ true → b' l.id ≡ Some l.since)
      (λ l q e. no' l.id (begun l.id) ∙ q e) s.lines h;
  counts = λ d k. omega (arith, none d k);
}

none_stop : (f : Line → Line) (ls : List Line) → update (λ l. false) f ls ≡ ls
none_stop f [] = refl
none_stop f (l ∷ ls) = ap (λ (r : List Line). l ∷ r) (none_stop f ls)

-- an act that stops no line and goes on in the same period
ordinary : (s : State) (c : Call) (t : ℕ) (a : Act) → Moved s c t (edited a.edit s.lines) → a.stop ≡ None → a.marks.period ≡ s.marks.period
    → is_tariff_change c ≡ false → a.marks.phase ≡ next_phase c s.marks.phase → (is_finish c ≡ true → Whole (deed s a t (λ l. false)))
    → FairAct s c t a
ordinary s c t a m none per same phase final = record {
  stops = λ l. false;
  fair = record {
    moved = m;
    active = closes_active a.chosen t;
    stops = λ l h. no_way h;
    tariff = λ h. no_way (sym same ∙ h);
    final = final;
  };
  stopped_is =
      ap (λ (o : Option ℕ). stopped_at o (closed_lines (closes a.chosen t) t (edited a.edit s.lines))) none
      ∙ (closed_update (closes a.chosen t) t (edited a.edit s.lines)
      ∙ sym (none_stop stopped (update (closes a.chosen t) (restarted t) (edited a.edit s.lines))));
  period = per ∙ sym (ap (λ (b : Bool). cond b (s.marks.period + 1) s.marks.period) same);
  phase = phase;
}

-- the lines with a report counted
used : (s : State) (k : LineId) (u w t : ℕ) → Sound s → any (active_line k) s.lines ≡ true
    → Moved s (Usage (Some k) u w) t (update (active_line k) (counted u w) s.lines)
used s k u w t sound has' = record {
  apart = apart_update (active_line k) (counted u w) (λ l. refl) s.lines sound.apart;
  idle = all_update Idle Idle (active_line k) (counted u w)
      (λ l q e off. no_way (sym off ∙ (and_parts l.active (is_line k l) e).0)) (λ l q e. q) s.lines sound.idle;
  since = λ b b' yes' no' h.
      all_update (λ l. l.active ≡ true → b' l.id ≡ Some l.since) (λ l. l.active ≡ true → b l.id ≡ Some l.since)
      (active_line k) (counted u w) (λ l q e on. no' l.id refl ∙ q on) (λ l q e on. no' l.id refl ∙ q on) s.lines h;
  counts = λ d j. count_one d k j u w s.lines sound.apart has';
}

-- the lines with one started again, and with a new one
restarts : (s : State) (k : LineId) (t : ℕ) → Sound s → any (active_line k) s.lines ≡ false
    → Moved s (Start (Some k)) t (update (is_line k) (started t) s.lines)
restarts s k t sound off = record {
  apart = apart_update (is_line k) (started t) (λ l. refl) s.lines sound.apart;
  idle = all_update Idle Idle (is_line k) (started t) (λ l q e h. no_way (sym h)) (λ l q e. q) s.lines sound.idle;
  since = λ b b' yes' no' h.
      all_update (λ l. l.active ≡ true → b' l.id ≡ Some l.since) (λ l. l.active ≡ true → b l.id ≡ Some l.since)
      (is_line k) (started t) (λ l q e on. yes' l.id (same_sym k l.id ∙ e))
      (λ l q e on. no' l.id (same_sym k l.id ∙ e) ∙ q on) s.lines h;
  counts = λ d j. omega (
    arith,
    open_update (is_line k) (started t) (λ l. refl) d j s.lines
        (all_two (λ l. active_line k l ≡ false) Idle (λ l. is_line k l ≡ true → open_of d (started t l) ≡ open_of d l)
        (λ l h q e. nothing_open d l h q e) s.lines (none_are (active_line k) s.lines off) sound.idle),
  );
}
  where
    opens_none : (d : Direction) (l : Line) → open_of d (started t l) ≡ 0
    opens_none up l = refl
    opens_none down l = refl

    off_line : (x y : Bool) → (x && y) ≡ false → y ≡ true → x ≡ false
    off_line true y h e = no_way (sym h ∙ e)
    off_line false y h e = refl

    nothing_open : (d : Direction) (l : Line) → active_line k l ≡ false → Idle l → is_line k l ≡ true → open_of d (started t l) ≡ open_of d l
    nothing_open d l h q e = opens_none d l ∙ sym (q (off_line l.active (is_line k l) h e) d)

begins_new : (s : State) (k : LineId) (t : ℕ) → Sound s → any (is_line k) s.lines ≡ false
    → Moved s (Start (Some k)) t (s.lines ++ (new_line k t ∷ []))
begins_new s k t sound new = record {
  apart = apart_push s.lines (new_line k t) sound.apart new;
  idle = All-push Idle s.lines (new_line k t) sound.idle (λ h. no_way (sym h));
  since = λ b b' yes' no' h.
      All-push (λ l. l.active ≡ true → b' l.id ≡ Some l.since) s.lines (new_line k t)
      (all_two (λ l. is_line k l ≡ false) (λ l. l.active ≡ true → b l.id ≡ Some l.since) (λ l. l.active ≡ true → b' l.id ≡ Some l.since)
      (λ l e q on. no' l.id (same_sym k l.id ∙ e) ∙ q on) s.lines (none_are (is_line k) s.lines new) h)
      (λ on. yes' k (same_refl k));
  counts = λ d j. omega (arith, open_push d j s.lines (new_line k t) (opens_none d));
}
  where
    opens_none : (d : Direction) → open_of d (new_line k t) ≡ 0
    opens_none up = refl
    opens_none down = refl

-- a line by its place
record At (s : State) (k : LineId) (i : ℕ) : Type 0 where
  within : i < length s.lines
  named : is_line k (line_at s i) ≡ true

found : (s : State) (k : LineId) (i : ℕ) → place_of s k ≡ Some i → At s k i
found s k i h =
    let r = place_found k s.lines 0 i h in
    record { within = omega (arith, r.1); named = ap (λ (j : ℕ). is_line k (line_at s j)) (minus_none i) ∙ r.2 }
  where
    minus_none : (i : ℕ) → i ≡ i - 0
    minus_none i = omega arith

module _ (s : State) (t : ℕ) (sound : Sound s) where
  usage_fair : (k : LineId) (u w : ℕ) (p : Option ℕ) → place_of s k ≡ p → Good s (Usage (Some k) u w) t (usage_at s k u w p)
  usage_fair k u w None e = tt
  usage_fair k u w (Some i) e =
      let c : Call = Usage (Some k) u w in
      let a = found s k i e in
      let n : Line = counted u w (line_at s i) in
      cond_both (not (line_at s i).active) (Err NoActiveLine) _ (Good s c t) (λ e. tt) (λ e.
      cond_both (over_total n) (Err TooLarge) (Ok (count_act s k i u w n)) (Good s c t) (λ e. tt) (λ small.
      let on : (line_at s i).active ≡ true = not-false (line_at s i).active e in
      let here : active_line k (line_at s i) ≡ true = and_from (line_at s i).active (is_line k (line_at s i)) on a.named in
      let same : update (active_line k) (counted u w) s.lines ≡ set s.lines i n =
      update_at (active_line k) (counted u w) k s.lines i no_line (not_active k) sound.apart a.within a.named here in
      let m : Moved s c t (set s.lines i n) =
      subst (Moved s c t) same (used s k u w t sound (any_at (active_line k) s.lines i no_line a.within here)) in
      cond_both (limit_met s session_volume_limit (volume_sum s.marks.volume u w)) _ _ (FairAct s c t)
      (λ e. ordinary s c t _ m refl refl refl refl no_way) (λ e.
      cond_both (limit_met s line_volume_limit (open_octets n)) _ _ (FairAct s c t)
      (λ e. ordinary s c t _ m refl refl refl refl no_way)
      (λ e. ordinary s c t _ m refl refl refl refl no_way))))

  start_fair : (k : LineId) (p : Option ℕ) → place_of s k ≡ p → Good s (Start (Some k)) t (start_at s k t p)
  start_fair k None e =
      let c : Call = Start (Some k) in
      cond_both (leb most_lines (length s.lines)) (Err TooManyLines) (Ok _) (Good s c t) (λ e. tt)
      (λ q. ordinary s c t _ (begins_new s k t sound (place_none k 0 s.lines e)) refl refl refl refl no_way)
  start_fair k (Some i) e =
      let c : Call = Start (Some k) in
      let a = found s k i e in
      cond_both (line_at s i).active (Err LineActive) (Ok _) (Good s c t) (λ e. tt) (λ off.
      let same : update (is_line k) (started t) s.lines ≡ set s.lines i (started t (line_at s i)) =
      update_at (is_line k) (started t) k s.lines i no_line (λ l h. h) sound.apart a.within a.named a.named in
      ordinary s c t _ (subst (Moved s c t) same
      (restarts s k t sound (none_active k s.lines i no_line sound.apart a.within a.named off))) refl refl refl refl no_way)

  end_fair : (k : LineId) (p : Option ℕ) → place_of s k ≡ p → Good s (End (Some k)) t (end_at s k p)
  end_fair k None e = tt
  end_fair k (Some i) e =
      let c : Call = End (Some k) in
      let a = found s k i e in
      cond_both (line_at s i).active (Ok (ending s k i)) (Err NoActiveLine) (Good s c t) (λ on. record {
        stops = is_line k;
        fair = record {
          moved = unmoved s c t sound (λ d k. refl) (λ k. refl);
          active = closes_active (One k) t;
          stops = λ l h on off. no_way (sym off ∙ and_from l.active (is_line k l) on h);
          tariff = λ h. no_way h;
          final = λ h. no_way h;
        };
        stopped_is = stopped_there k i a.within a.named;
        period = refl;
        phase = refl;
      }) (λ e. tt)
    where
      stopped_there : (k : LineId) (i : ℕ) → i < length s.lines → is_line k (line_at s i) ≡ true
          → stopped_at (Some i) (closed_lines (closes (One k) t) t s.lines) ≡ update (is_line k) stopped (update (closes (One k) t) (restarted t) s.lines)
      stopped_there k i h e =
          let ls : List Line = update (closes (One k) t) (restarted t) s.lines in
          ap (stopped_at (Some i)) (closed_update (closes (One k) t) t s.lines)
          ∙ sym (update_at (is_line k) stopped k ls i no_line (λ l h. h)
          (apart_update (closes (One k) t) (restarted t) (λ l. refl) s.lines sound.apart) (long s.lines i h) (named s.lines i h e) (named s.lines i h e))
        where
          long : (ls : List Line) (i : ℕ) → i < length ls → i < length (update (closes (One k) t) (restarted t) ls)
          long ls i h = omega (arith, h, same_length ls)
            where
              same_length : (ls : List Line) → length (update (closes (One k) t) (restarted t) ls) ≡ length ls
              same_length [] = refl
              same_length (l ∷ ls) = ap suc (same_length ls)

          id_kept : (b : Bool) (l : Line) → is_line k (cond b (restarted t l) l) ≡ is_line k l
          id_kept true l = refl
          id_kept false l = refl

          named : (ls : List Line) (i : ℕ) → i < length ls → is_line k (get_or ls i no_line) ≡ true
              → is_line k (get_or (update (closes (One k) t) (restarted t) ls) i no_line) ≡ true
          named [] i h e = absurd (let z : ⊥ = omega arith in z)
          named (l ∷ ls) zero h e = id_kept (closes (One k) t l) l ∙ e
          named (l ∷ ls) (suc i) h e = named ls i (omega arith) e

  change_fair : (n : ℕ) → Good s (Change n) t (change_act s n)
  change_fair n =
      cond_both (not (is_condition n && (setting s n).known)) (Err OutOfRange) _ (Good s (Change n) t) (λ e. tt) (λ known.
      cond_both (eqb n tariff_time && leb largest_period s.marks.period) (Err TooLarge) (Ok (changing s n)) (Good s (Change n) t) (λ e. tt) (λ e. record {
        stops = λ l. false;
        fair = record {
          moved = unmoved s (Change n) t sound (λ d k. refl) (λ k. refl);
          active = closes_active (changing s n).chosen t;
          stops = λ l h. no_way h;
          tariff = λ h l on off.
              no_way (sym off ∙ (ap (λ (b : Bool). closes (cond b Active Nothing) t l)
              (tariff_on n h (and_parts (is_condition n) (setting s n).known (not-false _ known)).1) ∙ on));
          final = λ h. no_way h;
        };
        stopped_is = closed_update (closes (changing s n).chosen t) t s.lines
            ∙ sym (none_stop stopped (update (closes (changing s n).chosen t) (restarted t) s.lines));
        period = refl;
        phase = refl;
      }))
    where
      tariff_on : (n : ℕ) → eqb n tariff_time ≡ true → (setting s n).known ≡ true → (setting s n).enabled ≡ true
      tariff_on n h known =
          let e = eqb-true n tariff_time h in
          subst (λ (m : ℕ). (setting s m).enabled ≡ true) (sym e) (sound.tariff (subst (λ (m : ℕ). (setting s m).known ≡ true) e known))

  -- an act that leaves the lines as they are
  kept_fair : (c : Call) (a : Act) → a.edit ≡ Keep → a.stop ≡ None → a.marks.period ≡ s.marks.period
      → ((d : Direction) (k : LineId) → reported_by d k c ≡ 0) → ((k : LineId) → starts c k ≡ false) → is_tariff_change c ≡ false
      → a.marks.phase ≡ next_phase c s.marks.phase → (is_finish c ≡ true → Whole (deed s a t (λ l. false))) → FairAct s c t a
  kept_fair c a keep none per silent begun same phase final =
      ordinary s c t a (subst (λ e. Moved s c t (edited e s.lines)) (sym keep) (unmoved s c t sound silent begun)) none per same phase final

  tick_fair : FairAct s Tick t (tick_act s t)
  tick_fair =
      cond_both (limit_met s session_time_limit (t - s.marks.since)) _ _ (FairAct s Tick t)
      (λ e. kept_fair Tick _ refl refl refl (λ d k. refl) (λ k. refl) refl refl no_way) (λ e.
      cond_both (can_fire s line_time_limit) _ _ (FairAct s Tick t) (λ e. kept_fair Tick _ refl refl refl (λ d k. refl) (λ k. refl) refl refl no_way)
      (λ e. kept_fair Tick _ refl refl refl (λ d k. refl) (λ k. refl) refl refl no_way))

  finish_fair : (c : ℕ) → Good s (Finish c) t (finish_act s c)
  finish_fair c =
      cond_both (eqb c session_end || eqb c abort) (Ok _) (Err OutOfRange) (Good s (Finish c) t)
      (λ e. kept_fair (Finish c) _ refl refl refl (λ d k. refl) (λ k. refl) refl refl (λ h l on off. no_way (sym off ∙ on))) (λ e. tt)

  timely_fair : (c : Call) (d : Result Act Refusal) → Good s c t d → GoodInTime s c t (timely s t d)
  timely_fair c d h =
      cond_both (ltb t s.last) (Err Early) d (GoodInTime s c t) (λ e. tt) (λ e. in_time d h (ltb-false t s.last e))
    where
      in_time : (d : Result Act Refusal) → Good s c t d → s.last ≤ t → GoodInTime s c t d
      in_time (Err r) h le = tt
      in_time (Ok a) h le = (le, h)

  own_fair : (slip : ℕ) (c : Call) (d : Result Act Refusal) → GoodInTime s c t d → GoodInTime s c t (own_slip s slip d)
  own_fair slip c d h = cond_both (eqb slip s.id) d (Err OtherSlip) (GoodInTime s c t) (λ e. h) (λ e. tt)

  fresh_fair : (c : Call) → GoodInTime s c t (when_fresh s c t)
  fresh_fair Opening = timely_fair Opening (Ok (open_act s t)) (kept_fair Opening (open_act s t) refl refl refl (λ d k. refl) (λ k. refl) refl refl no_way)
  fresh_fair (Start k) = tt
  fresh_fair (Usage k u w) = tt
  fresh_fair (End k) = tt
  fresh_fair (Change n) = tt
  fresh_fair Tick = tt
  fresh_fair Intervene = tt
  fresh_fair Push = tt
  fresh_fair (Finish c) = tt
  fresh_fair Shelve = tt

  open_fair : (slip : ℕ) (c : Call) → GoodInTime s c t (when_open s c slip t)
  open_fair slip Opening = tt
  open_fair slip (Start None) = timely_fair (Start None) (Err OutOfRange) tt
  open_fair slip (Start (Some k)) = timely_fair (Start (Some k)) _ (start_fair k (place_of s k) refl)
  open_fair slip (Usage None u w) = timely_fair (Usage None u w) (Err OutOfRange) tt
  open_fair slip (Usage (Some k) u w) = timely_fair (Usage (Some k) u w) _ (usage_fair k u w (place_of s k) refl)
  open_fair slip (End None) = timely_fair (End None) (Err OutOfRange) tt
  open_fair slip (End (Some k)) = timely_fair (End (Some k)) _ (end_fair k (place_of s k) refl)
  open_fair slip (Change n) = timely_fair (Change n) _ (change_fair n)
  open_fair slip Tick = timely_fair Tick _ tick_fair
  open_fair slip Intervene = timely_fair Intervene _ (kept_fair Intervene (intervene_act s) refl refl refl (λ d k. refl) (λ k. refl) refl refl no_way)
  open_fair slip Push = timely_fair Push _ (kept_fair Push (push_act s) refl refl refl (λ d k. refl) (λ k. refl) refl refl no_way)
  open_fair slip (Finish c) = own_fair slip (Finish c) _ (timely_fair (Finish c) _ (finish_fair c))
  open_fair slip Shelve = own_fair slip Shelve _ (timely_fair Shelve _ (kept_fair Shelve (shelve_act s) refl refl refl (λ d k. refl) (λ k. refl) refl refl no_way))

  pub decide_fair : (slip : ℕ) (c : Call) → GoodInTime s c t (decide s c slip t)
  decide_fair slip c = go s.marks.phase
    where
      go : (p : Phase) → GoodInTime s c t (decide_in p s c slip t)
      go Fresh = fresh_fair c
      go Open = open_fair slip c
      go Ended = tt
      go Shelved = tt
