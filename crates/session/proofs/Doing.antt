-- What one call does: it is refused and nothing changes, or it performs a fair act, and what closed is handed over or waits.
use Rattle.std.proofs.Common.{◌≡◌, ℕ, ◌+◌, ◌<◌, ◌≤◌, Bool, true, false, cond, ◌&&◌, ◌||◌, eqb, ltb, leb, ◌⊎◌, List, [], ◌∷◌, ◌++◌, length, get_or, set, Some, None, Ok, Err, Option, Result, sym, refl, ap, ◌∙◌, subst, inl, inr, arith, length-set}
use Rattle.std.proofs.lemmas.List.{append-nil, get_or-set_same, get_or-set_other, get_or_past}
use Rattle.std.proofs.lemmas.Bool.{eqb-true, eqb-false, and_parts, cond_both, cases_lt}
use Rattle.entries.specs.declared.entry.Entry.{Entry}
use Rattle.entries.specs.declared.key.LineId.{LineId}
use Rattle.entries.specs.declared.method.Rule.{Rule}
use Rattle.entries.specs.declared.taker.Override.{Override}
use Rattle.entries.specs.Columns.{Column, TariffFixed}
use Rattle.entries.specs.Entries.{initial, update as update_kind, termination}
use Rattle.entries.specs.Triggers.{tariff_time, is_limit}
use Rattle.session.specs.declared.answer.Due.{Due}
use Rattle.session.specs.declared.answer.Opened.{Opened}
use Rattle.session.specs.declared.answer.Refusal.{Refusal}
use Rattle.session.specs.declared.answer.Refusal.TheVariants.{IntakeTooSmall}
use Rattle.session.specs.declared.event.Event.TheVariants.{Open as Opening, Start, Usage, End, Change, Tick, Intervene, Push, Finish, Shelve}
use Rattle.session.specs.declared.state.Act.{Act}
use Rattle.session.specs.declared.state.Setting.{Setting}
use Rattle.session.specs.Answers.{Answer, refused, number, told_opening, told_report, told_finish, told_shelving}
use Rattle.session.specs.Deciding.{Call, decide}
use Rattle.session.specs.Laws.{is_container}
use Rattle.session.specs.Performing.{Outcome, acted, no_place, all_waiting, head, head_of, offer_taken, reported, report_unless, reporting, finish_unless, finishing, shelving, opening}
use Rattle.session.specs.Performing.{report_above}
use Rattle.session.specs.Profiles.{applied, applied_one, permitted, permitted_by, override_in_range, overridden}
use Rattle.session.specs.State.{State, no_setting}
use Rattle.session.specs.Steps.{Fed, answered, step, step_of, accepted as was_accepted}
use Rattle.session.proofs.Fair.{Sound, FairAct, GoodInTime, is_finish, no_way, decide_fair}

pub record Stayed (s : State) (o : Outcome Answer) : Type 0 where
  pub state : o.state ≡ s
  pub added : o.added ≡ []
  pub refused : was_accepted o ≡ false

-- of the containers ws some are handed over behind a head and the others wait, or all wait
pub record Sent (ws added waiting : List Entry) : Type 0 where
  pub first : Entry
  pub others : List Entry
  pub kind : is_container first ≡ false
  pub no_up : first.uplink.0 ≡ 0
  pub no_down : first.downlink.0 ≡ 0
  pub added_is : added ≡ first ∷ others
  pub split : others ++ waiting ≡ ws

pub record Kept (ws added waiting : List Entry) : Type 0 where
  pub added_is : added ≡ []
  pub waiting_is : waiting ≡ ws

abbrev pub TariffOn : List Setting → Type 0
TariffOn ts = (get_or ts tariff_time no_setting).known ≡ true → (get_or ts tariff_time no_setting).enabled ≡ true

pub record Did (s : State) (f : Fed (Option LineId)) (o : Outcome Answer) : Type 0 where
  pub act : Act
  pub decided : Ok act ≡ decide s f.call f.slip f.time
  pub well : FairAct s f.call f.time act
  pub timely : s.last ≤ f.time
  pub accepted : was_accepted o ≡ true
  pub id : o.state.id ≡ s.id
  pub marks : o.state.marks ≡ act.marks
  pub last : o.state.last ≡ f.time
  pub closed : o.state.closed ≡ (acted s act f.time).closed
  pub lines : o.state.lines ≡ (acted s act f.time).lines
  pub tariff : TariffOn s.settings → TariffOn o.state.settings
  pub emptied : is_finish f.call ≡ true → o.state.waiting ≡ []
  pub handed : Sent (acted s act f.time).waiting o.added o.state.waiting
      ⊎ Kept (acted s act f.time).waiting o.added o.state.waiting

abbrev pub Done : State → Fed (Option LineId) → Outcome Answer → Type 0
Done s f o = Stayed s o ⊎ Did s f o

module _ (s : State) (f : Fed (Option LineId)) where
  refuses : (r : Refusal) → Done s f (record { state = s; answer = refused (number r); added = [] })
  refuses r = inl (record { state = refl; added = refl; refused = refl })

  module _ (a : Act) (e : Ok a ≡ decide s f.call f.slip f.time) (h : (s.last ≤ f.time) × FairAct s f.call f.time a) where
    -- a call after whose act nothing is handed over
    keeps : (answer : Answer) (owed : Bool) → was_accepted (record { state = s; answer = answer; added = [] }) ≡ true → is_finish f.call ≡ false
        → Done s f (record {
          state = record {
            id = s.id;
            settings = s.settings;
            marks = a.marks;
            last = f.time;
            closed = (acted s a f.time).closed;
            owed = owed;
            lines = (acted s a f.time).lines;
            waiting = (acted s a f.time).waiting;
          };
          answer = answer;
          added = [];
        })
    keeps answer owed ok goes_on = inr (record {
      act = a;
      decided = e;
      well = h.1;
      timely = h.0;
      accepted = ok;
      id = refl;
      marks = refl;
      last = refl;
      closed = refl;
      lines = refl;
      tariff = λ q. q;
      emptied = λ q. no_way (sym goes_on ∙ q);
      handed = inr (record { added_is = refl; waiting_is = refl });
    })

    -- and one after whose act all that waits is
    sends : (answer : Answer) (first : Entry) → was_accepted (record { state = s; answer = answer; added = [] }) ≡ true
        → is_container first ≡ false → first.uplink.0 ≡ 0 → first.downlink.0 ≡ 0
        → Done s f (record {
          state = record {
            id = s.id;
            settings = s.settings;
            marks = a.marks;
            last = f.time;
            closed = (acted s a f.time).closed;
            owed = false;
            lines = (acted s a f.time).lines;
            waiting = [];
          };
          answer = answer;
          added = first ∷ (acted s a f.time).waiting;
        })
    sends answer first ok kind no_up no_down = inr (record {
      act = a;
      decided = e;
      well = h.1;
      timely = h.0;
      accepted = ok;
      id = refl;
      marks = refl;
      last = refl;
      closed = refl;
      lines = refl;
      tariff = λ q. q;
      emptied = λ q. refl;
      handed = inl (record {
        first = first;
        others = (acted s a f.time).waiting;
        kind = kind;
        no_up = no_up;
        no_down = no_down;
        added_is = refl;
        split = append-nil (acted s a f.time).waiting;
      });
    })

    offers : (cause : ℕ) (taken : Bool) → is_finish f.call ≡ false
        → Done s f (answered told_report (reported s a f.time (offer_taken (acted s a f.time) cause f.time taken)))
    offers cause true goes_on = sends _ (head_of (acted s a f.time) update_kind cause f.time) refl refl refl refl
    offers cause false goes_on = keeps _ true refl goes_on

    report_does : (r : Option Refusal) → is_finish f.call ≡ false → Done s f (answered told_report (report_unless r s a f.time f.intake))
    report_does (Some r) goes_on = refuses r
    report_does None goes_on =
        cond_both (a.due || (s.owed || ltb report_above (length (acted s a f.time).waiting))) _ _
        (λ (o : Outcome Due). Done s f (answered told_report (reported s a f.time o)))
        (λ _. offers a.report (leb (length (acted s a f.time).waiting + 1) f.intake) goes_on)
        (λ _. keeps _ s.owed refl goes_on)

    finish_does : (r : Option Refusal) → Done s f (answered told_finish (finish_unless r s a f.time f.intake))
    finish_does (Some r) = refuses r
    finish_does None =
        cond_both (leb (all_waiting s a f.time + 1) f.intake) _ _ (λ (o : Outcome (Result ℕ Refusal)). Done s f (answered told_finish o))
        (λ _. sends _ (head_of (acted s a f.time) termination a.cause f.time) refl refl refl refl)
        (λ _. refuses IntakeTooSmall)

  reporting_does : (d : Result Act Refusal) → d ≡ decide s f.call f.slip f.time → GoodInTime s f.call f.time d → is_finish f.call ≡ false
      → Done s f (answered told_report (reporting s f.time f.intake d))
  reporting_does (Err r) e h goes_on = refuses r
  reporting_does (Ok a) e h goes_on = report_does a e h (no_place s a f.time) goes_on

  finishing_does : (d : Result Act Refusal) → d ≡ decide s f.call f.slip f.time → GoodInTime s f.call f.time d
      → Done s f (answered told_finish (finishing s f.time f.intake d))
  finishing_does (Err r) e h = refuses r
  finishing_does (Ok a) e h = finish_does a e h (no_place s a f.time)

  shelving_does : (d : Result Act Refusal) → d ≡ decide s f.call f.slip f.time → GoodInTime s f.call f.time d → is_finish f.call ≡ false
      → Done s f (answered told_shelving (shelving s f.time d))
  shelving_does (Err r) e h goes_on = refuses r
  shelving_does (Ok a) e h goes_on = keeps a e h _ s.owed refl goes_on

-- an opening: trigger 7 stays enabled whatever the profile says

-- where the tariff time may not be switched, an override that is permitted leaves its switch
switch_left : (column : Column) → TariffFixed column → (o : Override) → permitted (column tariff_time) o ≡ true → eqb o.switch 0 ≡ true
switch_left column fixed o h = go (column tariff_time) fixed h
  where
    left : (b x : Bool) → x ≡ false → (b || x) ≡ true → b ≡ true
    left true x e h = refl
    left false x e h = sym e ∙ h

    go : (row : Option Rule) → ((r : Rule) → row ≡ Some r → (r.recategorised ≡ false) × (r.switched ≡ false))
        → permitted row o ≡ true → eqb o.switch 0 ≡ true
    go None f p = no_way p
    go (Some r) f p =
        let q = (and_parts (override_in_range o) (permitted_by r o) p).1 in
        left (eqb o.switch 0) r.switched (f r refl).1
        (and_parts (eqb o.switch 0 || r.switched) ((eqb o.category 0 || r.recategorised) && (eqb o.threshold 0 || is_limit o.trigger)) q).0

-- one override of the tariff time, or of another trigger
stays_on : (ts : List Setting) (v : Setting) → TariffOn ts
    → (v.known ≡ true → (get_or ts tariff_time no_setting).known ≡ true) → ((get_or ts tariff_time no_setting).enabled ≡ true → v.enabled ≡ true)
    → TariffOn (set ts tariff_time v)
stays_on ts v h k on = go (cases_lt tariff_time (length ts))
  where
    go : (tariff_time < length ts) ⊎ (length ts ≤ tariff_time) → TariffOn (set ts tariff_time v)
    go (inl l) =
        let e = get_or-set_same ts tariff_time v no_setting l in
        subst (λ (x : Setting). x.known ≡ true → x.enabled ≡ true) (sym e) (λ q. on (h (k q)))
    go (inr l) = λ q. no_way (ap (λ (x : Setting). x.known) (sym (get_or_past (set ts tariff_time v) tariff_time no_setting (omega (arith, length-set ts tariff_time v)))) ∙ q)

one_applied : (column : Column) → TariffFixed column → (o : Override) (ts : List Setting) → permitted (column o.trigger) o ≡ true
    → TariffOn ts → TariffOn (set ts o.trigger (overridden (get_or ts o.trigger no_setting) o))
one_applied column fixed o ts p h = go (eqb o.trigger tariff_time) refl
  where
    same : (n : ℕ) → n ≡ tariff_time → permitted (column n) o ≡ true → TariffOn (set ts n (overridden (get_or ts n no_setting) o))
    same n e q =
        let q7 : permitted (column tariff_time) o ≡ true = rw e at q in
        rw e (stays_on ts (overridden (get_or ts tariff_time no_setting) o) h (λ k. k)
        (λ on. ap (λ (b : Bool). cond b (get_or ts tariff_time no_setting).enabled (eqb o.switch 1)) (switch_left column fixed o q7) ∙ on))

    go : (b : Bool) → eqb o.trigger tariff_time ≡ b → TariffOn (set ts o.trigger (overridden (get_or ts o.trigger no_setting) o))
    go true e = same o.trigger (eqb-true o.trigger tariff_time e) p
    go false e =
        subst (λ (x : Setting). x.known ≡ true → x.enabled ≡ true)
        (sym (get_or-set_other ts o.trigger tariff_time (overridden (get_or ts o.trigger no_setting) o) no_setting
        (λ q. eqb-false o.trigger tariff_time e (sym q)))) h

applied_keeps : (column : Column) → TariffFixed column → (os : List Override) (ts : List Setting) → TariffOn ts → TariffOn (applied column os ts)
applied_keeps column fixed [] ts h = h
applied_keeps column fixed (o ∷ os) ts h =
    applied_keeps column fixed os (applied_one (column o.trigger) o ts)
    (cond_both (permitted (column o.trigger) o) _ _ TariffOn (λ p. one_applied column fixed o ts p h) (λ p. h))

module _ (column : Column) (fixed : TariffFixed column) (s : State) where
  opening_does : (f : Fed (Option LineId)) (d : Result Act Refusal) → d ≡ decide s f.call f.slip f.time
      → GoodInTime s f.call f.time d → is_finish f.call ≡ false
      → Done s f (answered told_opening (opening column f.profile s f.time f.intake d))
  opening_does f (Err r) e h goes_on = refuses s f r
  opening_does f (Ok a) e h goes_on =
      cond_both (leb 1 f.intake) _ _ (λ (o : Outcome (Result Opened Refusal)). Done s f (answered told_opening o))
      (λ _. inr (record {
        act = a;
        decided = e;
        well = h.1;
        timely = h.0;
        accepted = refl;
        id = refl;
        marks = refl;
        last = refl;
        closed = refl;
        lines = refl;
        tariff = applied_keeps column fixed f.profile s.settings;
        emptied = λ q. no_way (sym goes_on ∙ q);
        handed = inl (record {
          first = head initial 0 s.marks.period 0 f.time s.id;
          others = [];
          kind = refl;
          no_up = refl;
          no_down = refl;
          added_is = refl;
          split = refl;
        });
      }))
      (λ _. refuses s f IntakeTooSmall)

  pub step_does : (f : Fed (Option LineId)) → Sound s → Done s f (step column s f)
  step_does f sound = go f.call refl
    where
      same : (c : Call) → f.call ≡ c → decide s c f.slip f.time ≡ decide s f.call f.slip f.time
      same c e = ap (λ (x : Call). decide s x f.slip f.time) (sym e)

      well : (c : Call) → f.call ≡ c → GoodInTime s f.call f.time (decide s c f.slip f.time)
      well c e = subst (GoodInTime s f.call f.time) (sym (same c e)) (decide_fair s f.time sound f.slip f.call)

      reports : (c : Call) → f.call ≡ c → is_finish c ≡ false
          → Done s f (answered told_report (reporting s f.time f.intake (decide s c f.slip f.time)))
      reports c e goes_on = reporting_does s f (decide s c f.slip f.time) (same c e) (well c e) (ap is_finish e ∙ goes_on)

      go : (c : Call) → f.call ≡ c → Done s f (step_of c column s f)
      go Opening e = opening_does f (decide s Opening f.slip f.time) (same Opening e) (well Opening e) (ap is_finish e)
      go (Start k) e = reports (Start k) e refl
      go (Usage k u w) e = reports (Usage k u w) e refl
      go (End k) e = reports (End k) e refl
      go (Change n) e = reports (Change n) e refl
      go Tick e = reports Tick e refl
      go Intervene e = reports Intervene e refl
      go Push e = reports Push e refl
      go (Finish c) e = finishing_does s f (decide s (Finish c) f.slip f.time) (same (Finish c) e) (well (Finish c) e)
      go Shelve e = shelving_does s f (decide s Shelve f.slip f.time) (same Shelve e) (well Shelve e) (ap is_finish e)
