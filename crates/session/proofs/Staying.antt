-- The slip of an open session can be spent: an opening makes it so, calls that may report leave it so, and then a shelving
-- takes the slip.
use Rattle.std.proofs.Common.{◌≡◌, ℕ, ◌-◌, ◌≤◌, Bool, true, false, cond, not, ◌&&◌, ◌||◌, eqb, ltb, leb, List, [], length, Some, None, Ok, Err, Option, Result, sym, refl, ap, ◌∙◌, subst, arith}
use Rattle.std.proofs.lemmas.Bool.{cond_both, cond-true, cond-false, eq-eqb, le-ltb}
use Rattle.entries.specs.declared.key.LineId.{LineId}
use Rattle.entries.specs.declared.taker.Override.{Override}
use Rattle.entries.specs.Columns.{Column}
use Rattle.entries.specs.Keys.{Coding}
use Rattle.entries.specs.Triggers.{tariff_time, session_time_limit, session_volume_limit, line_time_limit, line_volume_limit, is_condition}
use Rattle.session.specs.declared.answer.Due.{Due}
use Rattle.session.specs.declared.answer.Opened.{Opened}
use Rattle.session.specs.declared.answer.Refusal.{Refusal}
use Rattle.session.specs.declared.answer.Refusal.TheVariants.{Early, OutOfRange, LineActive, NoActiveLine, TooManyLines, TooLarge}
use Rattle.session.specs.declared.event.Event.{Event}
use Rattle.session.specs.declared.event.Event.TheVariants.{Open as Opening, Start, Usage, End, Change, Tick, Intervene, Push, Finish, Shelve}
use Rattle.session.specs.declared.state.Act.{Act}
use Rattle.session.specs.declared.state.Line.{Line}
use Rattle.session.specs.declared.state.Phase.{Phase}
use Rattle.session.specs.declared.state.Phase.TheVariants.{Fresh, Open, Ended, Shelved}
use Rattle.session.specs.Answers.{Answer, told_opening, told_report, told_shelving}
use Rattle.session.specs.Deciding.{Call, most_lines, largest_period, start_at, count_act, usage_at, end_at, change_act, tick_act, open_act, timely, decide, decide_in}
use Rattle.session.specs.Laws.{Does}
use Rattle.session.specs.Performing.{Outcome, acted, no_place, offer, report_above, reported, report_unless, reporting, shelving, opened, opening}
use Rattle.session.specs.Slips.{Spendable}
use Rattle.session.specs.State.{State, setting, can_fire, line_at, place_of, limit_met, volume_sum, counted, over_total, open_octets}
use Rattle.session.specs.Steps.{fed, seen, seen_event, may_report, answered, step, accepted, is_accepted}
use Rattle.session.proofs.Fair.{no_way}
use Rattle.session.proofs.Lawful.{reports}

module _ (s : State) where
  -- a decision to leave the phase as it is
  abbrev Keeps : Result Act Refusal → Type 0
  Keeps (Ok a) = a.marks.phase ≡ s.marks.phase
  Keeps (Err r) = Unit {0}

  timely_keeps : (t : ℕ) (d : Result Act Refusal) → Keeps d → Keeps (timely s t d)
  timely_keeps t d h = cond_both (ltb t s.last) (Err Early) d Keeps (λ q. tt) (λ q. h)

  start_keeps : (t : ℕ) (k : LineId) (p : Option ℕ) → Keeps (start_at s k t p)
  start_keeps t k (Some i) = cond_both (line_at s i).active (Err LineActive) (Ok _) Keeps (λ q. tt) (λ q. refl)
  start_keeps t k None = cond_both (leb most_lines (length s.lines)) (Err TooManyLines) (Ok _) Keeps (λ q. tt) (λ q. refl)

  count_keeps : (k : LineId) (i u w : ℕ) (l : Line) → (count_act s k i u w l).marks.phase ≡ s.marks.phase
  count_keeps k i u w l =
      cond_both (limit_met s session_volume_limit (volume_sum s.marks.volume u w)) _ _ (λ (a : Act). a.marks.phase ≡ s.marks.phase) (λ q. refl) (λ q.
      cond_both (limit_met s line_volume_limit (open_octets l)) _ _ (λ (a : Act). a.marks.phase ≡ s.marks.phase) (λ q. refl) (λ q. refl))

  usage_keeps : (k : LineId) (u w : ℕ) (p : Option ℕ) → Keeps (usage_at s k u w p)
  usage_keeps k u w None = tt
  usage_keeps k u w (Some i) =
      cond_both (not (line_at s i).active) (Err NoActiveLine) _ Keeps (λ q. tt) (λ q.
      cond_both (over_total (counted u w (line_at s i))) (Err TooLarge) (Ok _) Keeps (λ q. tt) (λ q. count_keeps k i u w (counted u w (line_at s i))))

  end_keeps : (k : LineId) (p : Option ℕ) → Keeps (end_at s k p)
  end_keeps k None = tt
  end_keeps k (Some i) = cond_both (line_at s i).active (Ok _) (Err NoActiveLine) Keeps (λ q. refl) (λ q. tt)

  change_keeps : (n : ℕ) → Keeps (change_act s n)
  change_keeps n =
      cond_both (not (is_condition n && (setting s n).known)) (Err OutOfRange) _ Keeps (λ q. tt) (λ q.
      cond_both (eqb n tariff_time && leb largest_period s.marks.period) (Err TooLarge) (Ok _) Keeps (λ q. tt) (λ q. refl))

  tick_keeps : (t : ℕ) → (tick_act s t).marks.phase ≡ s.marks.phase
  tick_keeps t =
      cond_both (limit_met s session_time_limit (t - s.marks.since)) _ _ (λ (a : Act). a.marks.phase ≡ s.marks.phase) (λ q. refl) (λ q.
      cond_both (can_fire s line_time_limit) _ _ (λ (a : Act). a.marks.phase ≡ s.marks.phase) (λ q. refl) (λ q. refl))

  open_keeps : (t : ℕ) (c : Call) → may_report c ≡ true → Keeps (decide_in Open s c 0 t)
  open_keeps t Opening h = no_way h
  open_keeps t (Start None) h = timely_keeps t _ tt
  open_keeps t (Start (Some k)) h = timely_keeps t _ (start_keeps t k (place_of s k))
  open_keeps t (Usage None u w) h = timely_keeps t _ tt
  open_keeps t (Usage (Some k) u w) h = timely_keeps t _ (usage_keeps k u w (place_of s k))
  open_keeps t (End None) h = timely_keeps t _ tt
  open_keeps t (End (Some k)) h = timely_keeps t _ (end_keeps k (place_of s k))
  open_keeps t (Change n) h = timely_keeps t _ (change_keeps n)
  open_keeps t Tick h = timely_keeps t _ (tick_keeps t)
  open_keeps t Intervene h = timely_keeps t _ refl
  open_keeps t Push h = timely_keeps t _ refl
  open_keeps t (Finish c) h = no_way h
  open_keeps t Shelve h = no_way h

  -- the session after a call that may report
  record Stays (t : ℕ) (o : Outcome Answer) : Type 0 where
    phase : o.state.marks.phase ≡ s.marks.phase
    id : o.state.id ≡ s.id
    last : o.state.last ≡ cond (accepted o) t s.last

  reporting_stays : (t intake : ℕ) (d : Result Act Refusal) → Keeps d → Stays t (answered told_report (reporting s t intake d))
  reporting_stays t intake (Err r) h = record { phase = refl; id = refl; last = refl }
  reporting_stays t intake (Ok a) h = go (no_place s a t)
    where
      go : (p : Option Refusal) → Stays t (answered told_report (report_unless p s a t intake))
      go (Some r) = record { phase = refl; id = refl; last = refl }
      go None =
          cond_both (a.due || (s.owed || ltb report_above (length (acted s a t).waiting))) (offer (acted s a t) a.report t intake) _
          (λ (o : Outcome Due). Stays t (answered told_report (reported s a t o)))
          (λ q. record { phase = h; id = refl; last = refl }) (λ q. record { phase = h; id = refl; last = refl })

seen_reports : {K : Type 0} (x : Coding K) (e : Event K) → may_report (seen_event x e) ≡ may_report e
seen_reports x Opening = refl
seen_reports x (Start k) = refl
seen_reports x (Usage k u w) = refl
seen_reports x (End k) = refl
seen_reports x (Change n) = refl
seen_reports x Tick = refl
seen_reports x Intervene = refl
seen_reports x Push = refl
seen_reports x (Finish c) = refl
seen_reports x Shelve = refl

module _ {K : Type 0} (x : Coding K) (column : Column) (s : State) where
  -- over a call that may report the slip stays spendable, from the call's time on where it is accepted
  pub stays : (e : Event K) (slip last t intake : ℕ) → may_report e ≡ true → Spendable s slip last → (o : Outcome Answer)
      → o ≡ step column s (seen x (fed e 0 t intake [])) → Spendable o.state slip (cond (accepted o) t last)
  stays e slip last t intake r h o is =
      let keeps : Keeps s (decide s (seen_event x e) 0 t) =
      subst (λ (p : Phase). Keeps s (decide_in p s (seen_event x e) 0 t)) (sym h.phase) (open_keeps s t (seen_event x e) (seen_reports x e ∙ r)) in
      let k : Stays s t o = subst (Stays s t) (reports x column s e t intake r ∙ sym is) (reporting_stays s t intake (decide s (seen_event x e) 0 t) keeps) in
      record { phase = k.phase ∙ h.phase; own = h.own ∙ sym k.id; late = omega (arith, k.last, later (accepted o)) }
    where
      later : (b : Bool) → cond b t s.last ≤ cond b t last
      later true = omega arith
      later false = h.late

  -- the same, by what the call promises
  pub carries : (e : Event K) (t intake : ℕ) (answer : Answer) (s' : State) → Does x column s (fed e 0 t intake []) answer s' → may_report e ≡ true
      → (slip last : ℕ) → Spendable s slip last → Spendable s' slip (cond (is_accepted answer) t last)
  carries e t intake answer s' d r slip last h =
      let k = stays e slip last t intake r h (step column s (seen x (fed e 0 t intake []))) refl in
      let same = ap (λ (a : Answer). cond (is_accepted a) t last) d.answers in
      record {
        phase = ap (λ (y : State). y.marks.phase) d.becomes ∙ k.phase;
        own = k.own ∙ sym (ap (λ (y : State). y.id) d.becomes);
        late = omega (arith, ap (λ (y : State). y.last) d.becomes, k.late, same);
      }

  -- and from any time on that is not before the call's
  pub carries_on : (e : Event K) (t intake : ℕ) (answer : Answer) (s' : State) → Does x column s (fed e 0 t intake []) answer s' → may_report e ≡ true
      → (slip u : ℕ) → t ≤ u → Spendable s slip u → Spendable s' slip u
  carries_on e t intake answer s' d r slip u soon h =
      let k = carries e t intake answer s' d r slip u h in
      record { phase = k.phase; own = k.own; late = omega (arith, k.late, within (is_accepted answer)) }
    where
      within : (b : Bool) → cond b t u ≤ u
      within true = soon
      within false = omega arith

  -- an accepted opening makes its slip spendable
  pub opens : (t intake : ℕ) (profile : List Override) (o : Outcome Answer) → o ≡ step column s (seen x (fed Opening 0 t intake profile))
      → accepted o ≡ true → Spendable o.state s.id t
  opens t intake profile o is = subst Opens (sym is) (go s.marks.phase)
    where
      Opens : Outcome Answer → Type 0
      Opens o = accepted o ≡ true → Spendable o.state s.id t

      go : (p : Phase) → Opens (answered told_opening (opening column profile s t intake (decide_in p s Opening 0 t)))
      go Fresh =
          cond_both (ltb t s.last) (Err Early) (Ok (open_act s t)) (λ (d : Result Act Refusal). Opens (answered told_opening (opening column profile s t intake d)))
          (λ q h. no_way h) (λ q.
          cond_both (leb 1 intake) (opened column profile s (open_act s t) t) _ (λ (o : Outcome (Result Opened Refusal)). Opens (answered told_opening o))
          (λ p h. record { phase = refl; own = refl; late = omega arith }) (λ p h. no_way h))
      go Open = λ h. no_way h
      go Ended = λ h. no_way h
      go Shelved = λ h. no_way h

  -- the same, by what the call promises
  pub opens_with : (t intake : ℕ) (profile : List Override) (answer : Answer) (s' : State) → Does x column s (fed Opening 0 t intake profile) answer s'
      → is_accepted answer ≡ true → (slip u : ℕ) → slip ≡ s.id → t ≤ u → Spendable s' slip u
  opens_with t intake profile answer s' d ok slip u own soon =
      let k = opens t intake profile (step column s (seen x (fed Opening 0 t intake profile))) refl (sym (ap is_accepted d.answers) ∙ ok) in
      record {
        phase = ap (λ (y : State). y.marks.phase) d.becomes ∙ k.phase;
        own = own ∙ k.own ∙ sym (ap (λ (y : State). y.id) d.becomes);
        late = omega (arith, ap (λ (y : State). y.last) d.becomes, k.late, soon);
      }

  -- a shelving takes a spendable slip
  pub shelves : (slip t : ℕ) → Spendable s slip t → accepted (step column s (seen x (fed Shelve slip t 0 []))) ≡ true
  shelves slip t h =
      let shown : Result Act Refusal → Bool = λ d. is_accepted (told_shelving (shelving s t d).answer) in
      ap (λ (p : Phase). shown (decide_in p s Shelve slip t)) h.phase
      ∙ ap shown (cond-true _ _ _ (eq-eqb slip s.id h.own) ∙ cond-false _ _ _ (le-ltb t s.last h.late))
