-- Every octet has one place; and what is charged does not depend on thresholds, profiles or takers.
use Rattle.std.proofs.Common.{◌≡◌, ℕ, ◌+◌, Bool, true, false, cond, ◌&&◌, eqb, ltb, ◌⊎◌, List, [], ◌∷◌, ◌++◌, Some, None, Ok, Err, Option, Result, sym, refl, ap, ◌∙◌, subst, ap₂, inl, inr, arith}
use Rattle.std.specs.List.{AllZip, AllByRecursion}
use Rattle.std.proofs.lemmas.Bool.{cond_both}
use Rattle.entries.specs.declared.entry.Entry.{Entry}
use Rattle.entries.specs.declared.key.LineId.{LineId}
use Rattle.entries.specs.declared.method.Rule.{Rule}
use Rattle.entries.specs.Columns.{Column, TariffFixed}
use Rattle.entries.specs.Keys.{Coding, Distinct, same_line}
use Rattle.entries.specs.Octets.{Direction, up, down, in_direction, in_book}
use Rattle.entries.specs.Triggers.{tariff_time}
use Rattle.session.specs.declared.answer.Refusal.{Refusal}
use Rattle.session.specs.declared.answer.Refusal.TheVariants.{WrongPhase, Early, OutOfRange}
use Rattle.session.specs.declared.event.Event.{Event}
use Rattle.session.specs.declared.event.Event.TheVariants.{Open as Opening, Start, Usage, End, Change, Tick, Intervene, Push, Finish, Shelve}
use Rattle.session.specs.declared.state.Act.{Act}
use Rattle.session.specs.declared.state.Line.{Line}
use Rattle.session.specs.declared.state.Marks.{Marks}
use Rattle.session.specs.declared.state.Phase.{Phase}
use Rattle.session.specs.declared.state.Phase.TheVariants.{Fresh, Open, Ended, Shelved}
use Rattle.session.specs.Answers.{Answer, told_report}
use Rattle.session.specs.Closing.{restarted, closings}
use Rattle.session.specs.Deciding.{Call, decide, decide_in}
use Rattle.session.specs.Laws.{open_of, open_on, open_in, is_tariff_change, next_period, reported_on, accepted_octets, period_after, Decides, SameCall, acceptances, EveryOctetHasOnePlace, FinishedSessionsAgree}
use Rattle.session.specs.Performing.{Outcome, reporting}
use Rattle.session.specs.Profiles.{setting_made}
use Rattle.session.specs.State.{State, stopped}
use Rattle.session.specs.Steps.{Making, as_made, Fed, answered, seen_event, seen, step, step_of, accepted, Run, after, run}
use Rattle.session.proofs.Doing.{Did, Sent, Kept, Done, step_does}
use Rattle.session.proofs.Fair.{Sound, Deed, deed, Silent, no_way, names, reported_by, next_phase, is_finish}
use Rattle.session.proofs.Updates.{update, Apart, Idle, same_refl, same_true, same_test, apart_update, all_update, open_update, closings_move, all_closed, book_append, no_octets}

nil : (b : Bool) → ◌≡◌ {A = ℕ} (cond b 0 0) 0
nil true = refl
nil false = refl

-- a sound session stays sound

-- of a line after the closings: it has nothing open, or did not close
abbrev Halfway : Deed → Line → Type 0
Halfway a l = ((d : Direction) → open_of d l ≡ 0) ⊎ (Idle l × (a.closes l ≡ false))

idle_after : (a : Deed) (t : ℕ) → ((l : Line) → a.stops l ≡ true → l.active ≡ true → a.closes l ≡ false → Silent l) → AllByRecursion Idle a.lines
    → AllByRecursion Idle (update a.stops stopped (update a.closes (restarted t) a.lines))
idle_after a t stops h =
    all_update Idle (Halfway a) a.stops stopped now_off still_on (update a.closes (restarted t) a.lines)
    (all_update (Halfway a) Idle a.closes (restarted t) (λ l q e. inl (none t l)) (λ l q e. inr (q, e)) a.lines h)
  where
    none : (t : ℕ) (l : Line) (d : Direction) → open_of d (restarted t l) ≡ 0
    none t l up = refl
    none t l down = refl

    same : (l : Line) (d : Direction) → open_of d (stopped l) ≡ open_of d l
    same l up = refl
    same l down = refl

    nothing : (l : Line) → a.stops l ≡ true → Idle l → a.closes l ≡ false → (b : Bool) → l.active ≡ b → (d : Direction) → open_of d l ≡ 0
    nothing l e q c true on d = stops l e on c d
    nothing l e q c false off d = q off d

    now_off : (l : Line) → Halfway a l → a.stops l ≡ true → Idle (stopped l)
    now_off l (inl z) e off d = same l d ∙ z d
    now_off l (inr q) e off d = same l d ∙ nothing l e q.0 q.1 l.active refl d

    still_on : (l : Line) → Halfway a l → a.stops l ≡ false → Idle l
    still_on l (inl z) e off d = z d
    still_on l (inr q) e off d = q.0 off d

all_lines : (P : Line → Type 0) → ((l : Line) → P l) → (ls : List Line) → AllByRecursion P ls
all_lines P f [] = tt
all_lines P f (l ∷ ls) = (f l, all_lines P f ls)

-- the open counts after an act are those after its closings
open_after : (d : Direction) (k : LineId) (a : Deed) (t : ℕ)
    → open_on d k (update a.stops stopped (update a.closes (restarted t) a.lines)) ≡ open_on d k (update a.closes (restarted t) a.lines)
open_after d k a t =
    open_update a.stops stopped (λ l. refl) d k (update a.closes (restarted t) a.lines)
    (all_lines (λ l. a.stops l ≡ true → open_of d (stopped l) ≡ open_of d l) (λ l e. same l d) (update a.closes (restarted t) a.lines))
  where
    same : (l : Line) (d : Direction) → open_of d (stopped l) ≡ open_of d l
    same l up = refl
    same l down = refl

-- the act of a call as a deed on the lines, and the lines after it

abbrev pub deed_of : {s : State} {f : Fed (Option LineId)} {o : Outcome Answer} → Did s f o → Deed
deed_of {s} {f} x = deed s x.act f.time x.well.stops

pub lines_after : {s : State} {f : Fed (Option LineId)} {o : Outcome Answer} (x : Did s f o)
    → o.state.lines ≡ update (deed_of x).stops stopped (update (deed_of x).closes (restarted f.time) (deed_of x).lines)
lines_after x = x.lines ∙ x.well.stopped_is

pub period_now : {s : State} {f : Fed (Option LineId)} {o : Outcome Answer} (x : Did s f o)
    → o.state.marks.period ≡ cond (is_tariff_change f.call) (s.marks.period + 1) s.marks.period
period_now x = ap (λ (m : Marks). m.period) x.marks ∙ x.well.period

-- only a finish ends a session
finishes : (c : Call) (p : Phase) → (p ≡ Ended → ⊥) → next_phase c p ≡ Ended → is_finish c ≡ true
finishes Opening p h e = absurd (not_ended e)
  where
    not_ended : Open ≡ Ended → ⊥
    not_ended e = let z : ◌≡◌ {A = ℕ} 0 1 = cc in omega arith
finishes (Start k) p h e = absurd (h e)
finishes (Usage k u w) p h e = absurd (h e)
finishes (End k) p h e = absurd (h e)
finishes (Change n) p h e = absurd (h e)
finishes Tick p h e = absurd (h e)
finishes Intervene p h e = absurd (h e)
finishes Push p h e = absurd (h e)
finishes (Finish c) p h e = refl
finishes Shelve p h e = absurd (not_ended e)
  where
    not_ended : Shelved ≡ Ended → ⊥
    not_ended e = let z : ◌≡◌ {A = ℕ} 0 1 = cc in omega arith

-- an ended session accepts nothing
ended_refuses : (s : State) (c : Call) (slip t : ℕ) (a : Act) → Ok a ≡ decide s c slip t → s.marks.phase ≡ Ended → ⊥
ended_refuses s c slip t a e h =
    let q : Ok a ≡ Err WrongPhase = e ∙ ap (λ (p : Phase). decide_in p s c slip t) h in
    let z : ◌≡◌ {A = ℕ} 0 1 = cc in omega arith

did_sound : (s : State) (f : Fed (Option LineId)) (o : Outcome Answer) → Sound s → Did s f o → Sound o.state
did_sound s f o sound x =
    let a : Deed = deed_of x in
    record {
      apart = subst Apart (sym (lines_after x))
          (apart_update a.stops stopped (λ l. refl) (update a.closes (restarted f.time) a.lines)
          (apart_update a.closes (restarted f.time) (λ l. refl) a.lines x.well.fair.moved.apart));
      idle = subst (AllByRecursion Idle) (sym (lines_after x)) (idle_after a f.time x.well.fair.stops x.well.fair.moved.idle);
      tariff = x.tariff sound.tariff;
      settled = λ h.
          let final : is_finish f.call ≡ true =
          finishes f.call s.marks.phase (ended_refuses s f.call f.slip f.time x.act x.decided)
          (sym x.well.phase ∙ (sym (ap (λ (m : Marks). m.phase) x.marks) ∙ h)) in (
            x.emptied final,
            λ d k. ap (open_on d k) (lines_after x) ∙ (open_after d k a f.time
                ∙ all_closed d k a.closes f.time a.lines x.well.fair.moved.idle (x.well.fair.final final)),
          );
    }

pub sound_after : (s : State) (f : Fed (Option LineId)) (o : Outcome Answer) → Sound s → Done s f o → Sound o.state
sound_after s f o h (inl x) = subst Sound (sym x.state) h
sound_after s f o h (inr x) = did_sound s f o h x

-- one call

handed_book : (d : Direction) (k : LineId) (p : ℕ) (ws added waiting : List Entry) → Sent ws added waiting ⊎ Kept ws added waiting
    → in_book d k p added + in_book d k p waiting ≡ in_book d k p ws
handed_book d k p ws added waiting (inl x) =
    omega (
      arith,
      ap (in_book d k p) x.added_is,
      ap (in_book d k p) x.split,
      book_append d k p x.others waiting,
      no_octets d k p x.first x.no_up x.no_down,
    )
handed_book d k p ws added waiting (inr x) =
    omega (arith, ap (in_book d k p) x.added_is, ap (in_book d k p) x.waiting_is)

open_in_after : (s : State) (f : Fed (Option LineId)) (o : Outcome Answer) (x : Did s f o) (d : Direction) (k : LineId) (p : ℕ)
    → open_in d k p o.state ≡ cond (eqb s.marks.period p) (open_on d k (update (deed_of x).closes (restarted f.time) (deed_of x).lines)) 0
open_in_after s f o x d k p =
    ap₂ (λ (q n : ℕ). cond (eqb q p) n 0) (period_now x) (ap (open_on d k) (lines_after x) ∙ open_after d k (deed_of x) f.time)
    ∙ go (is_tariff_change f.call) refl
  where
    go : (b : Bool) → is_tariff_change f.call ≡ b
        → cond (eqb (cond b (s.marks.period + 1) s.marks.period) p) (open_on d k (update (deed_of x).closes (restarted f.time) (deed_of x).lines)) 0
        ≡ cond (eqb s.marks.period p) (open_on d k (update (deed_of x).closes (restarted f.time) (deed_of x).lines)) 0
    go true e =
        let z = all_closed d k (deed_of x).closes f.time (deed_of x).lines x.well.fair.moved.idle (x.well.fair.tariff e) in
        ap (λ (n : ℕ). cond (eqb (s.marks.period + 1) p) n 0) z
        ∙ ((nil (eqb (s.marks.period + 1) p) ∙ sym (nil (eqb s.marks.period p))) ∙ sym (ap (λ (n : ℕ). cond (eqb s.marks.period p) n 0) z))
    go false e = refl

pub step_places : (s : State) (f : Fed (Option LineId)) (o : Outcome Answer) → Done s f o → (d : Direction) (k : LineId) (p : ℕ)
    → in_book d k p o.added + (in_book d k p o.state.waiting + open_in d k p o.state)
    ≡ (in_book d k p s.waiting + open_in d k p s) + cond (accepted o && eqb s.marks.period p) (reported_by d k f.call) 0
step_places s f o (inl x) d k p =
    omega (
      arith,
      ap (in_book d k p) x.added,
      ap (λ (s : State). in_book d k p s.waiting) x.state,
      ap (open_in d k p) x.state,
      ap (λ (b : Bool). cond (b && eqb s.marks.period p) (reported_by d k f.call) 0) x.refused,
    )
step_places s f o (inr x) d k p =
    let ns : List Entry = closings (deed_of x).closes (deed_of x).cause s.marks.period f.time s.closed (deed_of x).lines in
    omega (
      arith,
      handed_book d k p (s.waiting ++ ns) o.added o.state.waiting x.handed,
      book_append d k p s.waiting ns,
      open_in_after s f o x d k p,
      closings_move d k p (deed_of x).closes (deed_of x).cause s.marks.period f.time s.closed (deed_of x).lines,
      counted (eqb s.marks.period p) (open_on d k (deed_of x).lines) (open_on d k s.lines) (reported_by d k f.call) (x.well.fair.moved.counts d k),
      ap (λ (b : Bool). cond (b && eqb s.marks.period p) (reported_by d k f.call) 0) x.accepted,
    )
  where
    counted : (b : Bool) (y z r : ℕ) → y ≡ z + r → cond b y 0 ≡ cond b z 0 + cond b r 0
    counted true y z r h = h
    counted false y z r h = refl

pub step_period : (s : State) (f : Fed (Option LineId)) (o : Outcome Answer) → Done s f o
    → o.state.marks.period ≡ next_period (accepted o) f.call s.marks.period
step_period s f o (inl x) =
    ap (λ (s : State). s.marks.period) x.state ∙ sym (ap (λ (b : Bool). next_period b f.call s.marks.period) x.refused)
step_period s f o (inr x) =
    (period_now x) ∙ sym (ap (λ (b : Bool). next_period b f.call s.marks.period) x.accepted)

-- a call whose key is out of range is refused

refused_anyhow : (s : State) (c : Call) (slip t intake : ℕ) → ((p : Phase) → (r : Refusal) × (decide_in p s c slip t ≡ Err r))
    → accepted (answered told_report (reporting s t intake (decide s c slip t))) ≡ false
refused_anyhow s c slip t intake h =
    ap (λ (d : Result Act Refusal). accepted (answered told_report (reporting s t intake d))) (h s.marks.phase).1

late_or : (s : State) (t : ℕ) (r : Refusal) → (q : Refusal) × (◌≡◌ {A = Result Act Refusal} (cond (ltb t s.last) (Err Early) (Err r)) (Err q))
late_or s t r =
    cond_both (ltb t s.last) (Err Early) (Err r) (λ (d : Result Act Refusal). (q : Refusal) × (d ≡ Err q)) (λ e. (Early, refl)) (λ e. (r, refl))

pub start_outside : (column : Column) (s : State) (f : Fed (Option LineId)) → f.call ≡ Start None → accepted (step column s f) ≡ false
start_outside column s f e = subst (λ (c : Call). accepted (step_of c column s f) ≡ false) (sym e) (refused_anyhow s (Start None) f.slip f.time f.intake go)
  where
    go : (p : Phase) → (r : Refusal) × (decide_in p s (Start None) f.slip f.time ≡ Err r)
    go Fresh = (WrongPhase, refl)
    go Open = late_or s f.time OutOfRange
    go Ended = (WrongPhase, refl)
    go Shelved = (WrongPhase, refl)

usage_outside : (column : Column) (s : State) (f : Fed (Option LineId)) (u w : ℕ) → f.call ≡ Usage None u w → accepted (step column s f) ≡ false
usage_outside column s f u w e =
    subst (λ (c : Call). accepted (step_of c column s f) ≡ false) (sym e) (refused_anyhow s (Usage None u w) f.slip f.time f.intake go)
  where
    go : (p : Phase) → (r : Refusal) × (decide_in p s (Usage None u w) f.slip f.time ≡ Err r)
    go Fresh = (WrongPhase, refl)
    go Open = late_or s f.time OutOfRange
    go Ended = (WrongPhase, refl)
    go Shelved = (WrongPhase, refl)

-- calls over keys of a kind

module _ {K : Type 0} (x : Coding K) where
  tariff_seen : (c : Event K) → is_tariff_change (seen_event x c) ≡ is_tariff_change c
  tariff_seen Opening = refl
  tariff_seen (Start k) = refl
  tariff_seen (Usage k u w) = refl
  tariff_seen (End k) = refl
  tariff_seen (Change n) = refl
  tariff_seen Tick = refl
  tariff_seen Intervene = refl
  tariff_seen Push = refl
  tariff_seen (Finish c) = refl
  tariff_seen Shelve = refl

  period_seen : (b : Bool) (c : Event K) (q : ℕ) → next_period b (seen_event x c) q ≡ next_period b c q
  period_seen b c q = ap (λ (y : Bool). cond (b && y) (q + 1) q) (tariff_seen c)

  module _ (distinct : Distinct x) where
    same_line_key : (a b : K) → x.ranged a ≡ true → x.ranged b ≡ true → same_line (x.line a) (x.line b) ≡ true → a ≡ b
    same_line_key a b p q h = distinct a b p q (same_true (x.line a) (x.line b) h)

    -- a test of equal keys is at hand
    pub by_line : (same : K → K → Bool) × Decides x same
    by_line = (λ a b. same_line (x.line a) (x.line b), record { equal = same_line_key; itself = λ a h. same_refl (x.line a) })

    module _ (same : K → K → Bool) (decides : Decides x same) where
      -- keys in range are equal exactly where their lines are
      pub agree : (a b : K) → x.ranged a ≡ true → x.ranged b ≡ true → same_line (x.line a) (x.line b) ≡ same a b
      agree a b p q =
          same_test (same_line (x.line a) (x.line b)) (same a b)
          (λ e. ap (same a) (sym (same_line_key a b p q e)) ∙ decides.itself a p)
          (λ f. ap (λ (c : K). same_line (x.line a) (x.line c)) (sym (decides.equal a b p q f)) ∙ same_refl (x.line a))

      -- an accepted report is on the key k exactly where it is on the line of k
      report_agrees : (column : Column) (s : State) (f : Fed K) (y : Bool) (d : Direction) (k : K) → x.ranged k ≡ true
          → cond (accepted (step column s (seen x f)) && y) (reported_on same d k f.call) 0
          ≡ cond (accepted (step column s (seen x f)) && y) (reported_by d (x.line k) (seen_event x f.call)) 0
      report_agrees column s f y d k r = go f.call refl
        where
          at_key : (j : K) (u w : ℕ) (b : Bool) → x.ranged j ≡ b → (ok : Bool)
              → (cond b (Some (x.line j)) None ≡ None → ok ≡ false)
              → cond (ok && y) (cond (same j k) (in_direction d u w) 0) 0
              ≡ cond (ok && y) (cond (names (x.line k) (cond b (Some (x.line j)) None)) (in_direction d u w) 0) 0
          at_key j u w true e ok off = ap (λ (z : Bool). cond (ok && y) (cond z (in_direction d u w) 0) 0) (sym (agree j k e r))
          at_key j u w false e ok off =
              ap (λ (b : Bool). cond (b && y) (cond (same j k) (in_direction d u w) 0) 0) (off refl)
              ∙ sym (ap (λ (b : Bool). cond (b && y) 0 0) (off refl))

          go : (c : Event K) → f.call ≡ c
              → cond (accepted (step column s (seen x f)) && y) (reported_on same d k c) 0
              ≡ cond (accepted (step column s (seen x f)) && y) (reported_by d (x.line k) (seen_event x c)) 0
          go Opening e = refl
          go (Start j) e = refl
          go (Usage j u w) e =
              at_key j u w (x.ranged j) refl (accepted (step column s (seen x f)))
              (λ none. usage_outside column s (seen x f) u w (ap (seen_event x) e ∙ ap (λ (o : Option LineId). Usage o u w) none))
          go (End j) e = refl
          go (Change n) e = refl
          go Tick e = refl
          go Intervene e = refl
          go Push e = refl
          go (Finish c) e = refl
          go Shelve e = refl

  -- runs

  module _ (column : Column) (fixed : TariffFixed column) where
    pub next_run : Run → Fed K → Run
    next_run r f = record {
      state = (step column r.state (seen x f)).state;
      taken = r.taken ++ (step column r.state (seen x f)).added;
    }

    period_next : (s : State) (f : Fed K) → Sound s
        → (step column s (seen x f)).state.marks.period ≡ next_period (accepted (step column s (seen x f))) f.call s.marks.period
    period_next s f h =
        step_period s (seen x f) (step column s (seen x f)) (step_does column fixed s (seen x f) h)
        ∙ period_seen (accepted (step column s (seen x f))) f.call s.marks.period

    pub sound_next : (s : State) (f : Fed K) → Sound s → Sound (step column s (seen x f)).state
    sound_next s f h = sound_after s (seen x f) (step column s (seen x f)) h (step_does column fixed s (seen x f) h)

    run_period : (r : Run) (q : ℕ) (fs : List (Fed K)) → Sound r.state → r.state.marks.period ≡ q
        → (after x column r fs).state.marks.period ≡ period_after x column r.state q fs
    unfolding next_run
    run_period r q [] h e = e
    run_period r q (f ∷ fs) h e =
        let ok : Bool = accepted (step column r.state (seen x f)) in
        run_period (next_run r f) (next_period ok f.call q) fs (sound_next r.state f h)
        (period_next r.state f h ∙ ap (next_period ok f.call) e)

    pub run_sound : (r : Run) (fs : List (Fed K)) → Sound r.state → Sound (after x column r fs).state
    unfolding next_run
    run_sound r [] h = h
    run_sound r (f ∷ fs) h = run_sound (next_run r f) fs (sound_next r.state f h)

    pub made_sound : (m : Making) → Sound (as_made column m)
    made_sound m = record { apart = tt; idle = tt; tariff = go (column tariff_time); settled = λ h. (refl, λ d k. refl) }
      where
        go : (r : Option Rule) → (setting_made r m.thresholds tariff_time).known ≡ true → (setting_made r m.thresholds tariff_time).enabled ≡ true
        go None h = no_way h
        go (Some r) h = refl

    module _ (distinct : Distinct x) (same : K → K → Bool) (decides : Decides x same) where
      run_places : (r : Run) (q : ℕ) (fs : List (Fed K)) → Sound r.state → r.state.marks.period ≡ q
          → (d : Direction) (k : K) → x.ranged k ≡ true → (p : ℕ)
          → in_book d (x.line k) p (after x column r fs).taken + in_book d (x.line k) p (after x column r fs).state.waiting
          + open_in d (x.line k) p (after x column r fs).state
          ≡ (in_book d (x.line k) p r.taken + in_book d (x.line k) p r.state.waiting + open_in d (x.line k) p r.state)
          + accepted_octets x same column r.state q d k p fs
      unfolding next_run
      run_places r q [] h e d k in_range p = omega arith
      run_places r q (f ∷ fs) h e d k in_range p =
          let o : Outcome Answer = step column r.state (seen x f) in
          let ih = run_places (next_run r f) (next_period (accepted o) f.call q) fs (sound_next r.state f h)
          (period_next r.state f h ∙ ap (next_period (accepted o) f.call) e) d k in_range p in
          omega (
            arith,
            ih,
            step_places r.state (seen x f) o (step_does column fixed r.state (seen x f) h) d (x.line k) p,
            book_append d (x.line k) p r.taken o.added,
            report_agrees distinct same decides column r.state f (eqb q p) d k in_range,
            ap (λ (n : ℕ). cond (accepted o && eqb n p) (reported_by d (x.line k) (seen_event x f.call)) 0) e,
          )

      pub one_place : (m : Making) (fs : List (Fed K)) → EveryOctetHasOnePlace x same column m fs
      one_place m fs =
          let r : Run = record { state = as_made column m; taken = [] } in
          record {
            present = run_period r 0 fs (made_sound m) refl;
            octets = λ d k in_range p. omega (arith, run_places r 0 fs (made_sound m) refl d k in_range p, nil (eqb 0 p));
          }

      -- after a finish all accepted octets are taken
      all_taken : (m : Making) (fs : List (Fed K)) → (run x column m fs).state.marks.phase ≡ Ended → (d : Direction) (k : K) → x.ranged k ≡ true
          → (p : ℕ) → accepted_octets x same column (as_made column m) 0 d k p fs ≡ in_book d (x.line k) p (run x column m fs).taken
      all_taken m fs e d k in_range p =
          let z = (run_sound (record { state = as_made column m; taken = [] }) fs (made_sound m)).settled e in
          omega (
            arith,
            (one_place m fs).octets d k in_range p,
            ap (in_book d (x.line k) p) z.0,
            ap (λ (n : ℕ). cond (eqb (run x column m fs).state.marks.period p) n 0) (z.1 d (x.line k)),
            nil (eqb (run x column m fs).state.marks.period p),
          )

      -- what is counted depends on the calls and on which are accepted
      same_counted : (s s' : State) (q : ℕ) (fs gs : List (Fed K)) → AllZip SameCall fs gs → acceptances x column s fs ≡ acceptances x column s' gs
          → (d : Direction) (k : K) (p : ℕ) → accepted_octets x same column s q d k p fs ≡ accepted_octets x same column s' q d k p gs
      same_counted s s' q [] [] al e d k p = refl
      same_counted s s' q [] (g ∷ gs) al e d k p = absurd al
      same_counted s s' q (f ∷ fs) [] al e d k p = absurd al
      same_counted s s' q (f ∷ fs) (g ∷ gs) al e d k p =
          let b : Bool = accepted (step column s (seen x f)) in
          let b' : Bool = accepted (step column s' (seen x g)) in
          let ok : b ≡ b' = cc in
          let rest : acceptances x column (step column s (seen x f)).state fs ≡ acceptances x column (step column s' (seen x g)).state gs = cc in
          let period : next_period b f.call q ≡ next_period b' g.call q =
          ap₂ (λ (y : Bool) (c : Event K). next_period y c q) ok al.0.call in
          ap₂ ◌+◌ (ap₂ (λ (y : Bool) (c : Event K). cond (y && eqb q p) (reported_on same d k c) 0) ok al.0.call)
          (same_counted (step column s (seen x f)).state (step column s' (seen x g)).state (next_period b f.call q) fs gs al.1 rest d k p
          ∙ ap (λ (n : ℕ). accepted_octets x same column (step column s' (seen x g)).state n d k p gs) period)

      pub agreement : (m : Making) (fs : List (Fed K)) → FinishedSessionsAgree x column m fs
      agreement m fs n gs al e ends ends' d k in_range p =
          sym (all_taken m fs ends d k in_range p)
          ∙ (same_counted (as_made column m) (as_made column n) 0 fs gs al e d k p ∙ all_taken n gs ends' d k in_range p)
