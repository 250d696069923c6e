-- Every request that a session hands over is well formed.
use Rattle.std.proofs.Common.{◌≡◌, ℕ, ◌+◌, ◌≤◌, Bool, true, false, cond, ◌&&◌, ◌||◌, eqb, ltb, leb, List, [], ◌∷◌, length, Some, None, Ok, Err, Option, Result, refl, arith, length-append}
use Rattle.std.proofs.lemmas.Bool.{eq-eqb, and_parts, and_from, le-leb, ltb-false, cond_both}
use Rattle.entries.specs.declared.key.LineId.{LineId}
use Rattle.entries.specs.declared.taker.Override.{Override}
use Rattle.entries.specs.Columns.{Column}
use Rattle.entries.specs.Entries.{initial, update, termination, service_line, qos_line, largest_32}
use Rattle.entries.specs.Keys.{Coding, OfLines}
use Rattle.entries.specs.Requests.{well_formed, head_formed, containers_formed}
use Rattle.entries.specs.Triggers.{between}
use Rattle.session.specs.declared.answer.Due.{Due}
use Rattle.session.specs.declared.answer.NotMade.TheVariants.{OutOfRange, NoMemory}
use Rattle.session.specs.declared.answer.Opened.{Opened}
use Rattle.session.specs.declared.answer.Refusal.{Refusal}
use Rattle.session.specs.declared.answer.Refusal.TheVariants.{TooLarge, WaitingFull}
use Rattle.session.specs.declared.event.Event.{Event}
use Rattle.session.specs.declared.event.Event.TheVariants.{Open as Opening, Start, Usage, End, Change, Tick, Intervene, Push, Finish, Shelve}
use Rattle.session.specs.declared.state.Act.{Act}
use Rattle.session.specs.Closing.{closes, closings}
use Rattle.session.specs.Deciding.{Call, decide}
use Rattle.session.specs.Fit.{Fit, Known}
use Rattle.session.specs.Laws.{WellFormed, RequestsWellFormed}
use Rattle.session.specs.Performing.{Outcome, edited, acted, closed_by, no_place, head, head_of, offer_taken, reported, report_unless, reporting, all_waiting, finish_unless, finishing, shelving, opening, most_waiting, report_above}
use Rattle.session.specs.Profiles.{in_range}
use Rattle.session.specs.Sound.{live}
use Rattle.session.specs.State.{State}
use Rattle.session.specs.Steps.{Making, first_phase, as_made, Fed, seen_event, seen, step, step_of}
use Rattle.session.proofs.Acting.{acted_sane, acted_formed}
use Rattle.session.proofs.Updates.{closings_count}
use Rattle.session.proofs.Fair.{no_way}
use Rattle.session.proofs.Fits.{Sane, act_fits}

-- a session whose containers and lines can go into requests
pub record Formed (s : State) : Type 0 where
  pub id : live s.marks.phase ≡ true → leb s.id largest_32 ≡ true
  pub sane : Sane s
  pub waits : containers_formed s.waiting ≡ true

shape : (kind cause period n t id : ℕ) → between initial termination kind ≡ true → leb id largest_32 ≡ true
    → head_formed (head kind cause period n t id) n ≡ true
shape kind cause period n t id k i =
    and_from (between initial termination kind) _ k (and_from (eqb n n) _ (eq-eqb n n refl) (and_from (eqb t t) _ (eq-eqb t t refl)
    (and_from (leb id largest_32) true i refl)))

-- all that waits, behind its head
request_formed : (s : State) (kind cause t : ℕ) → leb s.id largest_32 ≡ true → containers_formed s.waiting ≡ true → between initial termination kind ≡ true → length s.waiting ≤ most_waiting
    → well_formed (head_of s kind cause t) s.waiting ≡ true
request_formed s kind cause t id waits k short =
    and_from (leb (length s.waiting) most_waiting) _ (le-leb (length s.waiting) most_waiting short)
    (and_from (head_formed (head_of s kind cause t) (length s.waiting)) _
    (shape kind cause s.marks.period (length s.waiting) t s.id k id) waits)

-- what a call adds is well formed, and it leaves such a session
abbrev Well : {A : Type 0} → Outcome A → Type 0
Well o = WellFormed o.added × Formed o.state

module _ (s : State) (h : Formed s) where
  module _ (a : Act) (t : ℕ) (fit : Fit s t a) where
    small_id : leb s.id largest_32 ≡ true
    small_id = h.id fit.alive

    acted_well : Formed (acted s a t)
    acted_well = record { id = λ _. small_id; sane = acted_sane s a t fit; waits = acted_formed s a t fit h.waits }

    -- the same session with nothing waiting
    emptied : (owed : Bool) → Formed (record {
      id = s.id;
      settings = s.settings;
      marks = a.marks;
      last = t;
      closed = (acted s a t).closed;
      owed = owed;
      lines = (acted s a t).lines;
      waiting = [];
    })
    emptied owed = record { id = λ _. small_id; sane = record { sound = acted_well.sane.sound; counted = acted_well.sane.counted }; waits = refl }

    kept : (owed : Bool) → Formed (record {
      id = s.id;
      settings = s.settings;
      marks = a.marks;
      last = t;
      closed = (acted s a t).closed;
      owed = owed;
      lines = (acted s a t).lines;
      waiting = (acted s a t).waiting;
    })
    kept owed = record { id = λ _. small_id; sane = record { sound = acted_well.sane.sound; counted = acted_well.sane.counted }; waits = acted_well.waits }

    waiting_length : length (acted s a t).waiting ≡ length s.waiting + closed_by s a t
    waiting_length = omega (
      arith,
      length-append s.waiting (closings (closes a.chosen t) a.cause s.marks.period t s.closed (edited a.edit s.lines)),
      closings_count (closes a.chosen t) a.cause s.marks.period t s.closed (edited a.edit s.lines),
      fit.count,
    )

    -- where there is place for the containers of an act
    placed : {A : Type 0} (f : Option Refusal → Outcome A) → ((r : Refusal) → Well (f (Some r)))
        → (length (acted s a t).waiting ≤ most_waiting → Well (f None)) → Well (f (no_place s a t))
    placed f refuse go =
        cond_both (ltb largest_32 (s.closed + closed_by s a t)) (Some TooLarge) _ (λ r. Well (f r)) (λ e. refuse TooLarge) (λ e.
        cond_both (ltb most_waiting (length s.waiting + closed_by s a t)) (Some WaitingFull) None (λ r. Well (f r)) (λ e. refuse WaitingFull)
        (λ e. go (omega (arith, waiting_length, ltb-false most_waiting (length s.waiting + closed_by s a t) e))))

    report_well : (intake : ℕ) → Well (report_unless (no_place s a t) s a t intake)
    report_well intake = placed (λ r. report_unless r s a t intake) (λ r. (tt, h)) (λ short.
        cond_both (a.due || (s.owed || ltb report_above (length (acted s a t).waiting))) _ _ (λ (o : Outcome Due). Well (reported s a t o))
        (λ e. offers short (leb (length (acted s a t).waiting + 1) intake)) (λ e. (tt, kept s.owed)))
      where
        offers : length (acted s a t).waiting ≤ most_waiting → (taken : Bool) → Well (reported s a t (offer_taken (acted s a t) a.report t taken))
        offers short true = (request_formed (acted s a t) update a.report t small_id acted_well.waits refl short, emptied false)
        offers short false = (tt, kept true)

    finish_well : (intake : ℕ) → Well (finish_unless (no_place s a t) s a t intake)
    finish_well intake = placed (λ r. finish_unless r s a t intake) (λ r. (tt, h)) (λ short.
        cond_both (leb (all_waiting s a t + 1) intake) _ _ (λ (o : Outcome (Result ℕ Refusal)). Well o)
        (λ e. (request_formed (acted s a t) termination a.cause t small_id acted_well.waits refl short, emptied false))
        (λ e. (tt, h)))

  module _ (c : Call) (known : Known c) (slip t : ℕ) where
    fit_of : (a : Act) → Ok a ≡ decide s c slip t → Fit s t a
    fit_of a e = act_fits s h.sane slip t c known a e

    reporting_well : (intake : ℕ) (d : Result Act Refusal) → d ≡ decide s c slip t → Well (reporting s t intake d)
    reporting_well intake (Err r) e = (tt, h)
    reporting_well intake (Ok a) e = report_well a t (fit_of a e) intake

    finishing_well : (intake : ℕ) (d : Result Act Refusal) → d ≡ decide s c slip t → Well (finishing s t intake d)
    finishing_well intake (Err r) e = (tt, h)
    finishing_well intake (Ok a) e = finish_well a t (fit_of a e) intake

    shelving_well : (d : Result Act Refusal) → d ≡ decide s c slip t → Well (shelving s t d)
    shelving_well (Err r) e = (tt, h)
    shelving_well (Ok a) e = (tt, kept a t (fit_of a e) s.owed)

    opening_well : (column : Column) (profile : List Override) (intake : ℕ) (d : Result Act Refusal) → d ≡ decide s c slip t
        → Well (opening column profile s t intake d)
    opening_well column profile intake (Err r) e = (tt, h)
    opening_well column profile intake (Ok a) e =
        cond_both (leb 1 intake) _ _ (λ (o : Outcome (Result Opened Refusal)). Well o)
        (λ q. (
          and_from _ _ (shape initial 0 s.marks.period 0 t s.id refl (small_id a t (fit_of a e))) refl,
          record {
            id = λ _. small_id a t (fit_of a e);
            sane = record { sound = (acted_well a t (fit_of a e)).sane.sound; counted = (acted_well a t (fit_of a e)).sane.counted };
            waits = (acted_well a t (fit_of a e)).waits;
          },
        ))
        (λ q. (tt, h))

  step_well : (column : Column) (f : Fed (Option LineId)) → Known f.call → Well (step column s f)
  step_well column f known = go f.call known
    where
      go : (c : Call) → Known c → Well (step_of c column s f)
      go Opening k = opening_well Opening k f.slip f.time column f.profile f.intake _ refl
      go (Start j) k = reporting_well (Start j) k f.slip f.time f.intake _ refl
      go (Usage j u w) k = reporting_well (Usage j u w) k f.slip f.time f.intake _ refl
      go (End j) k = reporting_well (End j) k f.slip f.time f.intake _ refl
      go (Change n) k = reporting_well (Change n) k f.slip f.time f.intake _ refl
      go Tick k = reporting_well Tick k f.slip f.time f.intake _ refl
      go Intervene k = reporting_well Intervene k f.slip f.time f.intake _ refl
      go Push k = reporting_well Push k f.slip f.time f.intake _ refl
      go (Finish c) k = finishing_well (Finish c) k f.slip f.time f.intake _ refl
      go Shelve k = shelving_well Shelve k f.slip f.time _ refl

-- keys of a kind

module _ {K : Type 0} (x : Coding K) (of_lines : OfLines x) where
  pub known_seen : (c : Event K) → Known (seen_event x c)
  known_seen Opening = tt
  known_seen (Start k) = go (x.ranged k) refl
    where
      go : (b : Bool) → x.ranged k ≡ b → Known (Start (cond b (Some (x.line k)) None))
      go true e =
          let h = of_lines k e in
          and_from (leb service_line (x.line k).kind) (leb (x.line k).kind qos_line)
          (le-leb service_line (x.line k).kind h.0) (le-leb (x.line k).kind qos_line h.1)
      go false e = tt
  known_seen (Usage k u w) = tt
  known_seen (End k) = tt
  known_seen (Change n) = tt
  known_seen Tick = tt
  known_seen Intervene = tt
  known_seen Push = tt
  known_seen (Finish c) = tt
  known_seen Shelve = tt

  module _ (column : Column) where
    pub formed_next : (s : State) (f : Fed K) → Formed s → Well (step column s (seen x f))
    formed_next s f h = step_well s h column (seen x f) (known_seen f.call)

    pub formed_requests : (s : State) (fs : List (Fed K)) → Formed s → RequestsWellFormed x column s fs
    formed_requests s [] h = tt
    formed_requests s (f ∷ fs) h =
        let w = formed_next s f h in
        (w.0, formed_requests (step column s (seen x f)).state fs w.1)

-- a session as made hands nothing over where its charging id is too large
pub made_formed : (column : Column) (m : Making) → Formed (as_made column m)
made_formed column m = record { id = go (leb m.id largest_32 && in_range m.thresholds) refl; sane = record { sound = refl; counted = omega arith }; waits = refl }
  where
    go : (b : Bool) → (leb m.id largest_32 && in_range m.thresholds) ≡ b
        → live (first_phase (cond b (cond m.memory None (Some NoMemory)) (Some OutOfRange))) ≡ true → leb m.id largest_32 ≡ true
    go true e alive = (and_parts (leb m.id largest_32) (in_range m.thresholds) e).0
    go false e alive = no_way alive
