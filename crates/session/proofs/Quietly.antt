-- Quiet reports: the step of one, and that its act fits.
use Rattle.std.proofs.Common.{◌≡◌, ℕ, ◌+◌, ◌≤◌, false, not, List, [], ◌++◌, length, set, Some, None, Ok, Option, Result, sym, ap, ◌∙◌, arith}
use Rattle.std.proofs.lemmas.List.{append-nil}
use Rattle.std.proofs.lemmas.Bool.{cond-false, le-ltb}
use Rattle.entries.specs.declared.key.LineId.{LineId}
use Rattle.entries.specs.Entries.{largest_32}
use Rattle.session.specs.declared.answer.Due.TheVariants.{Nothing as NotDue}
use Rattle.session.specs.declared.answer.Refusal.{Refusal}
use Rattle.session.specs.declared.answer.Reported.{Reported}
use Rattle.session.specs.declared.event.Event.TheVariants.{Usage}
use Rattle.session.specs.declared.ledger.Ledger.{Ledger}
use Rattle.session.specs.declared.state.Act.{Act}
use Rattle.session.specs.declared.state.Edit.TheVariants.{Put}
use Rattle.session.specs.declared.state.Line.{Line}
use Rattle.session.specs.declared.state.Phase.{Phase}
use Rattle.session.specs.declared.state.Phase.TheVariants.{Open}
use Rattle.session.specs.Deciding.{quiet, usage_at, decide, decide_in}
use Rattle.session.specs.Fit.{Fit}
use Rattle.session.specs.Performing.{Outcome, acted, closed_by, no_place, report, report_unless, reported, reporting, most_waiting}
use Rattle.session.specs.Quiet.{Quiet, counted_at, quietly}
use Rattle.session.specs.State.{State, with_volume, volume_sum, line_at, counted}
use Rattle.session.specs.View.{view}
use Rattle.session.proofs.Acting.{acted_is}
use Rattle.session.proofs.Decided.{decided_fits}
use Rattle.session.proofs.Nothing.{none_close, none_change, none_closed}

-- the session once a report is counted, from its parts
pub counted_is : (s : State) (u w t i v : ℕ) (ls : List Line) → v ≡ volume_sum s.marks.volume u w → ls ≡ set s.lines i (counted u w (line_at s i))
    → ◌≡◌ {A = State} (record { id = s.id; settings = s.settings; marks = with_volume v s.marks; last = t; closed = s.closed; owed = s.owed; lines = ls; waiting = s.waiting })
    (counted_at s u w t i)
counted_is s u w t i v ls e f = cc

-- the act of a quiet report
abbrev pub quiet_act : State → (u w i : ℕ) → Act
quiet_act s u w i = quiet (Put i (counted u w (line_at s i))) (with_volume (volume_sum s.marks.volume u w) s.marks) false

abbrev closed_quietly : State → ℕ → Outcome (Result Reported Refusal)
closed_quietly s n = record { state = s; answer = Ok (record { closed = n; due = NotDue }); added = [] }

module _ (s : State) (k : LineId) (u w t i : ℕ) (phase : s.marks.phase ≡ Open) (q : Quiet s k u w t i) where
  pub decides : decide s (Usage (Some k) u w) 0 t ≡ Ok (quiet_act s u w i)
  decides =
      ap (λ (p : Phase). decide_in p s (Usage (Some k) u w) 0 t) phase
      ∙ cond-false _ _ _ q.timely
      ∙ ap (usage_at s k u w) q.place
      ∙ cond-false _ _ _ (ap not q.active)
      ∙ cond-false _ _ _ q.total
      ∙ ap Ok (cond-false _ _ _ q.session_limit ∙ cond-false _ _ _ q.line_limit)

  has_place : s.closed ≤ largest_32 → length s.waiting ≤ most_waiting → no_place s (quiet_act s u w i) t ≡ None
  has_place few short =
      let none = none_close t s.lines in
      cond-false _ _ _ (le-ltb largest_32 (s.closed + closed_by s (quiet_act s u w i) t) (omega (arith, none, few)))
      ∙ cond-false _ _ _ (le-ltb most_waiting (length s.waiting + closed_by s (quiet_act s u w i) t) (omega (arith, none, short)))

  acted_quiet : counted_at s u w t i ≡ acted s (quiet_act s u w i) t
  acted_quiet =
      let ls = set s.lines i (counted u w (line_at s i)) in
      acted_is s (quiet_act s u w i) t _ _ _
      (omega (arith, none_close t ls)) (sym (none_change t t ls))
      (sym (ap (λ es. s.waiting ++ es) (none_closed 0 s.marks.period t t s.closed ls) ∙ append-nil s.waiting))

  pub quiet_step : s.closed ≤ largest_32 → length s.waiting ≤ most_waiting → (intake : ℕ)
      → reporting s t intake (decide s (Usage (Some k) u w) 0 t) ≡ quietly (counted_at s u w t i)
  quiet_step few short intake =
      let a : Act = quiet_act s u w i in
      let s' : State = counted_at s u w t i in
      ap (reporting s t intake) decides
      ∙ ap (λ (r : Option Refusal). report_unless r s a t intake) (has_place few short)
      ∙ ap (λ (x : State). reported s a t (report x false 0 t intake)) (sym acted_quiet)
      ∙ ap (reported s a t) (cond-false _ _ _ q.nothing_due)
      ∙ ap (closed_quietly s') (none_close t s.lines)

pub quiet_fits : (g : Ledger) (k : LineId) (u w t i : ℕ) → g.marks.phase ≡ Open → Quiet (view g) k u w t i → Fit (view g) t (quiet_act (view g) u w i)
quiet_fits g k u w t i phase q = decided_fits g (Usage (Some k) u w) tt 0 t (quiet_act (view g) u w i) (sym (decides (view g) k u w t i phase q))
