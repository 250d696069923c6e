-- What was decided on a ledger: it fits, and an opening or a shelving closes nothing.
use Rattle.std.proofs.Common.{◌≡◌, ℕ, eqb, ltb, Ok, Err, Result, sym, refl, ap, ◌∙◌, subst}
use Rattle.std.proofs.lemmas.Bool.{cond_both}
use Rattle.session.specs.declared.answer.Refusal.{Refusal}
use Rattle.session.specs.declared.answer.Refusal.TheVariants.{OtherSlip, Early}
use Rattle.session.specs.declared.event.Event.TheVariants.{Open as Opening, Shelve}
use Rattle.session.specs.declared.ledger.Ledger.{Ledger}
use Rattle.session.specs.declared.state.Act.{Act}
use Rattle.session.specs.declared.state.Phase.{Phase}
use Rattle.session.specs.declared.state.Phase.TheVariants.{Fresh, Open, Ended, Shelved}
use Rattle.session.specs.declared.state.Selection.{Selection}
use Rattle.session.specs.declared.state.Selection.TheVariants.{Nothing}
use Rattle.session.specs.Closing.{closes, closing_count}
use Rattle.session.specs.Deciding.{Call, open_act, shelve_act, timely, own_slip, decide, decide_in}
use Rattle.session.specs.Fit.{Fit, Known}
use Rattle.session.specs.Performing.{closed_by}
use Rattle.session.specs.State.{State}
use Rattle.session.specs.View.{view}
use Rattle.session.proofs.Fits.{act_fits}
use Rattle.session.proofs.Nothing.{none_close}

pub decided_fits : (g : Ledger) (c : Call) → Known c → (slip t : ℕ) (a : Act) → Ok a ≡ decide (view g) c slip t → Fit (view g) t a
decided_fits g c known slip t a e = act_fits (view g) (record { sound = g.sound; counted = g.counted }) slip t c known a e

abbrev Quiet : Result Act Refusal → Type 0
Quiet (Ok a) = a.chosen ≡ Nothing
Quiet (Err r) = Unit {0}

timely_quiet : (s : State) (t : ℕ) (d : Result Act Refusal) → Quiet d → Quiet (timely s t d)
timely_quiet s t d h = cond_both (ltb t s.last) (Err Early) d Quiet (λ q. tt) (λ q. h)

own_quiet : (s : State) (slip : ℕ) (d : Result Act Refusal) → Quiet d → Quiet (own_slip s slip d)
own_quiet s slip d h = cond_both (eqb slip s.id) d (Err OtherSlip) Quiet (λ q. h) (λ q. tt)

opening_quiet : (s : State) (slip t : ℕ) (p : Phase) → Quiet (decide_in p s Opening slip t)
opening_quiet s slip t Fresh = timely_quiet s t (Ok (open_act s t)) refl
opening_quiet s slip t Open = tt
opening_quiet s slip t Ended = tt
opening_quiet s slip t Shelved = tt

shelving_quiet : (s : State) (slip t : ℕ) (p : Phase) → Quiet (decide_in p s Shelve slip t)
shelving_quiet s slip t Fresh = tt
shelving_quiet s slip t Open = own_quiet s slip (timely s t (Ok (shelve_act s))) (timely_quiet s t (Ok (shelve_act s)) refl)
shelving_quiet s slip t Ended = tt
shelving_quiet s slip t Shelved = tt

closes_none : (s : State) (a : Act) (t : ℕ) → a.chosen ≡ Nothing → closed_by s a t ≡ 0
closes_none s a t e = ap (λ (x : Selection). closing_count (closes x t) s.lines) e ∙ none_close t s.lines

pub opening_closes_none : (s : State) (slip t : ℕ) (a : Act) → Ok a ≡ decide s Opening slip t → closed_by s a t ≡ 0
opening_closes_none s slip t a e = closes_none s a t (subst Quiet (sym e) (opening_quiet s slip t s.marks.phase))

pub shelving_closes_none : (s : State) (slip t : ℕ) (a : Act) → Ok a ≡ decide s Shelve slip t → closed_by s a t ≡ 0
shelving_closes_none s slip t a e = closes_none s a t (subst Quiet (sym e) (shelving_quiet s slip t s.marks.phase))
