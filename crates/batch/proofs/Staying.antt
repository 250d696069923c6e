-- A start or a usage report leaves an open session open, and its charging id as it is.
use Rattle.std.proofs.Common.{◌≡◌, true, sym, refl, arith}
use Rattle.std.proofs.lemmas.Bool.{cond_both}
use Rattle.entries.specs.declared.key.ServiceKey.{ServiceKey}
use Rattle.entries.specs.Columns.{converged}
use Rattle.entries.specs.Keys.{services}
use Rattle.session.specs.declared.event.Event.{Event}
use Rattle.session.specs.declared.state.Phase.TheVariants.{Open}
use Rattle.session.specs.State.{State}
use Rattle.session.specs.Steps.{may_report}
use Rattle.session.proofs.Staying.{stays}
use Rattle.batch.specs.declared.Call.{Call}
use Rattle.batch.specs.Batch.{event_of, stepped}

event_reports : (c : Call) → may_report (event_of c) ≡ true
event_reports c = cond_both c.is_usage _ _ (λ (e : Event ServiceKey). may_report e ≡ true) (λ q. refl) (λ q. refl)

pub stays_open : (s : State) (c : Call) → s.marks.phase ≡ Open → ((stepped s c).state.marks.phase ≡ Open) × ((stepped s c).state.id ≡ s.id)
stays_open s c phase =
    let k = stays services converged s (event_of c) s.id s.last c.time 0 (event_reports c) (record { phase = phase; own = refl; late = omega arith }) (stepped s c) refl in
    (k.phase, sym k.own)
