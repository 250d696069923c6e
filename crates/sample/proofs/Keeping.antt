-- Calls between the opening and the finish leave the slip as it is.
use Rattle.std.proofs.Common.{◌≡◌, ℕ, ◌≤◌, true, []}
use Rattle.entries.specs.declared.key.ServiceKey.{ServiceKey}
use Rattle.entries.specs.Columns.{converged}
use Rattle.entries.specs.Keys.{services}
use Rattle.session.specs.declared.event.Event.{Event}
use Rattle.session.specs.Answers.{Answer}
use Rattle.session.specs.Laws.{Does}
use Rattle.session.specs.Slips.{Spendable}
use Rattle.session.specs.State.{State}
use Rattle.session.specs.Steps.{fed, may_report}
use Rattle.session.proofs.Staying.{carries_on}

pub keeps : {s s' : State} {e : Event ServiceKey} {t room : ℕ} {answer : Answer} → Does services converged s (fed e 0 t room []) answer s'
    → may_report e ≡ true → t ≤ 140 → (slip : ℕ) → Spendable s slip 140 → Spendable s' slip 140
keeps {s} {s'} {e} {t} {room} {answer} does reports soon slip h = carries_on services converged s e t room answer s' does reports slip 140 soon h
