-- A slip that is held stays spendable over a call that may report.
use Rattle.std.proofs.Common.{◌≡◌, ℕ, true, false, [], Some, None, Option, ap, ◌∙◌, arith}
use mathlib.Core.HLevel.{⊥_prop}
use Rattle.std.proofs.Math.Logic.{∥∥₁_map, ∥∥₁_elim}
use Rattle.entries.specs.Columns.{Column}
use Rattle.entries.specs.Keys.{Coding}
use Rattle.session.specs.declared.event.Event.{Event}
use Rattle.session.specs.declared.event.Event.TheVariants.{Shelve as Shelving}
use Rattle.session.specs.declared.slip.Slip.{Slip}
use Rattle.session.specs.Answers.{Answer}
use Rattle.session.specs.Laws.{Does}
use Rattle.session.specs.Slips.{Spendable}
use Rattle.session.specs.State.{State}
use Rattle.session.specs.Steps.{fed, may_report, is_accepted}
use Rattle.session.proofs.Staying.{carries, shelves}
use Rattle.calllist.specs.Held.{Holds}

pub keeps : {K : Type 0} {x : Coding K} {column : Column} {s : State} {e : Event K} {t intake : ℕ} {answer : Answer} {s' : State}
    → Does x column s (fed e 0 t intake []) answer s' → may_report e ≡ true → (held : Option Slip) → ∥ Holds s held ∥₁ → ∥ Holds s' held ∥₁
keeps d reports None h = ∣ tt ∣₁
keeps {x = x} {column = column} {s = s} {e = e} {t = t} {intake = intake} {answer = answer} {s' = s'} d reports (Some slip) h = ∥∥₁_map h still
  where
    still : Spendable s slip.id s.last → Spendable s' slip.id s'.last
    still h =
        let k = carries x column s e t intake answer s' d reports slip.id s.last h in
        record { phase = k.phase; own = k.own; late = omega arith }

-- a shelving at the last accepted time takes a slip that is held
pub takes : {K : Type 0} {x : Coding K} {column : Column} {s : State} (slip : Slip) {t : ℕ} {answer : Answer} {s' : State}
    → Does x column s (fed Shelving slip.id t 0 []) answer s' → is_accepted answer ≡ false → t ≡ s.last → ¬ (∥ Holds s (Some slip) ∥₁)
takes {x = x} {column = column} {s = s} slip {t = t} d refused last h =
    ∥∥₁_elim h ⊥_prop (λ (k : Spendable s slip.id s.last).
    let taken = ap is_accepted d.answers ∙ shelves x column s slip.id t (record { phase = k.phase; own = k.own; late = omega (arith, last) }) in
    cc)
