-- The slip that a run holds.
use Rattle.std.specs.Prelude.{Some, None, Option}
use Rattle.session.specs.declared.slip.Slip.{Slip}
use Rattle.session.specs.Slips.{Spendable}
use Rattle.session.specs.State.{State}

-- a slip that is held can be spent from the last accepted time on
abbrev pub Holds : State → Option Slip → Type 0
Holds s None = Unit {0}
Holds s (Some slip) = Spendable s slip.id s.last
