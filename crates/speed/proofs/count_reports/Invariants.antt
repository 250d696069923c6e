use Rattle.std.proofs.Common.{ℕ}
use Rattle.session.specs.Slips.{Spendable}
use Rattle.session.specs.View.{view}
use Rattle.speed.proofs.count_reports.Given as goal

abbrev pub invariant-loop-n : goal.invariant-loop-n
invariant-loop-n g l = (slip : ℕ) → Spendable (view l.fn.session.ledger) slip 140 → Spendable (view l.session.ledger) slip 140
