use Rattle.std.proofs.Common.{◌≡◌, ◌+◌, ◌≤◌, false, drop}
use Rattle.session.specs.declared.state.Phase.TheVariants.{Open}
use Rattle.session.specs.View.{view}
use Rattle.batch.specs.Batch.{accepted_of}
use Rattle.batch.proofs.make_calls.Given as goal

abbrev pub invariant-loop-call : goal.invariant-loop-call
invariant-loop-call l =
    (l.accepted + accepted_of (view l.session.ledger) (drop l.call-index l.calls) ≡ accepted_of (view l.initial.session.ledger) l.calls)
    × (l.accepted ≤ l.call-index)
    × (l.link.up ≡ false)
    × (l.session.ledger.marks.phase ≡ Open)
    × (l.session.ledger.id ≡ l.initial.session.ledger.id)
