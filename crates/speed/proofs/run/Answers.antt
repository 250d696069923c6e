use Rattle.std.proofs.Common.{refl, arith}
use Rattle.session.specs.Slips.{Spendable}
use Rattle.session.specs.View.{view}
use Rattle.session.proofs.Staying.{opens_with}
use Rattle.speed.proofs.run.Goals as goal

pub unreachable-requires : goal.unreachable-requires
unreachable-requires c =
    let e = c.in-Err.ensures in
    let opened = opens_with _ _ _ _ _ _ _ _ c.in_ok-slip.ensures.does refl _ 140 c.in_ok-slip.ensures.handed (omega arith) in
    let counted = c.count_reports-accepted.ensures _ (c.start_lines.ensures _ opened) in
    let kept : Spendable (view c.finish.new.self.ledger) c.in-Err.slip.id 140 = rw (e.refused refl).0 (rw e.back counted) in
    let taken = c.give_up.ensures.taken kept in
    let was = c.in-Err-give_up.is in
    cc
