use Rattle.std.proofs.Common.{ℕ, [], ◌++◌, refl, sym, ap, ◌∙◌, arith}
use Rattle.entries.specs.Columns.{converged}
use Rattle.entries.specs.Keys.{services}
use Rattle.entries.specs.Triggers.{session_end}
use Rattle.session.specs.declared.event.Event.TheVariants.{Open as Opening, Finish}
use Rattle.session.specs.Answers.{Answer}
use Rattle.session.specs.Performing.{Outcome}
use Rattle.session.specs.Steps.{fed, seen, step, is_accepted}
use Rattle.session.specs.View.{view}
use Rattle.sample.specs.Short.{counting}
use Rattle.sample.proofs.Running.{ran_first, ran_both, ran_none}
use Rattle.session.proofs.Staying.{opens_with}
use Rattle.sample.proofs.charge.Goals as goal

pub put_back-requires : goal.put_back-requires
put_back-requires g c =
    c.count.ensures.kept _
    (opens_with _ _ _ _ _ _ _ _ c.in_ok-opened.ensures.does refl _ 140 c.in_ok-opened.ensures.handed (omega arith))

pub put_back-requires-in-Err-finish : goal.put_back-requires-in-Err-finish
put_back-requires-in-Err-finish g c =
    let e = c.in-Err-finish.ensures in
    rw (e.refused refl).0 (rw e.back (c.count.ensures.kept _
    (opens_with _ _ _ _ _ _ _ _ c.in_ok-opened.ensures.does refl _ 140 c.in_ok-opened.ensures.handed (omega arith))))

pub returns-in-Ok-eq2 : goal.returns-in-Ok-eq2
returns-in-Ok-eq2 g c =
    let counted = c.in_default.ensures.counted in
    let opening = g.F.Taker.room c.args.function.now in
    let finish = g.F.Taker.room c.count.new.function in
    let profile = g.F.ChargingFunction.profile c.args.function.now in
    let id = c.args.session.now.ledger.id in
    let ended : ℕ → ℕ → Outcome Answer = λ (n slip : ℕ). step converged (view c.count.new.session.ledger) (seen services (fed (Finish n) slip 140 finish [])) in
    let e = c.in-Ok-eq2.ensures in
    record {
      finish = finish;
      room = counted.room;
      ran = ran_first (fed Opening 0 100 opening profile) (sym (ap is_accepted c.in_ok-opened.ensures.does.answers)) c.in_ok-opened.ensures.does.becomes c.in_ok-opened.ensures.lends.gains
          (ran_both (counting counted.room) counted.ran
          (ran_first (fed (Finish session_end) id 140 finish [])
          (sym (ap (λ (k : ℕ). is_accepted (ended session_end k).answer) c.in_ok-opened.ensures.handed)
          ∙ (sym (ap (λ (n : ℕ). is_accepted (ended n c.in_ok-opened.slip.id).answer) c.number.ensures.number) ∙ sym (ap is_accepted e.does.answers)))
          (e.does.becomes ∙ (ap (λ (n : ℕ). (ended n c.in_ok-opened.slip.id).state) c.number.ensures.number
          ∙ ap (λ (k : ℕ). (ended session_end k).state) c.in_ok-opened.ensures.handed))
          (e.lends.gains ∙ (ap (λ (n : ℕ). g.F.Taker.book c.count.new.function ++ (ended n c.in_ok-opened.slip.id).added) c.number.ensures.number
          ∙ ap (λ (k : ℕ). g.F.Taker.book c.count.new.function ++ (ended session_end k).added) c.in_ok-opened.ensures.handed))
          (ran_none (view c.finish.new.self.ledger) (g.F.Taker.book c.finish.new.taker))));
    }
