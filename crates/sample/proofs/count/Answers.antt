use Rattle.std.proofs.Common.{ℕ, [], ◌++◌, sym, ap, ◌∙◌, rules, arith}
use Rattle.entries.specs.Columns.{converged}
use Rattle.entries.specs.Keys.{services}
use Rattle.entries.specs.Triggers.{tariff_time}
use Rattle.session.specs.declared.event.Event.TheVariants.{Start, Usage, Change}
use Rattle.session.specs.Answers.{Answer}
use Rattle.session.specs.Performing.{Outcome}
use Rattle.session.specs.Steps.{fed, seen, step, is_accepted}
use Rattle.session.specs.View.{view}
use Rattle.sample.specs.Short.{key, Intakes}
use Rattle.sample.proofs.Keeping.{keeps}
use Rattle.sample.proofs.Running.{ran_first, ran_none, ok_any}
use Rattle.sample.proofs.count.Goals as goal

pub returns-in_err-usage-clause-kept : goal.returns-in_err-usage-clause-kept
returns-in_err-usage-clause-kept g c = search (rules, arith, keeps)

pub returns-in_err-expect-2-clause-kept : goal.returns-in_err-expect-2-clause-kept
returns-in_err-expect-2-clause-kept g c = search (rules, arith, keeps)

pub returns-in_err-change-clause-kept : goal.returns-in_err-change-clause-kept
returns-in_err-change-clause-kept g c = search (rules, arith, keeps)

pub returns-in_err-expect-3-clause-kept : goal.returns-in_err-expect-3-clause-kept
returns-in_err-expect-3-clause-kept g c = search (rules, arith, keeps)

pub returns-in_err-usage-2-clause-kept : goal.returns-in_err-usage-2-clause-kept
returns-in_err-usage-2-clause-kept g c = search (rules, arith, keeps)

pub returns-2-clause-kept : goal.returns-2-clause-kept
returns-2-clause-kept g c = search (rules, arith, keeps)

pub returns-2-clause-counted : goal.returns-2-clause-counted
returns-2-clause-counted g c =
    let room : Intakes = record {
      start = g.F.Taker.room c.args.function.now;
      first = g.F.Taker.room c.start.new.taker;
      change = g.F.Taker.room c.usage.new.taker;
      second = g.F.Taker.room c.change.new.taker;
    } in
    let changed : ℕ → Outcome Answer = λ (n : ℕ). step converged (view c.usage.new.self.ledger) (seen services (fed (Change n) 0 120 room.change [])) in
    ok_any c.expect-4.result (record {
      room = room;
      ran = ran_first (fed (Start key) 0 100 room.start []) (sym (ap is_accepted c.in_ok-start.ensures.does.answers)) c.start.ensures.does.becomes c.start.ensures.lends.gains
          (ran_first (fed (Usage key 500 1500) 0 110 room.first []) (sym (ap is_accepted c.in_ok-usage.ensures.does.answers)) c.usage.ensures.does.becomes c.usage.ensures.lends.gains
          (ran_first (fed (Change tariff_time) 0 120 room.change [])
          (sym (ap (λ (n : ℕ). is_accepted (changed n).answer) c.number.ensures.number) ∙ sym (ap is_accepted c.in_ok-change.ensures.does.answers))
          (c.change.ensures.does.becomes ∙ ap (λ (n : ℕ). (changed n).state) c.number.ensures.number)
          (c.change.ensures.lends.gains ∙ ap (λ (n : ℕ). g.F.Taker.book c.usage.new.taker ++ (changed n).added) c.number.ensures.number)
          (ran_first (fed (Usage key 200 0) 0 130 room.second []) (sym (ap is_accepted c.in_ok-usage-2.ensures.does.answers)) c.usage-2.ensures.does.becomes c.usage-2.ensures.lends.gains
          (ran_none (view c.usage-2.new.self.ledger) (g.F.Taker.book c.usage-2.new.taker)))));
    })
