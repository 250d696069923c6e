use Rattle.std.proofs.Common.{◌≡◌, Bool, ◌++◌, vec_items, ap, ◌∙◌, arith}
use Rattle.entries.specs.Requests.{containers_formed}
use Rattle.session.specs.declared.state.Line.{Line}
use Rattle.session.specs.Closing.{closes, closing_count, closed_lines, closings}
use Rattle.session.specs.Performing.{stopped_at, acted}
use Rattle.session.specs.Sound.{sound_lines, volume_of_all}
use Rattle.session.specs.View.{view}
use Rattle.session.proofs.Acting.{acted_sane, acted_formed}
use Rattle.session.proofs.ledger.Ledger.perform.Goals as goal

pub invariant_of-self : goal.invariant_of-self
invariant_of-self c =
    let s = view c.args.self.now in
    let p : Line → Bool = closes c.args.act.chosen c.args.t in
    let k = ap (closing_count p) c.edit_lines.ensures.after in
    let sane = acted_sane s c.args.act c.args.t c.requires.fit in
    let lines : vec_items c.stop_line.new.lines ≡ (acted s c.args.act c.args.t).lines =
    c.stop_line.ensures.after
    ∙ ap (stopped_at c.args.act.stop) (c.close_lines-closed.ensures.after ∙ ap (closed_lines p c.args.t) c.edit_lines.ensures.after) in
    let waiting : vec_items c.close_lines-closed.new.waiting ≡ (acted s c.args.act c.args.t).waiting =
    c.close_lines-closed.ensures.appended
    ∙ ap (λ ls. s.waiting ++ closings p c.args.act.cause s.marks.period c.args.t s.closed ls) c.edit_lines.ensures.after in
    let line-room = c.args.self.now.line_room c.requires.fit.alive in
    let waiting-room = c.args.self.now.waiting_room c.requires.fit.alive in
    record {
      line_room = λ _. omega (arith, line-room);
      waiting_room = λ _. omega (arith, waiting-room);
      numbered = omega (arith, c.close_lines-closed.ensures.count, k, c.requires.fit.count, c.requires.numbers);
      few = omega arith;
      short = omega (arith, c.close_lines-closed.ensures.longer, k, c.requires.fit.count, c.requires.space, c.args.self.now.waiting.ok.0);
      sound = ap (sound_lines c.args.t) lines ∙ sane.sound;
      formed = ap containers_formed waiting ∙ acted_formed s c.args.act c.args.t c.requires.fit c.args.self.now.formed;
      counted = omega (arith, ap volume_of_all lines, sane.counted);
    }
