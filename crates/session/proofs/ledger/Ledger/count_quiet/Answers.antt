use Rattle.std.proofs.Common.{◌≡◌, set, sym, ap, ◌∙◌, arith}
use Rattle.std.proofs.lemmas.Bool.{true≢false}
use Rattle.session.specs.Quiet.{quietly}
use Rattle.session.specs.Sound.{sound_lines, volume_of_all}
use Rattle.session.specs.State.{counted, line_at}
use Rattle.session.specs.View.{view}
use Rattle.session.proofs.Quietly.{counted_is, quiet_fits, quiet_step}
use Rattle.session.proofs.ledger.Ledger.count_quiet.Goals as goal

pub invariant_of-self : goal.invariant_of-self
invariant_of-self c =
    let s = view c.args.self.now in
    let f = quiet_fits c.args.self.now c.args.id c.args.volume.up c.args.volume.down c.args.t c.in-Some.i c.requires c.in-Some.ensures.quiet in
    let lines : set s.lines c.in-Some.i c.count-line.result ≡ set s.lines c.in-Some.i (counted c.args.volume.up c.args.volume.down (line_at s c.in-Some.i)) =
    ap (set s.lines c.in-Some.i) (c.count-line.ensures.value ∙ ap (counted c.args.volume.up c.args.volume.down) c.line.ensures.read) in
    record {
      line_room = c.args.self.now.line_room;
      waiting_room = c.args.self.now.waiting_room;
      numbered = c.args.self.now.numbered;
      few = c.args.self.now.few;
      short = c.args.self.now.short;
      sound = ap (sound_lines c.args.t) lines ∙ f.sound;
      formed = c.args.self.now.formed;
      counted = omega (arith, ap volume_of_all lines, c.volume_sum-sum.ensures, f.volume);
    }

pub returns : goal.returns
returns c =
    let s = view c.args.self.now in
    record {
      done = λ _ intake.
          quiet_step s c.args.id c.args.volume.up c.args.volume.down c.args.t c.in-Some.i c.requires c.in-Some.ensures.quiet
          c.args.self.now.numbered (omega (arith, c.args.self.now.short, c.args.self.now.waiting.ok.0)) intake
          ∙ ap quietly (sym (counted_is s c.args.volume.up c.args.volume.down c.args.t c.in-Some.i _ _ c.volume_sum-sum.ensures
          (ap (set s.lines c.in-Some.i) (c.count-line.ensures.value ∙ ap (counted c.args.volume.up c.args.volume.down) c.line.ensures.read))));
      left = λ h. absurd (true≢false h);
    }
