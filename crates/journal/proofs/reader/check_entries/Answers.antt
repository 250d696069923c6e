use Rattle.std.proofs.Common.{◌≡◌, ◌≤◌, Err, map, length, sym, ap, ◌∙◌, arith}
use Rattle.std.proofs.lemmas.List.{at_drop_all, length-map}
use Rattle.entries.specs.Sequences.{judge, requests_in}
use Rattle.journal.specs.Layout.{entry_of}
use Rattle.journal.specs.Reading.{placed}
use Rattle.journal.proofs.ReadingLaws.{judge_read}
use Rattle.journal.proofs.reader.check_entries.Goals as goal

pub returns-then-not-accept : goal.returns-then-not-accept
returns-then-not-accept c =
    let s = c.loop-i.sequence in
    let step = judge_read c.args.entries.now c.loop-i.i s.due s.requests _ _ _ c.loop-i-test.true (omega arith) c.read_entry.ensures (c.accept.ensures.goes_on (omega arith)) in
    let e : Err c.loop-i.i ≡ requests_in (map entry_of c.args.entries.now) = sym (rw c.if-not-accept.true at step) ∙ c.loop-i.invariant.judged in
    rw c.entry_offset.ensures (ap placed e)

pub loop-i-preserved : goal.loop-i-preserved
loop-i-preserved c =
    let s = c.loop-i.sequence in
    let step = judge_read c.args.entries.now c.loop-i.i s.due s.requests _ _ _ c.loop-i-test.true (omega arith) c.read_entry.ensures (c.accept.ensures.goes_on (omega arith)) in
    let left = c.accept.ensures.left c.if-not-accept.false in
    record {
      left = omega arith;
      judged = rw (c.accept.ensures.due c.if-not-accept.false, c.accept.ensures.requests c.if-not-accept.false)
          (sym (rw c.if-not-accept.false at step) ∙ c.loop-i.invariant.judged);
    }

pub returns : goal.returns
returns c =
    let es = map entry_of c.args.entries.now in
    let s = c.loop-i.sequence in
    let l : length es ≤ c.loop-i.i = omega (arith, length-map c.args.entries.now entry_of) in
    ap placed (sym (at_drop_all (judge c.loop-i.i s.due s.requests) es c.loop-i.i l) ∙ c.loop-i.invariant.judged)
