use Rattle.std.proofs.Common.{◌≡◌, Ok, Err, sym, ◌∙◌, arith}
use Rattle.std.proofs.lemmas.List.{at_drop_all}
use Rattle.entries.specs.Sequences.{judge, requests_in}
use Rattle.entries.proofs.SequenceLaws.{judged, judged_once, judge_more}
use Rattle.entries.proofs.sequence.count_requests.Goals as goal

pub returns-then-not-accept : goal.returns-then-not-accept
returns-then-not-accept c =
    let es = c.args.entries.now in
    let s = c.loop-i.sequence in
    let step = judge_more es c.loop-i.i s.due s.requests _ _ _ c.loop-i-test.true (omega arith) (c.accept.ensures.goes_on (omega arith)) in
    let e : Err c.loop-i.i ≡ requests_in es = sym (rw c.if-not-accept.true at step) ∙ c.loop-i.invariant.judged in
    record { value = e; meaning = judged es (Err c.loop-i.i) e; only = λ r j. judged_once es r j ∙ sym e }

pub loop-i-preserved : goal.loop-i-preserved
loop-i-preserved c =
    let es = c.args.entries.now in
    let s = c.loop-i.sequence in
    let step = judge_more es c.loop-i.i s.due s.requests _ _ _ c.loop-i-test.true (omega arith) (c.accept.ensures.goes_on (omega arith)) in
    let left = c.accept.ensures.left c.if-not-accept.false in
    record {
      left = omega arith;
      judged = rw (c.accept.ensures.due c.if-not-accept.false, c.accept.ensures.requests c.if-not-accept.false)
          (sym (rw c.if-not-accept.false at step) ∙ c.loop-i.invariant.judged);
    }

pub returns : goal.returns
returns c =
    let es = c.args.entries.now in
    let s = c.loop-i.sequence in
    let e : Ok s.requests ≡ requests_in es =
    sym (at_drop_all (judge c.loop-i.i s.due s.requests) es c.loop-i.i c.loop-i-test.false) ∙ c.loop-i.invariant.judged in
    record { value = e; meaning = judged es (Ok s.requests) e; only = λ r j. judged_once es r j ∙ sym e }
