use Rattle.std.proofs.Common.{◌≡◌, ◌+◌, List, ◌++◌, vec_items, sym, refl, ap, ◌∙◌, arith}
use Rattle.std.proofs.lemmas.List.{append-nil}
use Rattle.session.specs.declared.state.Line.{Line}
use Rattle.session.specs.Closing.{closes, closing_count, closed_lines, closings}
use Rattle.session.proofs.Nothing.{none_close, none_change, none_closed}
use Rattle.session.proofs.state.Closing.close_lines.Goals as goal

pub returns-in-Nothing : goal.returns-in-Nothing
returns-in-Nothing c =
    let ls : List Line = vec_items c.args.lines.now in
    let b = c.args.self.now in
    let e = c.in-Nothing.is in
    let n = ap (λ x. closing_count (closes x b.time) ls) e ∙ none_close b.time ls in
    record {
      count = omega (arith, n);
      after = sym (ap (λ x. closed_lines (closes x b.time) b.time ls) e ∙ none_change b.time b.time ls);
      long = refl;
      kept = refl;
      appended = sym (ap (λ x. vec_items c.args.waiting.now ++ closings (closes x b.time) b.cause b.period b.time c.args.done ls) e
          ∙ ap (λ es. vec_items c.args.waiting.now ++ es) (none_closed b.cause b.period b.time b.time c.args.done ls)
          ∙ append-nil (vec_items c.args.waiting.now));
      longer = omega (arith, n);
      reserved = refl;
    }
