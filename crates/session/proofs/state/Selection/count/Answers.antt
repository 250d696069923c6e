use Rattle.std.proofs.Common.{rules, ◌≡◌, ℕ, ◌+◌, Bool, true, false, cond, List, sym, refl, ap, ◌∙◌, arith}
use Rattle.std.specs.List.{count_by}
use Rattle.std.proofs.lemmas.List.Recursion.{is_count_by}
use Rattle.session.specs.declared.state.Line.{Line}
use Rattle.session.specs.Closing.{closes, closing_count}
use Rattle.session.proofs.Nothing.{none_close}
use Rattle.session.proofs.state.Selection.count.Goals as goal

count_is : (p : Line → Bool) (ls : List Line) → closing_count p ls ≡ count_by p ls
count_is p ls = is_count_by (closing_count p) p refl (λ l ks. one_more (p l) (closing_count p ks)) ls
  where
    one_more : (b : Bool) (n : ℕ) → cond b 1 0 + n ≡ cond b (1 + n) n
    one_more true n = refl
    one_more false n = omega arith

pub returns-clause-count : goal.returns-clause-count
returns-clause-count c =
    let e : c.count.result ≡ count_by (closes c.args.self c.args.t) c.args.lines.now = search rules in
    e ∙ sym (count_is (closes c.args.self c.args.t) c.args.lines.now)

pub returns-in-Nothing-clause-count : goal.returns-in-Nothing-clause-count
returns-in-Nothing-clause-count c = sym (ap (λ x. closing_count (closes x c.args.t) c.args.lines.now) c.in-Nothing.is ∙ none_close c.args.t c.args.lines.now)
