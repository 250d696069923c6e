use Rattle.std.proofs.Common.{◌+◌, ◌≤◌, ◌∷◌, length, take, ap, ◌∙◌, arith}
use Rattle.std.proofs.lemmas.Grind.{common_steps}
use Rattle.entries.proofs.WrittenLaws.{take_written}
use Rattle.entries.proofs.book.BookTaker.take.Goals as goal

pub returns-clause-after : goal.returns-clause-after
returns-clause-after c =
    let b = c.args.self.now in
    let room : b.used + (length c.args.containers.now + 1) ≤ length b.table.now = grind (arith, common_steps) in
    ap (take _) c.write_request.ensures
    ∙ take_written b.table.now b.used (c.args.head.now ∷ c.args.containers.now) _ (omega (arith, room)) (omega arith)
