use Rattle.std.proofs.Common.{◌≡◌, true, is_ok, arith}
use Rattle.std.proofs.lemmas.Grind.{common_steps}
use Rattle.entries.proofs.SumLaws.{judged_within}
use Rattle.entries.proofs.sum.sum.Goals as goal

pub add_up-requires-clause-within : goal.add_up-requires-clause-within
add_up-requires-clause-within g c =
    let was = c.in_ok-map_err.was in
    let same = c.map_err.ensures.variant in
    let formed : is_ok c.count_requests.result ≡ true = grind (arith, common_steps, was, same) in
    judged_within c.args.book.now c.count_requests.result formed c.count_requests.ensures.meaning
