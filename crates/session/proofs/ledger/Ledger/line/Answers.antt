use Rattle.std.proofs.Common.{◌<◌, length, vec_items, sym, subst, arith}
use Rattle.std.proofs.lemmas.List.{get_or_read}
use Rattle.session.specs.Sound.{Bounded}
use Rattle.session.specs.State.{no_line}
use Rattle.session.proofs.Bounds.{line_facts, sound_at}
use Rattle.session.proofs.ledger.Ledger.line.Goals as goal

pub returns-clause-bounded : goal.returns-clause-bounded
returns-clause-bounded c =
    let ledger = c.args.self.now in
    let ls = vec_items ledger.lines in
    let inside : c.args.i < length ls = omega (arith, ledger.lines.ok.0, c.requires) in
    subst Bounded (sym (get_or_read ls _ _ inside c.index.ensures no_line)) (line_facts ledger.last _ (sound_at ledger.last ls c.args.i inside ledger.sound))
