use Rattle.std.proofs.Common.{rules, tests, ◌≡◌, ℕ, ◌+◌, List, [], ◌∷◌, cond, Some, vec_items, sym, refl, ap, ◌∙◌}
use Rattle.std.specs.List.{position_from}
use Rattle.std.proofs.lemmas.Iterator.{YieldsList-from_slice}
use Rattle.std.proofs.lemmas.Iterator.Adapters.{position_from-zero}
use Rattle.std.proofs.lemmas.Iterator.Search.{position_from_yields_List}
use Rattle.entries.specs.declared.key.LineId.{LineId}
use Rattle.entries.specs.Keys.{same_line}
use Rattle.session.specs.declared.state.Line.{Line}
use Rattle.session.specs.State.{place_from}
use Rattle.session.proofs.ledger.Ledger.place.Goals as goal

place_is : (k : LineId) (i : ℕ) (ls : List Line) → place_from i k ls ≡ position_from (λ l. same_line l.id k) i ls
place_is k i [] = refl
place_is k i (l ∷ ls) = ap (cond (same_line l.id k) (Some i)) (place_is k (i + 1) ls)

pub returns-clause-place : goal.returns-clause-place
returns-clause-place c =
    let ls = vec_items c.args.self.now.lines in
    position_from_yields_List (λ (l : Line). same_line l.id c.args.id) _ _ _ c.position.ensures.ran (YieldsList-from_slice ls cc) (λ x b q k. search (rules, tests))
    ∙ position_from-zero (λ (l : Line). same_line l.id c.args.id) ls
    ∙ sym (place_is c.args.id 0 ls)
