-- Closing nothing.
use Rattle.std.proofs.Common.{◌≡◌, ℕ, List, [], ◌∷◌, refl, ap, arith}
use Rattle.session.specs.declared.state.Line.{Line}
use Rattle.session.specs.declared.state.Selection.TheVariants.{Nothing}
use Rattle.session.specs.Closing.{closes, closing_count, closed_lines, closings}

pub none_close : (t : ℕ) (ls : List Line) → closing_count (closes Nothing t) ls ≡ 0
none_close t [] = refl
none_close t (l ∷ ls) = let e = none_close t ls in omega (arith, e)

pub none_change : (t u : ℕ) (ls : List Line) → closed_lines (closes Nothing t) u ls ≡ ls
none_change t u [] = refl
none_change t u (l ∷ ls) = ap (λ (r : List Line). l ∷ r) (none_change t u ls)

pub none_closed : (cause period t u n : ℕ) (ls : List Line) → closings (closes Nothing t) cause period u n ls ≡ []
none_closed cause period t u n [] = refl
none_closed cause period t u n (l ∷ ls) = none_closed cause period t u n ls
