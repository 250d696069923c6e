-- The place of a line among the lines.
use Rattle.std.proofs.Common.{◌≡◌, ℕ, suc, ◌+◌, ◌-◌, ◌<◌, ◌≤◌, Bool, true, false, cond, List, [], ◌∷◌, length, get_or, Some, Option, refl, ap, ◌∙◌, arith}
use Rattle.entries.specs.declared.key.LineId.{LineId}
use Rattle.entries.specs.Keys.{same_line}
use Rattle.session.specs.declared.state.Line.{Line}
use Rattle.session.specs.State.{no_line, place_from}

pub some_nat : (x y : ℕ) → ◌≡◌ {A = Option ℕ} (Some x) (Some y) → x ≡ y
some_nat x y h = cc

-- the line at the place that is found has the identity
pub place_found : (k : LineId) (ls : List Line) (n j : ℕ) → place_from n k ls ≡ Some j
    → (n ≤ j) × (j < n + length ls) × (same_line (get_or ls (j - n) no_line).id k ≡ true)
place_found k [] n j h = let z : ◌≡◌ {A = ℕ} 0 1 = cc in absurd (let y : ⊥ = omega arith in y)
place_found k (l ∷ ls) n j h = go (same_line l.id k) refl h (place_found k ls (n + 1) j)
  where
    go : (b : Bool) → same_line l.id k ≡ b → cond b (Some n) (place_from (n + 1) k ls) ≡ Some j
        → (place_from (n + 1) k ls ≡ Some j → (n + 1 ≤ j) × (j < n + 1 + length ls) × (same_line (get_or ls (j - (n + 1)) no_line).id k ≡ true))
        → (n ≤ j) × (j < n + suc (length ls)) × (same_line (get_or (l ∷ ls) (j - n) no_line).id k ≡ true)
    go true e q ih =
        let same : n ≡ j = some_nat n j q in
        let zero_at : j - n ≡ 0 = omega (arith, same) in
        (omega (arith, same), omega (arith, same), ap (λ (m : ℕ). same_line (get_or (l ∷ ls) m no_line).id k) zero_at ∙ e)
    go false e q ih =
        let r = ih q in
        let next : j - n ≡ suc (j - (n + 1)) = omega (arith, r.0) in
        (omega (arith, r.0), omega (arith, r.1), ap (λ (m : ℕ). same_line (get_or (l ∷ ls) m no_line).id k) next ∙ r.2)

pub place_within : (k : LineId) (ls : List Line) (i : ℕ) → place_from 0 k ls ≡ Some i → i < length ls
place_within k ls i h = let r = place_found k ls 0 i h in omega (arith, r.1)
