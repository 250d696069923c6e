use Rattle.std.proofs.Common.{◌≡◌, ℕ, Bool, true, false, cond, not, [], ◌∷◌, None, refl, ap, arith}
use Rattle.entries.specs.Octets.{up}
use Rattle.entries.specs.Triggers.{tariff_time}
use Rattle.session.specs.declared.event.Event.TheVariants.{Open as Opening, Start, Usage, Change}
use Rattle.session.specs.Figures.{seven, call, key, one_code}
use Rattle.session.specs.Laws.{Decides}
use Rattle.session.specs.Steps.{fed}
use Rattle.session.proofs.Fair.{no_way}
use Rattle.session.proofs.laws.premises_are_needed.Goals as goal

alike : Bool → Bool → Bool
alike a b = cond a b (not b)

alike_decides : Decides one_code alike
unfolding alike
alike_decides = record { equal = equal; itself = itself }
  where
    equal : (a b : Bool) → true ≡ true → true ≡ true → cond a b (not b) ≡ true → a ≡ b
    equal true true p q h = refl
    equal true false p q h = no_way h
    equal false true p q h = no_way h
    equal false false p q h = refl

    itself : (a : Bool) → true ≡ true → cond a a (not a) ≡ true
    itself true p = refl
    itself false p = refl

-- five octets reported on one of the two keys are open on the line of the other; and with the tariff time disabled, five
-- octets of the first tariff period are open in the second
pub returns : goal.returns
unfolding alike
returns c = record {
  keys = λ laws.
      let z : ◌≡◌ {A = ℕ} 0 5 = ((laws (seven 0 0) (call Opening 1 ∷ call (Start true) 1 ∷ call (Usage true 5 0) 2 ∷ [])
      ).one_place alike alike_decides).octets up false refl 0 in
      omega arith;
  tariff = λ laws.
      let run = laws (seven 0 0)
      (fed Opening 0 1 4096 (record { trigger = tariff_time; switch = 2; category = 0; threshold = 0 } ∷ [])
      ∷ call (Start (key 10 None)) 1 ∷ call (Usage (key 10 None) 5 0) 2 ∷ call (Change tariff_time) 3 ∷ []) in
      let same = run.decided.0 in
      let decides = run.decided.1 in
      let z = (run.one_place same decides).octets up (key 10 None) refl 0 in
      omega (arith, z, ap (λ (b : Bool). cond {A = ℕ} b 5 0) (decides.itself (key 10 None) refl));
}
