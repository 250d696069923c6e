-- Answers without the slip that an opening hands out or a refusal gives back.
use Rattle.std.specs.Prelude.{◌≡◌, ℕ, ◌≤◌, Ok, Err, Result}
use Rattle.session.specs.declared.answer.Refusal.{Refusal}
use Rattle.session.specs.declared.slip.Slip.{Slip}
use Rattle.session.specs.declared.state.Phase.TheVariants.{Open}
use Rattle.session.specs.State.{State}

abbrev pub without_slip : {A S : Type 0} → Result A (Refusal × S) → Result A Refusal
without_slip (Ok a) = Ok a
without_slip (Err e) = Err e.0

abbrev pub slip_aside : {A S : Type 0} → Result (A × S) Refusal → Result A Refusal
slip_aside (Ok a) = Ok a.0
slip_aside (Err r) = Err r

-- the slip that an opening hands out has the session's charging id
abbrev pub slip_handed : {A : Type 0} → ℕ → Result (A × Slip) Refusal → Type 0
slip_handed id (Ok a) = a.1.id ≡ id
slip_handed id (Err r) = Unit {0}

-- a slip with which the session can be shelved from a time on
pub record Spendable (s : State) (slip t : ℕ) : Type 0 where
  pub phase : s.marks.phase ≡ Open
  pub own : slip ≡ s.id
  pub late : s.last ≤ t
