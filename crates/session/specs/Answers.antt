-- What a caller is told: the numbers of refusals, and what accepted calls answer.
use Rattle.std.specs.Prelude.{ℕ, Ok, Err, Result}
use Rattle.session.specs.declared.answer.Refusal.{Refusal}
use Rattle.session.specs.declared.answer.Refusal.TheVariants.{WrongPhase, OtherSlip, Early, OutOfRange, LineActive, NoActiveLine, TooManyLines, TooLarge, WaitingFull, IntakeTooSmall}
use Rattle.session.specs.declared.answer.NotMade.{NotMade}
use Rattle.session.specs.declared.answer.NotMade.TheVariants.{OutOfRange as ThresholdOutOfRange, NoMemory}
use Rattle.session.specs.declared.answer.Opened.{Opened}
use Rattle.session.specs.declared.answer.Due.{Due}
use Rattle.session.specs.declared.answer.Reported.{Reported}

abbrev pub number : Refusal → ℕ
number WrongPhase = 1
number OtherSlip = 2
number Early = 3
number OutOfRange = 4
number LineActive = 5
number NoActiveLine = 6
number TooManyLines = 7
number TooLarge = 8
number WaitingFull = 9
number IntakeTooSmall = 10

abbrev pub not_made_number : NotMade → ℕ
not_made_number ThresholdOutOfRange = 4
not_made_number NoMemory = 14

-- what a call answers: the number of a refusal; of an opening, how many overrides were applied and passed over; how many
-- containers were closed, and what became of the report; how many a finish sent; how many wait after a shelving
pub data Answer : Type 0 where
  refused : ℕ → Answer
  opened : (applied passed : ℕ) → Answer
  reported : (closed : ℕ) → Due → Answer
  sent : ℕ → Answer
  waiting : ℕ → Answer

abbrev pub told : {A : Type 0} → (A → Answer) → Result A Refusal → Answer
told f (Ok a) = f a
told f (Err r) = refused (number r)

abbrev pub told_opening : Result Opened Refusal → Answer
told_opening r = told (λ a. opened a.applied a.passed) r

abbrev pub told_report : Result Reported Refusal → Answer
told_report r = told (λ a. reported a.closed a.due) r

abbrev pub told_finish : Result ℕ Refusal → Answer
told_finish r = told Answer.sent r

abbrev pub told_shelving : Result ℕ Refusal → Answer
told_shelving r = told Answer.waiting r
