-- What makings and calls answer.
use Rattle.std.specs.Prelude.{◌≡◌, ℕ, List, [], Some, None, Option, Ok, Err, Result}
use Rattle.entries.specs.declared.making.Unmade.{Unmade}
use Rattle.entries.specs.declared.making.Unmade.TheVariants.{TooManyOverrides, WrongLength}
use Rattle.entries.specs.declared.taker.Override.{Override}
use Rattle.entries.specs.Columns.{Column}
use Rattle.entries.specs.Keys.{Coding}
use Rattle.session.specs.declared.answer.NotMade.{NotMade}
use Rattle.session.specs.declared.event.Event.{Event}
use Rattle.session.specs.declared.event.Event.TheVariants.{Open as Opening, Start, Usage, End, Change, Tick, Intervene, Push, Finish, Shelve}
use Rattle.session.specs.declared.slip.Slip.{Slip}
use Rattle.session.specs.State.{State}
use Rattle.session.specs.Steps.{fed, seen, step}
use Rattle.session.specs.Answers.{Answer as StepAnswer, number, refused, opened, reported, sent, waiting}
use Rattle.calllist.specs.declared.answer.Answer.{Answer}
use Rattle.calllist.specs.declared.answer.Answer.TheVariants.{Made, Opened, Reported, Sent, Waiting}
use Rattle.calllist.specs.declared.answer.Rejection.{Rejection}
use Rattle.calllist.specs.declared.answer.Rejection.TheVariants.{Session, Book, Call, NoSlip}

-- makings: made, or why not

abbrev pub session_made : Option NotMade → Result Answer Rejection
session_made None = Ok Made
session_made (Some why) = Err (Session why)

-- a book of too many places is refused with the places that were asked for
abbrev pub refused_at : (places : ℕ) → Unmade → Unmade
refused_at places TooManyOverrides = TooManyOverrides
refused_at places (WrongLength n) = WrongLength places

abbrev pub book_made : (places : ℕ) → Option Unmade → Result Answer Rejection
book_made places None = Ok Made
book_made places (Some why) = Err (Book (refused_at places why))

-- what a call told, as an answer of a step
abbrev pub told : Result Answer Rejection → Option StepAnswer
told (Ok Made) = None
told (Ok (Opened o)) = Some (opened o.applied o.passed)
told (Ok (Reported r)) = Some (reported r.closed r.due)
told (Ok (Sent n)) = Some (sent n)
told (Ok (Waiting n)) = Some (waiting n)
told (Err (Session why)) = None
told (Err (Book why)) = None
told (Err (Call why)) = Some (refused (number why))
told (Err NoSlip) = None

-- what a call answers: its step's answer, or that there is no slip at hand
abbrev pub Tells : Result Answer Rejection → Option StepAnswer → Type 0
Tells r None = r ≡ Err NoSlip
Tells r (Some a) = told r ≡ Some a

-- a call that needs a slip
abbrev pub by_slip : {S : Type 0} → Option S → (S → StepAnswer) → Option StepAnswer
by_slip None answer = None
by_slip (Some s) answer = Some (answer s)

-- an opening, which a session whose slip is held refuses
abbrev pub unless_held : {S : Type 0} → Option S → StepAnswer → Option StepAnswer
unless_held None answer = Some answer
unless_held (Some s) answer = Some (refused 1)

-- what is told of a call, by its step and the slip that is held
abbrev pub answer_to : {K : Type 0} → Coding K → Column → State → Event K → Option Slip → (t intake : ℕ) → List Override → Option StepAnswer
answer_to x column s Opening held t intake profile = unless_held held (step column s (seen x (fed Opening 0 t intake profile))).answer
answer_to x column s (Start k) held t intake profile = Some (step column s (seen x (fed (Start k) 0 t intake []))).answer
answer_to x column s (Usage k u w) held t intake profile = Some (step column s (seen x (fed (Usage k u w) 0 t intake []))).answer
answer_to x column s (End k) held t intake profile = Some (step column s (seen x (fed (End k) 0 t intake []))).answer
answer_to x column s (Change n) held t intake profile = Some (step column s (seen x (fed (Change n) 0 t intake []))).answer
answer_to x column s Tick held t intake profile = Some (step column s (seen x (fed Tick 0 t intake []))).answer
answer_to x column s Intervene held t intake profile = Some (step column s (seen x (fed Intervene 0 t intake []))).answer
answer_to x column s Push held t intake profile = Some (step column s (seen x (fed Push 0 t intake []))).answer
answer_to x column s (Finish c) held t intake profile = by_slip held (λ slip. (step column s (seen x (fed (Finish c) slip.id t intake []))).answer)
answer_to x column s Shelve held t intake profile = by_slip held (λ slip. (step column s (seen x (fed Shelve slip.id t 0 []))).answer)
