-- Answers as they are printed.
use Rattle.std.specs.Prelude.{ℕ, List, ◌++◌, Some, None, Option, codes, decimal}
use Rattle.entries.specs.Makings.{unmade_number, unmade_place}
use Rattle.session.specs.declared.answer.Due.{Due}
use Rattle.session.specs.declared.answer.Due.TheVariants.{Nothing, Sent as SentNow, Held}
use Rattle.session.specs.Answers.{number, not_made_number}
use Rattle.calllist.specs.declared.answer.Answer.{Answer}
use Rattle.calllist.specs.declared.answer.Answer.TheVariants.{Made, Opened, Reported, Sent, Waiting}
use Rattle.calllist.specs.declared.answer.Rejection.{Rejection}
use Rattle.calllist.specs.declared.answer.Rejection.TheVariants.{Session, Book, Call, NoSlip}

abbrev pub due_text : Due → List ℕ
due_text Nothing = codes " nothing"
due_text (SentNow n) = codes " sent " ++ decimal n
due_text (Held n) = codes " held " ++ decimal n

abbrev pub answer_text : Answer → List ℕ
answer_text Made = codes "made"
answer_text (Opened o) = codes "applied " ++ decimal o.applied ++ codes " passed " ++ decimal o.passed
answer_text (Reported r) = codes "closed " ++ decimal r.closed ++ due_text r.due
answer_text (Sent n) = codes "sent " ++ decimal n
answer_text (Waiting n) = codes "waiting " ++ decimal n

-- the number of a refusal, and its place where it has one
abbrev pub refused_text : (number : ℕ) → (place : Option ℕ) → List ℕ
refused_text n None = codes "refused " ++ decimal n
refused_text n (Some place) = codes "refused " ++ decimal n ++ codes " " ++ decimal place

abbrev pub rejection_text : Rejection → List ℕ
rejection_text (Session why) = refused_text (not_made_number why) None
rejection_text (Book why) = refused_text (unmade_number why) (unmade_place why)
rejection_text (Call why) = refused_text (number why) None
rejection_text NoSlip = codes "no slip"
