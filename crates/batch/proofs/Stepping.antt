-- Calls on a session, as steps of a list.
use Rattle.std.proofs.Common.{◌≡◌, ℕ, ◌+◌, ◌<◌, Bool, false, cond, List, [], ◌∷◌, length, get_or, drop, is_ok, Ok, Err, Result, refl, ap, ◌∙◌, arith}
use Rattle.std.proofs.lemmas.List.{at_drop_more}
use Rattle.entries.specs.declared.book.Book.{Book}
use Rattle.entries.specs.declared.entry.Entry.{Entry}
use Rattle.entries.specs.declared.key.ServiceKey.{ServiceKey}
use Rattle.entries.specs.declared.link.Link.{Link}
use Rattle.entries.specs.Books.{Grown}
use Rattle.entries.specs.Columns.{converged}
use Rattle.entries.specs.Keys.{services}
use Rattle.session.specs.declared.answer.Refusal.{Refusal}
use Rattle.session.specs.declared.answer.Reported.{Reported}
use Rattle.session.specs.declared.event.Event.{Event}
use Rattle.session.specs.Answers.{Answer, told_report}
use Rattle.session.specs.Performing.{Outcome}
use Rattle.session.specs.State.{State}
use Rattle.session.specs.Steps.{fed, seen, step, accepted, is_accepted}
use Rattle.session.specs.Taking.{Handed}
use Rattle.batch.specs.declared.Call.{Call}
use Rattle.batch.specs.Batch.{event_of, stepped, accepted_of}

ok_accepted : (r : Result Reported Refusal) → is_ok r ≡ is_accepted (told_report r)
ok_accepted (Ok a) = refl
ok_accepted (Err e) = refl

-- a call by its event and its intake is the step of the list
pub is_stepped : (s : State) (c : Call) (e : Event ServiceKey) (room : ℕ) → e ≡ event_of c → room ≡ 0
    → (r : Result Reported Refusal) (ok : Bool) (s' : State) → ok ≡ is_ok r
    → told_report r ≡ (step converged s (seen services (fed e 0 c.time room []))).answer
    → s' ≡ (step converged s (seen services (fed e 0 c.time room []))).state
    → (ok ≡ accepted (stepped s c)) × (s' ≡ (stepped s c).state)
is_stepped s c e room same none r ok s' was answers becomes =
    let is : step converged s (seen services (fed e 0 c.time room [])) ≡ stepped s c = cc in (
      was ∙ ok_accepted r ∙ ap is_accepted answers ∙ ap (λ (o : Outcome Answer). accepted o) is,
      becomes ∙ ap (λ (o : Outcome Answer). o.state) is,
    )

-- over a taking, and so over a call, a link stays up or down
abbrev LinkTook : Link Book → Entry → List Entry → Link Book → Type 0
LinkTook before h cs after = Grown before.below h cs after.below × (after.up ≡ before.up)

pub stays_handed : (before : Link Book) (added : List Entry) (after : Link Book) → Handed LinkTook before added after → after.up ≡ before.up
stays_handed before [] after e = ap (λ (l : Link Book). l.up) e
stays_handed before (h ∷ cs) after e = e.1

abbrev pub no_call : Call
no_call = record { is_usage = false; rating_group = 0; uplink = 0; downlink = 0; time = 0 }

-- how many are accepted, one call further
pub accepted_more : (s s' : State) (cs : List Call) (i n n' total : ℕ) (ok : Bool) → i < length cs
    → ok ≡ accepted (stepped s (get_or cs i no_call)) → s' ≡ (stepped s (get_or cs i no_call)).state → n' ≡ n + cond ok 1 0
    → n + accepted_of s (drop i cs) ≡ total → n' + accepted_of s' (drop (i + 1) cs) ≡ total
accepted_more s s' cs i n n' total ok inside was becomes more sum =
    let o : Outcome Answer = stepped s (get_or cs i no_call) in
    let e : accepted_of s (drop i cs) ≡ cond (accepted o) 1 0 + accepted_of o.state (drop (i + 1) cs) = at_drop_more (accepted_of s) cs i no_call inside in
    let f : accepted_of s' (drop (i + 1) cs) ≡ accepted_of o.state (drop (i + 1) cs) = ap (λ (x : State). accepted_of x (drop (i + 1) cs)) becomes in
    let g : ◌≡◌ {A = ℕ} (cond ok 1 0) (cond (accepted o) 1 0) = ap (λ (b : Bool). cond b 1 0) was in
    omega (arith, e, f, g, more, sum)
