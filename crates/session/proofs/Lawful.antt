-- The laws of every list of calls, and that a call which comes to its step carries them on.
use Rattle.std.proofs.Common.{◌≡◌, ℕ, Bool, true, List, [], ◌∷◌, ◌++◌, Ok, Err, Result, sym, refl, ap, ◌∙◌, subst}
use Rattle.entries.specs.declared.entry.Entry.{Entry}
use Rattle.entries.specs.Columns.{Column, TariffFixed}
use Rattle.entries.specs.Keys.{Coding, Distinct, OfLines}
use Rattle.session.specs.declared.answer.Refusal.{Refusal}
use Rattle.session.specs.declared.event.Event.{Event}
use Rattle.session.specs.declared.event.Event.TheVariants.{Open as Opening, Start, Usage, End, Change, Tick, Intervene, Push, Finish, Shelve}
use Rattle.session.specs.declared.state.Act.{Act}
use Rattle.session.specs.Answers.{Answer, told_report}
use Rattle.session.specs.Deciding.{decide}
use Rattle.session.specs.Laws.{Decides, ContainersFollowOneAnother, Numbered, Lawful, Does, Lends}
use Rattle.session.specs.Performing.{Outcome, reporting, shelving}
use Rattle.session.specs.State.{State}
use Rattle.session.specs.Steps.{Making, as_made, Fed, fed, seen_event, seen, may_report, answered, step, Run, after}
use Rattle.session.specs.Taking.{Comes}
use Rattle.session.proofs.Fair.{no_way}
use Rattle.session.proofs.Formed.{formed_requests, made_formed}
use Rattle.session.proofs.OnePlace.{by_line, one_place, agreement, made_sound}
use Rattle.session.proofs.Order.{in_order_from, made_ordered}

-- one more call
after_push : {K : Type 0} (x : Coding K) (column : Column) (r : Run) (fs : List (Fed K)) (f : Fed K)
    → (after x column r (fs ++ (f ∷ []))).state ≡ (step column (after x column r fs).state (seen x f)).state
after_push x column r [] f = refl
after_push x column r (g ∷ fs) f =
    after_push x column (record {
      state = (step column r.state (seen x g)).state;
      taken = r.taken ++ (step column r.state (seen x g)).added;
    }) fs f

module _ {K : Type 0} (x : Coding K) (distinct : Distinct x) (of_lines : OfLines x) (column : Column) (fixed : TariffFixed column) where
  in_order : (same : K → K → Bool) → Decides x same → (m : Making) (fs : List (Fed K)) → ContainersFollowOneAnother x same column m fs
  in_order same decides m fs =
      let h = in_order_from x of_lines column fixed distinct same decides (as_made column m) fs (made_sound x column fixed m) (made_formed column m)
      (made_ordered x column m) in
      record { listed = h.0; numbered = subst (Numbered 0) (sym h.0) h.1.0; follow = h.1.1 }

  pub lawful : (m : Making) (fs : List (Fed K)) → Lawful x column m fs
  lawful m fs =
      let test = by_line x distinct in
      record {
        decided = test;
        one_place = λ same decides. one_place x column fixed distinct same decides m fs;
        in_order = λ same decides. in_order same decides m fs;
        agreement = agreement x column fixed distinct test.0 test.1 m fs;
        requests = formed_requests x of_lines column (as_made column m) fs (made_formed column m);
      }

  pub does : (s s' : State) (f : Fed K) (answer : Answer) → answer ≡ (step column s (seen x f)).answer → s' ≡ (step column s (seen x f)).state
      → Does x column s f answer s'
  does s s' f answer answers becomes = record {
    answers = answers;
    becomes = becomes;
    leads = λ m fs e.
        becomes ∙ (ap (λ (r : State). (step column r (seen x f)).state) e
        ∙ sym (after_push x column (record { state = as_made column m; taken = [] }) fs f));
    lawful = λ m fs e. lawful m (fs ++ (f ∷ []));
  }

  -- a call that came to an outcome, which told is that of its step
  pub carried : {A T : Type 0} (s s' : State) (f : Fed K) (tell : A → Answer) (o : Outcome A) → answered tell o ≡ step column s (seen x f)
      → (r : A) (book : T → List Entry) (took : T → Entry → List Entry → T → Type 0) (before after : T) → Comes o r s' book took before after
      → Does x column s f (tell r) s' × Lends (step column s (seen x f)).added book took before after
  carried s s' f tell o same r book took before after e = (
    does s s' f (tell r) (ap tell e.answers ∙ ap (λ (y : Outcome Answer). y.answer) same) (e.becomes ∙ ap (λ (y : Outcome Answer). y.state) same),
    subst (λ (es : List Entry). Lends es book took before after) (ap (λ (y : Outcome Answer). y.added) same) (record { gains = e.gains; hands = e.hands }),
  )

pub reports : {K : Type 0} (x : Coding K) (column : Column) (s : State) (e : Event K) (t intake : ℕ) → may_report e ≡ true
    → answered told_report (reporting s t intake (decide s (seen_event x e) 0 t)) ≡ step column s (seen x (fed e 0 t intake []))
reports x column s Opening t intake h = no_way h
reports x column s (Start k) t intake h = refl
reports x column s (Usage k u w) t intake h = refl
reports x column s (End k) t intake h = refl
reports x column s (Change n) t intake h = refl
reports x column s Tick t intake h = refl
reports x column s Intervene t intake h = refl
reports x column s Push t intake h = refl
reports x column s (Finish c) t intake h = no_way h
reports x column s Shelve t intake h = no_way h

-- a shelving adds nothing
pub shelving_adds : (s : State) (t : ℕ) (d : Result Act Refusal) → (shelving s t d).added ≡ []
shelving_adds s t (Ok a) = refl
shelving_adds s t (Err r) = refl
