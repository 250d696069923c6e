-- Calls made one after the other are a run.
use Rattle.std.proofs.Common.{◌≡◌, true, List, [], ◌∷◌, ◌++◌, Ok, Err, Result, IfOk, refl, sym, ap, ◌∙◌, subst, append_assoc}
use Rattle.std.proofs.lemmas.List.{append-nil}
use Rattle.entries.specs.declared.entry.Entry.{Entry}
use Rattle.entries.specs.declared.key.ServiceKey.{ServiceKey}
use Rattle.entries.specs.Columns.{converged}
use Rattle.entries.specs.Keys.{services}
use Rattle.session.specs.State.{State}
use Rattle.session.specs.Steps.{Fed, seen, step, accepted, after}
use Rattle.sample.specs.Short.{run_from, AllAccepted, Ran}

-- what was taken before stands before what is taken
taken_before : (s : State) (taken : List Entry) (fs : List (Fed ServiceKey))
    → ((after services converged (record { state = s; taken = taken }) fs).state ≡ (run_from s fs).state)
    × ((after services converged (record { state = s; taken = taken }) fs).taken ≡ taken ++ (run_from s fs).taken)
taken_before s taken [] = (refl, sym (append-nil taken))
taken_before s taken (f ∷ fs) =
    let t = (step converged s (seen services f)).state in
    let a = (step converged s (seen services f)).added in
    let p = taken_before t (taken ++ a) fs in
    let q = taken_before t ([] ++ a) fs in
    (p.0 ∙ sym q.0, p.1 ∙ (append_assoc taken a (run_from t fs).taken ∙ ap (λ xs. taken ++ xs) (sym q.1)))

-- a call and then a run
pub ran_first : {s t u : State} {b c d : List Entry} (f : Fed ServiceKey) {fs : List (Fed ServiceKey)}
    → accepted (step converged s (seen services f)) ≡ true → t ≡ (step converged s (seen services f)).state
    → c ≡ b ++ (step converged s (seen services f)).added → Ran t fs u c d → Ran s (f ∷ fs) u b d
ran_first {s} {t} {u} {b} {c} {d} f {fs} ok becomes gains r =
    let a = (step converged s (seen services f)).added in
    let q = taken_before (step converged s (seen services f)).state ([] ++ a) fs in
    record {
      each = (ok, subst (λ (x : State). AllAccepted x fs) becomes r.each);
      becomes = r.becomes ∙ ap (λ x. (run_from x fs).state) becomes ∙ sym q.0;
      gains = r.gains ∙ (ap (λ x. c ++ (run_from x fs).taken) becomes
          ∙ (ap (λ x. x ++ (run_from (step converged s (seen services f)).state fs).taken) gains
          ∙ (append_assoc b a (run_from (step converged s (seen services f)).state fs).taken ∙ ap (λ x. b ++ x) (sym q.1))));
    }

pub ran_none : (s : State) (b : List Entry) → Ran s [] s b b
ran_none s b = record { each = tt; becomes = refl; gains = sym (append-nil b) }

-- a run and then a run
pub ran_both : (fs : List (Fed ServiceKey)) {s t u : State} {b c d : List Entry} {gs : List (Fed ServiceKey)} → Ran s fs t b c → Ran t gs u c d → Ran s (fs ++ gs) u b d
ran_both [] {s} {t} {u} {b} {c} {d} {gs} r q = record {
  each = subst (λ (x : State). AllAccepted x gs) r.becomes q.each;
  becomes = q.becomes ∙ ap (λ (x : State). (run_from x gs).state) r.becomes;
  gains = q.gains ∙ (ap (λ (x : State). c ++ (run_from x gs).taken) r.becomes
      ∙ ap (λ (x : List Entry). x ++ (run_from s gs).taken) (r.gains ∙ append-nil b));
}
ran_both (f ∷ fs) {s} {t} {u} {b} {c} {d} {gs} r q =
    let o = step converged s (seen services f) in
    let k = taken_before o.state ([] ++ o.added) fs in
    let rest : Ran o.state fs t (b ++ o.added) c = record {
      each = r.each.1;
      becomes = r.becomes ∙ k.0;
      gains = r.gains ∙ (ap (λ (x : List Entry). b ++ x) k.1 ∙ sym (append_assoc b o.added (run_from o.state fs).taken));
    } in
    ran_first f r.each.0 refl refl (ran_both fs {s = o.state} {b = b ++ o.added} rest q)

-- whatever is answered
pub ok_any : {A E : Type 0} (r : Result A E) {P : Type 0} → P → IfOk r (λ a. P)
ok_any (Ok a) p = p
ok_any (Err e) p = tt
