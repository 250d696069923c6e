-- What is decided fits the session, so that it can be performed.
use Rattle.std.proofs.Common.{◌≡◌, ℕ, zero, suc, ◌+◌, ◌-◌, ◌<◌, ◌≤◌, Bool, true, false, cond, not, ◌&&◌, ◌||◌, eqb, ltb, leb, List, [], ◌∷◌, ◌++◌, length, get_or, set, Some, None, Ok, Err, Option, Result, sym, refl, ap, ◌∙◌, subst, arith}
use Rattle.std.proofs.lemmas.Bool.{or_parts, ltb-false, leb-false, and_from, and_parts, cond_both}
use Rattle.entries.specs.declared.key.LineId.{LineId}
use Rattle.entries.specs.Entries.{service_line, qos_line}
use Rattle.entries.specs.Triggers.{between, tariff_time, session_end, abort, is_condition, session_time_limit, line_time_limit, session_volume_limit, line_volume_limit}
use Rattle.session.specs.declared.answer.Refusal.{Refusal}
use Rattle.session.specs.declared.answer.Refusal.TheVariants.{OtherSlip, Early, OutOfRange, LineActive, NoActiveLine, TooManyLines, TooLarge}
use Rattle.session.specs.declared.event.Event.TheVariants.{Open as Opening, Start, Usage, End, Change, Tick, Intervene, Push, Finish, Shelve}
use Rattle.session.specs.declared.state.Act.{Act}
use Rattle.session.specs.declared.state.Edit.TheVariants.{Keep, Put}
use Rattle.session.specs.declared.state.Line.{Line}
use Rattle.session.specs.declared.state.Phase.{Phase}
use Rattle.session.specs.declared.state.Phase.TheVariants.{Fresh, Open, Ended, Shelved}
use Rattle.session.specs.declared.state.Selection.{Selection}
use Rattle.session.specs.declared.state.Selection.TheVariants.{Nothing, Active, One, OpenFor}
use Rattle.session.specs.Closing.{closes, closing_count}
use Rattle.session.specs.Deciding.{Call, open_act, start_at, count_act, usage_at, ending, end_at}
use Rattle.session.specs.Deciding.{changing, change_act, tick_act, intervene_act, push_act, finish_act, shelve_act, own_slip, timely, when_fresh, when_open, decide_in, decide, most_lines, largest_period}
use Rattle.session.specs.Fit.{Fit, Known, EditWithin, StopWithin}
use Rattle.session.specs.Performing.{edited}
use Rattle.session.specs.Sound.{live, sound_line, sound_lines, volume_of_all}
use Rattle.session.specs.State.{State, no_line, line_at, place_of, setting, can_fire, limit_met, volume_sum, counted, over_total, open_octets, started, new_line}
use Rattle.session.proofs.Bounds.{bounds, bounds_hold, sound_parts, sound_from, sound_at, sound_set, sound_later, volume_set}
use Rattle.session.proofs.Nothing.{none_close}
use Rattle.session.proofs.Places.{place_within}

-- the bounds that a session keeps
pub record Sane (s : State) : Type 0 where
  pub sound : sound_lines s.last s.lines ≡ true
  pub counted : s.marks.volume ≤ volume_of_all s.lines

abbrev pub Fits : State → ℕ → Result Act Refusal → Type 0
Fits s t (Ok a) = Fit s t a
Fits s t (Err r) = Unit {0}

-- how many lines close does not change where one is put in another's place that closes alike
count_set : (p : Line → Bool) (ls : List Line) (i : ℕ) (x : Line) → p x ≡ p (get_or ls i no_line) → closing_count p (set ls i x) ≡ closing_count p ls
count_set p [] i x e = refl
count_set p (l ∷ ls) zero x e = ap (λ b. cond b 1 0 + closing_count p ls) e
count_set p (l ∷ ls) (suc i) x e = ap (λ n. cond (p l) 1 0 + n) (count_set p ls i x e)

closes_counted : (chosen : Selection) (t u w : ℕ) (l : Line) → closes chosen t (counted u w l) ≡ closes chosen t l
closes_counted Nothing t u w l = refl
closes_counted Active t u w l = refl
closes_counted (One k) t u w l = refl
closes_counted (OpenFor n) t u w l = refl

-- lines with a report counted, started again, and new

counted_sound : (t u w : ℕ) (l : Line) → sound_line t l ≡ true → over_total (counted u w l) ≡ false → sound_line t (counted u w l) ≡ true
counted_sound t u w l h k =
    let p = sound_parts t l h in
    let f = bounds l p.within in
    let o = or_parts _ _ k in
    let a = ltb-false _ _ o.0 in
    let b = ltb-false _ _ o.1 in
    sound_from t (counted u w l) (record {
      kinds = p.kinds;
      since = p.since;
      within = bounds_hold (counted u w l) (record { up = omega (arith, f.up); up_total = a; down = omega (arith, f.down); down_total = b });
    })

started_sound : (t : ℕ) (l : Line) → sound_line t l ≡ true → sound_line t (started t l) ≡ true
started_sound t l h =
    let p = sound_parts t l h in
    let f = bounds l p.within in
    sound_from t (started t l) (record {
      kinds = p.kinds;
      since = omega arith;
      within = bounds_hold (started t l) (record { up = omega arith; up_total = f.up_total; down = omega arith; down_total = f.down_total });
    })

sound_push : (t : ℕ) (ls : List Line) (x : Line) → sound_lines t ls ≡ true → sound_line t x ≡ true → sound_lines t (ls ++ (x ∷ [])) ≡ true
sound_push t [] x h k = and_from _ _ k refl
sound_push t (l ∷ ls) x h k = let a = and_parts (sound_line t l) (sound_lines t ls) h in and_from _ _ a.0 (sound_push t ls x a.1 k)

volume_push : (ls : List Line) (k : LineId) (t : ℕ) → volume_of_all (ls ++ (new_line k t ∷ [])) ≡ volume_of_all ls
volume_push [] k t = refl
volume_push (l ∷ ls) k t = ap (λ n. volume_sum n l.total_uplink.0 l.total_downlink.0) (volume_push ls k t)

module _ (s : State) (sane : Sane s) (t : ℕ) (alive : live s.marks.phase ≡ true) (late : s.last ≤ t) where
  sound_now : sound_lines t s.lines ≡ true
  sound_now = sound_later s.last t s.lines late sane.sound

  -- nothing is edited
  keep_fit : (a : Act) → a.edit ≡ Keep → StopWithin a.stop s.lines → a.marks.volume ≡ s.marks.volume → Fit s t a
  keep_fit a edit stop sum =
      let e : edited a.edit s.lines ≡ s.lines = ap (λ x. edited x s.lines) edit in
      record {
        alive = alive;
        late = late;
        edit = subst (λ x. EditWithin x s.lines) (sym edit) tt;
        stop = stop;
        sound = ap (sound_lines t) e ∙ sound_now;
        volume = omega (arith, ap volume_of_all e, sum, sane.counted);
        count = ap (closing_count (closes a.chosen t)) e;
      }

  -- a report counted on line i, whatever it closes
  counted_fit : (i u w : ℕ) (a : Act) → i < length s.lines → over_total (counted u w (line_at s i)) ≡ false
      → a.edit ≡ Put i (counted u w (line_at s i)) → a.stop ≡ None → a.marks.volume ≤ volume_sum s.marks.volume u w → Fit s t a
  counted_fit i u w a inside low edit stop sum =
      let l : Line = counted u w (line_at s i) in
      let e : edited a.edit s.lines ≡ set s.lines i l = ap (λ x. edited x s.lines) edit in
      let k = volume_set s.lines i l (u + w) inside (omega arith) in
      record {
        alive = alive;
        late = late;
        edit = subst (λ x. EditWithin x s.lines) (sym edit) inside;
        stop = subst (λ x. StopWithin x s.lines) (sym stop) tt;
        sound = ap (sound_lines t) e ∙ sound_set t s.lines i l sound_now
            (counted_sound t u w (line_at s i) (sound_at t s.lines i inside sound_now) low);
        volume = omega (arith, ap volume_of_all e, k, sum, sane.counted);
        count = ap (closing_count (closes a.chosen t)) e
            ∙ count_set (closes a.chosen t) s.lines i l (closes_counted a.chosen t u w (line_at s i));
      }

  start_fits : (k : LineId) → between service_line qos_line k.kind ≡ true → (p : Option ℕ) → place_of s k ≡ p → Fits s t (start_at s k t p)
  start_fits k kind (Some i) e =
      cond_both (line_at s i).active (Err LineActive) (Ok _) (Fits s t) (λ q. tt) (λ q.
      let inside : i < length s.lines = place_within k s.lines i e in
      let v = volume_set s.lines i (started t (line_at s i)) 0 inside (omega arith) in
      record {
        alive = alive;
        late = late;
        edit = inside;
        stop = tt;
        sound = sound_set t s.lines i _ sound_now (started_sound t (line_at s i) (sound_at t s.lines i inside sound_now));
        volume = omega (arith, v, sane.counted);
        count = none_close t (set s.lines i (started t (line_at s i))) ∙ sym (none_close t s.lines);
      })
  start_fits k kind None e =
      cond_both (leb most_lines (length s.lines)) (Err TooManyLines) (Ok _) (Fits s t) (λ q. tt) (λ q. record {
        alive = alive;
        late = late;
        edit = leb-false most_lines (length s.lines) q;
        stop = tt;
        sound = sound_push t s.lines (new_line k t) sound_now
            (sound_from t (new_line k t) (record { kinds = kind; since = omega arith; within = refl }));
        volume = omega (arith, volume_push s.lines k t, sane.counted);
        count = none_close t (s.lines ++ (new_line k t ∷ [])) ∙ sym (none_close t s.lines);
      })

  usage_fits : (k : LineId) (u w : ℕ) (p : Option ℕ) → place_of s k ≡ p → Fits s t (usage_at s k u w p)
  usage_fits k u w None e = tt
  usage_fits k u w (Some i) e =
      let l : Line = counted u w (line_at s i) in
      cond_both (not (line_at s i).active) (Err NoActiveLine) _ (Fits s t) (λ q. tt) (λ q.
      cond_both (over_total l) (Err TooLarge) (Ok (count_act s k i u w l)) (Fits s t) (λ q. tt) (λ low.
      let inside : i < length s.lines = place_within k s.lines i e in
      cond_both (limit_met s session_volume_limit (volume_sum s.marks.volume u w)) _ _ (Fit s t)
      (λ q. counted_fit i u w _ inside low refl refl (omega arith)) (λ q.
      cond_both (limit_met s line_volume_limit (open_octets l)) _ _ (Fit s t)
      (λ q. counted_fit i u w _ inside low refl refl (omega arith))
      (λ q. counted_fit i u w _ inside low refl refl (omega arith)))))

  end_fits : (k : LineId) (p : Option ℕ) → place_of s k ≡ p → Fits s t (end_at s k p)
  end_fits k None e = tt
  end_fits k (Some i) e =
      cond_both (line_at s i).active (Ok (ending s k i)) (Err NoActiveLine) (Fits s t)
      (λ q. keep_fit (ending s k i) refl (place_within k s.lines i e) refl) (λ q. tt)

  change_fits : (n : ℕ) → Fits s t (change_act s n)
  change_fits n =
      cond_both (not (is_condition n && (setting s n).known)) (Err OutOfRange) _ (Fits s t) (λ q. tt) (λ q.
      cond_both (eqb n tariff_time && leb largest_period s.marks.period) (Err TooLarge) (Ok (changing s n)) (Fits s t) (λ q. tt)
      (λ q. keep_fit (changing s n) refl tt refl))

  tick_fits : Fit s t (tick_act s t)
  tick_fits =
      cond_both (limit_met s session_time_limit (t - s.marks.since)) _ _ (Fit s t) (λ q. keep_fit _ refl tt refl) (λ q.
      cond_both (can_fire s line_time_limit) _ _ (Fit s t) (λ q. keep_fit _ refl tt refl) (λ q. keep_fit _ refl tt refl))

  finish_fits : (c : ℕ) → Fits s t (finish_act s c)
  finish_fits c =
      cond_both (eqb c session_end || eqb c abort) (Ok _) (Err OutOfRange) (Fits s t) (λ q. keep_fit _ refl tt refl) (λ q. tt)

module _ (s : State) (sane : Sane s) (slip t : ℕ) where
  timely_fits : (d : Result Act Refusal) → (s.last ≤ t → Fits s t d) → Fits s t (timely s t d)
  timely_fits d h = cond_both (ltb t s.last) (Err Early) d (Fits s t) (λ q. tt) (λ q. h (ltb-false t s.last q))

  own_fits : (d : Result Act Refusal) → Fits s t d → Fits s t (own_slip s slip d)
  own_fits d h = cond_both (eqb slip s.id) d (Err OtherSlip) (Fits s t) (λ q. h) (λ q. tt)

  fresh_fits : live s.marks.phase ≡ true → (c : Call) → Fits s t (when_fresh s c t)
  fresh_fits alive Opening = timely_fits _ (λ late. keep_fit s sane t alive late (open_act s t) refl tt refl)
  fresh_fits alive (Start k) = tt
  fresh_fits alive (Usage k u w) = tt
  fresh_fits alive (End k) = tt
  fresh_fits alive (Change n) = tt
  fresh_fits alive Tick = tt
  fresh_fits alive Intervene = tt
  fresh_fits alive Push = tt
  fresh_fits alive (Finish c) = tt
  fresh_fits alive Shelve = tt

  open_fits : live s.marks.phase ≡ true → (c : Call) → Known c → Fits s t (when_open s c slip t)
  open_fits alive Opening known = tt
  open_fits alive (Start None) known = timely_fits _ (λ late. tt)
  open_fits alive (Start (Some k)) known = timely_fits _ (λ late. start_fits s sane t alive late k known (place_of s k) refl)
  open_fits alive (Usage None u w) known = timely_fits _ (λ late. tt)
  open_fits alive (Usage (Some k) u w) known = timely_fits _ (λ late. usage_fits s sane t alive late k u w (place_of s k) refl)
  open_fits alive (End None) known = timely_fits _ (λ late. tt)
  open_fits alive (End (Some k)) known = timely_fits _ (λ late. end_fits s sane t alive late k (place_of s k) refl)
  open_fits alive (Change n) known = timely_fits _ (λ late. change_fits s sane t alive late n)
  open_fits alive Tick known = timely_fits _ (λ late. tick_fits s sane t alive late)
  open_fits alive Intervene known = timely_fits _ (λ late. keep_fit s sane t alive late (intervene_act s) refl tt refl)
  open_fits alive Push known = timely_fits _ (λ late. keep_fit s sane t alive late (push_act s) refl tt refl)
  open_fits alive (Finish c) known = own_fits _ (timely_fits _ (λ late. finish_fits s sane t alive late c))
  open_fits alive Shelve known = own_fits _ (timely_fits _ (λ late. keep_fit s sane t alive late (shelve_act s) refl tt refl))

  pub decide_fits : (c : Call) → Known c → Fits s t (decide s c slip t)
  decide_fits c known = go s.marks.phase refl
    where
      go : (p : Phase) → s.marks.phase ≡ p → Fits s t (decide_in p s c slip t)
      go Fresh e = fresh_fits (ap live e) c
      go Open e = open_fits (ap live e) c known
      go Ended e = tt
      go Shelved e = tt

  pub act_fits : (c : Call) → Known c → (a : Act) → Ok a ≡ decide s c slip t → Fit s t a
  act_fits c known a e = subst (Fits s t) (sym e) (decide_fits c known)
