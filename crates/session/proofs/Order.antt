-- Containers follow one another: their numbers, and where each begins.
use Rattle.std.proofs.Common.{◌≡◌, ℕ, suc, ◌+◌, ◌≤◌, max, Bool, true, false, cond, ◌&&◌, ◌||◌, ◌⊎◌, List, [], ◌∷◌, ◌++◌, length, drop, Some, None, Option, sym, refl, ap, ◌∙◌, subst, ap₂, inl, inr, arith}
use Rattle.std.specs.List.{AllByRecursion}
use Rattle.std.proofs.lemmas.List.{append-nil, append_assoc, drop_at, drop_all, length-append}
use Rattle.std.proofs.lemmas.List.Elements.{filter-append}
use Rattle.std.proofs.lemmas.Bool.{and_parts, and_from}
use Rattle.entries.specs.declared.entry.Entry.{Entry}
use Rattle.entries.specs.declared.key.LineId.{LineId}
use Rattle.entries.specs.Columns.{Column, TariffFixed}
use Rattle.entries.specs.Keys.{Coding, Distinct, OfLines, same_line}
use Rattle.entries.specs.Octets.{line_of}
use Rattle.entries.specs.Requests.{container_formed, containers_formed}
use Rattle.session.specs.declared.event.Event.{Event}
use Rattle.session.specs.declared.event.Event.TheVariants.{Open as Opening, Start, Usage, End, Change, Tick, Intervene, Push, Finish, Shelve}
use Rattle.session.specs.declared.state.Line.{Line}
use Rattle.session.specs.Answers.{Answer}
use Rattle.session.specs.Closing.{closes, container, restarted, closings}
use Rattle.session.specs.Deciding.{started_key}
use Rattle.session.specs.Laws.{Decides, is_container, containers, Happening, started_at, closed_into, closed_in_call, noted_closings, noted_start, history, closed_in, Numbered, last_start, last_end, not_before, begins_at, AllFollow}
use Rattle.session.specs.Performing.{Outcome}
use Rattle.session.specs.State.{State, stopped}
use Rattle.session.specs.Steps.{Making, as_made, Fed, seen_event, seen, step, accepted, Run, after}
use Rattle.session.proofs.Acting.{acted_formed}
use Rattle.session.proofs.Doing.{Stayed, Did, Sent, Kept, Done, step_does}
use Rattle.session.proofs.Fair.{Sound, Deed, Since, names, started_line, no_way, all_two}
use Rattle.session.proofs.Fits.{act_fits}
use Rattle.session.proofs.Formed.{Formed, formed_next, known_seen}
use Rattle.session.proofs.OnePlace.{deed_of, lines_after, sound_after, start_outside, agree}
use Rattle.session.proofs.Updates.{is_line, any, update, Apart, closings_count, same_refl, same_sym, same_true, all_update, none_are}

-- histories by the lines of keys

abbrev begins : LineId → List (Happening LineId) → Option ℕ
begins k past = not_before (last_end k past) (last_start same_line k past)

-- each container begins where its line's next one has to
abbrev Chained : List (Happening LineId) → Type 0
Chained [] = Unit {0}
Chained (started_at j t ∷ past) = Chained past
Chained (closed_into e ∷ past) = (begins (line_of e) past ≡ Some e.from) × Chained past

-- books of containers

containers_all : (es : List Entry) → containers_formed es ≡ true → containers es ≡ es
containers_all [] h = refl
containers_all (e ∷ es) h =
    let p = and_parts (container_formed e) (containers_formed es) h in
    let k : is_container e ≡ true = (and_parts (is_container e) _ p.0).0 in
    ap (λ (b : Bool). cond b (e ∷ containers es) (containers es)) k ∙ ap (λ (r : List Entry). e ∷ r) (containers_all es p.1)

formed_left : (xs ys : List Entry) → containers_formed (xs ++ ys) ≡ true → containers_formed xs ≡ true
formed_left [] ys h = refl
formed_left (x ∷ xs) ys h =
    let p = and_parts (container_formed x) (containers_formed (xs ++ ys)) h in
    and_from (container_formed x) (containers_formed xs) p.0 (formed_left xs ys p.1)

handed_containers : (ws added waiting : List Entry) → Sent ws added waiting ⊎ Kept ws added waiting → containers_formed ws ≡ true
    → containers added ++ waiting ≡ ws
handed_containers ws added waiting (inl x) h =
    let all : containers_formed (x.others ++ waiting) ≡ true = ap containers_formed x.split ∙ h in
    ap (λ (r : List Entry). containers r ++ waiting) x.added_is
    ∙ (ap (λ (b : Bool). cond b (x.first ∷ containers x.others) (containers x.others) ++ waiting) x.kind
    ∙ (ap (λ (r : List Entry). r ++ waiting) (containers_all x.others (formed_left x.others waiting all)) ∙ x.split))
handed_containers ws added waiting (inr x) h = ap (λ (r : List Entry). containers r ++ waiting) x.added_is ∙ x.waiting_is

-- the containers of one call

module _ (closes : Line → Bool) (c P t : ℕ) where
  closings_numbered : (n : ℕ) (ls : List Line) → Numbered n (closings closes c P t n ls)
  closings_numbered n [] = tt
  closings_numbered n (l ∷ ls) = go (closes l) (closings_numbered (n + 1) ls) (closings_numbered n ls)
    where
      go : (b : Bool) → Numbered (n + 1) (closings closes c P t (n + 1) ls) → Numbered n (closings closes c P t n ls)
          → Numbered n (cond b (container c P (n + 1) t l ∷ closings closes c P t (n + 1) ls) (closings closes c P t n ls))
      go true h k = (refl, h)
      go false h k = k

  -- what is noted of them
  starts_after : (n : ℕ) (ls : List Line) (past : List (Happening LineId)) (k : LineId)
      → last_start same_line k (noted_closings (closings closes c P t n ls) past) ≡ last_start same_line k past
  starts_after n [] past k = refl
  starts_after n (l ∷ ls) past k =
      go (closes l) (starts_after (n + 1) ls (closed_into (container c P (n + 1) t l) ∷ past) k) (starts_after n ls past k)
    where
      go : (b : Bool)
          → last_start same_line k (noted_closings (closings closes c P t (n + 1) ls) (closed_into (container c P (n + 1) t l) ∷ past)) ≡ last_start same_line k past
          → last_start same_line k (noted_closings (closings closes c P t n ls) past) ≡ last_start same_line k past
          → last_start same_line k (noted_closings (cond b (container c P (n + 1) t l ∷ closings closes c P t (n + 1) ls) (closings closes c P t n ls)) past)
          ≡ last_start same_line k past
      go true i j = i
      go false i j = j

  closes_on : LineId → Line → Bool
  closes_on k l = closes l && is_line k l

  ends_after : (n : ℕ) (ls : List Line) (past : List (Happening LineId)) (k : LineId)
      → last_end k (noted_closings (closings closes c P t n ls) past) ≡ cond (any (closes_on k) ls) t (last_end k past)
  unfolding closes_on
  ends_after n [] past k = refl
  ends_after n (l ∷ ls) past k =
      go (closes l) (ends_after (n + 1) ls (closed_into (container c P (n + 1) t l) ∷ past) k) (ends_after n ls past k)
    where
      join : (x y : Bool) (z : ℕ) → cond x t (cond y t z) ≡ cond (y || x) t z
      join true true z = refl
      join true false z = refl
      join false true z = refl
      join false false z = refl

      go : (b : Bool)
          → last_end k (noted_closings (closings closes c P t (n + 1) ls) (closed_into (container c P (n + 1) t l) ∷ past))
          ≡ cond (any (closes_on k) ls) t (last_end k (closed_into (container c P (n + 1) t l) ∷ past))
          → last_end k (noted_closings (closings closes c P t n ls) past) ≡ cond (any (closes_on k) ls) t (last_end k past)
          → last_end k (noted_closings (cond b (container c P (n + 1) t l ∷ closings closes c P t (n + 1) ls) (closings closes c P t n ls)) past)
          ≡ cond ((b && is_line k l) || any (closes_on k) ls) t (last_end k past)
      go true i j = i ∙ join (any (closes_on k) ls) (is_line k l) (last_end k past)
      go false i j = j

  -- a line closes exactly where one of its identity does
  closes_own : (ls : List Line) → Apart ls → AllByRecursion (λ l. any (closes_on l.id) ls ≡ closes l) ls
  unfolding closes_on
  closes_own [] a = tt
  closes_own (l ∷ ls) a = (
    first (closes l) (is_line l.id l) (any (closes_on l.id) ls) (same_refl l.id) (nowhere l.id ls (none_are (is_line l.id) ls a.0)),
    all_two (λ m. is_line l.id m ≡ false) (λ m. any (closes_on m.id) ls ≡ closes m)
        (λ m. ((closes l && is_line m.id l) || any (closes_on m.id) ls) ≡ closes m)
        (λ m e q. other (closes l) (is_line m.id l) (any (closes_on m.id) ls) (closes m) (same_sym l.id m.id ∙ e) q)
        ls (none_are (is_line l.id) ls a.0) (closes_own ls a.1),
  )
    where
      first : (x y z : Bool) → y ≡ true → z ≡ false → ((x && y) || z) ≡ x
      first true true z e f = refl
      first true false z e f = no_way e
      first false y z e f = f

      other : (x y z w : Bool) → y ≡ false → z ≡ w → ((x && y) || z) ≡ w
      other true true z w e f = no_way (sym e)
      other true false z w e f = f
      other false y z w e f = f

      nowhere : (k : LineId) (ms : List Line) → AllByRecursion (λ m. is_line k m ≡ false) ms → any (closes_on k) ms ≡ false
      nowhere k [] h = refl
      nowhere k (m ∷ ms) h = other (closes m) (is_line k m) (any (closes_on k) ms) false h.0 (nowhere k ms h.1)

  -- each of them begins where its line was open from
  chained_after : (n : ℕ) (ls : List Line) (past : List (Happening LineId)) → ((l : Line) → closes l ≡ true → l.active ≡ true) → Apart ls
      → Since (λ k. begins k past) ls → Chained past → Chained (noted_closings (closings closes c P t n ls) past)
  chained_after n [] past on a h ch = ch
  chained_after n (l ∷ ls) past on a h ch =
      go (closes l) refl (chained_after (n + 1) ls (closed_into (container c P (n + 1) t l) ∷ past) on a.1 others)
      (chained_after n ls past on a.1 h.1 ch)
    where
      others : Since (λ k. begins k (closed_into (container c P (n + 1) t l) ∷ past)) ls
      others =
          all_two (λ m. is_line l.id m ≡ false) (λ m. m.active ≡ true → begins m.id past ≡ Some m.since)
          (λ m. m.active ≡ true → begins m.id (closed_into (container c P (n + 1) t l) ∷ past) ≡ Some m.since)
          (λ m e q o. ap (λ (b : Bool). not_before (cond b t (last_end m.id past)) (last_start same_line m.id past)) (same_sym l.id m.id ∙ e) ∙ q o)
          ls (none_are (is_line l.id) ls a.0) h.1

      go : (b : Bool) → closes l ≡ b
          → (Chained (closed_into (container c P (n + 1) t l) ∷ past)
          → Chained (noted_closings (closings closes c P t (n + 1) ls) (closed_into (container c P (n + 1) t l) ∷ past)))
          → Chained (noted_closings (closings closes c P t n ls) past)
          → Chained (noted_closings (cond b (container c P (n + 1) t l ∷ closings closes c P t (n + 1) ls) (closings closes c P t n ls)) past)
      go true e i j = i (h.0 (on l e), ch)
      go false e i j = j

-- times of what happened

abbrev Timed : ℕ → List (Happening LineId) → Type 0
Timed n [] = Unit {0}
Timed n (started_at j t ∷ past) = (t ≤ n) × Timed n past
Timed n (closed_into e ∷ past) = (e.to ≤ n) × Timed n past

timed_later : (n m : ℕ) → n ≤ m → (past : List (Happening LineId)) → Timed n past → Timed m past
timed_later n m le [] h = tt
timed_later n m le (started_at j t ∷ past) h = (omega (arith, h.0), timed_later n m le past h.1)
timed_later n m le (closed_into e ∷ past) h = (omega (arith, h.0), timed_later n m le past h.1)

timed_end : (n : ℕ) (k : LineId) (past : List (Happening LineId)) → Timed n past → last_end k past ≤ n
timed_end n k [] h = omega arith
timed_end n k (started_at j t ∷ past) h = timed_end n k past h.1
timed_end n k (closed_into e ∷ past) h = go (same_line (line_of e) k) (timed_end n k past h.1)
  where
    go : (b : Bool) → last_end k past ≤ n → cond b e.to (last_end k past) ≤ n
    go true i = h.0
    go false i = i

some_injective : (x y : ℕ) → ◌≡◌ {A = Option ℕ} (Some x) (Some y) → x ≡ y
some_injective x y h = cc

timed_start : (n : ℕ) (k : LineId) (past : List (Happening LineId)) → Timed n past → (u : ℕ) → last_start same_line k past ≡ Some u → u ≤ n
timed_start n k [] h u e = let z : ◌≡◌ {A = ℕ} 0 1 = cc in omega arith
timed_start n k (started_at j t ∷ past) h u e = go (same_line j k) (timed_start n k past h.1 u) e
  where
    go : (b : Bool) → (last_start same_line k past ≡ Some u → u ≤ n) → cond b (Some t) (last_start same_line k past) ≡ Some u → u ≤ n
    go true i e = omega (arith, some_injective t u e, h.0)
    go false i e = i e
timed_start n k (closed_into e' ∷ past) h u e = timed_start n k past h.1 u e

timed_noted : (closes : Line → Bool) (c P t n : ℕ) (ls : List Line) (past : List (Happening LineId)) → Timed t past
    → Timed t (noted_closings (closings closes c P t n ls) past)
timed_noted closes c P t n [] past h = h
timed_noted closes c P t n (l ∷ ls) past h =
    go (closes l) (timed_noted closes c P t (n + 1) ls (closed_into (container c P (n + 1) t l) ∷ past) (omega arith, h))
    (timed_noted closes c P t n ls past h)
  where
    go : (b : Bool) → Timed t (noted_closings (closings closes c P t (n + 1) ls) (closed_into (container c P (n + 1) t l) ∷ past))
        → Timed t (noted_closings (closings closes c P t n ls) past)
        → Timed t (noted_closings (cond b (container c P (n + 1) t l ∷ closings closes c P t (n + 1) ls) (closings closes c P t n ls)) past)
    go true i j = i
    go false i j = j

-- a start that is noted

start_yes : (n t : ℕ) (key : Option LineId) (past : List (Happening LineId)) (k : LineId) → Timed n past → n ≤ t → names k key ≡ true
    → begins k (noted_start true key t past) ≡ Some t
start_yes n t None past k h le e = no_way e
start_yes n t (Some j) past k h le e =
    ap (λ (b : Bool). not_before (last_end k past) (cond b (Some t) (last_start same_line k past))) e
    ∙ ap (λ (m : ℕ). Some m) (let q = timed_end n k past h in larger t (last_end k past) (omega arith))
  where
    larger : (a b : ℕ) → b ≤ a → max a b ≡ a
    larger a b h = omega arith

start_no : (t : ℕ) (key : Option LineId) (past : List (Happening LineId)) (k : LineId) → names k key ≡ false
    → begins k (noted_start true key t past) ≡ begins k past
start_no t None past k e = refl
start_no t (Some j) past k e = ap (λ (b : Bool). not_before (last_end k past) (cond b (Some t) (last_start same_line k past))) e

start_timed : (b : Bool) (n t : ℕ) (key : Option LineId) (past : List (Happening LineId)) → n ≤ t → Timed n past → Timed t (noted_start b key t past)
start_timed b n t None past le h = timed_later n t le past h
start_timed true n t (Some j) past le h = (omega arith, timed_later n t le past h)
start_timed false n t (Some j) past le h = timed_later n t le past h

start_chained : (b : Bool) (t : ℕ) (key : Option LineId) (past : List (Happening LineId)) → Chained past → Chained (noted_start b key t past)
start_chained b t None past h = h
start_chained true t (Some j) past h = h
start_chained false t (Some j) past h = h

start_closed : {K : Type 0} (b : Bool) (t : ℕ) (key : Option K) (past : List (Happening K)) → closed_in (noted_start b key t past) ≡ closed_in past
start_closed b t None past = refl
start_closed true t (Some j) past = refl
start_closed false t (Some j) past = refl

closed_noted : {K : Type 0} (es : List Entry) (past : List (Happening K)) → closed_in (noted_closings es past) ≡ closed_in past ++ es
closed_noted [] past = sym (append-nil (closed_in past))
closed_noted (e ∷ es) past = closed_noted es (closed_into e ∷ past) ∙ append_assoc (closed_in past) (e ∷ []) es

numbered_append : (n : ℕ) (xs ys : List Entry) → Numbered n xs → Numbered (n + length xs) ys → Numbered n (xs ++ ys)
numbered_append n [] ys h k = subst (λ (m : ℕ). Numbered m ys) (plus_nil n) k
  where
    plus_nil : (n : ℕ) → n + 0 ≡ n
    plus_nil n = omega arith
numbered_append n (x ∷ xs) ys h k =
    (h.0, numbered_append (n + 1) xs ys h.1 (subst (λ (m : ℕ). Numbered m ys) (move n (length xs)) k))
  where
    move : (n m : ℕ) → n + suc m ≡ n + 1 + m
    move n m = omega arith

-- each active line is open since its last container or start

since_after : (a : Deed) (P t n : ℕ) (past : List (Happening LineId)) → Apart a.lines → Timed t past → Since (λ k. begins k past) a.lines
    → Since (λ k. begins k (noted_closings (closings a.closes a.cause P t n a.lines) past))
    (update a.stops stopped (update a.closes (restarted t) a.lines))
since_after a P t n past apart timed h =
    all_update Right Right a.stops stopped (λ l q e on. no_way on) (λ l q e. q) (update a.closes (restarted t) a.lines)
    (all_update Right Before a.closes (restarted t) yes' no' a.lines
    (all_two (λ l. any (closes_on a.closes a.cause P t l.id) a.lines ≡ a.closes l)
    (λ l. l.active ≡ true → begins l.id past ≡ Some l.since) Before (λ l x y. (x, y)) a.lines
    (closes_own a.closes a.cause P t a.lines apart) h))
  where
    later : List (Happening LineId)
    later = noted_closings (closings a.closes a.cause P t n a.lines) past

    Right : Line → Type 0
    Right l = l.active ≡ true → begins l.id later ≡ Some l.since

    Before : Line → Type 0
    Before l = (any (closes_on a.closes a.cause P t l.id) a.lines ≡ a.closes l) × (l.active ≡ true → begins l.id past ≡ Some l.since)

    now : (b : Bool) (l : Line) → any (closes_on a.closes a.cause P t l.id) a.lines ≡ b
        → begins l.id later ≡ not_before (cond b t (last_end l.id past)) (last_start same_line l.id past)
    now b l e =
        ap₂ not_before (ends_after a.closes a.cause P t n a.lines past l.id ∙ ap (λ (b : Bool). cond b t (last_end l.id past)) e)
        (starts_after a.closes a.cause P t n a.lines past l.id)

    larger : (a b : ℕ) → a ≤ b → max a b ≡ b
    larger a b h = omega arith

    closed_now : (l : Line) (o : Option ℕ) → last_start same_line l.id past ≡ o → not_before (last_end l.id past) o ≡ Some l.since
        → not_before t o ≡ Some t
    closed_now l None e q = let z : ◌≡◌ {A = ℕ} 0 1 = cc in absurd (let y : ⊥ = omega arith in y)
    closed_now l (Some u) e q = ap (λ (m : ℕ). Some m) (larger u t (timed_start t l.id past timed u e))

    yes' : (l : Line) → Before l → a.closes l ≡ true → Right (restarted t l)
    yes' l q e on = now true l (q.0 ∙ e) ∙ closed_now l (last_start same_line l.id past) refl (q.1 on)

    no' : (l : Line) → Before l → a.closes l ≡ false → Right l
    no' l q e on = now false l (q.0 ∙ e) ∙ q.1 on

-- histories over keys of a kind

module _ {K : Type 0} (x : Coding K) where
  -- by the lines of the keys that were started
  pub ids : List (Happening K) → List (Happening LineId)
  ids [] = []
  ids (started_at k t ∷ past) = started_at (x.line k) t ∷ ids past
  ids (closed_into e ∷ past) = closed_into e ∷ ids past

  -- only keys in range were started
  pub Within : List (Happening K) → Type 0
  Within [] = Unit {0}
  Within (started_at k t ∷ past) = (x.ranged k ≡ true) × Within past
  Within (closed_into e ∷ past) = Within past

  noted_ids : (es : List Entry) (past : List (Happening K)) → noted_closings es (ids past) ≡ ids (noted_closings es past)
  unfolding ids
  noted_ids [] past = refl
  noted_ids (e ∷ es) past = noted_ids es (closed_into e ∷ past)

  noted_within : (es : List Entry) (past : List (Happening K)) → Within past → Within (noted_closings es past)
  unfolding Within
  noted_within [] past h = h
  noted_within (e ∷ es) past h = noted_within es (closed_into e ∷ past) h

  closed_ids : (past : List (Happening K)) → closed_in (ids past) ≡ closed_in past
  unfolding ids
  closed_ids [] = refl
  closed_ids (started_at k t ∷ past) = closed_ids past
  closed_ids (closed_into e ∷ past) = ap (λ (es : List Entry). es ++ (e ∷ [])) (closed_ids past)

  ends_ids : (j : LineId) (past : List (Happening K)) → last_end j (ids past) ≡ last_end j past
  unfolding ids
  ends_ids j [] = refl
  ends_ids j (started_at k t ∷ past) = ends_ids j past
  ends_ids j (closed_into e ∷ past) = ap (λ (n : ℕ). cond (same_line (line_of e) j) e.to n) (ends_ids j past)

  -- an accepted start is of a key in range
  start_ids : (column : Column) (s : State) (f : Fed K) (past : List (Happening K)) → Within past → accepted (step column s (seen x f)) ≡ true
      → (noted_start true (started_line (seen_event x f.call)) f.time (ids past) ≡ ids (noted_start true (started_key f.call) f.time past))
      × Within (noted_start true (started_key f.call) f.time past)
  unfolding ids Within
  start_ids column s f past h ok = go f.call refl
    where
      at_key : (k : K) (r : Bool) → x.ranged k ≡ r → (cond r (Some (x.line k)) None ≡ None → accepted (step column s (seen x f)) ≡ false)
          → (noted_start true (cond r (Some (x.line k)) None) f.time (ids past) ≡ ids (noted_start true (Some k) f.time past))
          × Within (noted_start true (Some k) f.time past)
      at_key k true e off = (refl, (e, h))
      at_key k false e off = no_way (sym (off refl) ∙ ok)

      go : (c : Event K) → f.call ≡ c
          → (noted_start true (started_line (seen_event x c)) f.time (ids past) ≡ ids (noted_start true (started_key c) f.time past))
          × Within (noted_start true (started_key c) f.time past)
      go Opening e = (refl, h)
      go (Start k) e =
          at_key k (x.ranged k) refl
          (λ none. start_outside column s (seen x f) (ap (seen_event x) e ∙ ap (λ (o : Option LineId). Start o) none))
      go (Usage k u w) e = (refl, h)
      go (End k) e = (refl, h)
      go (Change n) e = (refl, h)
      go Tick e = (refl, h)
      go Intervene e = (refl, h)
      go Push e = (refl, h)
      go (Finish c) e = (refl, h)
      go Shelve e = (refl, h)

  -- the key that a container is of
  owner : (j : LineId) (past : List (Happening K)) → Within past → (u : ℕ) → last_start same_line j (ids past) ≡ Some u
      → (k : K) × ((x.ranged k ≡ true) × (x.line k ≡ j))
  unfolding ids Within
  owner j [] h u e = let z : ◌≡◌ {A = ℕ} 0 1 = cc in absurd (let y : ⊥ = omega arith in y)
  owner j (started_at k t ∷ past) h u e = go (same_line (x.line k) j) refl (owner j past h.1 u) e
    where
      go : (b : Bool) → same_line (x.line k) j ≡ b
          → (last_start same_line j (ids past) ≡ Some u → (k : K) × ((x.ranged k ≡ true) × (x.line k ≡ j)))
          → cond b (Some t) (last_start same_line j (ids past)) ≡ Some u
          → (k : K) × ((x.ranged k ≡ true) × (x.line k ≡ j))
      go true q before e = (k, (h.0, same_true (x.line k) j q))
      go false q before e = before e
  owner j (closed_into e' ∷ past) h u e = owner j past h u e

  module _ (distinct : Distinct x) (same : K → K → Bool) (decides : Decides x same) where
    starts_agree : (k : K) → x.ranged k ≡ true → (past : List (Happening K)) → Within past
        → last_start same_line (x.line k) (ids past) ≡ last_start same k past
    unfolding ids Within
    starts_agree k r [] h = refl
    starts_agree k r (started_at j t ∷ past) h =
        ap₂ (λ (b : Bool) (n : Option ℕ). cond b (Some t) n) (agree x distinct same decides j k h.0 r) (starts_agree k r past h.1)
    starts_agree k r (closed_into e ∷ past) h = starts_agree k r past h

    all_follow : (past : List (Happening K)) → Within past → Chained (ids past) → AllFollow x same past
    unfolding ids Within
    all_follow [] h ch = tt
    all_follow (started_at k t ∷ past) h ch = all_follow past h.1 ch
    all_follow (closed_into e ∷ past) h ch = (record { its_key = key; begins = begun }, all_follow past h ch.1)
      where
        key_from : (o : Option ℕ) → last_start same_line (line_of e) (ids past) ≡ o → not_before (last_end (line_of e) (ids past)) o ≡ Some e.from
            → (k : K) × ((x.ranged k ≡ true) × (x.line k ≡ line_of e))
        key_from None q z = let z : ◌≡◌ {A = ℕ} 0 1 = cc in absurd (let y : ⊥ = omega arith in y)
        key_from (Some u) q z = owner (line_of e) past h u q

        key : (k : K) × ((x.ranged k ≡ true) × (x.line k ≡ line_of e))
        key = key_from (last_start same_line (line_of e) (ids past)) refl ch.0

        begun : (k : K) → x.ranged k ≡ true → x.line k ≡ line_of e → begins_at x same k past ≡ Some e.from
        begun k r line =
            sym (ap₂ not_before (ends_ids (x.line k) past) (starts_agree k r past h))
            ∙ (ap (λ (j : LineId). begins j (ids past)) line ∙ ch.0)

  -- sessions with their history

  pub record Ordered (s : State) (taken : List Entry) (past : List (Happening K)) : Type 0 where
    pub within : Within past
    pub listed : containers taken ++ s.waiting ≡ closed_in past
    pub numbered : Numbered 0 (closed_in past)
    pub total : s.closed ≡ length (closed_in past)
    pub chained : Chained (ids past)
    pub since : Since (λ k. begins k (ids past)) s.lines
    pub timed : Timed s.last (ids past)

  abbrev next_past : State → Outcome Answer → Fed K → List (Happening K) → List (Happening K)
  next_past s o f past = noted_closings (closed_in_call s o) (noted_start (accepted o) (started_key f.call) f.time past)

  ordered_stayed : (s : State) (taken : List Entry) (past : List (Happening K)) (f : Fed K) (o : Outcome Answer) → Stayed s o → Ordered s taken past
      → Ordered o.state (taken ++ o.added) (next_past s o f past)
  ordered_stayed s taken past f o y h =
      subst (λ (r : State). Ordered r (taken ++ o.added) (next_past s o f past)) (sym y.state)
      (subst (λ (es : List Entry). Ordered s es (next_past s o f past)) (sym (ap (λ (es : List Entry). taken ++ es) y.added ∙ append-nil taken))
      (subst (Ordered s taken) (sym same) h))
    where
      none : closed_in_call s o ≡ []
      none =
          ap₂ (λ (es : List Entry) (r : State). drop (length s.waiting) (containers es ++ r.waiting)) y.added y.state
          ∙ drop_all (length s.waiting) s.waiting (omega arith)

      unstarted : (key : Option K) → noted_start false key f.time past ≡ past
      unstarted None = refl
      unstarted (Some k) = refl

      same : next_past s o f past ≡ past
      same =
          ap₂ (λ (es : List Entry) (b : Bool). noted_closings es (noted_start b (started_key f.call) f.time past)) none y.refused
          ∙ unstarted (started_key f.call)

  module _ (of_lines : OfLines x) (column : Column) (s : State) (taken : List Entry) (past : List (Happening K)) (f : Fed K)
      (y : Did s (seen x f) (step column s (seen x f))) (formed : Formed s) (h : Ordered s taken past) where
    abbrev out : Outcome Answer
    out = step column s (seen x f)

    abbrev new : List Entry
    new = closings (deed_of y).closes (deed_of y).cause s.marks.period f.time s.closed (deed_of y).lines

    abbrev begun : List (Happening K)
    begun = noted_start true (started_key f.call) f.time past

    abbrev begun_ids : List (Happening LineId)
    begun_ids = noted_start true (started_line (seen_event x f.call)) f.time (ids past)

    handed_now : containers out.added ++ out.state.waiting ≡ s.waiting ++ new
    handed_now =
        handed_containers (s.waiting ++ new) out.added out.state.waiting y.handed
        (acted_formed s y.act f.time
        (act_fits s formed.sane f.slip f.time (seen_event x f.call) (known_seen x of_lines f.call) y.act y.decided) formed.waits)

    past_now : next_past s out f past ≡ noted_closings new begun
    past_now =
        ap₂ (λ (es : List Entry) (b : Bool). noted_closings es (noted_start b (started_key f.call) f.time past))
        (ap (drop (length s.waiting)) handed_now ∙ drop_at s.waiting new (length s.waiting) refl) y.accepted

    ids_now : ids (noted_closings new begun) ≡ noted_closings new begun_ids
    ids_now =
        sym (noted_ids new begun) ∙ ap (noted_closings new) (sym (start_ids column s f past h.within y.accepted).0)

    closed_now : closed_in (noted_closings new begun) ≡ closed_in past ++ new
    closed_now = closed_noted new begun ∙ ap (λ (es : List Entry). es ++ new) (start_closed true f.time (started_key f.call) past)

    timed_begun : Timed f.time begun_ids
    timed_begun = start_timed true s.last f.time (started_line (seen_event x f.call)) (ids past) y.timely h.timed

    since_begun : Since (λ k. begins k begun_ids) (deed_of y).lines
    since_begun =
        y.well.fair.moved.since (λ k. begins k (ids past)) (λ k. begins k begun_ids)
        (λ k e. start_yes s.last f.time (started_line (seen_event x f.call)) (ids past) k h.timed y.timely e)
        (λ k e. start_no f.time (started_line (seen_event x f.call)) (ids past) k e) h.since

    ordered_now : Ordered out.state (taken ++ out.added) (noted_closings new begun)
    ordered_now = record {
      within = noted_within new begun (start_ids column s f past h.within y.accepted).1;
      listed =
          ap (λ (es : List Entry). es ++ out.state.waiting) (filter-append is_container taken out.added)
          ∙ (append_assoc (containers taken) (containers out.added) out.state.waiting
          ∙ (ap (λ (es : List Entry). containers taken ++ es) handed_now
          ∙ (sym (append_assoc (containers taken) s.waiting new)
          ∙ (ap (λ (es : List Entry). es ++ new) h.listed ∙ sym closed_now))));
      numbered = subst (Numbered 0) (sym closed_now)
          (numbered_append 0 (closed_in past) new h.numbered
          (subst (λ (n : ℕ). Numbered n new) (start_number s.closed (length (closed_in past)) h.total)
          (closings_numbered (deed_of y).closes (deed_of y).cause s.marks.period f.time s.closed (deed_of y).lines)));
      total = omega (
        arith,
        y.closed,
        h.total,
        ap length closed_now,
        length-append (closed_in past) new,
        closings_count (deed_of y).closes (deed_of y).cause s.marks.period f.time s.closed (deed_of y).lines,
      );
      chained = subst Chained (sym ids_now)
          (chained_after (deed_of y).closes (deed_of y).cause s.marks.period f.time s.closed (deed_of y).lines begun_ids
          y.well.fair.active y.well.fair.moved.apart since_begun
          (start_chained true f.time (started_line (seen_event x f.call)) (ids past) h.chained));
      since = subst (λ (ls : List Line). Since (λ k. begins k (ids (noted_closings new begun))) ls) (sym (lines_after y))
          (subst (λ (p : List (Happening LineId)). Since (λ k. begins k p)
          (update (deed_of y).stops stopped (update (deed_of y).closes (restarted f.time) (deed_of y).lines))) (sym ids_now)
          (since_after (deed_of y) s.marks.period f.time s.closed begun_ids y.well.fair.moved.apart timed_begun since_begun));
      timed = subst (λ (n : ℕ). Timed n (ids (noted_closings new begun))) (sym y.last)
          (subst (Timed f.time) (sym ids_now)
          (timed_noted (deed_of y).closes (deed_of y).cause s.marks.period f.time s.closed (deed_of y).lines begun_ids timed_begun));
    }
      where
        start_number : (n m : ℕ) → n ≡ m → n ≡ 0 + m
        start_number n m e = omega arith

    ordered_did : Ordered out.state (taken ++ out.added) (next_past s out f past)
    ordered_did = subst (Ordered out.state (taken ++ out.added)) (sym past_now) ordered_now

  module _ (of_lines : OfLines x) (column : Column) (fixed : TariffFixed column) where
    -- the session and its history after calls
    ordered_after : (r : Run) (past : List (Happening K)) (fs : List (Fed K)) → Sound r.state → Formed r.state → Ordered r.state r.taken past
        → Ordered (after x column r fs).state (after x column r fs).taken (history x column r.state past fs)
    ordered_after r past [] sound formed h = h
    ordered_after r past (f ∷ fs) sound formed h =
        let o : Outcome Answer = step column r.state (seen x f) in
        let y = step_does column fixed r.state (seen x f) sound in
        ordered_after (record { state = o.state; taken = r.taken ++ o.added }) (next_past r.state o f past) fs
        (sound_after r.state (seen x f) o sound y) (formed_next x of_lines column r.state f formed).1 (go y)
      where
        go : Done r.state (seen x f) (step column r.state (seen x f))
            → Ordered (step column r.state (seen x f)).state (r.taken ++ (step column r.state (seen x f)).added)
            (next_past r.state (step column r.state (seen x f)) f past)
        go (inl y) = ordered_stayed r.state r.taken past f (step column r.state (seen x f)) y h
        go (inr y) = ordered_did of_lines column r.state r.taken past f y formed h

    -- and the containers that wait are well formed
    formed_after : (r : Run) (fs : List (Fed K)) → Formed r.state → Formed (after x column r fs).state
    formed_after r [] h = h
    formed_after r (f ∷ fs) h =
        formed_after (record {
          state = (step column r.state (seen x f)).state;
          taken = r.taken ++ (step column r.state (seen x f)).added;
        }) fs (formed_next x of_lines column r.state f h).1

    module _ (distinct : Distinct x) (same : K → K → Bool) (decides : Decides x same) where
      pub in_order_from : (s : State) (fs : List (Fed K)) → Sound s → Formed s → Ordered s [] []
          → (containers ((after x column (record { state = s; taken = [] }) fs).taken ++ (after x column (record { state = s; taken = [] }) fs).state.waiting)
          ≡ closed_in (history x column s [] fs))
          × (Numbered 0 (closed_in (history x column s [] fs)) × AllFollow x same (history x column s [] fs))
      in_order_from s fs sound formed start =
          let r : Run = after x column (record { state = s; taken = [] }) fs in
          let h = ordered_after (record { state = s; taken = [] }) [] fs sound formed start in
          let w = (formed_after (record { state = s; taken = [] }) fs formed).waits in (
            filter-append is_container r.taken r.state.waiting
                ∙ (ap (λ (es : List Entry). containers r.taken ++ es) (containers_all r.state.waiting w) ∙ h.listed),
            (h.numbered, all_follow distinct same decides (history x column s [] fs) h.within h.chained),
          )

  pub made_ordered : (column : Column) (m : Making) → Ordered (as_made column m) [] []
  unfolding ids Within
  made_ordered column m = record { within = tt; listed = refl; numbered = tt; total = refl; chained = tt; since = tt; timed = tt }
