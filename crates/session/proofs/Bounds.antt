-- The bounds of lines, and how they are kept.
use Rattle.std.proofs.Common.{◌≡◌, ℕ, zero, suc, ◌+◌, ◌*◌, ◌<◌, ◌≤◌, Bool, true, false, cond, ◌&&◌, leb, List, [], ◌∷◌, ◌++◌, length, get_or, set, Some, None, Option, refl, ap, arith, length-append, length-set}
use Rattle.session.specs.declared.state.Edit.{Edit}
use Rattle.session.specs.declared.state.Edit.TheVariants.{Keep, Put, Add}
use Rattle.session.specs.Fit.{StopWithin}
use Rattle.std.proofs.lemmas.Bool.{leb-true, le-leb, lt-ltb, and_parts, and_from}
use Rattle.session.specs.declared.state.Line.{Line}
use Rattle.session.specs.Closing.{closed_lines, restarted, container, closings}
use Rattle.entries.specs.declared.entry.Entry.{Entry}
use Rattle.entries.specs.Requests.{container_formed, containers_formed}
use Rattle.session.specs.Sound.{bounded, sound_line, sound_lines, volume_of_all, Bounded}
use Rattle.session.specs.Performing.{edited, stopped_at}
use Rattle.session.specs.State.{no_line, stopped}

pub bounds : (l : Line) → bounded l ≡ true → Bounded l
bounds l h =
    let a = and_parts _ _ h in
    let b = and_parts _ _ a.0 in
    let c = and_parts _ _ a.1 in
    record { up = leb-true _ _ b.0; up_total = leb-true _ _ b.1; down = leb-true _ _ c.0; down_total = leb-true _ _ c.1 }

pub bounds_hold : (l : Line) → Bounded l → bounded l ≡ true
bounds_hold l f =
    and_from _ _ (and_from _ _ (le-leb _ _ f.up) (le-leb _ _ f.up_total)) (and_from _ _ (le-leb _ _ f.down) (le-leb _ _ f.down_total))

-- a sound line in its parts
pub record Sound (t : ℕ) (l : Line) : Type 0 where
  pub kinds : (leb 4 l.id.kind && leb l.id.kind 5) ≡ true
  pub since : l.since ≤ t
  pub within : bounded l ≡ true

pub sound_parts : (t : ℕ) (l : Line) → sound_line t l ≡ true → Sound t l
sound_parts t l h =
    let a = and_parts _ _ h in
    let b = and_parts (leb l.since t) (bounded l) a.1 in
    record { kinds = a.0; since = leb-true _ _ b.0; within = b.1 }

pub sound_from : (t : ℕ) (l : Line) → Sound t l → sound_line t l ≡ true
sound_from t l s = and_from _ _ s.kinds (and_from _ _ (le-leb _ _ s.since) s.within)

pub line_facts : (t : ℕ) (l : Line) → sound_line t l ≡ true → Bounded l
line_facts t l h = bounds l (sound_parts t l h).within

pub sound_at : (t : ℕ) (ls : List Line) (i : ℕ) → i < length ls → sound_lines t ls ≡ true → sound_line t (get_or ls i no_line) ≡ true
sound_at t [] i k h = absurd (omega arith)
sound_at t (l ∷ ls) zero k h = (and_parts _ _ h).0
sound_at t (l ∷ ls) (suc i) k h = sound_at t ls i (omega arith) (and_parts _ _ h).1

pub volume_bound : (t : ℕ) (ls : List Line) → sound_lines t ls ≡ true → volume_of_all ls ≤ length ls * 1999999999998
volume_bound t [] h = omega arith
volume_bound t (l ∷ ls) h =
    let a = and_parts (sound_line t l) (sound_lines t ls) h in
    let f = line_facts t l a.0 in
    let r = volume_bound t ls a.1 in
    omega (arith, f.up_total, f.down_total, r)

pub sound_set : (t : ℕ) (ls : List Line) (i : ℕ) (x : Line) → sound_lines t ls ≡ true → sound_line t x ≡ true → sound_lines t (set ls i x) ≡ true
sound_set t [] i x h k = refl
sound_set t (l ∷ ls) zero x h k = and_from _ _ k (and_parts _ _ h).1
sound_set t (l ∷ ls) (suc i) x h k = and_from _ _ (and_parts _ _ h).0 (sound_set t ls i x (and_parts _ _ h).1 k)

pub sound_later : (last t : ℕ) (ls : List Line) → last ≤ t → sound_lines last ls ≡ true → sound_lines t ls ≡ true
sound_later last t [] e h = refl
sound_later last t (l ∷ ls) e h =
    let a = and_parts (sound_line last l) (sound_lines last ls) h in
    let p = sound_parts last l a.0 in
    and_from _ _ (sound_from t l (record { kinds = p.kinds; since = omega (arith, p.since); within = p.within })) (sound_later last t ls e a.1)

pub sound_restarted : (t : ℕ) (l : Line) → sound_line t l ≡ true → sound_line t (restarted t l) ≡ true
sound_restarted t l h =
    let p = sound_parts t l h in
    let f = bounds l p.within in
    sound_from t (restarted t l) (record {
      kinds = p.kinds;
      since = omega arith;
      within = bounds_hold (restarted t l) (record { up = omega arith; up_total = f.up_total; down = omega arith; down_total = f.down_total });
    })

sound_either : (t : ℕ) (b : Bool) (x y : Line) → sound_line t x ≡ true → sound_line t y ≡ true → sound_line t (cond b x y) ≡ true
sound_either t true x y h k = h
sound_either t false x y h k = k

pub sound_closed : (p : Line → Bool) (t : ℕ) (ls : List Line) → sound_lines t ls ≡ true → sound_lines t (closed_lines p t ls) ≡ true
sound_closed p t [] h = refl
sound_closed p t (l ∷ ls) h =
    let a = and_parts (sound_line t l) (sound_lines t ls) h in
    and_from _ _ (sound_either t (p l) (restarted t l) l (sound_restarted t l a.0) a.0) (sound_closed p t ls a.1)

-- the container of a sound line is well formed
pub container_sound : (cause period n t : ℕ) (l : Line) → sound_line t l ≡ true → container_formed (container cause period (n + 1) t l) ≡ true
container_sound cause period n t l h =
    let p = sound_parts t l h in
    let f = bounds l p.within in
    and_from _ _ p.kinds
    (and_from _ _ (lt-ltb 0 (n + 1) (omega arith))
    (and_from _ _ (le-leb _ _ p.since)
    (and_from _ _ (le-leb l.uplink.0 999999999999 (omega (arith, f.up, f.up_total))) (le-leb l.downlink.0 999999999999 (omega (arith, f.down, f.down_total))))))

formed_either : (b : Bool) (xs ys : List Entry) → containers_formed xs ≡ true → containers_formed ys ≡ true → containers_formed (cond b xs ys) ≡ true
formed_either true xs ys h k = h
formed_either false xs ys h k = k

pub closings_formed :
    (p : Line → Bool) (cause period t n : ℕ) (ls : List Line) → sound_lines t ls ≡ true → containers_formed (closings p cause period t n ls) ≡ true
closings_formed p cause period t n [] h = refl
closings_formed p cause period t n (l ∷ ls) h =
    let a = and_parts (sound_line t l) (sound_lines t ls) h in
    formed_either (p l) _ _ (and_from _ _ (container_sound cause period n t l a.0) (closings_formed p cause period t (n + 1) ls a.1))
    (closings_formed p cause period t n ls a.1)

pub formed_append : (xs ys : List Entry) → containers_formed xs ≡ true → containers_formed ys ≡ true → containers_formed (xs ++ ys) ≡ true
formed_append [] ys h k = k
formed_append (x ∷ xs) ys h k = let a = and_parts (container_formed x) (containers_formed xs) h in and_from _ _ a.0 (formed_append xs ys a.1 k)

abbrev pub line_total : Line → ℕ
line_total l = l.total_uplink.0 + l.total_downlink.0

total_either : (b : Bool) (x y : Line) → line_total x ≡ line_total y → line_total (cond b x y) ≡ line_total y
total_either true x y h = h
total_either false x y h = refl

pub volume_closed : (p : Line → Bool) (t : ℕ) (ls : List Line) → volume_of_all (closed_lines p t ls) ≡ volume_of_all ls
volume_closed p t [] = refl
volume_closed p t (l ∷ ls) = let a = total_either (p l) (restarted t l) l refl in let b = volume_closed p t ls in omega (arith, a, b)

pub length_closed : (p : Line → Bool) (t : ℕ) (ls : List Line) → length (closed_lines p t ls) ≡ length ls
length_closed p t [] = refl
length_closed p t (l ∷ ls) = ap suc (length_closed p t ls)

-- a line put in another's place changes the volume-of-all by as much as theirs differ
pub volume_set :
    (ls : List Line) (i : ℕ) (x : Line) (n : ℕ) → i < length ls → line_total x ≡ line_total (get_or ls i no_line) + n → volume_of_all (set ls i x) ≡ volume_of_all ls + n
volume_set [] i x n h e = omega arith
volume_set (l ∷ ls) zero x n h e = omega (arith, e)
volume_set (l ∷ ls) (suc i) x n h e = let b = volume_set ls i x n (omega arith) e in omega (arith, b)

pub length_edited : (e : Edit) (ls : List Line) → length ls ≤ length (edited e ls)
length_edited Keep ls = omega arith
length_edited (Put i l) ls = simp length-set (omega arith)
length_edited (Add l) ls = simp length-append (omega arith)

pub within_more : (o : Option ℕ) (ls ks : List Line) → length ls ≤ length ks → StopWithin o ls → StopWithin o ks
within_more None ls ks h w = tt
within_more (Some i) ls ks h w = omega (arith, w)

pub sound_stopped : (t : ℕ) (o : Option ℕ) (ls : List Line) → StopWithin o ls → sound_lines t ls ≡ true → sound_lines t (stopped_at o ls) ≡ true
sound_stopped t None ls w h = h
sound_stopped t (Some i) ls w h = sound_set t ls i (stopped (get_or ls i no_line)) h (sound_at t ls i w h)

pub volume_stopped : (o : Option ℕ) (ls : List Line) → StopWithin o ls → volume_of_all (stopped_at o ls) ≡ volume_of_all ls
volume_stopped None ls w = refl
volume_stopped (Some i) ls w = let e = volume_set ls i (stopped (get_or ls i no_line)) 0 w (omega arith) in omega (arith, e)
