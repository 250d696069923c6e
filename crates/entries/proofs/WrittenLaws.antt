-- Laws of lists that are written into from a place on.
use Rattle.std.proofs.Common.{◌≡◌, ℕ, suc, ◌+◌, ◌<◌, ◌≤◌, min, List, [], ◌∷◌, ◌++◌, length, take, drop, set, sym, ap, ◌∙◌, ⊎_elim, append_assoc, add-zero, arith, length-append, length-drop, length-take}
use Rattle.std.proofs.lemmas.Bool.{cases_lt}
use borrow.Rule.Slice.PartMut.{put_mid}
use Rattle.std.proofs.lemmas.List.{take_at, drop_at, length-take-le, take_more_set, drop-set-lt, drop-drop, take-append-drop, take_all}
use Rattle.entries.specs.Written.{written}

-- the part up to the end of what is written
pub take_written : {X : Type 0} (t : List X) (at : ℕ) (es : List X) (n : ℕ) → at ≤ length t → n ≡ at + length es → take n (written t at es) ≡ take at t ++ es
unfolding written
take_written t at es n h e =
    let l : length (take at t ++ es) ≡ n = simp (length-append, length-take-le at t h) (sym e) in
    ap (take n) (sym (append_assoc (take at t) es (drop (at + length es) t))) ∙ take_at (take at t ++ es) (drop (at + length es) t) n l

-- what lies past it is as before
pub drop_written : {X : Type 0} (t : List X) (at : ℕ) (es : List X) (n : ℕ) → at ≤ length t → n ≡ at + length es → drop n (written t at es) ≡ drop n t
unfolding written
drop_written t at es n h e =
    let l : length (take at t ++ es) ≡ n = simp (length-append, length-take-le at t h) (sym e) in
    ap (drop n) (sym (append_assoc (take at t) es (drop (at + length es) t))) ∙ (drop_at (take at t ++ es) (drop (at + length es) t) n l ∙ ap (λ m. drop m t) (sym e))

-- a first entry stored, and the others copied behind it
pub written_first : {X : Type 0} (t : List X) (at k : ℕ) (h : X) (cs ys : List X) → at < length t → ys ≡ cs → k ≡ length cs → put_mid (at + 1) k (set t at h) ys ≡ written t at (h ∷ cs)
unfolding written
written_first t at k h cs ys lt e f =
    let a = take_more_set t at h lt in
    let b : drop (at + 1) (set t at h) ≡ drop (at + 1) t = drop-set-lt (at + 1) t at h (omega arith) in
    let i : (at + 1) + length cs ≡ at + suc (length cs) = omega arith in
    rw (a, b, e, f, drop-drop, append_assoc) (ap (λ n. take at t ++ (h ∷ (cs ++ drop n t))) i)

-- a part of a table that is copied over, and one entry that is stored
pub written_part : {X : Type 0} (t : List X) (at k : ℕ) (es ys : List X) → ys ≡ es → k ≡ length es → put_mid at k t ys ≡ written t at es
unfolding written
written_part t at k es ys e f = rw (e, f, drop-drop)

-- one part written after the other
pub written_next : {X : Type 0} (t : List X) (at : ℕ) (xs ys : List X) (n : ℕ) → at ≤ length t → n ≡ at + length xs → written (written t at xs) n ys ≡ written t at (xs ++ ys)
unfolding written
written_next t at xs ys n h e =
    let a = take_written t at xs n h e in
    let k : drop (n + length ys) (written t at xs) ≡ drop (n + length ys) t =
    sym (drop-drop (length ys) n (written t at xs)) ∙ (ap (drop (length ys)) (drop_written t at xs n h e) ∙ drop-drop (length ys) n t) in
    let i : n + length ys ≡ at + length (xs ++ ys) = simp length-append (omega arith) in
    rw (a, k, i, append_assoc (take at t) xs, append_assoc xs ys)

pub written_none : {X : Type 0} (t : List X) (at : ℕ) → written t at [] ≡ t
unfolding written
written_none t at = rw add-zero (take-append-drop at t)

pub length_written : {X : Type 0} (t : List X) (at : ℕ) (es : List X) → at + length es ≤ length t → length (written t at es) ≡ length t
unfolding written
length_written t at es h = simp (length-append, length-take, length-drop) (omega arith)

-- a part that ends at the end of the list at the latest
pub take_min : {X : Type 0} (t : List X) (u m : ℕ) → m ≡ min u (length t) → take m t ≡ take u t
take_min t u m e =
    ⊎_elim (λ l. let i : m ≡ u = omega arith in ap (λ n. take n t) i)
    (λ l. take_all m t (omega arith) ∙ sym (take_all u t l)) (cases_lt u (length t))
