-- Lists of lines: what an update, a closing and a start leave of identities, open counts and books.
use Rattle.std.proofs.Common.{◌≡◌, ℕ, zero, suc, ◌+◌, ◌<◌, Bool, true, false, cond, ◌&&◌, ◌||◌, eqb, List, [], ◌∷◌, ◌++◌, length, get_or, set, Some, None, sym, refl, ap, ◌∙◌, subst, ap₂, arith}
use Rattle.std.specs.List.{AllByRecursion}
use Rattle.std.proofs.ByRecursion.{All-weaker, All-get_or}
use Rattle.std.proofs.lemmas.Bool.{eqb-true, eq-eqb, and_parts, and_from, true≢false, or_parts}
use Rattle.entries.specs.declared.entry.Entry.{Entry}
use Rattle.entries.specs.declared.key.LineId.{LineId}
use Rattle.entries.specs.Keys.{same_line}
use Rattle.entries.specs.Octets.{Direction, up, down, in_direction, octets_of, counts_for, in_book}
use Rattle.session.specs.declared.state.Line.{Line}
use Rattle.session.specs.Closing.{container, restarted, closings, closed_lines, closing_count}
use Rattle.session.specs.Laws.{open_of, open_on}
use Rattle.session.specs.State.{counted, place_from}

abbrev pub is_line : LineId → Line → Bool
is_line k l = same_line l.id k

abbrev pub active_line : LineId → Line → Bool
active_line k l = l.active && is_line k l

abbrev pub any : (Line → Bool) → List Line → Bool
any p [] = false
any p (l ∷ ls) = p l || any p ls

abbrev pub update : (Line → Bool) → (Line → Line) → List Line → List Line
update p f [] = []
update p f (l ∷ ls) = cond (p l) (f l) l ∷ update p f ls

-- identities

pub same_refl : (k : LineId) → same_line k k ≡ true
same_refl k = and_from (eqb k.kind k.kind) (eqb k.code k.code) (eq-eqb k.kind k.kind refl) (eq-eqb k.code k.code refl)

pub same_true : (a b : LineId) → same_line a b ≡ true → a ≡ b
same_true a b h =
    let p = and_parts (eqb a.kind b.kind) (eqb a.code b.code) h in
    λ i. record { kind = eqb-true a.kind b.kind p.0 i; code = eqb-true a.code b.code p.1 i }

-- two tests that hold together are equal
pub same_test : (x y : Bool) → (x ≡ true → y ≡ true) → (y ≡ true → x ≡ true) → x ≡ y
same_test true true f g = refl
same_test true false f g = sym (f refl)
same_test false true f g = g refl
same_test false false f g = refl

pub same_sym : (a b : LineId) → same_line a b ≡ same_line b a
same_sym a b =
    same_test (same_line a b) (same_line b a)
    (λ h. subst (λ (x : LineId). same_line x a ≡ true) (same_true a b h) (same_refl a))
    (λ h. subst (λ (x : LineId). same_line x b ≡ true) (same_true b a h) (same_refl b))

-- no two lines of one identity
abbrev pub Apart : List Line → Type 0
Apart [] = Unit {0}
Apart (l ∷ ls) = (any (is_line l.id) ls ≡ false) × Apart ls

-- an inactive line has nothing open
abbrev pub Idle : Line → Type 0
Idle l = l.active ≡ false → (d : Direction) → open_of d l ≡ 0

module _ (p : Line → Bool) (f : Line → Line) (same : (l : Line) → (f l).id ≡ l.id) where
  id_kept : (b : Bool) (l : Line) → (cond b (f l) l).id ≡ l.id
  id_kept true l = same l
  id_kept false l = refl

  pub any_update : (k : LineId) (ls : List Line) → any (is_line k) (update p f ls) ≡ any (is_line k) ls
  any_update k [] = refl
  any_update k (l ∷ ls) = ap₂ ◌||◌ (ap (λ (i : LineId). same_line i k) (id_kept (p l) l)) (any_update k ls)

  pub apart_update : (ls : List Line) → Apart ls → Apart (update p f ls)
  apart_update [] h = tt
  apart_update (l ∷ ls) h =
      (ap (λ (i : LineId). any (is_line i) (update p f ls)) (id_kept (p l) l) ∙ (any_update l.id ls ∙ h.0), apart_update ls h.1)

  open_at : (d : Direction) (k : LineId) (b : Bool) (l : Line) → (b ≡ true → open_of d (f l) ≡ open_of d l)
      → cond (is_line k (cond b (f l) l)) (open_of d (cond b (f l) l)) 0 ≡ cond (is_line k l) (open_of d l) 0
  open_at d k true l h = ap₂ (λ (i : LineId) (n : ℕ). cond (same_line i k) n 0) (same l) (h refl)
  open_at d k false l h = refl

  pub open_update : (d : Direction) (k : LineId) (ls : List Line) → AllByRecursion (λ l. p l ≡ true → open_of d (f l) ≡ open_of d l) ls
      → open_on d k (update p f ls) ≡ open_on d k ls
  open_update d k [] h = refl
  open_update d k (l ∷ ls) h = ap₂ ◌+◌ (open_at d k (p l) l h.0) (open_update d k ls h.1)

pub all_update : (P Q : Line → Type 0) (p : Line → Bool) (f : Line → Line) → ((l : Line) → Q l → p l ≡ true → P (f l))
    → ((l : Line) → Q l → p l ≡ false → P l) → (ls : List Line) → AllByRecursion Q ls → AllByRecursion P (update p f ls)
all_update P Q p f yes' no' [] h = tt
all_update P Q p f yes' no' (l ∷ ls) h = (go (p l) refl, all_update P Q p f yes' no' ls h.1)
  where
    go : (b : Bool) → p l ≡ b → P (cond b (f l) l)
    go true e = yes' l h.0 e
    go false e = no' l h.0 e

-- from an `any` that fails
pub none_are : (p : Line → Bool) (ls : List Line) → any p ls ≡ false → AllByRecursion (λ l. p l ≡ false) ls
none_are p [] h = tt
none_are p (l ∷ ls) h = let q = or_parts (p l) (any p ls) h in (q.0, none_are p ls q.1)

pub any_append : (p : Line → Bool) (ls ms : List Line) → any p (ls ++ ms) ≡ (any p ls || any p ms)
any_append p [] ms = refl
any_append p (l ∷ ls) ms = go (p l) (any_append p ls ms)
  where
    go : (b : Bool) → any p (ls ++ ms) ≡ (any p ls || any p ms) → (b || any p (ls ++ ms)) ≡ ((b || any p ls) || any p ms)
    go true e = refl
    go false e = e

pub apart_push : (ls : List Line) (l : Line) → Apart ls → any (is_line l.id) ls ≡ false → Apart (ls ++ (l ∷ []))
apart_push [] l a h = (refl, tt)
apart_push (m ∷ ls) l a h =
    let q = or_parts (is_line l.id m) (any (is_line l.id) ls) h in
    let e : is_line m.id l ≡ false = same_sym l.id m.id ∙ q.0 in
    let g : (is_line m.id l || false) ≡ false = ap (λ (b : Bool). b || false) e in
    (any_append (is_line m.id) ls (l ∷ []) ∙ ap₂ ◌||◌ a.0 g, apart_push ls l a.1 q.1)

-- open counts

pub open_push : (d : Direction) (k : LineId) (ls : List Line) (l : Line) → open_of d l ≡ 0 → open_on d k (ls ++ (l ∷ [])) ≡ open_on d k ls
open_push d k [] l h = go (is_line k l)
  where
    go : (b : Bool) → cond b (open_of d l) 0 + 0 ≡ 0
    go true = omega arith
    go false = refl
open_push d k (m ∷ ls) l h = ap (λ (n : ℕ). cond (is_line k m) (open_of d m) 0 + n) (open_push d k ls l h)

-- a report goes to one line
pub update_none : (p : Line → Bool) (f : Line → Line) (ls : List Line) → AllByRecursion (λ l. p l ≡ false) ls → update p f ls ≡ ls
update_none p f [] h = refl
update_none p f (l ∷ ls) h = ap₂ ◌∷◌ (ap (λ (b : Bool). cond b (f l) l) h.0) (update_none p f ls h.1)

open_counted : (d : Direction) (u w : ℕ) (l : Line) → open_of d (counted u w l) ≡ open_of d l + in_direction d u w
open_counted up u w l = refl
open_counted down u w l = refl

pub not_active : (k : LineId) (l : Line) → is_line k l ≡ false → active_line k l ≡ false
not_active k l h = go l.active
  where
    go : (x : Bool) → (x && is_line k l) ≡ false
    go true = h
    go false = refl

pub count_one : (d : Direction) (k j : LineId) (u w : ℕ) (ls : List Line) → Apart ls → any (active_line k) ls ≡ true
    → open_on d j (update (active_line k) (counted u w) ls) ≡ open_on d j ls + cond (same_line k j) (in_direction d u w) 0
count_one d k j u w [] a h = absurd (true≢false (sym h))
count_one d k j u w (l ∷ ls) a h = go (count_one d k j u w ls a.1) (active_line k l) refl
  where
    here : (m : Bool) (x y r : ℕ) → cond m (x + y) 0 + r ≡ (cond m x 0 + r) + cond m y 0
    here true x y r = omega arith
    here false x y r = omega arith

    go : (any (active_line k) ls ≡ true
        → open_on d j (update (active_line k) (counted u w) ls) ≡ open_on d j ls + cond (same_line k j) (in_direction d u w) 0)
        → (b : Bool) → active_line k l ≡ b
        → open_on d j (cond b (counted u w l) l ∷ update (active_line k) (counted u w) ls)
        ≡ open_on d j (l ∷ ls) + cond (same_line k j) (in_direction d u w) 0
    go ih true e =
        let i : l.id ≡ k = same_true l.id k (and_parts l.active (is_line k l) e).1 in
        let none : any (is_line k) ls ≡ false = subst (λ (x : LineId). any (is_line x) ls ≡ false) i a.0 in
        let rest : update (active_line k) (counted u w) ls ≡ ls =
        update_none (active_line k) (counted u w) ls
        (All-weaker (λ m. is_line k m ≡ false) (λ m. active_line k m ≡ false) (not_active k) ls (none_are (is_line k) ls none)) in
        ap₂ (λ (n : ℕ) (r : List Line). cond (is_line j l) n 0 + open_on d j r) (open_counted d u w l) rest
        ∙ (here (is_line j l) (open_of d l) (in_direction d u w) (open_on d j ls)
        ∙ ap (λ (x : LineId). open_on d j (l ∷ ls) + cond (same_line x j) (in_direction d u w) 0) i)
    go ih false e =
        let more : any (active_line k) ls ≡ true = subst (λ (b : Bool). (b || any (active_line k) ls) ≡ true) e h in
        let q = ih more in
        omega arith

-- a line by its place

pub place_none : (k : LineId) (n : ℕ) (ls : List Line) → place_from n k ls ≡ None → any (is_line k) ls ≡ false
place_none k n [] h = refl
place_none k n (l ∷ ls) h = go (same_line l.id k) h (place_none k (n + 1) ls)
  where
    go : (b : Bool) → cond b (Some n) (place_from (n + 1) k ls) ≡ None → (place_from (n + 1) k ls ≡ None → any (is_line k) ls ≡ false)
        → (b || any (is_line k) ls) ≡ false
    go true q ih = let z : ◌≡◌ {A = ℕ} 0 1 = cc in absurd (let y : ⊥ = omega arith in y)
    go false q ih = ih q

-- a test that holds of line i and of no line with another identity
pub update_at : (p : Line → Bool) (f : Line → Line) (k : LineId) (ls : List Line) (i : ℕ) (d : Line) → ((l : Line) → is_line k l ≡ false → p l ≡ false) → Apart ls
    → i < length ls → is_line k (get_or ls i d) ≡ true → p (get_or ls i d) ≡ true → update p f ls ≡ set ls i (f (get_or ls i d))
update_at p f k [] i d out a h e q = absurd (let z : ⊥ = omega arith in z)
update_at p f k (l ∷ ls) zero d out a h e q =
    let none : any (is_line k) ls ≡ false = subst (λ (x : LineId). any (is_line x) ls ≡ false) (same_true l.id k e) a.0 in
    ap₂ ◌∷◌ (ap (λ (b : Bool). cond b (f l) l) q)
    (update_none p f ls (All-weaker (λ m. is_line k m ≡ false) (λ m. p m ≡ false) out ls (none_are (is_line k) ls none)))
update_at p f k (l ∷ ls) (suc i) d out a h e q =
    ap₂ ◌∷◌ (go (is_line k l) refl) (update_at p f k ls i d out a.1 (omega arith) e q)
  where
    go : (b : Bool) → is_line k l ≡ b → cond (p l) (f l) l ≡ l
    go true z =
        let none : any (is_line k) ls ≡ false = subst (λ (x : LineId). any (is_line x) ls ≡ false) (same_true l.id k z) a.0 in
        absurd (true≢false (sym e ∙ All-get_or (λ m. is_line k m ≡ false) ls i d (omega arith) (none_are (is_line k) ls none)))
    go false z = ap (λ (b : Bool). cond b (f l) l) (out l z)

pub any_at : (p : Line → Bool) (ls : List Line) (i : ℕ) (d : Line) → i < length ls → p (get_or ls i d) ≡ true → any p ls ≡ true
any_at p [] i d h e = absurd (let z : ⊥ = omega arith in z)
any_at p (l ∷ ls) zero d h e = ap (λ (b : Bool). b || any p ls) e
any_at p (l ∷ ls) (suc i) d h e = go (p l) (any_at p ls i d (omega arith) e)
  where
    go : (b : Bool) → any p ls ≡ true → (b || any p ls) ≡ true
    go true q = refl
    go false q = q

-- no line of an identity is active where the one at i is not
pub none_active : (k : LineId) (ls : List Line) (i : ℕ) (d : Line) → Apart ls → i < length ls → is_line k (get_or ls i d) ≡ true → (get_or ls i d).active ≡ false
    → any (active_line k) ls ≡ false
none_active k [] i d a h e off = absurd (let z : ⊥ = omega arith in z)
none_active k (l ∷ ls) zero d a h e off =
    let none : any (is_line k) ls ≡ false = subst (λ (x : LineId). any (is_line x) ls ≡ false) (same_true l.id k e) a.0 in
    ap₂ ◌||◌ (ap (λ (b : Bool). b && is_line k l) off) (nowhere ls (none_are (is_line k) ls none))
  where
    nowhere : (ms : List Line) → AllByRecursion (λ m. is_line k m ≡ false) ms → any (active_line k) ms ≡ false
    nowhere [] h = refl
    nowhere (m ∷ ms) h = ap₂ ◌||◌ (not_active k m h.0) (nowhere ms h.1)
none_active k (l ∷ ls) (suc i) d a h e off = ap₂ ◌||◌ (not_active k l (go (is_line k l) refl)) (none_active k ls i d a.1 (omega arith) e off)
  where
    go : (b : Bool) → is_line k l ≡ b → is_line k l ≡ false
    go true z =
        let none : any (is_line k) ls ≡ false = subst (λ (x : LineId). any (is_line x) ls ≡ false) (same_true l.id k z) a.0 in
        absurd (true≢false (sym e ∙ All-get_or (λ m. is_line k m ≡ false) ls i d (omega arith) (none_are (is_line k) ls none)))
    go false z = z

-- a closing as an update
pub closed_update : (p : Line → Bool) (t : ℕ) (ls : List Line) → closed_lines p t ls ≡ update p (restarted t) ls
closed_update p t [] = refl
closed_update p t (l ∷ ls) = ap (λ (r : List Line). cond (p l) (restarted t l) l ∷ r) (closed_update p t ls)

-- closings move open octets into containers of the present period

closed_octets : (d : Direction) (c P n t : ℕ) (l : Line) → octets_of d (container c P n t l) ≡ open_of d l
closed_octets up c P n t l = refl
closed_octets down c P n t l = refl

closed_open : (d : Direction) (t : ℕ) (l : Line) → open_of d (restarted t l) ≡ 0
closed_open up t l = refl
closed_open down t l = refl

pub closings_move : (d : Direction) (k : LineId) (p : ℕ) (closes : Line → Bool) (c P t n : ℕ) (ls : List Line)
    → in_book d k p (closings closes c P t n ls) + cond (eqb P p) (open_on d k (update closes (restarted t) ls)) 0
    ≡ cond (eqb P p) (open_on d k ls) 0
closings_move d k p closes c P t n [] = go (eqb P p)
  where
    go : (b : Bool) → 0 + cond b 0 0 ≡ cond b 0 0
    go true = refl
    go false = refl
closings_move d k p closes c P t n (l ∷ ls) =
    go (closes l) (closings_move d k p closes c P t (n + 1) ls) (closings_move d k p closes c P t n ls)
  where
    sum_closed : (m b : Bool) (x y z i r q : ℕ) → x ≡ z → y ≡ 0 → i + cond b r 0 ≡ cond b q 0
        → (cond (m && b) x 0 + i) + cond b (cond m y 0 + r) 0 ≡ cond b (cond m z 0 + q) 0
    sum_closed true true x y z i r q e f h = omega arith
    sum_closed true false x y z i r q e f h = omega arith
    sum_closed false true x y z i r q e f h = omega arith
    sum_closed false false x y z i r q e f h = omega arith

    sum_left : (b : Bool) (x i r q : ℕ) → i + cond b r 0 ≡ cond b q 0 → i + cond b (x + r) 0 ≡ cond b (x + q) 0
    sum_left true x i r q h = omega arith
    sum_left false x i r q h = h

    go : (b : Bool)
        → in_book d k p (closings closes c P t (n + 1) ls) + cond (eqb P p) (open_on d k (update closes (restarted t) ls)) 0
        ≡ cond (eqb P p) (open_on d k ls) 0
        → in_book d k p (closings closes c P t n ls) + cond (eqb P p) (open_on d k (update closes (restarted t) ls)) 0
        ≡ cond (eqb P p) (open_on d k ls) 0
        → in_book d k p (cond b (container c P (n + 1) t l ∷ closings closes c P t (n + 1) ls) (closings closes c P t n ls))
        + cond (eqb P p) (open_on d k (cond b (restarted t l) l ∷ update closes (restarted t) ls)) 0
        ≡ cond (eqb P p) (open_on d k (l ∷ ls)) 0
    go true h i =
        sum_closed (same_line l.id k) (eqb P p) (octets_of d (container c P (n + 1) t l)) (open_of d (restarted t l)) (open_of d l)
        (in_book d k p (closings closes c P t (n + 1) ls)) (open_on d k (update closes (restarted t) ls)) (open_on d k ls)
        (closed_octets d c P (n + 1) t l) (closed_open d t l) h
    go false h i =
        sum_left (eqb P p) (cond (is_line k l) (open_of d l) 0) (in_book d k p (closings closes c P t n ls))
        (open_on d k (update closes (restarted t) ls)) (open_on d k ls) i

-- nothing is open where all active lines closed that had anything open
pub all_closed : (d : Direction) (k : LineId) (closes : Line → Bool) (t : ℕ) (ls : List Line) → AllByRecursion Idle ls
    → ((l : Line) → l.active ≡ true → closes l ≡ false → (d : Direction) → open_of d l ≡ 0) → open_on d k (update closes (restarted t) ls) ≡ 0
all_closed d k closes t [] h w = refl
all_closed d k closes t (l ∷ ls) h w = go (all_closed d k closes t ls h.1 w) (closes l) refl l.active refl
  where
    zero_if : (m : Bool) (x r : ℕ) → x ≡ 0 → r ≡ 0 → cond m x 0 + r ≡ 0
    zero_if true x r e f = omega arith
    zero_if false x r e f = omega arith

    go : open_on d k (update closes (restarted t) ls) ≡ 0 → (b : Bool) → closes l ≡ b → (a : Bool) → l.active ≡ a
        → open_on d k (cond b (restarted t l) l ∷ update closes (restarted t) ls) ≡ 0
    go ih true e a f = zero_if (is_line k l) (open_of d (restarted t l)) (open_on d k (update closes (restarted t) ls)) (closed_open d t l) ih
    go ih false e true f = zero_if (is_line k l) (open_of d l) (open_on d k (update closes (restarted t) ls)) (w l f e d) ih
    go ih false e false f = zero_if (is_line k l) (open_of d l) (open_on d k (update closes (restarted t) ls)) (h.0 f d) ih

-- books

pub book_append : (d : Direction) (k : LineId) (p : ℕ) (xs ys : List Entry) → in_book d k p (xs ++ ys) ≡ in_book d k p xs + in_book d k p ys
book_append d k p [] ys = omega arith
book_append d k p (x ∷ xs) ys = let h = book_append d k p xs ys in omega arith

pub no_octets : (d : Direction) (k : LineId) (p : ℕ) (e : Entry) → e.uplink.0 ≡ 0 → e.downlink.0 ≡ 0
    → cond (counts_for k p e) (octets_of d e) 0 ≡ 0
no_octets d k p e u w = go (counts_for k p e) d
  where
    go : (b : Bool) (d : Direction) → cond b (octets_of d e) 0 ≡ 0
    go true up = u
    go true down = w
    go false d = refl

-- how many containers there are

module _ (closes : Line → Bool) (c P t : ℕ) where
  pub closings_count : (n : ℕ) (ls : List Line) → length (closings closes c P t n ls) ≡ closing_count closes ls
  closings_count n [] = refl
  closings_count n (l ∷ ls) = go (closes l) (closings_count (n + 1) ls) (closings_count n ls)
    where
      go : (b : Bool) → length (closings closes c P t (n + 1) ls) ≡ closing_count closes ls → length (closings closes c P t n ls) ≡ closing_count closes ls
          → length (cond b (container c P (n + 1) t l ∷ closings closes c P t (n + 1) ls) (closings closes c P t n ls))
          ≡ cond b 1 0 + closing_count closes ls
      go true h k = omega arith
      go false h k = omega arith
