-- Sequences of requests: what the test says, entry by entry, and what it means.
use Rattle.std.proofs.Common.{◌≡◌, ℕ, zero, suc, ◌+◌, ◌-◌, ◌<◌, ◌≤◌, Bool, true, false, cond, ◌&&◌, leb, ◌⊎◌, List, [], ◌∷◌, ◌++◌, length, get_or, take, drop, Ok, Err, Result, sym, refl, ap, ◌∙◌, subst, inl, inr, ⊎_elim, append_assoc, zero-le, not-suc-le-zero, add-zero, zero-add, arith}
use Rattle.std.proofs.lemmas.List.{append-nil, length-append, length-drop, length-take, length-take-le, take-take, take_all, nil_from_length, at_drop_more}
use Rattle.std.proofs.lemmas.Bool.{and_parts, le-leb, cases_lt, cases_order}
use Rattle.std.proofs.lemmas.Bool.Decides.{nat_tests}
use Rattle.entries.specs.declared.entry.Entry.{Entry}
use Rattle.entries.specs.Entries.{initial, service_line, most_containers}
use Rattle.entries.specs.Requests.{head_formed, container_formed, containers_formed, well_formed}
use Rattle.entries.proofs.WrittenLaws.{take_min}
use Rattle.entries.specs.Sequences.{begins_request, goes_on, due_after, begun_with, judge, requests_in, Requests, none, more, Begins, StopsAt, Judged}

-- well-formed requests pass the test

judge_containers : (cs es : List Entry) (i due m : ℕ) → due ≡ length cs → containers_formed cs ≡ true → judge i due m (cs ++ es) ≡ judge (i + length cs) 0 m es
judge_containers [] es i due m e h = rw e (ap (λ p. judge p 0 m es) (sym (add-zero i)))
judge_containers (x ∷ cs) es i due m e h =
    let p = and_parts (container_formed x) (containers_formed cs) h in
    let k : (i + 1) + length cs ≡ i + suc (length cs) = omega arith in
    rw (e, p.0) (judge_containers cs es (i + 1) (length cs) m refl p.1 ∙ ap (λ n. judge n 0 m es) k)

formed_number : (h : Entry) (cs : List Entry) → well_formed h cs ≡ true → h.number ≡ length cs
formed_number h cs w = grind (arith, nat_tests)

pub formed_containers : (h : Entry) (cs : List Entry) → well_formed h cs ≡ true → containers_formed cs ≡ true
formed_containers h cs w = grind (arith, nat_tests)

formed_begins : (h : Entry) (cs es : List Entry) → well_formed h cs ≡ true → begins_request h (length (cs ++ es)) ≡ true
formed_begins h cs es w = let l = length-append cs es in let n = formed_number h cs w in grind (arith, nat_tests)

begins_judge : (h : Entry) (es : List Entry) (i m : ℕ) → begins_request h (length es) ≡ true → judge i 0 m (h ∷ es) ≡ judge (i + 1) h.number (m + 1) es
begins_judge h es i m o = rw o

pub judge_requests : {q : ℕ} {es : List Entry} → Requests q es → (i m : ℕ) → judge i 0 m es ≡ Ok (m + q)
judge_requests none i m = ap Ok (sym (add-zero m))
judge_requests (more {q} {es} h cs w r) i m =
    let s = begins_judge h (cs ++ es) i m (formed_begins h cs es w) in
    let t = judge_containers cs es (i + 1) h.number (m + 1) (formed_number h cs w) (formed_containers h cs w) in
    let k : (m + 1) + q ≡ m + suc q = omega arith in
    s ∙ (t ∙ (judge_requests r (i + 1 + length cs) (m + 1) ∙ ap Ok k))

-- one more request at the end
pub requests_more : {q : ℕ} {es : List Entry} (h : Entry) (cs : List Entry) → Requests q es → well_formed h cs ≡ true → Requests (suc q) (es ++ (h ∷ cs))
requests_more h cs none w = subst (λ x. Requests 1 (h ∷ x)) (append-nil cs) (more h cs w none)
requests_more h cs (more {q} {es} k ds v r) w =
    subst (λ x. Requests (suc (suc q)) (k ∷ x)) (sym (append_assoc ds es (h ∷ cs))) (more k ds v (requests_more h cs r w))

-- no more requests than entries
pub requests_few : {q : ℕ} {es : List Entry} → Requests q es → q ≤ length es
requests_few none = omega arith
requests_few (more {q} {es} h cs w r) = simp length-append (omega (arith, requests_few r))

-- what one test says

ok_test : (b : Bool) (x : Result ℕ ℕ) (i r : ℕ) → cond b x (Err i) ≡ Ok r → (b ≡ true) × (x ≡ Ok r)
ok_test true x i r h = (refl, h)
ok_test false x i r h = let z : ◌≡◌ {A = ℕ} 0 1 = cc in absurd (omega arith)

err_test : (b : Bool) (x : Result ℕ ℕ) (i j : ℕ) → cond b x (Err i) ≡ Err j → ((b ≡ true) × (x ≡ Err j)) ⊎ ((b ≡ false) × (i ≡ j))
err_test true x i j h = inl (refl, h)
err_test false x i j h = inr (refl, cc)

begins_number : (h : Entry) (n : ℕ) → begins_request h n ≡ true → h.number ≤ n
begins_number h n o = grind (arith, nat_tests)

begins_formed : (h : Entry) (n : ℕ) (cs : List Entry) → begins_request h n ≡ true → length cs ≡ h.number → containers_formed cs ≡ true → well_formed h cs ≡ true
begins_formed h n cs o l f =
    let a = and_parts (leb h.number most_containers) (leb h.number n && head_formed h h.number) o in
    let b = and_parts (leb h.number n) (head_formed h h.number) a.1 in
    rw (l, a.0, b.1, f)

due_fits : (due n : ℕ) (e : Entry) → due ≤ suc n → goes_on due e n ≡ true → due_after due e ≤ n
due_fits zero n e le o = begins_number e n o
due_fits (suc due) n e le o = omega arith

-- entries that pass are containers that were due, and requests behind them
record Parts (due : ℕ) (es : List Entry) (begun count : ℕ) : Type 0 where
  pub due_ones : List Entry
  pub others : List Entry
  pub requests : ℕ
  pub whole : es ≡ due_ones ++ others
  pub size : length due_ones ≡ due
  pub formed : containers_formed due_ones ≡ true
  pub sequence : Requests requests others
  pub counted : count ≡ begun + requests

head_parts : (h : Entry) (es : List Entry) (m r : ℕ) → begins_request h (length es) ≡ true → Parts h.number es (m + 1) r → Parts 0 (h ∷ es) m r
head_parts h es m r o p = record {
  due_ones = [];
  others = h ∷ es;
  requests = suc p.requests;
  whole = refl;
  size = refl;
  formed = refl;
  sequence =
      subst (λ x. Requests (suc p.requests) (h ∷ x)) (sym p.whole)
      (more h p.due_ones (begins_formed h (length es) p.due_ones o p.size p.formed) p.sequence);
  counted = omega (arith, p.counted);
}

container_parts : (c : Entry) (es : List Entry) (due m r : ℕ) → container_formed c ≡ true → Parts due es m r → Parts (suc due) (c ∷ es) m r
container_parts c es due m r o p = record {
  due_ones = c ∷ p.due_ones;
  others = p.others;
  requests = p.requests;
  whole = ap (λ x. c ∷ x) p.whole;
  size = ap suc p.size;
  formed = rw (o, p.formed);
  sequence = p.sequence;
  counted = p.counted;
}

passed : (es : List Entry) (i due m r : ℕ) → due ≤ length es → judge i due m es ≡ Ok r → Parts due es m r
passed [] i zero m r le h =
    let k : m ≡ r = cc in
    record { due_ones = []; others = []; requests = 0; whole = refl; size = refl; formed = refl; sequence = none; counted = omega arith }
passed [] i (suc due) m r le h = absurd (not-suc-le-zero le)
passed (e ∷ es) i zero m r le h =
    let t = ok_test (begins_request e (length es)) (judge (i + 1) e.number (m + 1) es) i r h in
    head_parts e es m r t.0 (passed es (i + 1) e.number (m + 1) r (begins_number e (length es) t.0) t.1)
passed (e ∷ es) i (suc due) m r le h =
    let t = ok_test (container_formed e) (judge (i + 1) due m es) i r h in
    container_parts e es due m r t.0 (passed es (i + 1) due m r (omega arith) t.1)

parts_requests : (es : List Entry) (r : ℕ) → Parts 0 es 0 r → Requests r es
parts_requests es r p =
    let n = nil_from_length p.due_ones p.size in
    let k : r ≡ p.requests = omega (arith, p.counted) in
    rw (p.whole, n, k) p.sequence

requests_from : (es : List Entry) (r : ℕ) → requests_in es ≡ Ok r → Requests r es
requests_from es r h = parts_requests es r (passed es 0 0 0 r zero-le h)

-- entries may always be completed

some_container : Entry
some_container = record { kind = service_line; cause = 0; period = 0; number = 1; from = 0; to = 0; code = 0; uplink = record { 0 = 0 }; downlink = record { 0 = 0 } }

some_head : Entry
some_head = record { kind = initial; cause = 0; period = 0; number = 0; from = 0; to = 0; code = 0; uplink = record { 0 = 0 }; downlink = record { 0 = 0 } }

abbrev fill : (due n : ℕ) → List Entry
fill due zero = []
fill zero (suc n) = some_head ∷ fill zero n
fill (suc due) (suc n) = some_container ∷ fill due n

length_fill : (due n : ℕ) → length (fill due n) ≡ n
length_fill zero zero = refl
length_fill (suc due) zero = refl
length_fill zero (suc n) = ap suc (length_fill zero n)
length_fill (suc due) (suc n) = ap suc (length_fill due n)

record Passes (i due m : ℕ) (es : List Entry) : Type 0 where
  pub count : ℕ
  pub ok : judge i due m es ≡ Ok count

head_goes_on : (n : ℕ) → begins_request some_head n ≡ true
unfolding some_head
head_goes_on n = rw (le-leb 0 n zero-le)

container_goes_on : container_formed some_container ≡ true
unfolding some_container
container_goes_on = refl

head_number : some_head.number ≡ 0
unfolding some_head
head_number = refl

fill_passes : (due n i m : ℕ) → due ≤ n → Passes i due m (fill due n)
fill_passes zero zero i m le = record { count = m; ok = refl }
fill_passes (suc due) zero i m le = absurd (not-suc-le-zero le)
fill_passes zero (suc n) i m le =
    let p = fill_passes zero n (i + 1) (m + 1) zero-le in
    record { count = p.count; ok = rw (head_goes_on (length (fill zero n)), head_number) p.ok }
fill_passes (suc due) (suc n) i m le =
    let p = fill_passes due n (i + 1) m (omega arith) in
    record { count = p.count; ok = rw container_goes_on p.ok }

-- where the test stops: the entries before it may be completed, and with it none that are as many pass
record Stopped (i due m : ℕ) (es : List Entry) (j : ℕ) : Type 0 where
  pub at : ℕ
  pub place : j ≡ i + at
  pub inside : at < length es
  pub whole : List Entry
  pub size : length whole ≡ length es
  pub same : take at whole ≡ take at es
  pub passes : Passes i due m whole
  pub never : (fs : List Entry) → length fs ≡ length es → take (suc at) fs ≡ take (suc at) es → judge i due m fs ≡ Err j

stopped_here : (e : Entry) (es : List Entry) (i due m j : ℕ) → due ≤ suc (length es) → goes_on due e (length es) ≡ false → i ≡ j → Stopped i due m (e ∷ es) j
stopped_here e es i due m j le o k = record {
  at = 0;
  place = omega arith;
  inside = omega arith;
  whole = fill due (suc (length es));
  size = length_fill due (suc (length es));
  same = refl;
  passes = fill_passes due (suc (length es)) i m le;
  never = never;
} where
  never : (fs : List Entry) → length fs ≡ suc (length es) → take 1 fs ≡ take 1 (e ∷ es) → judge i due m fs ≡ Err j
  never [] l t = let z : ◌≡◌ {A = ℕ} 0 1 = cc in absurd (omega arith)
  never (f ∷ fs) l t =
      let a : f ≡ e = ap (λ x. get_or x 0 e) t in
      let b : length fs ≡ length es = omega arith in
      rw (a, b, o, k)

stopped_later : (e : Entry) (es : List Entry) (i due m j : ℕ) → goes_on due e (length es) ≡ true → Stopped (i + 1) (due_after due e) (begun_with due m) es j → Stopped i due m (e ∷ es) j
stopped_later e es i due m j o s = record {
  at = suc s.at;
  place = omega (arith, s.place);
  inside = omega (arith, s.inside);
  whole = e ∷ s.whole;
  size = ap suc s.size;
  same = ap (λ x. e ∷ x) s.same;
  passes = record { count = s.passes.count; ok = rw (s.size, o) s.passes.ok };
  never = never;
} where
  never : (fs : List Entry) → length fs ≡ suc (length es) → take (suc (suc s.at)) fs ≡ e ∷ take (suc s.at) es → judge i due m fs ≡ Err j
  never [] l t = let z : ◌≡◌ {A = ℕ} 0 1 = cc in absurd (omega arith)
  never (f ∷ fs) l t =
      let a : f ≡ e = ap (λ x. get_or x 0 e) t in
      let b : length fs ≡ length es = omega arith in
      rw (a, b, o) (s.never fs b (ap (drop 1) t))

stopped : (es : List Entry) (i due m j : ℕ) → due ≤ length es → judge i due m es ≡ Err j → Stopped i due m es j
stopped [] i due m j le h = let z : ◌≡◌ {A = ℕ} 0 1 = cc in absurd (omega arith)
stopped (e ∷ es) i due m j le h =
    ⊎_elim
    (λ t. stopped_later e es i due m j t.0
    (stopped es (i + 1) (due_after due e) (begun_with due m) j (due_fits due (length es) e le t.0) t.1))
    (λ t. stopped_here e es i due m j le t.0 t.1)
    (err_test (goes_on due e (length es)) (judge (i + 1) (due_after due e) (begun_with due m) es) i j h)

stopped_stops : (es : List Entry) (j : ℕ) → Stopped 0 0 0 es j → StopsAt j es
stopped_stops es j s =
    let k : s.at ≡ j = omega (arith, s.place) in
    let i : suc j ≡ j + 1 = omega arith in
    let lt : j < length es = omega (arith, s.inside) in
    let l : length (take j es) ≡ j = length-take-le j es (omega arith) in
    let l' : length (take (j + 1) es) ≡ j + 1 = length-take-le (j + 1) es (omega arith) in
    record {
      before = record {
        count = s.passes.count;
        whole = s.whole;
        formed = requests_from s.whole s.passes.count s.passes.ok;
        size = s.size;
        same = rw l (subst (λ n. take n s.whole ≡ take n es) k s.same);
      };
      with_it = λ b.
          let same : take (j + 1) b.whole ≡ take (j + 1) es = ap (λ n. take n b.whole) (sym l') ∙ b.same in
          let e = s.never b.whole b.size (subst (λ n. take n b.whole ≡ take n es) (sym (ap suc k ∙ i)) same) in
          let o = judge_requests b.formed 0 0 in
          let z : ◌≡◌ {A = ℕ} 0 1 = cc in
          omega arith;
    }

stops_from : (es : List Entry) (j : ℕ) → requests_in es ≡ Err j → StopsAt j es
stops_from es j h = stopped_stops es j (stopped es 0 0 0 j zero-le h)

-- what the test answers is what the entries are
pub judged : (es : List Entry) (r : Result ℕ ℕ) → r ≡ requests_in es → Judged es r
judged es (Ok q) e = requests_from es q (sym e)
judged es (Err j) e = stops_from es j (sym e)

-- and the only thing that they are

begins_shorter : (es : List Entry) (n a b : ℕ) → a ≤ b → Begins n (take b es) → Begins n (take a es)
begins_shorter es n a b h g = record {
  count = g.count;
  whole = g.whole;
  formed = g.formed;
  size = g.size;
  same =
      let k : length (take a es) ≤ length (take b es) = simp length-take (omega arith) in
      sym (take-take (length (take a es)) (length (take b es)) g.whole k)
      ∙ (ap (take (length (take a es))) g.same
      ∙ (take-take (length (take a es)) b es (simp length-take (omega arith)) ∙ take_length a es));
} where
  -- a part of a list is as long as it is
  take_length : (m : ℕ) (xs : List Entry) → take (length (take m xs)) xs ≡ take m xs
  take_length m xs = take_min xs m (length (take m xs)) (simp length-take refl)

requests_begin : {q : ℕ} {es : List Entry} → Requests q es → Begins (length es) (take (length es) es)
requests_begin {q} {es} r = record {
  count = q;
  whole = es;
  formed = r;
  size = refl;
  same = let k = take_all (length es) es (omega arith) in rw (k, k);
}

-- what the whole begins, each part of it begins
begins_front : (es : List Entry) (a : ℕ) → Begins (length es) (take (length es) es) → Begins (length es) (take a es)
begins_front es a g =
    ⊎_elim (λ lt. begins_shorter es (length es) a (length es) (omega arith) g)
    (λ le. subst (Begins (length es)) (take_all (length es) es (omega arith) ∙ sym (take_all a es le)) g)
    (cases_lt a (length es))

stops_once : (es : List Entry) (i : ℕ) → StopsAt i es → (r : Result ℕ ℕ) → Judged es r → Err i ≡ r
stops_once es i s (Ok q) j = absurd (s.with_it (begins_front es (i + 1) (requests_begin j)))
stops_once es i s (Err k) t =
    ⊎_elim (ap Err)
    (⊎_elim (λ lt. absurd (s.with_it (begins_shorter es (length es) (i + 1) k (omega arith) t.before)))
    (λ lt. absurd (t.with_it (begins_shorter es (length es) (k + 1) i (omega arith) s.before))))
    (cases_order i k)

pub judged_once : (es : List Entry) (s : Result ℕ ℕ) → Judged es s → s ≡ requests_in es
judged_once es (Ok q) j = sym (judge_requests j 0 0 ∙ ap Ok (zero-add q))
judged_once es (Err i) s = stops_once es i s (requests_in es) (judged es (requests_in es) refl)

-- one entry of the test, by the verdict on it
pub judge_more : (es : List Entry) (i due m left : ℕ) (d : Entry) (r : Bool) → i < length es → left ≡ length es - i - 1 → r ≡ goes_on due (get_or es i d) left
    → judge i due m (drop i es) ≡ cond r (judge (i + 1) (due_after due (get_or es i d)) (begun_with due m) (drop (i + 1) es)) (Err i)
judge_more es i due m left d r h l e =
    let k : length (drop (i + 1) es) ≡ left = simp length-drop (omega arith) in
    at_drop_more (judge i due m) es i d h
    ∙ ap (λ b. cond b (judge (i + 1) (due_after due (get_or es i d)) (begun_with due m) (drop (i + 1) es)) (Err i))
    (ap (goes_on due (get_or es i d)) k ∙ sym e)
