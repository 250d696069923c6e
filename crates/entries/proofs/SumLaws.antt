-- Sums over a book: one entry more, and their bound.
use Rattle.std.proofs.Common.{◌≡◌, ℕ, ◌+◌, ◌*◌, ◌<◌, ◌≤◌, Bool, true, false, cond, List, [], ◌∷◌, length, get_or, drop, is_ok, Ok, Err, Result, sym, ap, ◌∙◌, arith}
use Rattle.std.specs.List.{AllByRecursion}
use Rattle.std.proofs.ByRecursion.{All-append}
use Rattle.std.proofs.lemmas.List.{at_drop_more, at_drop_all}
use Rattle.std.proofs.lemmas.Bool.{and_parts, true≢false}
use Rattle.std.proofs.lemmas.Bool.Decides.{nat_tests}
use Rattle.entries.specs.declared.entry.Entry.{Entry}
use Rattle.entries.specs.declared.key.LineId.{LineId}
use Rattle.entries.specs.Entries.{most_octets}
use Rattle.entries.specs.Octets.{Direction, octets_of, counts_for, in_book}
use Rattle.entries.specs.Requests.{container_formed, containers_formed, well_formed}
use Rattle.entries.specs.Sequences.{Requests, none, more, Judged}
use Rattle.entries.specs.Sums.{Within}
use Rattle.entries.proofs.SequenceLaws.{formed_containers}

-- what stands where no entry does
abbrev pub blank : Entry
blank = record { kind = 0; cause = 0; period = 0; number = 0; from = 0; to = 0; code = 0; uplink = record { 0 = 0 }; downlink = record { 0 = 0 } }

-- what was added up and what is left make the whole, after one entry more
pub added_more : (d : Direction) (k : LineId) (p : ℕ) (es : List Entry) (i : ℕ) (b : Bool) (n m whole : ℕ) → i < length es
    → b ≡ counts_for k p (get_or es i blank) → m ≡ n + cond b (octets_of d (get_or es i blank)) 0 → n + in_book d k p (drop i es) ≡ whole
    → m + in_book d k p (drop (i + 1) es) ≡ whole
added_more d k p es i b n m whole h e f g =
    let s : in_book d k p (drop i es) ≡ cond b (octets_of d (get_or es i blank)) 0 + in_book d k p (drop (i + 1) es) =
    at_drop_more (in_book d k p) es i blank h
    ∙ ap (λ x. cond x (octets_of d (get_or es i blank)) 0 + in_book d k p (drop (i + 1) es)) (sym e) in
    omega (arith, s, f, g)

-- and it stays within the bound of as many containers
pub bound_more : (b : Bool) (x n m i : ℕ) → x ≤ most_octets → n ≤ most_octets * i → m ≡ n + cond b x 0 → m ≤ most_octets * (i + 1)
bound_more true x n m i h k e = omega arith
bound_more false x n m i h k e = omega arith

-- nothing is left behind the last entry
pub added_all : (d : Direction) (k : LineId) (p : ℕ) (es : List Entry) (i n : ℕ) → length es ≤ i → n + in_book d k p (drop i es) ≡ in_book d k p es → n ≡ in_book d k p es
added_all d k p es i n h e = omega (arith, e, at_drop_all (in_book d k p) es i h)

-- no entry of well-formed requests has more octets than a container may
head_within : (h : Entry) (cs : List Entry) → well_formed h cs ≡ true → Within h
head_within h cs w = (grind (arith, nat_tests), grind (arith, nat_tests))

container_within : (c : Entry) → container_formed c ≡ true → Within c
container_within c w = (grind (arith, nat_tests), grind (arith, nat_tests))

containers_within : (cs : List Entry) → containers_formed cs ≡ true → AllByRecursion Within cs
containers_within [] w = tt
containers_within (c ∷ cs) w =
    let p = and_parts (container_formed c) (containers_formed cs) w in
    (container_within c p.0, containers_within cs p.1)

pub requests_within : {q : ℕ} {es : List Entry} → Requests q es → AllByRecursion Within es
requests_within none = tt
requests_within (more {q} {es} h cs w r) =
    (head_within h cs w, All-append Within cs es (containers_within cs (formed_containers h cs w)) (requests_within r))

pub judged_within : (es : List Entry) (r : Result ℕ ℕ) → is_ok r ≡ true → Judged es r → AllByRecursion Within es
judged_within es (Ok q) e j = requests_within j
judged_within es (Err i) e j = absurd (true≢false (sym e))
