-- What a journal holds after its making and its takings is read back.
use Rattle.std.proofs.Common.{◌≡◌, ℕ, suc, ◌+◌, ◌*◌, ◌≤◌, true, List, [], ◌∷◌, ◌++◌, length, take, None, Ok, Result, sym, refl, ap, ◌∙◌, subst, arith, length-append}
use Rattle.std.specs.List.{AllByRecursion}
use Rattle.std.proofs.lemmas.List.{append-nil}
use Rattle.std.proofs.lemmas.Bool.Decides.{nat_tests}
use Rattle.entries.specs.declared.entry.Entry.{Entry}
use Rattle.entries.specs.declared.taker.Override.{Override}
use Rattle.entries.specs.Requests.{well_formed, take_answer}
use Rattle.entries.specs.Sequences.{Requests, none}
use Rattle.entries.specs.Written.{written}
use Rattle.entries.proofs.SequenceLaws.{requests_more}
use Rattle.entries.proofs.WrittenLaws.{take_written, length_written}
use Rattle.journal.specs.declared.fault.Fault.{Fault}
use Rattle.journal.specs.declared.journal.Journal.{Journal}
use Rattle.journal.specs.Layout.{entry_size, EntryFits, header_size, header_bytes, most_bytes, entry_offset}
use Rattle.journal.specs.Layout.{journal_bytes, room_for, grown}
use Rattle.journal.specs.Journals.{bytes_of, entry_count, Grown, unmade_journal, JournalMade, Used, made, took, reading, ReadsBack}
use Rattle.journal.proofs.LayoutLaws.{length_header}
use Rattle.journal.proofs.SoundLaws.{Sound, read_sound}
use Rattle.journal.proofs.GrowthLaws.{length_grown, entries_grown, bytes_grown}

sound_made : (lent : List ℕ) → header_size ≤ length lent → length lent ≤ most_bytes → Sound (written lent 0 (header_bytes 0 0)) 0 0 []
sound_made lent long small =
    let l = length_header 0 0 in
    let m = length_written lent 0 (header_bytes 0 0) (omega (arith, l)) in
    record {
      book = refl;
      size = refl;
      held = take_written lent 0 (header_bytes 0 0) header_size (omega arith) (omega (arith, l)) ∙ sym (append-nil (header_bytes 0 0));
      formed = none;
      within = omega (arith, m);
      small = omega (arith, m);
    }

sound_grown : (bs : List ℕ) (n q : ℕ) (es : List Entry) (h : Entry) (cs : List Entry) → Sound bs n q es → well_formed h cs ≡ true
    → entry_offset n + entry_size * length (h ∷ cs) ≤ length bs → AllByRecursion EntryFits (h ∷ cs)
    → Sound (grown bs n q (h ∷ cs)) (n + length (h ∷ cs)) (q + 1) (es ++ (h ∷ cs))
sound_grown bs n q es h cs s w room fit =
    let l = length_grown bs n q (h ∷ cs) room in
    let i : suc q ≡ q + 1 = omega arith in
    record {
      book = entries_grown bs n q (h ∷ cs) room fit ∙ ap (λ x. x ++ (h ∷ cs)) s.book;
      size = ap (λ x. x + length (h ∷ cs)) s.size ∙ sym (length-append es (h ∷ cs));
      held = bytes_grown bs n q (h ∷ cs) room es s.size s.held;
      formed = subst (λ x. Requests x (es ++ (h ∷ cs))) i (requests_more h cs s.formed w);
      within = omega (arith, l);
      small = omega (arith, l, s.small);
    }

-- what the making and the taking ask of numbers

made_sized : (overrides bytes : ℕ) → unmade_journal overrides bytes ≡ None → (header_size ≤ bytes) × (bytes ≤ most_bytes)
made_sized overrides bytes e = (grind (arith, nat_tests), grind (arith, nat_tests))

pub admitted : (h : Entry) (cs : List Entry) (intake : ℕ) (u : Unit {0}) → Ok u ≡ take_answer h cs intake → (well_formed h cs ≡ true) × (length cs + 1 ≤ intake)
admitted h cs intake u e = (grind (arith, nat_tests), grind (arith, nat_tests))

pub room_fits : (bytes n m : ℕ) → m + 1 ≤ room_for bytes n → entry_offset n + entry_size * (m + 1) ≤ bytes
room_fits bytes n m h = omega arith

-- what holds of a journal that was made and used
record Holds (j : Journal) (q : ℕ) (es : List Entry) : Type 0 where
  pub count : j.requests ≡ q
  pub sound : Sound (bytes_of j) (entry_count j) q es

holds_made : (lent : List ℕ) (profile : List Override) (j : Journal) → JournalMade lent profile (Ok j) → Holds j 0 []
holds_made lent profile j (e, n) =
    let s = made_sized (length profile) (length lent) e in
    let z : entry_count j ≡ 0 = omega (arith, n.requests, n.containers) in
    record { count = n.requests; sound = rw (n.bytes, z) (sound_made lent s.0 s.1) }

holds_taken : (j k : Journal) (q : ℕ) (es : List Entry) (h : Entry) (cs : List Entry) → Holds j q es → Grown j h cs k → Holds k (suc q) (es ++ (h ∷ cs))
holds_taken j k q es h cs o g =
    let r = room_fits (length (bytes_of j)) (entry_count j) (length cs) g.room in
    let c : q + 1 ≡ suc q = omega arith in
    let n : entry_count k ≡ entry_count j + length (h ∷ cs) = omega (arith, g.requests, g.containers_taken) in
    let b : bytes_of k ≡ grown (bytes_of j) (entry_count j) q (h ∷ cs) = g.bytes ∙ ap (λ x. grown (bytes_of j) (entry_count j) x (h ∷ cs)) o.count in
    let s = sound_grown (bytes_of j) (entry_count j) q es h cs o.sound g.formed (omega (arith, r)) g.fit in
    record { count = omega (arith, g.requests, o.count); sound = rw (b, n, ← c) s }

holds : {j : Journal} {q : ℕ} {es : List Entry} → Used j q es → Holds j q es
holds (made {lent} {profile} {j} n) = holds_made lent profile j n
holds (took {j} {k} {q} {es} {h} {cs} u g) = holds_taken j k q es h cs (holds u) g

-- so its own reader gives exactly the entries taken
pub reads_back : (j : Journal) (r : Result (List Entry) Fault) → r ≡ reading j → (q : ℕ) (es : List Entry) → Used j q es → ReadsBack j q es r
reads_back j r e q es u =
    let s = (holds u).sound in
    record {
      entries = e ∙ read_sound (bytes_of j) (entry_count j) q es s;
      book = sym s.book;
      bytes = subst (λ n. take (entry_offset n) (bytes_of j) ≡ journal_bytes q es) s.size s.held;
    }
