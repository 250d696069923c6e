-- What a reader answers, and what its answer says.
use Rattle.std.specs.Simd.{first_chunks}
use Rattle.std.proofs.Common.{◌/◌, ◌≡◌, ℕ, ◌+◌, ◌-◌, ◌*◌, ◌<◌, ◌≤◌, Bool, true, cond, eqb, leb, List, [], map, length, get_or, sym, take, drop, Ok, Err, Result, refl, ap, ◌∙◌, arith, take-add}
use Rattle.std.proofs.ByRecursion.{All-drop}
use Rattle.std.proofs.lemmas.List.{length-drop, length-map}
use Rattle.std.proofs.lemmas.Bool.{and_parts, leb-true, eqb-true, eqb-false, cond_both}
use Rattle.entries.specs.declared.entry.Entry.{Entry}
use Rattle.entries.specs.Sequences.{goes_on, due_after, begun_with, judge, requests_in}
use Rattle.entries.proofs.SequenceLaws.{judged, judge_more}
use Rattle.journal.specs.declared.fault.Fault.{Fault}
use Rattle.journal.specs.declared.fault.Fault.TheVariants.{RequestCount}
use Rattle.std.proofs.Math.ListN.{get_or-map}
use Rattle.journal.specs.Layout.{entry_of, book_in, entry_size, header_size, spare, most_bytes}
use Rattle.journal.specs.Layout.{entries_at, requests_at, free_at, spare_at, entry_offset, journal_bytes, word}
use Rattle.journal.specs.Reading.{sized, ended, spared, entries_told, placed, counted, read, Framed, Meant}
use Rattle.journal.proofs.CodecLaws.{Bytes}
use Rattle.journal.proofs.LayoutLaws.{chunked_body, length_entries, header_bytes_of, all_bytes_of}

-- one entry of the test, read at its index
pub judge_read : (bss : List (List ℕ)) (i due m left : ℕ) (e : Entry) (r : Bool) → i < length bss → left ≡ length bss - i - 1 → e ≡ entry_of (get_or bss i []) → r ≡ goes_on due e left
    → judge i due m (drop i (map entry_of bss)) ≡ cond r (judge (i + 1) (due_after due e) (begun_with due m) (drop (i + 1) (map entry_of bss))) (Err i)
judge_read bss i due m left e r lt l f g =
    let k : e ≡ get_or (map entry_of bss) i (entry_of []) = f ∙ sym (get_or-map entry_of bss i []) in
    let n = length-map bss entry_of in
    rw k (judge_more (map entry_of bss) i due m left (entry_of []) r (omega (arith, n)) (omega (arith, n)) (g ∙ ap (λ x. goes_on due x left) k))

-- the tests of the header, as facts
sized_long : (bs : List ℕ) → sized bs ≡ true → header_size ≤ length bs
sized_long bs h = leb-true header_size (length bs) (and_parts (leb header_size (length bs)) (leb (length bs) most_bytes) h).0

ended_free : (bs : List ℕ) → ended bs ≡ true → word free_at bs ≡ entry_offset (word entries_at bs)
ended_free bs h = eqb-true (word free_at bs) (entry_offset (word entries_at bs)) (and_parts (eqb (word free_at bs) (entry_offset (word entries_at bs))) (leb (word free_at bs) (length bs)) h).0

ended_within : (bs : List ℕ) → ended bs ≡ true → word free_at bs ≤ length bs
ended_within bs h = leb-true (word free_at bs) (length bs) (and_parts (eqb (word free_at bs) (entry_offset (word entries_at bs))) (leb (word free_at bs) (length bs)) h).1

spared_spare : (bs : List ℕ) → spared bs ≡ true → word spare_at bs ≡ spare
spared_spare bs h = eqb-true (word spare_at bs) spare h

-- the bytes up to the free offset are the header and the entries read, written again
framed_bytes : (bs : List ℕ) (q : ℕ) → Bytes bs → Framed bs → q ≡ word requests_at bs → take (entry_offset (length (entries_told bs))) bs ≡ journal_bytes q (entries_told bs)
framed_bytes bs q small f e =
    let n = word entries_at bs in
    let l : length (entries_told bs) ≡ n = length_entries n (drop header_size bs) in
    let long = sized_long bs f.size in
    let free = ended_free bs f.end in
    let within : entry_offset n ≤ length bs = omega (arith, free, ended_within bs f.end) in
    let k : entry_size * n ≤ length (drop header_size bs) = simp length-drop (omega arith) in
    let rest = spared_spare bs f.rest in
    let h = header_bytes_of bs n q small long (cc (e, free, rest)) in
    rw (l, h, all_bytes_of n (drop header_size bs) (All-drop _ header_size bs small) k) (take-add header_size (entry_size * n) bs)

-- the answer, once the entries are judged
abbrev pub answered : (requests : ℕ) → List Entry → Result ℕ Fault → Result (List Entry) Fault
answered q es (Ok count) = cond (eqb count q) (Ok es) (Err RequestCount)
answered q es (Err fault) = Err fault

counted_placed : (q : ℕ) (es : List Entry) (r : Result ℕ ℕ) → counted q es r ≡ answered q es (placed r)
counted_placed q es (Ok count) = refl
counted_placed q es (Err index) = refl

-- entries that are the parts of the bytes between the header and the free offset
pub counted_read : (bs : List ℕ) (n free q : ℕ) (entries : List (List ℕ)) (r : Result ℕ Fault) → free ≡ entry_offset n → free ≤ length bs
    → entries ≡ (let body = take (free - header_size) (drop header_size bs) in first_chunks entry_size (length body / entry_size) body) → r ≡ placed (requests_in (map entry_of entries))
    → counted q (book_in n bs) (requests_in (book_in n bs)) ≡ answered q (map entry_of entries) r
counted_read bs n free q entries r e h f g =
    let b : map entry_of entries ≡ book_in n bs = rw f (chunked_body bs n free e h) in
    rw (g, b) (counted_placed q (book_in n bs) (requests_in (book_in n bs)))

module _ (bs : List ℕ) (small : Bytes bs) where
  counted_meant : (f : Framed bs) (r : Result ℕ ℕ) → r ≡ requests_in (entries_told bs) → Meant bs (counted (word requests_at bs) (entries_told bs) r)
  counted_meant f (Ok q) e =
      let formed = judged (entries_told bs) (Ok q) e in
      cond_both (eqb q (word requests_at bs)) _ _ (Meant bs)
      (λ t. record { size = f.size; requests = q; formed = formed; bytes = framed_bytes bs q small f (eqb-true q (word requests_at bs) t) })
      (λ t. record { frame = f; requests = q; formed = formed; other = eqb-false q (word requests_at bs) t })
  counted_meant f (Err i) e = record { frame = f; index = i; at = refl; stops = judged (entries_told bs) (Err i) e }

  -- what the answer of a reading says
  pub read_meant : Meant bs (read bs)
  unfolding read
  read_meant =
      cond_both (sized bs) _ _ (Meant bs)
      (λ s. cond_both (ended bs) _ _ (Meant bs)
      (λ e. cond_both (spared bs) _ _ (Meant bs)
      (λ r. counted_meant (record { size = s; end = e; rest = r }) (requests_in (entries_told bs)) refl)
      (λ r. (s, e, r)))
      (λ e. (s, e)))
      (λ s. (refl, s))

  pub answer_meant : (r : Result (List Entry) Fault) → r ≡ read bs → Meant bs r
  answer_meant r e = rw e read_meant
