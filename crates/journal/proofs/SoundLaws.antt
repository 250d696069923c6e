-- Bytes that are the header and the encoding of well-formed requests are read back.
use Rattle.std.proofs.Common.{◌≡◌, ℕ, ◌*◌, ◌≤◌, leb, List, [], ◌++◌, length, get_or, take, drop, Ok, sym, refl, ap, ◌∙◌, zero-add, arith}
use Rattle.std.specs.List.{AllByRecursion}
use Rattle.std.proofs.lemmas.List.{append-nil, take_at, drop_at, take-take, drop-take, length-append, length-take}
use Rattle.std.proofs.lemmas.Bool.{and_parts, leb-true}
use Rattle.std.proofs.lemmas.Bool.Decides.{nat_tests}
use Rattle.entries.specs.declared.entry.Entry.{Entry}
use Rattle.entries.specs.Sequences.{requests_in, Requests}
use Rattle.entries.proofs.SequenceLaws.{judge_requests, requests_few}
use Rattle.journal.specs.Codec.{Fit}
use Rattle.journal.specs.Layout.{entry_size, EntryFits, header_size, header_widths, header_fields, header_bytes, spare, most_bytes, entry_offset}
use Rattle.journal.specs.Layout.{entries_at, requests_at, free_at, spare_at, word, all_bytes, journal_bytes, entries_in, book_in}
use Rattle.journal.specs.Reading.{read, JournalOf}
use Rattle.journal.proofs.CodecLaws.{words}
use Rattle.journal.proofs.LayoutLaws.{length_header, length_all, header_words, entries_take, entries_of_all}

-- bytes of a journal that has these entries, in q requests
pub record Sound (bs : List ℕ) (n q : ℕ) (es : List Entry) : Type 0 where
  pub book : book_in n bs ≡ es
  pub size : n ≡ length es
  pub held : take (entry_offset n) bs ≡ journal_bytes q es
  pub formed : Requests q es
  pub within : entry_offset n ≤ length bs
  pub small : length bs ≤ most_bytes

-- the numbers of the header are read back
sound_words : (bs : List ℕ) (n q : ℕ) (es : List Entry) → Sound bs n q es → words 0 header_widths bs ≡ header_fields n q
sound_words bs n q es s =
    let few : q ≤ n = omega (arith, requests_few s.formed, s.size) in
    let fit : Fit header_widths (header_fields n q) =
    (omega (arith, s.within, s.small), (omega (arith, s.within, s.small), (omega (arith, s.within, s.small), (omega arith, tt)))) in
    let k : header_size ≤ entry_offset n = omega arith in
    let e = s.held ∙ ap (λ m. header_bytes m q ++ all_bytes es) (sym s.size) in
    header_words bs n q fit
    (sym (take-take header_size (entry_offset n) bs k) ∙ (ap (take header_size) e ∙ take_at (header_bytes n q) (all_bytes es) header_size (length_header n q)))

-- reading sound bytes gives their entries
pub read_sound : (bs : List ℕ) (n q : ℕ) (es : List Entry) → Sound bs n q es → read bs ≡ Ok es
unfolding read
read_sound bs n q es s =
    let w = sound_words bs n q es s in
    let w₀ : word entries_at bs ≡ n = ap (λ x. get_or x 0 0) w in
    let w₁ : word requests_at bs ≡ q = ap (λ x. get_or x 1 0) w in
    let w₂ : word free_at bs ≡ entry_offset n = ap (λ x. get_or x 2 0) w in
    let w₃ : word spare_at bs ≡ spare = ap (λ x. get_or x 3 0) w in
    let c : requests_in es ≡ Ok q = judge_requests s.formed 0 0 ∙ ap Ok (zero-add q) in
    let within : entry_offset n ≤ length bs = s.within in
    let small : length bs ≤ most_bytes = s.small in
    rw (w₀, w₁, w₂, w₃, s.book, c) (grind (arith, nat_tests))

-- a journal of entries whose fields fit is sound

journal_within : (bs : List ℕ) (es : List Entry) (q : ℕ) → take (entry_offset (length es)) bs ≡ journal_bytes q es → entry_offset (length es) ≤ length bs
journal_within bs es q e =
    omega (arith, simp (length-take, length-append) at (ap length e), length_header (length es) q, length_all es)

journal_book : (bs : List ℕ) (es : List Entry) (q : ℕ) → AllByRecursion EntryFits es → take (entry_offset (length es)) bs ≡ journal_bytes q es → book_in (length es) bs ≡ es
journal_book bs es q fit e =
    let n = length es in
    sym (entries_take n (drop header_size bs))
    ∙ (ap (entries_in n) (sym (drop-take header_size (entry_size * n) bs)
    ∙ (ap (drop header_size) e
    ∙ (drop_at (header_bytes n q) (all_bytes es) header_size (length_header n q) ∙ sym (append-nil (all_bytes es)))))
    ∙ entries_of_all es [] fit)

journal_sound : (bs : List ℕ) (es : List Entry) (g : JournalOf bs es) → AllByRecursion EntryFits es → Sound bs (length es) g.requests es
journal_sound bs es g fit = record {
  book = journal_book bs es g.requests fit g.bytes;
  size = refl;
  held = g.bytes;
  formed = g.formed;
  within = journal_within bs es g.requests g.bytes;
  small = leb-true (length bs) most_bytes (and_parts (leb header_size (length bs)) (leb (length bs) most_bytes) g.size).1;
}

pub journal_read : (bs : List ℕ) (es : List Entry) → AllByRecursion EntryFits es → JournalOf bs es → read bs ≡ Ok es
journal_read bs es fit g = read_sound bs (length es) g.requests es (journal_sound bs es g fit)
