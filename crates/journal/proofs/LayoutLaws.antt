-- Entries and the header as bytes: written, read back, and written again.
use Rattle.std.proofs.Common.{◌≡◌, ℕ, zero, suc, ◌+◌, ◌-◌, ◌*◌, ◌/◌, ◌<◌, ◌≤◌, List, [], ◌∷◌, ◌++◌, length, map, length-take, get_or, take, drop, sym, refl, ap, ◌∙◌, append_assoc, add_comm, suc-add, zero-add, mul-suc, arith, take-add}
use native.Mathlib.Nat.{mul-div_right}
use Rattle.std.specs.List.{AllByRecursion}
use Rattle.std.proofs.lemmas.List.Concat.{flat_map-append}
use Rattle.std.proofs.ByRecursion.{All-take, All-drop}
use Rattle.std.proofs.lemmas.List.{drop_all, drop_at, take-take, drop-take, drop-drop, length-append, length-take-le, length-drop, append-nil, take_more}
use Rattle.entries.specs.declared.entry.Entry.{Entry}
use Rattle.entries.specs.Written.{written}
use Rattle.entries.proofs.WrittenLaws.{written_next}
use Rattle.journal.specs.Codec.{pack, unpack, Fit}
use Rattle.std.specs.Simd.{first_chunks}
use Rattle.journal.specs.Layout.{entry_widths, entry_size, fields, of_fields, entry_bytes, entry_of, EntryFits, all_bytes}
use Rattle.journal.specs.Layout.{header_widths, header_size, header_fields, header_bytes, entry_offset, entries_by, entries_in, book_in}
use Rattle.journal.proofs.CodecLaws.{Bytes, length_be, unpack_pack, unpack_take, pack_unpack, words, unpack_words, reads, words_read, writes, writes_pack}

written_whole : (t xs : List ℕ) → length xs ≡ length t → written t 0 xs ≡ xs
unfolding written
written_whole t xs h = rw (drop_all (0 + length xs) t (omega arith), append-nil)

-- one entry

pub length_entry : (e : Entry) → length (entry_bytes e) ≡ entry_size
unfolding entry_bytes
length_entry e = simp (length-append, length_be)

pub entry_writes : (t : List ℕ) (e : Entry) → length t ≡ entry_size → writes 0 entry_widths (fields e) t ≡ entry_bytes e
unfolding entry_bytes
entry_writes t e h =
    let l : length (pack entry_widths (fields e)) ≡ length t = simp (length-append, length_be) (sym h) in
    writes_pack 0 entry_widths (fields e) t (omega arith) ∙ written_whole t (pack entry_widths (fields e)) l

pub entry_reads : (bs : List ℕ) → entry_size ≤ length bs → entry_of bs ≡ of_fields (reads 0 entry_widths bs)
unfolding entry_of
entry_reads bs h = ap of_fields (unpack_words 0 entry_widths bs ∙ words_read 0 entry_widths bs h)

-- an entry whose fields fit is read back, whatever follows it
pub entry_of_bytes : (e : Entry) (more : List ℕ) → EntryFits e → entry_of (entry_bytes e ++ more) ≡ e
unfolding entry_bytes entry_of EntryFits
entry_of_bytes e more h = ap of_fields (unpack_pack entry_widths (fields e) more h)

-- an entry is read from its own bytes alone
pub entry_of_take : (bs : List ℕ) → entry_of (take entry_size bs) ≡ entry_of bs
unfolding entry_of
entry_of_take bs = ap of_fields (unpack_take entry_widths bs)

pub entry_bytes_of : (bs : List ℕ) → Bytes bs → entry_size ≤ length bs → entry_bytes (entry_of bs) ≡ take entry_size bs
unfolding entry_bytes entry_of
entry_bytes_of bs h l =
    ap (pack entry_widths) (sym (unpack_take entry_widths bs))
    ∙ pack_unpack entry_widths (take entry_size bs) (All-take _ entry_size bs h) (length-take-le entry_size bs l)

-- the header

pub length_header : (n q : ℕ) → length (header_bytes n q) ≡ header_size
unfolding header_bytes
length_header n q = simp (length-append, length_be)

pub header_writes : (t : List ℕ) (n q : ℕ) → header_size ≤ length t → writes 0 header_widths (header_fields n q) t ≡ written t 0 (header_bytes n q)
unfolding header_bytes
header_writes t n q h = writes_pack 0 header_widths (header_fields n q) t h

pub header_words : (bs : List ℕ) (n q : ℕ) → Fit header_widths (header_fields n q) → take header_size bs ≡ header_bytes n q → words 0 header_widths bs ≡ header_fields n q
unfolding header_bytes
header_words bs n q fit e =
    sym (unpack_words 0 header_widths bs)
    ∙ (sym (unpack_take header_widths bs)
    ∙ (ap (unpack header_widths) (e ∙ sym (append-nil (header_bytes n q))) ∙ unpack_pack header_widths (header_fields n q) [] fit))

pub header_bytes_of : (bs : List ℕ) (n q : ℕ) → Bytes bs → header_size ≤ length bs → words 0 header_widths bs ≡ header_fields n q → header_bytes n q ≡ take header_size bs
unfolding header_bytes
header_bytes_of bs n q h l e =
    ap (pack header_widths) (sym (unpack_take header_widths bs ∙ (unpack_words 0 header_widths bs ∙ e)))
    ∙ pack_unpack header_widths (take header_size bs) (All-take _ header_size bs h) (length-take-le header_size bs l)

-- entries one after the other

pub length_all : (es : List Entry) → length (all_bytes es) ≡ entry_size * length es
length_all [] = refl
length_all (e ∷ es) = length-append (entry_bytes e) (all_bytes es) ∙ omega (arith, length_entry e, length_all es)

-- one more entry written behind others
pub append_more : (b : List ℕ) (at : ℕ) (es : List Entry) (i : ℕ) (d : Entry) (b₁ x b₂ : List ℕ) → i < length es → at + entry_size * length es ≤ length b
    → b₁ ≡ written b at (all_bytes (take i es)) → x ≡ entry_bytes (get_or es i d) → b₂ ≡ written b₁ (at + entry_size * i) x → b₂ ≡ written b at (all_bytes (take (i + 1) es))
append_more b at es i d b₁ x b₂ lt room e f g =
    let l : length (take i es) ≡ i = length-take-le i es (omega arith) in
    let a : all_bytes (take (i + 1) es) ≡ all_bytes (take i es) ++ entry_bytes (get_or es i d) =
    ap all_bytes (take_more es i d lt) ∙ (flat_map-append entry_bytes (take i es) (get_or es i d ∷ []) ∙ ap (λ x. all_bytes (take i es) ++ x) (append-nil (entry_bytes (get_or es i d)))) in
    g ∙ (rw (e, f)
    (written_next b at (all_bytes (take i es)) (entry_bytes (get_or es i d)) (at + entry_size * i) (omega arith) (omega (arith, length_all (take i es), l))
    ∙ ap (written b at) (sym a)))

module _ (size : ℕ) (dec : List ℕ → Entry) where
  pub length_by : (n : ℕ) (bs : List ℕ) → length (entries_by size dec n bs) ≡ n
  length_by zero bs = refl
  length_by (suc n) bs = ap suc (length_by n (drop size bs))

  -- n entries are read from their own bytes alone, if one is
  pub take_by : ((bs : List ℕ) → dec (take size bs) ≡ dec bs) → (n : ℕ) (bs : List ℕ) → entries_by size dec n (take (size * n) bs) ≡ entries_by size dec n bs
  take_by own zero bs = refl
  take_by own (suc n) bs =
      let i : size * suc n ≡ size + size * n = mul-suc size n ∙ add_comm (size * n) size in
      let h : size ≤ size + size * n = omega arith in
      let e = sym (own (take (size + size * n) bs)) ∙ (ap dec (take-take size (size + size * n) bs h) ∙ own bs) in
      rw (i, e, drop-take size (size * n) bs) (ap (λ x. dec bs ∷ x) (take_by own n (drop size bs)))

  -- and so are those that are read one by one
  pub chunks_by : ((bs : List ℕ) → dec (take size bs) ≡ dec bs) → (n : ℕ) (bs : List ℕ) → map dec (first_chunks size n bs) ≡ entries_by size dec n bs
  chunks_by own zero bs = refl
  chunks_by own (suc n) bs = rw (own bs) (ap (λ x. dec bs ∷ x) (chunks_by own n (drop size bs)))

-- the bytes between the header and the free offset of n entries
pub chunked_body : (bs : List ℕ) (n free : ℕ) → free ≡ entry_offset n → free ≤ length bs
    → let body = take (free - header_size) (drop header_size bs) in map entry_of (first_chunks entry_size (length body / entry_size) body) ≡ book_in n bs
chunked_body bs n free e h =
    let i : free - header_size ≡ entry_size * n = omega arith in
    let l : length (take (entry_size * n) (drop header_size bs)) ≡ entry_size * n = simp (length-take, length-drop) (omega arith) in
    let k : entry_size * n / entry_size ≡ n = mul-div_right n (omega arith) in
    rw (i, l, k) (chunks_by entry_size entry_of entry_of_take n (take (entry_size * n) (drop header_size bs)) ∙ take_by entry_size entry_of entry_of_take n (drop header_size bs))

pub length_entries : (n : ℕ) (bs : List ℕ) → length (entries_in n bs) ≡ n
length_entries n bs = length_by entry_size entry_of n bs

pub entries_take : (n : ℕ) (bs : List ℕ) → entries_in n (take (entry_size * n) bs) ≡ entries_in n bs
entries_take n bs = take_by entry_size entry_of entry_of_take n bs

pub entries_split : (n m : ℕ) (bs : List ℕ) → entries_in (n + m) bs ≡ entries_in n bs ++ entries_in m (drop (entry_size * n) bs)
entries_split zero m bs = rw (zero-add m)
entries_split (suc n) m bs =
    let i : entry_size * suc n ≡ entry_size + entry_size * n = omega arith in
    rw (suc-add n m, i, ← drop-drop (entry_size * n) entry_size bs) (ap (λ x. entry_of bs ∷ x) (entries_split n m (drop entry_size bs)))

-- entries whose fields fit are read back from their bytes, whatever follows
pub entries_of_all : (es : List Entry) (more : List ℕ) → AllByRecursion EntryFits es → entries_in (length es) (all_bytes es ++ more) ≡ es
entries_of_all [] more h = refl
entries_of_all (e ∷ es) more h =
    let a = append_assoc (entry_bytes e) (all_bytes es) more in
    let d = drop_at (entry_bytes e) (all_bytes es ++ more) entry_size (length_entry e) in
    rw (a, entry_of_bytes e (all_bytes es ++ more) h.0, d) (ap (λ x. e ∷ x) (entries_of_all es more h.1))

-- entries that were read, written again
pub all_bytes_of : (n : ℕ) (bs : List ℕ) → Bytes bs → entry_size * n ≤ length bs → all_bytes (entries_in n bs) ≡ take (entry_size * n) bs
all_bytes_of zero bs h l = refl
all_bytes_of (suc n) bs h l =
    let i : entry_size * suc n ≡ entry_size + entry_size * n = omega arith in
    let m : entry_size * n ≤ length (drop entry_size bs) = simp length-drop (omega arith) in
    rw (entry_bytes_of bs h (omega arith), all_bytes_of n (drop entry_size bs) (All-drop _ entry_size bs h) m, i) (sym (take-add entry_size (entry_size * n) bs))
