-- The bytes of a journal after a request.
use Rattle.std.proofs.Common.{◌≡◌, ℕ, suc, ◌+◌, ◌*◌, ◌≤◌, List, ◌∷◌, ◌++◌, length, take, drop, sym, ap, ◌∙◌, add_assoc, arith, take-add}
use Rattle.std.specs.List.{AllByRecursion}
use Rattle.std.proofs.lemmas.List.{drop_at, take-take, drop-take, take-append-le, drop-append-le, drop-drop, length-append, length-take, length-take-le, length-drop}
use Rattle.std.proofs.lemmas.List.Concat.{flat_map-append}
use Rattle.entries.specs.declared.entry.Entry.{Entry}
use Rattle.entries.specs.Written.{written}
use Rattle.entries.proofs.WrittenLaws.{take_written, drop_written, length_written, written_next}
use Rattle.journal.specs.Layout.{entry_size, header_size, entry_offset, entry_bytes, EntryFits, header_bytes, all_bytes, journal_bytes, entries_in, grown}
use Rattle.journal.proofs.LayoutLaws.{length_entry, length_header, length_all, entries_split, entries_take, entries_of_all}

-- parts of a list before and at what is written
take_before : {X : Type 0} (t : List X) (at : ℕ) (es : List X) (k : ℕ) → k ≤ at → at ≤ length t → take k (written t at es) ≡ take k t
unfolding written
take_before t at es k h g =
    let l : k ≤ length (take at t) = simp length-take (omega arith) in
    take-append-le k (take at t) (es ++ drop (at + length es) t) l ∙ take-take k at t h

drop_before : {X : Type 0} (t : List X) (k a : ℕ) (es : List X) → k + a ≤ length t → drop k (written t (k + a) es) ≡ written (drop k t) a es
unfolding written
drop_before t k a es h =
    let l : k ≤ length (take (k + a) t) = simp length-take (omega arith) in
    drop-append-le k (take (k + a) t) (es ++ drop (k + a + length es) t) l
    ∙ rw (drop-take k a t, drop-drop, add_assoc)

drop_written_at : {X : Type 0} (t : List X) (at : ℕ) (es : List X) → at ≤ length t → drop at (written t at es) ≡ es ++ drop (at + length es) t
unfolding written
drop_written_at t at es h = drop_at (take at t) (es ++ drop (at + length es) t) at (length-take-le at t h)

-- a head, its containers and the header, written one after the other
pub request_grown : (b : List ℕ) (n q : ℕ) (h : Entry) (cs : List Entry) (free : ℕ) (x b₁ b₂ b₃ : List ℕ) → entry_offset n + entry_size * (length cs + 1) ≤ length b → free ≡ entry_offset n
    → x ≡ entry_bytes h → b₁ ≡ written b free x → b₂ ≡ written b₁ (free + entry_size) (all_bytes cs) → b₃ ≡ written b₂ 0 (header_bytes (n + (length cs + 1)) (q + 1)) → b₃ ≡ grown b n q (h ∷ cs)
request_grown b n q h cs free x b₁ b₂ b₃ room a d e f g =
    let two : b₂ ≡ written b (entry_offset n) (all_bytes (h ∷ cs)) =
    rw (f, e, a, d) (written_next b (entry_offset n) (entry_bytes h) (all_bytes cs) (entry_offset n + entry_size) (omega arith) (omega (arith, length_entry h))) in
    let i : n + (length cs + 1) ≡ n + suc (length cs) = omega arith in
    g ∙ (ap (λ x. written x 0 (header_bytes (n + (length cs + 1)) (q + 1))) two ∙ ap (λ m. written (written b (entry_offset n) (all_bytes (h ∷ cs))) 0 (header_bytes m (q + 1))) i)

module _ (bs : List ℕ) (n q : ℕ) (es : List Entry) (room : entry_offset n + entry_size * length es ≤ length bs) where
  length_entries_written : length (written bs (entry_offset n) (all_bytes es)) ≡ length bs
  length_entries_written = length_written bs (entry_offset n) (all_bytes es) (omega (arith, length_all es))

  pub length_grown : length (grown bs n q es) ≡ length bs
  length_grown =
      length_written (written bs (entry_offset n) (all_bytes es)) 0 (header_bytes (n + length es) (q + 1))
      (omega (arith, length_entries_written, length_header (n + length es) (q + 1)))
      ∙ length_entries_written

  pub header_grown : take header_size (grown bs n q es) ≡ header_bytes (n + length es) (q + 1)
  header_grown =
      take_written (written bs (entry_offset n) (all_bytes es)) 0 (header_bytes (n + length es) (q + 1)) header_size
      (omega arith) (omega (arith, length_header (n + length es) (q + 1)))

  pub drop_grown : drop header_size (grown bs n q es) ≡ written (drop header_size bs) (entry_size * n) (all_bytes es)
  drop_grown =
      drop_written (written bs (entry_offset n) (all_bytes es)) 0 (header_bytes (n + length es) (q + 1)) header_size (omega arith) (omega (arith, length_header (n + length es) (q + 1)))
      ∙ drop_before bs header_size (entry_size * n) (all_bytes es) (omega arith)

  -- its entries are those that were there, and then the new ones
  pub entries_grown : AllByRecursion EntryFits es → entries_in (n + length es) (drop header_size (grown bs n q es)) ≡ entries_in n (drop header_size bs) ++ es
  entries_grown fit =
      let l : entry_size * n ≤ length (drop header_size bs) = simp length-drop (omega arith) in
      let v = written (drop header_size bs) (entry_size * n) (all_bytes es) in
      let front : entries_in n v ≡ entries_in n (drop header_size bs) =
      sym (entries_take n v)
      ∙ (ap (entries_in n) (take_before (drop header_size bs) (entry_size * n) (all_bytes es) (entry_size * n) (omega arith) l) ∙ entries_take n (drop header_size bs)) in
      let back : entries_in (length es) (drop (entry_size * n) v) ≡ es =
      ap (entries_in (length es)) (drop_written_at (drop header_size bs) (entry_size * n) (all_bytes es) l) ∙ entries_of_all es _ fit in
      rw (drop_grown, entries_split n (length es) v, front, back)

  -- and up to its free offset it is made of these entries, if it was before
  pub bytes_grown : (old : List Entry) → n ≡ length old → take (entry_offset n) bs ≡ journal_bytes q old → take (entry_offset (n + length es)) (grown bs n q es) ≡ journal_bytes (q + 1) (old ++ es)
  bytes_grown old e held =
      let hd = header_bytes (n + length es) (q + 1) in
      let k : entry_size * n ≤ length (drop header_size bs) = simp length-drop (omega arith) in
      let split : take (entry_offset (n + length es)) (grown bs n q es) ≡ hd ++ take (entry_size * (n + length es)) (drop header_size (grown bs n q es)) =
      take-add header_size (entry_size * (n + length es)) (grown bs n q es)
      ∙ ap (λ x. x ++ take (entry_size * (n + length es)) (drop header_size (grown bs n q es))) header_grown in
      let olds : take (entry_size * n) (drop header_size bs) ≡ all_bytes old =
      sym (drop-take header_size (entry_size * n) bs) ∙ (ap (drop header_size) held ∙ drop_at (header_bytes (length old) q) (all_bytes old) header_size (length_header (length old) q)) in
      let all : take (entry_size * (n + length es)) (drop header_size (grown bs n q es)) ≡ all_bytes (old ++ es) =
      ap (take (entry_size * (n + length es))) drop_grown
      ∙ (take_written (drop header_size bs) (entry_size * n) (all_bytes es) (entry_size * (n + length es)) k (omega (arith, length_all es))
      ∙ (ap (λ x. x ++ all_bytes es) olds ∙ sym (flat_map-append entry_bytes old es))) in
      let c : n + length es ≡ length (old ++ es) = ap (λ x. x + length es) e ∙ sym (length-append old es) in
      split ∙ (ap (λ x. hd ++ x) all ∙ ap (λ m. header_bytes m (q + 1) ++ all_bytes (old ++ es)) c)
