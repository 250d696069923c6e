-- Numbers in a row as bytes: written, read back, and written again.
use Rattle.std.proofs.Common.{◌≡◌, ℕ, zero, suc, ◌+◌, ◌*◌, ◌/◌, ◌%◌, ◌^◌, ◌<◌, ◌≤◌, List, [], ◌∷◌, ◌++◌, length, take, drop, sym, refl, ap, ◌∙◌, append_assoc, mod-eq_of_lt, mul_assoc, add_comm, div-one, arith, length-take, slice_index, drop-cons, ◌-◌}
use native.Mathlib.Nat.{mod-one, one-le-pow, pow-succ', add-mul-div_right, add-mul-mod_self_right}
use lib.Arith.{mod-mul, digits_lt, digits_div}
use Rattle.std.specs.List.{AllByRecursion}
use Rattle.std.specs.Int.{bytes_high_first, byte_worth, sum_through}
use Rattle.std.proofs.Math.Nat.{mul-one}
use Rattle.std.proofs.ByRecursion.{All-take, All-drop}
use Rattle.std.proofs.lemmas.List.{take_at, drop_at, take-append-drop, length-take-le, length-drop, nil_from_length, drop-drop, take-take, drop-take}
use Rattle.entries.specs.Written.{written}
use Rattle.entries.proofs.WrittenLaws.{written_none, written_next, length_written}
use Rattle.journal.specs.Codec.{be, value, pack, unpack, Fit, total}

pos : (k : ℕ) → zero < 256 ^ k
pos k = one-le-pow k 256 (omega arith)

pub length_be : (k n : ℕ) → length (be k n) ≡ k
unfolding be
length_be zero n = refl
length_be (suc k) n = ap suc (length_be k n)

pub value_be_mod : (k n : ℕ) → value (be k n) ≡ n % 256 ^ k
unfolding be value
value_be_mod zero n = sym (mod-one n)
value_be_mod (suc k) n =
    rw (length_be k n, value_be_mod k n, pow-succ') (sym (mod-mul n {m = 256} {c = 256 ^ k} (omega arith) (pos k)))

-- a number that fits its bytes is read back
pub value_be : (k n : ℕ) → n < 256 ^ k → value (be k n) ≡ n
value_be k n h = value_be_mod k n ∙ mod-eq_of_lt h

pub value_lt : (bs : List ℕ) → AllByRecursion (λ b. b < 256) bs → value bs < 256 ^ length bs
unfolding value
value_lt [] h = omega arith
value_lt (b ∷ bs) h = rw pow-succ' (digits_lt h.0 (value_lt bs h.1))

-- what lies above k bytes does not show in them
be_add : (k m q : ℕ) → be k (m + q * 256 ^ k) ≡ be k m
unfolding be
be_add zero m q = refl
be_add (suc k) m q =
    let e : m + q * 256 ^ suc k ≡ m + q * 256 * 256 ^ k = ap (λ x. m + x) (ap (λ x. q * x) (pow-succ' 256 k) ∙ sym (mul_assoc q 256 (256 ^ k))) in
    let d = add-mul-div_right m (q * 256) (pos k) in
    rw (e, be_add k m (q * 256), d) (ap (λ x. x ∷ be k m) (add-mul-mod_self_right (m / 256 ^ k) q 256))

-- bytes are those of the number that they write
pub be_value : (bs : List ℕ) → AllByRecursion (λ b. b < 256) bs → be (length bs) (value bs) ≡ bs
unfolding be value
be_value [] h = refl
be_value (b ∷ bs) h =
    let lt = value_lt bs h.1 in
    let a = digits_div b lt in
    let t = ap (be (length bs)) (add_comm (b * 256 ^ length bs) (value bs)) ∙ (be_add (length bs) (value bs) b ∙ be_value bs h.1) in
    rw (a, t) (ap (λ x. x ∷ bs) (mod-eq_of_lt h.0))

pub unpack_pack : (ws vs more : List ℕ) → Fit ws vs → unpack ws (pack ws vs ++ more) ≡ vs
unpack_pack [] [] more h = refl
unpack_pack [] (v ∷ vs) more h = absurd h
unpack_pack (w ∷ ws) [] more h = absurd h
unpack_pack (w ∷ ws) (v ∷ vs) more h =
    let l = length_be w v in
    rw (append_assoc, take_at (be w v) (pack ws vs ++ more) w l, drop_at (be w v) (pack ws vs ++ more) w l, value_be w v h.0)
    (ap (λ x. v ∷ x) (unpack_pack ws vs more h.1))

-- the bytes that `to_be_bytes` writes in any width
be_high_first : (k n : ℕ) → bytes_high_first k n ≡ be k n
unfolding be
be_high_first zero n = refl
be_high_first (suc zero) n = rw div-one
be_high_first (suc (suc k)) n = ap (λ x. n / 256 ^ suc k % 256 ∷ x) (be_high_first (suc k) n)

-- the number that `from_be_bytes` reads in any width
abbrev pub high_first : ℕ → List ℕ → ℕ
high_first zero bs = 0
high_first (suc k) bs = sum_through (λ i. byte_worth (k - i) (slice_index bs i)) k

worth : (i b : ℕ) → byte_worth i b ≡ b * 256 ^ i
worth zero b = sym (mul-one b)
worth (suc i) b = refl

-- its first bytes, and the rest of them
value_at : (k j : ℕ) (bs : List ℕ) → length bs ≡ suc k → j ≤ k → value (drop j bs) ≡ byte_worth (k - j) (slice_index bs j) + value (drop (suc j) bs)
unfolding value
value_at k j bs e h =
    let l : length (drop (suc j) bs) ≡ k - j = simp length-drop (omega arith) in
    rw (drop-cons bs j 0 (omega arith), l, worth)

value_through : (k j : ℕ) (bs : List ℕ) → length bs ≡ suc k → j ≤ k
    → sum_through (λ i. byte_worth (k - i) (slice_index bs i)) j + value (drop (suc j) bs) ≡ value bs
value_through k zero bs e h = sym (value_at k 0 bs e h)
value_through k (suc j) bs e h = omega (arith, value_at k (suc j) bs e h, value_through k j bs e (omega arith))

value_high_first : (w : ℕ) (bs : List ℕ) → length bs ≡ w → value bs ≡ high_first w bs
unfolding value
value_high_first zero bs e = let z : bs ≡ [] = nil_from_length bs e in rw z
value_high_first (suc k) bs e =
    let d : drop (suc k) bs ≡ [] = nil_from_length _ (simp length-drop (omega arith)) in
    let r : value (drop (suc k) bs) ≡ 0 = rw d in
    omega (arith, value_through k k bs e (omega arith), r)

-- numbers written one after the other, from the place at on
abbrev pub writes : ℕ → List ℕ → List ℕ → List ℕ → List ℕ
writes at [] vs t = t
writes at (w ∷ ws) [] t = t
writes at (w ∷ ws) (v ∷ vs) t = writes (at + w) ws vs (written t at (bytes_high_first w v))

pub writes_pack : (at : ℕ) (ws vs t : List ℕ) → at + total ws ≤ length t → writes at ws vs t ≡ written t at (pack ws vs)
writes_pack at [] vs t h = sym (written_none t at)
writes_pack at (w ∷ ws) [] t h = sym (written_none t at)
writes_pack at (w ∷ ws) (v ∷ vs) t h =
    let l = length_be w v in
    let f : at + length (be w v) ≤ length t = omega (arith, l) in
    let g : (at + w) + total ws ≤ length (written t at (be w v)) = omega (arith, length_written t at (be w v) f) in
    rw (be_high_first w v) (writes_pack (at + w) ws vs (written t at (be w v)) g)
    ∙ written_next t at (be w v) (pack ws vs) (at + w) (omega arith) (omega (arith, l))

-- numbers read one after the other, from the place at on
abbrev pub words : ℕ → List ℕ → List ℕ → List ℕ
words at [] bs = []
words at (w ∷ ws) bs = value (take w (drop at bs)) ∷ words (at + w) ws bs

pub unpack_words : (at : ℕ) (ws bs : List ℕ) → unpack ws (drop at bs) ≡ words at ws bs
unpack_words at [] bs = refl
unpack_words at (w ∷ ws) bs = rw (drop-drop w at bs) (ap (λ x. value (take w (drop at bs)) ∷ x) (unpack_words (at + w) ws bs))

-- the same as `from_be_bytes` reads them
abbrev pub reads : ℕ → List ℕ → List ℕ → List ℕ
reads at [] bs = []
reads at (w ∷ ws) bs = high_first w (take w (drop at bs)) ∷ reads (at + w) ws bs

pub words_read : (at : ℕ) (ws bs : List ℕ) → at + total ws ≤ length bs → words at ws bs ≡ reads at ws bs
words_read at [] bs h = refl
words_read at (w ∷ ws) bs h =
    let l : length (take w (drop at bs)) ≡ w = simp (length-take, length-drop) (omega arith) in
    rw (value_high_first w (take w (drop at bs)) l, words_read (at + w) ws bs (omega arith))

-- numbers are read from their own bytes alone
pub unpack_take : (ws bs : List ℕ) → unpack ws (take (total ws) bs) ≡ unpack ws bs
unpack_take [] bs = refl
unpack_take (w ∷ ws) bs =
    let h : w ≤ w + total ws = omega arith in
    rw (take-take w (w + total ws) bs h, drop-take w (total ws) bs) (ap (λ x. value (take w bs) ∷ x) (unpack_take ws (drop w bs)))

-- bytes are below 256
abbrev pub Bytes : List ℕ → Type 0
Bytes bs = AllByRecursion (λ b. b < 256) bs

-- the numbers that bytes write, written again
pub pack_unpack : (ws bs : List ℕ) → Bytes bs → length bs ≡ total ws → pack ws (unpack ws bs) ≡ bs
pack_unpack [] bs h l = sym (nil_from_length bs l)
pack_unpack (w ∷ ws) bs h l =
    let k : length (take w bs) ≡ w = length-take-le w bs (omega arith) in
    let m : length (drop w bs) ≡ total ws = simp length-drop (omega arith) in
    let b : be w (value (take w bs)) ≡ take w bs = ap (λ n. be n (value (take w bs))) (sym k) ∙ be_value (take w bs) (All-take _ w bs h) in
    rw (b, pack_unpack ws (drop w bs) (All-drop _ w bs h) m) (take-append-drop w bs)
