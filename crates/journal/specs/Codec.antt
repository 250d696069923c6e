-- Numbers in a row as bytes, high byte first.
use Rattle.std.specs.Prelude.{ℕ, zero, suc, ◌+◌, ◌*◌, ◌/◌, ◌%◌, ◌^◌, ◌<◌, List, [], ◌∷◌, ◌++◌, length, take, drop}

-- n in k bytes
unfoldable pub be : ℕ → ℕ → List ℕ
be zero n = []
be (suc k) n = (n / 256 ^ k % 256) ∷ be k n

-- the number that bytes write
unfoldable pub value : List ℕ → ℕ
value [] = 0
value (b ∷ bs) = b * 256 ^ length bs + value bs

-- numbers in a row, each in its width, and back
abbrev pub pack : (widths : List ℕ) → List ℕ → List ℕ
pack [] vs = []
pack (w ∷ ws) [] = []
pack (w ∷ ws) (v ∷ vs) = be w v ++ pack ws vs

abbrev pub unpack : (widths : List ℕ) → List ℕ → List ℕ
unpack [] bs = []
unpack (w ∷ ws) bs = value (take w bs) ∷ unpack ws (drop w bs)

-- each number fits its width
abbrev pub Fit : (widths : List ℕ) → List ℕ → Type 0
Fit [] [] = Unit {0}
Fit [] (v ∷ vs) = ⊥
Fit (w ∷ ws) [] = ⊥
Fit (w ∷ ws) (v ∷ vs) = (v < 256 ^ w) × Fit ws vs

-- the bytes of all widths
abbrev pub total : (widths : List ℕ) → ℕ
total [] = 0
total (w ∷ ws) = w + total ws

-- where the number of an index begins
abbrev pub place_of : (index : ℕ) (widths : List ℕ) → ℕ
place_of i ws = total (take i ws)
