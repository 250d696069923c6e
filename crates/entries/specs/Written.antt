-- Writing a run of elements into a list from a place on.
use Rattle.std.specs.Prelude.{ℕ, ◌+◌, List, ◌++◌, length, take, drop}

-- the list xs with ys from the place at on
unfoldable pub written : {X : Type 0} → List X → (at : ℕ) → List X → List X
written xs at ys = take at xs ++ (ys ++ drop (at + length ys) xs)
