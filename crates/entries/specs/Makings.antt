-- Why the making of a book or a journal is refused.
use Rattle.std.specs.Prelude.{◌≡◌, ℕ, cond, ◌||◌, List, length, Some, None, Ok, Err, Option, Result, nat_lt}
use Rattle.entries.specs.declared.profile.Profile.{Profile}
use Rattle.entries.specs.declared.making.Unmade.{Unmade}
use Rattle.entries.specs.declared.taker.Override.{Override}
use Rattle.entries.specs.declared.making.Unmade.TheVariants.{TooManyOverrides, WrongLength}

-- the most overrides of a profile
abbrev pub most_overrides : ℕ
most_overrides = 32

-- the number that a caller meets
abbrev pub unmade_number : Unmade → ℕ
unmade_number TooManyOverrides = 4
unmade_number (WrongLength n) = 11

-- and the place, which is the length of the lent memory
abbrev pub unmade_place : Unmade → Option ℕ
unmade_place TooManyOverrides = None
unmade_place (WrongLength n) = Some n

-- why a charging function with so many overrides over so many places of lent memory is not made, where it needs so many at
-- least and may have so many at most; the profile is looked at first
abbrev pub unmade : (overrides length fewest most : ℕ) → Option Unmade
unmade overrides length fewest most =
    cond (nat_lt most_overrides overrides) (Some TooManyOverrides)
    (cond (nat_lt length fewest || nat_lt most length) (Some (WrongLength length)) None)

-- the profile that is lent where nothing stands against it
abbrev pub Lent : List Override → (length fewest most : ℕ) → Result Profile Unmade → Type 0
Lent profile n fewest most (Ok p) = (unmade (length profile) n fewest most ≡ None) × (p ≡ profile)
Lent profile n fewest most (Err why) = unmade (length profile) n fewest most ≡ Some why
