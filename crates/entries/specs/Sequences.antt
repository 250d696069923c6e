-- Sequences of well-formed requests, and the first entry at which entries stop being one.
use Rattle.std.specs.Prelude.{◌≡◌, ℕ, zero, suc, ◌+◌, Bool, true, cond, ◌&&◌, List, [], ◌∷◌, ◌++◌, length, take, Ok, Err, Result, nat_le}
use Rattle.entries.specs.declared.entry.Entry.{Entry}
use Rattle.entries.specs.Entries.{most_containers}
use Rattle.entries.specs.Requests.{container_formed, head_formed, well_formed}

-- the test, entry by entry

-- a head that may begin a request: at most 128 containers, and as many entries are left behind it
abbrev pub begins_request : Entry → (left : ℕ) → Bool
begins_request e left = nat_le e.number most_containers && (nat_le e.number left && head_formed e e.number)

-- whether an entry goes on with a sequence: a container where one is due, else the head of a request
abbrev pub goes_on : (due : ℕ) → Entry → (left : ℕ) → Bool
goes_on zero e left = begins_request e left
goes_on (suc due) e left = container_formed e

-- the containers due behind it, and the requests begun with it
abbrev pub due_after : (due : ℕ) → Entry → ℕ
due_after zero e = e.number
due_after (suc due) e = due

abbrev pub begun_with : (due begun : ℕ) → ℕ
begun_with zero begun = begun + 1
begun_with (suc due) begun = begun

-- the requests of entries from an index on, or the index of the first that does not go on
abbrev pub judge : (index due begun : ℕ) → List Entry → Result ℕ ℕ
judge index due begun [] = Ok begun
judge index due begun (e ∷ es) =
    cond (goes_on due e (length es)) (judge (index + 1) (due_after due e) (begun_with due begun) es) (Err index)

-- how many requests entries are, or the index of the first at which they stop being requests
abbrev pub requests_in : List Entry → Result ℕ ℕ
requests_in es = judge 0 0 0 es

-- what it says

-- entries that are so many well-formed requests, one after the other
pub data Requests : ℕ → List Entry → Type 0 where
  none : Requests 0 []
  more : {q : ℕ} {es : List Entry} (h : Entry) (cs : List Entry) → well_formed h cs ≡ true → Requests q es → Requests (suc q) (h ∷ (cs ++ es))

-- some well-formed requests of n entries in all begin with these
pub record Begins (n : ℕ) (front : List Entry) : Type 0 where
  pub count : ℕ
  pub whole : List Entry
  pub formed : Requests count whole
  pub size : length whole ≡ n
  pub same : take (length front) whole ≡ front

-- the first entry at which entries stop being well-formed requests: with those before it some requests of as many entries
-- begin, and with it none do
pub record StopsAt (index : ℕ) (es : List Entry) : Type 0 where
  pub before : Begins (length es) (take index es)
  pub with_it : Begins (length es) (take (index + 1) es) → ⊥

-- the requests that entries are, or the first entry at which they stop
abbrev pub Judged : List Entry → Result ℕ ℕ → Type 0
Judged es (Ok count) = Requests count es
Judged es (Err index) = StopsAt index es
