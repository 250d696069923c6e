-- Closing lines into containers.
use Rattle.std.specs.Prelude.{ℕ, ◌+◌, ◌-◌, Bool, false, cond, ◌&&◌, List, [], ◌∷◌, nat_le}
use Rattle.entries.specs.declared.entry.Entry.{Entry}
use Rattle.entries.specs.Keys.{same_line}
use Rattle.session.specs.declared.state.Closing.{Closing}
use Rattle.session.specs.declared.state.Line.{Line}
use Rattle.session.specs.declared.state.Selection.{Selection}
use Rattle.session.specs.declared.state.Selection.TheVariants.{Nothing, Active, One, OpenFor}

-- whether a line closes at t
abbrev pub closes : Selection → ℕ → Line → Bool
closes Nothing t l = false
closes Active t l = l.active
closes (One k) t l = l.active && same_line l.id k
closes (OpenFor n) t l = l.active && nat_le n (t - l.since)

abbrev pub closes_by : Closing → Line → Bool
closes_by c = closes c.chosen c.time

-- the container that a line's open count closes into
abbrev pub container : (cause period number to : ℕ) → Line → Entry
container cause period number to l = record {
  kind = l.id.kind;
  cause = cause;
  period = period;
  number = number;
  from = l.since;
  to = to;
  code = l.id.code;
  uplink = l.uplink;
  downlink = l.downlink;
}

-- the line with nothing open, from t on
abbrev pub restarted : ℕ → Line → Line
restarted t l = record {
  id = l.id;
  active = l.active;
  since = t;
  uplink = record { 0 = 0 };
  downlink = record { 0 = 0 };
  total_uplink = l.total_uplink;
  total_downlink = l.total_downlink;
}

-- of the lines that pass a test: how many they are, the lines once these are closed at t, and their containers, in the
-- order of the lines, numbered from n + 1
abbrev pub closing_count : (Line → Bool) → List Line → ℕ
closing_count p [] = 0
closing_count p (l ∷ ls) = cond (p l) 1 0 + closing_count p ls

abbrev pub closed_lines : (Line → Bool) → ℕ → List Line → List Line
closed_lines p t [] = []
closed_lines p t (l ∷ ls) = cond (p l) (restarted t l) l ∷ closed_lines p t ls

abbrev pub closings : (Line → Bool) → (cause period t n : ℕ) → List Line → List Entry
closings p cause period t n [] = []
closings p cause period t n (l ∷ ls) =
    cond (p l) (container cause period (n + 1) t l ∷ closings p cause period t (n + 1) ls) (closings p cause period t n ls)
