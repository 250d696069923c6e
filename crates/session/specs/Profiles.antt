-- Triggers as made, and the overrides of a profile.
use Rattle.std.specs.Prelude.{ℕ, ◌+◌, Bool, true, false, cond, ◌&&◌, ◌||◌, List, [], ◌∷◌, map, Some, None, Option, ◌==◌, nat_le, nat_lt, slice_index_or, slice_set}
use Rattle.std.specs.Bool.{then_some}
use Rattle.std.specs.List.{range_with_len}
use Rattle.entries.specs.declared.method.Rule.{Rule}
use Rattle.entries.specs.declared.taker.Override.{Override}
use Rattle.entries.specs.Columns.{Column}
use Rattle.entries.specs.Entries.{most_octets}
use Rattle.entries.specs.Triggers.{session_time_limit, session_volume_limit, condition_changes, line_time_limit, abort, is_limit}
use Rattle.session.specs.declared.thresholds.Thresholds.{Thresholds}
use Rattle.session.specs.declared.profile.Change.{Change}
use Rattle.session.specs.declared.state.Setting.{Setting}
use Rattle.session.specs.State.{no_setting}

-- triggers as made

-- the threshold of a limit
abbrev pub threshold_of : Thresholds → ℕ → ℕ
threshold_of th n =
    cond (n == session_time_limit) th.session_time (cond (n == session_volume_limit) th.session_volume
    (cond (n == condition_changes) th.changes (cond (n == line_time_limit) th.line_time th.line_volume)))

abbrev pub in_range : Thresholds → Bool
in_range th =
    nat_le th.session_time most_octets && (nat_le th.session_volume most_octets && (nat_le th.changes most_octets
    && (nat_le th.line_time most_octets && nat_le th.line_volume most_octets)))

-- a limit starts enabled where its threshold is above 0, every other trigger of the method starts enabled
abbrev pub setting_made : Option Rule → Thresholds → ℕ → Setting
setting_made None th n = no_setting
setting_made (Some r) th n =
    cond (is_limit n)
    (record { known = true; enabled = nat_lt 0 (threshold_of th n); immediate = r.immediate; threshold = threshold_of th n })
    (record { known = true; enabled = true; immediate = r.immediate; threshold = 0 })

abbrev pub settings_made : Column → Thresholds → List Setting
settings_made column th = map (λ n. setting_made (column n) th n) (range_with_len 0 21)

-- overrides

-- the table permits each part that is not 0; a threshold belongs to a limit
abbrev pub permitted_by : Rule → Override → Bool
permitted_by r o =
    (o.switch == 0 || r.switched)
    && ((o.category == 0 || r.recategorised) && (o.threshold == 0 || is_limit o.trigger))

-- the values are in range
abbrev pub override_in_range : Override → Bool
override_in_range o =
    nat_le o.trigger abort && (nat_le o.switch 2 && (nat_le o.category 2 && nat_le o.threshold most_octets))

-- an override is applied whole, or passed over
abbrev pub permitted : Option Rule → Override → Bool
permitted None o = false
permitted (Some r) o = override_in_range o && permitted_by r o

abbrev pub overridden : Setting → Override → Setting
overridden g o = record {
  known = g.known;
  enabled = cond (o.switch == 0) g.enabled (o.switch == 1);
  immediate = cond (o.category == 0) g.immediate (o.category == 2);
  threshold = cond (o.threshold == 0) g.threshold o.threshold;
}

-- an override as what it changes in a setting
abbrev pub change_of : Override → Change
change_of o = record {
  enabled = then_some (nat_lt 0 o.switch) (o.switch == 1);
  immediate = then_some (nat_lt 0 o.category) (o.category == 2);
  threshold = then_some (nat_lt 0 o.threshold) o.threshold;
}

abbrev pub applied_one : Option Rule → Override → List Setting → List Setting
applied_one r o ts = cond (permitted r o) (slice_set ts o.trigger (overridden (slice_index_or ts o.trigger no_setting) o)) ts

-- later overrides act on what earlier ones left
abbrev pub applied : Column → List Override → List Setting → List Setting
applied column [] ts = ts
applied column (o ∷ os) ts = applied column os (applied_one (column o.trigger) o ts)

abbrev pub applied_count : Column → List Override → ℕ
applied_count column [] = 0
applied_count column (o ∷ os) = cond (permitted (column o.trigger) o) 1 0 + applied_count column os
