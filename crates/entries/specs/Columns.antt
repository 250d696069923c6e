-- The trigger table: for each method and trigger, the category it begins with and what a charging function may override.
use Rattle.std.specs.Prelude.{◌≡◌, ℕ, Bool, true, false, cond, ◌||◌, Some, None, Option, ◌==◌}
use Rattle.entries.specs.declared.method.Rule.{Rule}
use Rattle.entries.specs.Triggers.{qos, presence_area, ps_data_off, tariff_time, time_zone, session_ambr, session_time_limit, condition_changes, line_time_limit, line_volume_limit}
use Rattle.entries.specs.Triggers.{line_end, intervention, abort, between}

-- a method's column: none where it lacks the trigger
abbrev pub Column : Type 0
Column = ℕ → Option Rule

-- the tariff time, where the method has it, can be neither recategorised nor switched
abbrev pub TariffFixed : Column → Type 0
TariffFixed column = (r : Rule) → column tariff_time ≡ Some r → (r.recategorised ≡ false) × (r.switched ≡ false)

abbrev pub rule : (immediate recategorised switched : Bool) → Rule
rule immediate recategorised switched = record { immediate = immediate; recategorised = recategorised; switched = switched }

-- the table, with what differs between the methods: the rules of the presence reporting area, of the changes of time zone,
-- PLMN, RAT type and Session-AMBR, and of the end of a line
abbrev pub table : (area : Option Rule) (moved ended : Rule) → Column
table area moved ended n =
    cond (n == presence_area) area
    (cond (between qos ps_data_off n || between line_time_limit line_volume_limit n) (Some (rule false true true))
    (cond (n == tariff_time) (Some (rule false false false))
    (cond (between time_zone session_ambr n) (Some moved)
    (cond (between session_time_limit condition_changes n) (Some (rule true false true))
    (cond (n == line_end) (Some ended)
    (cond (between intervention abort n) (Some (rule true false false)) None))))))

abbrev pub converged : Column
converged = table (Some (rule false true true)) (rule true true true) (rule true false false)

abbrev pub offline_only : Column
offline_only = table (Some (rule false true true)) (rule false true true) (rule true false false)

abbrev pub qos_flow : Column
qos_flow = table None (rule true true true) (rule false true true)
