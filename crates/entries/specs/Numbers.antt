-- The numbers of kinds of entries, of triggers, and of the parts of an override.
use Rattle.std.specs.Prelude.{◌≡◌, ℕ, ◌<◌, false, Result, MatchResult}
use Rattle.entries.specs.declared.entry.Kind.{Kind}
use Rattle.entries.specs.declared.entry.Kind.TheVariants.{Initial, Update, Termination, ServiceLine, QosLine}
use Rattle.entries.specs.declared.profile.Switch.{Switch}
use Rattle.entries.specs.declared.profile.Switch.TheVariants.{Leave, Enable, Disable}
use Rattle.entries.specs.declared.profile.Category.{Category}
use Rattle.entries.specs.declared.profile.Category.TheVariants.{Leave as Keep, Deferred, Immediate}
use Rattle.entries.specs.declared.number.UnknownNumber.{UnknownNumber}
use Rattle.entries.specs.declared.trigger.Trigger.{Trigger}
use Rattle.entries.specs.declared.trigger.Trigger.TheVariants.{Qos, GfbrStatus, UserLocation, ServingNode, PresenceArea, PsDataOff, TariffTime, TimeZone, Plmn, RatType, SessionAmbr}
use Rattle.entries.specs.declared.trigger.Trigger.TheVariants.{SessionTime, SessionVolume, ConditionChanges, LineTime, LineVolume, LineEnd, Intervention, SessionEnd, Abort}
use Rattle.entries.specs.Entries.{initial, update, termination, service_line, qos_line}
use Rattle.entries.specs.Triggers.{qos, gfbr_status, user_location, serving_node, presence_area, ps_data_off, tariff_time, time_zone, plmn, rat_type, session_ambr, session_time_limit, session_volume_limit, condition_changes}
use Rattle.entries.specs.Triggers.{line_time_limit, line_volume_limit, line_end, intervention, session_end, abort, between}

abbrev pub kind_number : Kind → ℕ
kind_number Initial = initial
kind_number Update = update
kind_number Termination = termination
kind_number ServiceLine = service_line
kind_number QosLine = qos_line

-- the kind of that number, or that no kind has it
abbrev pub IsKindOf : ℕ → Result Kind UnknownNumber → Type 0
IsKindOf n r = MatchResult r (λ k. kind_number k ≡ n) (λ e. between initial qos_line n ≡ false)

abbrev pub trigger_number : Trigger → ℕ
trigger_number Qos = qos
trigger_number GfbrStatus = gfbr_status
trigger_number UserLocation = user_location
trigger_number ServingNode = serving_node
trigger_number PresenceArea = presence_area
trigger_number PsDataOff = ps_data_off
trigger_number TariffTime = tariff_time
trigger_number TimeZone = time_zone
trigger_number Plmn = plmn
trigger_number RatType = rat_type
trigger_number SessionAmbr = session_ambr
trigger_number SessionTime = session_time_limit
trigger_number SessionVolume = session_volume_limit
trigger_number ConditionChanges = condition_changes
trigger_number LineTime = line_time_limit
trigger_number LineVolume = line_volume_limit
trigger_number LineEnd = line_end
trigger_number Intervention = intervention
trigger_number SessionEnd = session_end
trigger_number Abort = abort

-- the trigger of that number, or that no trigger has it
abbrev pub IsTriggerOf : ℕ → Result Trigger UnknownNumber → Type 0
IsTriggerOf n r = MatchResult r (λ t. trigger_number t ≡ n) (λ e. between qos abort n ≡ false)

abbrev pub switch_number : Switch → ℕ
switch_number Leave = 0
switch_number Enable = 1
switch_number Disable = 2

abbrev pub category_number : Category → ℕ
category_number Keep = 0
category_number Deferred = 1
category_number Immediate = 2

-- the part of an override of that number, or that none has it
abbrev pub IsSwitchOf : ℕ → Result Switch UnknownNumber → Type 0
IsSwitchOf n r = MatchResult r (λ s. switch_number s ≡ n) (λ e. 2 < n)

abbrev pub IsCategoryOf : ℕ → Result Category UnknownNumber → Type 0
IsCategoryOf n r = MatchResult r (λ c. category_number c ≡ n) (λ e. 2 < n)
