-- The numbers of the triggers.
use Rattle.std.specs.Prelude.{ℕ, Bool, ◌&&◌, nat_le}

abbrev pub qos : ℕ
qos = 1

abbrev pub gfbr_status : ℕ
gfbr_status = 2

abbrev pub user_location : ℕ
user_location = 3

abbrev pub serving_node : ℕ
serving_node = 4

abbrev pub presence_area : ℕ
presence_area = 5

abbrev pub ps_data_off : ℕ
ps_data_off = 6

abbrev pub tariff_time : ℕ
tariff_time = 7

abbrev pub time_zone : ℕ
time_zone = 8

abbrev pub plmn : ℕ
plmn = 9

abbrev pub rat_type : ℕ
rat_type = 10

abbrev pub session_ambr : ℕ
session_ambr = 11

abbrev pub session_time_limit : ℕ
session_time_limit = 12

abbrev pub session_volume_limit : ℕ
session_volume_limit = 13

abbrev pub condition_changes : ℕ
condition_changes = 14

abbrev pub line_time_limit : ℕ
line_time_limit = 15

abbrev pub line_volume_limit : ℕ
line_volume_limit = 16

abbrev pub line_end : ℕ
line_end = 17

abbrev pub intervention : ℕ
intervention = 18

abbrev pub session_end : ℕ
session_end = 19

abbrev pub abort : ℕ
abort = 20

abbrev pub between : ℕ → ℕ → ℕ → Bool
between first last n = nat_le first n && nat_le n last

-- the triggers of a change of conditions
abbrev pub is_condition : ℕ → Bool
is_condition n = between qos session_ambr n

-- the triggers that have a threshold
abbrev pub is_limit : ℕ → Bool
is_limit n = between session_time_limit line_volume_limit n
