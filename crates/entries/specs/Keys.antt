-- Line keys, and the entry kind and code that stand for them in containers.
use Rattle.std.specs.Prelude.{◌≡◌, ℕ, ◌+◌, ◌*◌, ◌≤◌, Bool, true, cond, ◌&&◌, Some, None, Option, ◌==◌, nat_le}
use Rattle.entries.specs.declared.key.LineId.{LineId}
use Rattle.entries.specs.declared.key.ServiceKey.{ServiceKey}
use Rattle.entries.specs.declared.key.Qfi.{Qfi}
use Rattle.entries.specs.Entries.{service_line, qos_line}

abbrev pub line_id : (kind code : ℕ) → LineId
line_id kind code = record { kind = kind; code = code }

abbrev pub same_line : LineId → LineId → Bool
same_line a b = a.kind == b.kind && a.code == b.code

-- a kind of keys: which are in range, and the line that each stands for
pub record Coding (K : Type 0) : Type 0 where
  pub ranged : K → Bool
  pub line : K → LineId

-- the law of a kind of keys: no two keys in range have one entry kind and one code
abbrev pub Distinct : {K : Type 0} → Coding K → Type 0
Distinct {K} x = (a b : K) → x.ranged a ≡ true → x.ranged b ≡ true → x.line a ≡ x.line b → a ≡ b

-- the lines of keys in range have an entry kind of containers
abbrev pub OfLines : {K : Type 0} → Coding K → Type 0
OfLines {K} x = (k : K) → x.ranged k ≡ true → (service_line ≤ (x.line k).kind) × ((x.line k).kind ≤ qos_line)

-- the line that a key names: none where the key is out of range
abbrev pub named : {K : Type 0} → Coding K → K → Option LineId
named x k = cond (x.ranged k) (Some (x.line k)) None

-- rating groups and service ids

abbrev pub largest_group : ℕ
largest_group = 65535

abbrev pub id_in_range : Option ℕ → Bool
id_in_range None = true
id_in_range (Some i) = nat_le i largest_group

-- 0 without a service id, else one more than it
abbrev pub id_part : Option ℕ → ℕ
id_part None = 0
id_part (Some i) = i + 1

-- the keys of flow based charging
abbrev pub services : Coding ServiceKey
services = record {
  ranged = λ k. nat_le k.rating_group largest_group && id_in_range k.service_id;
  line = λ k. line_id service_line (k.rating_group * 131072 + id_part k.service_id);
}

-- the keys of QoS flow based charging
abbrev pub flows : Coding Qfi
flows = record { ranged = λ k. nat_le 1 k.0 && nat_le k.0 63; line = λ k. line_id qos_line k.0 }
