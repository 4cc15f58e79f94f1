-- The parameters of connect and accept (ISO 8327-1, CONNECT and ACCEPT SPDU): 5 the connect/accept
-- item, a group with 22 the version; 20 the user requirements; 52 the called selector;
-- 193 the user data; 194 the extended user data.
use Rattle.std.specs.Prelude.{◌≡◌, ℕ, ◌/◌, ◌%◌, ◌≤◌, Bool, true, false, not, ◌&&◌, ◌||◌, List}
use Rattle.std.specs.Prelude.{length, slice_index, Option, Some, None, is_some, Result, Ok, ◌⊎◌}
use Rattle.std.specs.Prelude.{nat_le, ◌==◌, if◌then◌else◌}
use Rattle.ber_values.specs.declared.fault.BerFault.{BerFault}
use Rattle.ber_values.specs.declared.fault.Span.{Span}
use Rattle.ber_values.specs.Leaves.{span_at, selector_of}
use Rattle.session_profile.specs.Parameters.{Parameter, found, ParameterContentsFault, judged_by}
use Rattle.session_profile.specs.Rules.{Rules, SpellsAll, FaultAmong, all_parameters_in}

-- the bit whose value is two: version 2, or duplex
abbrev pub has_second_bit : ℕ → Bool
has_second_bit octet = octet / 2 % 2 == 1

-- ---- the connect/accept item

-- a version is one octet with the bit of version 2
abbrev pub IsVersion : Parameter → Type 0
IsVersion p = (length p.contents ≡ 1) × (has_second_bit (slice_index p.contents 0) ≡ true)

abbrev pub VersionFault : Parameter → BerFault → Type 0
VersionFault p = ParameterContentsFault (length p.contents ≡ 1)
    (has_second_bit (slice_index p.contents 0) ≡ false) p

abbrev pub version_in : Parameter → Result (Unit {0}) BerFault
version_in p = judged_by (length p.contents == 1) (has_second_bit (slice_index p.contents 0)) p

-- there is a version, each version is sound, and all else is skipped
unfoldable pub item : Rules Bool (Unit {0})
item = record {
  seen = λ ps. is_some (found 22 ps);
  may_follow = λ s identifier. true;
  value = λ s. if s then Some tt else None;
  is_sound = λ p. p.identifier ≡ 22 → IsVersion p;
  breaks = λ p f. (p.identifier ≡ 22) × VersionFault p f;
  with_one = λ s p. s || p.identifier == 22;
  judged = λ p. if p.identifier == 22 then version_in p else Ok tt;
}

-- ---- connect and accept

-- what they are: the called selector, where there is one, and where the user data stand
pub record Connection : Type 0 where
  pub called : Option (List ℕ)
  pub body : Span

-- what counts of parameters that came
pub record Seen : Type 0 where
  pub item : Bool
  pub requirements : Bool
  pub called : Option (List ℕ)
  pub user_data : Option Span

abbrev pub parameter_contents : Option Parameter → Option (List ℕ)
parameter_contents None = None
parameter_contents (Some p) = Some p.contents

abbrev pub span_of : Option Parameter → Option Span
span_of None = None
span_of (Some p) = Some (span_at p.body p.contents)

abbrev pub seen_in : List Parameter → Seen
seen_in ps = record {
  item = is_some (found 5 ps);
  requirements = is_some (found 20 ps);
  called = parameter_contents (found 52 ps);
  user_data = span_of (found 193 ps);
}

-- one of the four that stand once at most, and it came before
abbrev pub is_parameter_twice : Seen → ℕ → Bool
is_parameter_twice s identifier = identifier == 5 && s.item || identifier == 20 && s.requirements
    || identifier == 52 && is_some s.called || identifier == 193 && is_some s.user_data

-- none of the four twice, and no extended user data
abbrev pub may_follow : Seen → ℕ → Bool
may_follow s identifier = not (is_parameter_twice s identifier) && not (identifier == 194)

-- an empty selector is none
abbrev pub called_of : Option (List ℕ) → Option (List ℕ)
called_of None = None
called_of (Some octets) = selector_of octets

-- the item and the user data are there
abbrev pub connection_of : Bool → Option (List ℕ) → Option Span → Option Connection
connection_of true called (Some body) = Some (record { called = called_of called; body = body })
connection_of _ called _ = None

-- two octets with the bit of duplex
abbrev pub IsRequirements : Parameter → Type 0
IsRequirements p = (length p.contents ≡ 2) × (has_second_bit (slice_index p.contents 1) ≡ true)

abbrev pub RequirementsFault : Parameter → BerFault → Type 0
RequirementsFault p = ParameterContentsFault (length p.contents ≡ 2)
    (has_second_bit (slice_index p.contents 1) ≡ false) p

abbrev pub requirements_in : Parameter → Result (Unit {0}) BerFault
requirements_in p = judged_by (length p.contents == 2) (has_second_bit (slice_index p.contents 1)) p

-- the rules of contents, each for its identifier
pub record IsSoundParameter (p : Parameter) : Type 0 where
  pub item_kept : p.identifier ≡ 5 → SpellsAll item p.body tt p.contents
  pub requirements_kept : p.identifier ≡ 20 → IsRequirements p
  pub called_kept : p.identifier ≡ 52 → length p.contents ≤ 32

abbrev pub BreaksItsRule : Parameter → BerFault → Type 0
BreaksItsRule p f = ((p.identifier ≡ 5) × FaultAmong item p.body p.contents f)
    ⊎ (((p.identifier ≡ 20) × RequirementsFault p f)
    ⊎ ((p.identifier ≡ 52) × ParameterContentsFault (length p.contents ≤ 32) ⊥ p f))

abbrev pub judged : Parameter → Result (Unit {0}) BerFault
judged p = if p.identifier == 5 then all_parameters_in item p.body p.contents
    else (if p.identifier == 20 then requirements_in p
    else (if p.identifier == 52 then judged_by (nat_le (length p.contents) 32) true p else Ok tt))

abbrev pub with_one : Seen → Parameter → Seen
with_one s p = record {
  item = s.item || p.identifier == 5;
  requirements = s.requirements || p.identifier == 20;
  called = if p.identifier == 52 then Some p.contents else s.called;
  user_data = if p.identifier == 193 then Some (span_at p.body p.contents) else s.user_data;
}

unfoldable pub connection : Rules Seen Connection
connection = record {
  seen = seen_in;
  may_follow = may_follow;
  value = λ s. connection_of s.item s.called s.user_data;
  is_sound = IsSoundParameter;
  breaks = BreaksItsRule;
  with_one = with_one;
  judged = judged;
}
