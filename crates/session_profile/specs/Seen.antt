-- What the code holds, without where it lies in memory.
use Rattle.std.specs.Prelude.{◌≡◌, ℕ, ◌+◌, ◌≤◌, List, length, Option, Some, None, option_copied}
use Rattle.ber_values.specs.declared.fault.Span.{Span}
use Rattle.ber_values.specs.Externals.{IsSpanWithin}
use Rattle.session_profile.specs.declared.spdu.Spdu.{Spdu}
use Rattle.session_profile.specs.declared.spdu.Spdu.TheVariants as spdus
use Rattle.ber_values.specs.declared.fault.BerFault.{BerFault}
use Rattle.session_profile.specs.declared.fault.SessionFault.{SessionFault}
use Rattle.ber_values.specs.Faults.{fault_at}
use Rattle.ber_values.specs.Reading.{Taken}
use Rattle.ber_values.specs.Grammars.{taken}
use Rattle.session_profile.specs.declared.parameter.Parameter as held
use Rattle.session_profile.specs.declared.connection.Seen as held_seen
use Rattle.session_profile.specs.declared.connection.Connection as held_connection
use Rattle.session_profile.specs.Parameters.{Parameter}
use Rattle.session_profile.specs.Connections.{Seen, Connection, called_of}

abbrev pub parameter_of : held.Parameter → Parameter
parameter_of p = record {
  identifier = p.identifier;
  place = p.place;
  body = p.body;
  contents = p.contents.now;
}

abbrev pub taken_parameter_of : held.Parameter → Taken Parameter
taken_parameter_of p = taken (parameter_of p) p.next p.rest.now

-- the places of a parameter that stood at the front of octets
pub record IsParameterWithin (at : ℕ) (octets : List ℕ) (p : held.Parameter) : Type 0 where
  pub place : p.place ≡ at
  pub after_length : at + 2 ≤ p.body
  pub next : p.next ≡ p.body + length p.contents.now
  pub rest : p.next + length p.rest.now ≡ at + length octets

abbrev pub seen_of : held_seen.Seen → Seen
seen_of s = record {
  item = s.item;
  requirements = s.requirements;
  called = option_copied s.called;
  user_data = s.user_data;
}

abbrev pub connection_seen : held_connection.Connection → Connection
connection_seen c = record { called = called_of (option_copied c.called); body = c.body }

-- a fault by the words of the crate below
abbrev pub ber_fault_of : SessionFault → BerFault
ber_fault_of f = fault_at f.place f.why

-- and back
abbrev pub session_fault_of : BerFault → SessionFault
session_fault_of f = record { place = f.place; why = f.why }

-- octets, if there are any, stand between two places
abbrev pub IsOptionalSpanWithin : ℕ → ℕ → Option Span → Type 0
IsOptionalSpanWithin at end None = Unit {0}
IsOptionalSpanWithin at end (Some span) = IsSpanWithin at end span

-- the body of an SPDU, if it has one, stands in a TSDU of so many octets
abbrev pub IsSpduBodyWithin : ℕ → Spdu → Type 0
IsSpduBodyWithin end (spdus.Connect called body) = IsSpanWithin 0 end body
IsSpduBodyWithin end (spdus.Accept called body) = IsSpanWithin 0 end body
IsSpduBodyWithin end (spdus.Carry body) = IsSpanWithin 0 end body
IsSpduBodyWithin end _ = Unit {0}
