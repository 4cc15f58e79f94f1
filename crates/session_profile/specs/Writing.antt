-- The written form of an SPDU: the shortest lengths, and the parameters in the order of the
-- standard's tables.
use Rattle.std.specs.Prelude.{ℕ, ◌+◌, ◌/◌, ◌%◌, List, [], ◌∷◌, ◌++◌, length, Option, Some}
use Rattle.std.specs.Prelude.{None, nat_lt, if◌then◌else◌}
use Rattle.ber_values.specs.declared.fault.Span.{Span}
use Rattle.ber_values.specs.Writing.{last_span}
use Rattle.tpkt_cotp.specs.Selectors.{HasSelector}
use Rattle.session_profile.specs.declared.spdu.Spdu.{Spdu}
use Rattle.session_profile.specs.declared.spdu.Spdu.TheVariants.{Connect, Accept, Refuse, Carry}
use Rattle.session_profile.specs.declared.spdu.Spdu.TheVariants.{Finish, Disconnect, Abort}
use Rattle.session_profile.specs.declared.spdu.Spdu.TheVariants.{AbortAccept}

-- the shortest length
unfoldable pub session_length_octets : ℕ → List ℕ
session_length_octets n = if nat_lt n 255 then n ∷ [] else 255 ∷ n / 256 ∷ n % 256 ∷ []

-- an identifier or a code, the length of its contents, and these
abbrev pub element : ℕ → List ℕ → List ℕ
element identifier contents = identifier ∷ (session_length_octets (length contents) ++ contents)

-- the item with protocol options and version 2, then the user requirements
abbrev pub front : List ℕ
front = 5 ∷ 6 ∷ 19 ∷ 1 ∷ 0 ∷ 22 ∷ 1 ∷ 2 ∷ 20 ∷ 2 ∷ 0 ∷ 2 ∷ []

-- the calling selector 00 01
abbrev pub calling : List ℕ
calling = 51 ∷ 2 ∷ 0 ∷ 1 ∷ []

abbrev pub called_octets : Option (List ℕ) → List ℕ
called_octets None = []
called_octets (Some selector) = element 52 selector

abbrev pub user_data_octets : List ℕ → List ℕ
user_data_octets body = element 193 body

abbrev pub called_and_data : Option (List ℕ) → List ℕ → List ℕ
called_and_data called body = called_octets called ++ user_data_octets body

-- the code, the length and the front of a connect or an accept, which so many octets follow
abbrev pub spdu_front_octets : ℕ → ℕ → List ℕ
spdu_front_octets code len = code ∷ (session_length_octets (12 + len) ++ front)

abbrev pub connect_spdu_octets : Option (List ℕ) → List ℕ → List ℕ
connect_spdu_octets called body = element 13 (front ++ (calling ++ called_and_data called body))

abbrev pub accept_spdu_octets : Option (List ℕ) → List ℕ → List ℕ
accept_spdu_octets called body = element 14 (front ++ called_and_data called body)

-- the reason: refused by the user, whose data follow
abbrev pub refuse_octets : List ℕ → List ℕ
refuse_octets body = element 12 (element 50 (2 ∷ body))

abbrev pub release_spdu_octets : ℕ → List ℕ → List ℕ
release_spdu_octets code body = element code (user_data_octets body)

-- the transport connection is released
abbrev pub released_user_data : List ℕ → List ℕ
released_user_data body = 17 ∷ 1 ∷ 11 ∷ user_data_octets body

abbrev pub abort_octets : List ℕ → List ℕ
abort_octets body = element 25 (released_user_data body)

abbrev pub carry_octets : List ℕ → List ℕ
carry_octets body = 1 ∷ 0 ∷ 1 ∷ 0 ∷ body

-- an abort accept isn't written
abbrev pub written_form : Spdu → List ℕ → List ℕ
written_form (Connect called _) body = connect_spdu_octets called body
written_form (Accept called _) body = accept_spdu_octets called body
written_form Refuse body = refuse_octets body
written_form (Carry _) body = carry_octets body
written_form Finish body = release_spdu_octets 9 body
written_form Disconnect body = release_spdu_octets 10 body
written_form Abort body = abort_octets body
written_form AbortAccept body = []

-- the same SPDU, with its body in another place
abbrev pub spdu_with_body : Span → Spdu → Spdu
spdu_with_body span (Connect called _) = Connect called span
spdu_with_body span (Accept called _) = Accept called span
spdu_with_body span (Carry _) = Carry span
spdu_with_body span spdu = spdu

-- the value that the written form spells
abbrev pub spdu_as_written : Spdu → List ℕ → Spdu
spdu_as_written spdu body = spdu_with_body (last_span (length (written_form spdu body)) body) spdu

-- an abort accept isn't written
abbrev pub IsWritableSpdu : Spdu → Type 0
IsWritableSpdu (Connect called _) = HasSelector called
IsWritableSpdu (Accept called _) = HasSelector called
IsWritableSpdu AbortAccept = ⊥
IsWritableSpdu _ = Unit {0}
