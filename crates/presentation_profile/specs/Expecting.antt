-- What a PPDU has to have where it is of the kind that is expected.
use Rattle.std.specs.Prelude.{ℕ, Bool, true, false, List, Option, Some, None}
use Rattle.presentation_profile.specs.declared.offers.Offered.{Offered}
use Rattle.presentation_profile.specs.declared.expected.Expected.{Expected}
use Rattle.presentation_profile.specs.declared.expected.Expected.TheVariants as expects
use Rattle.presentation_profile.specs.Agreements.{acse_of}

-- the id that the user data of a connect have to have, if one: that of ACSE's context, where its
-- own offers agree
abbrev pub connect_id : Expected → List Offered → Option ℕ
connect_id expects.Connect contexts = acse_of contexts
connect_id _ contexts = None

-- the same of an accept
abbrev pub accept_id : Expected → Option ℕ
accept_id (expects.Accept acse) = acse
accept_id _ = None

-- the same of user data
abbrev pub carry_id : Expected → Option ℕ
carry_id (expects.Carry id) = Some id
carry_id _ = None

-- whether the first two results of an accept have to accept
abbrev pub are_judged : Expected → Bool
are_judged (expects.Accept (Some acse)) = true
are_judged _ = false
