-- What was read, seen without where its octets lie in memory.
use Rattle.std.specs.Prelude.{ℕ, Option, Some, None, option_copied}
use Rattle.ber_values.specs.declared.external.External.{External}
use Rattle.ber_values.specs.Externals.{IsSpanWithin}
use Rattle.acse_assoc.specs.declared.apdu.Apdu.{Apdu}
use Rattle.acse_assoc.specs.declared.apdu.Apdu.TheVariants.{Aarq, Aare}
use Rattle.acse_assoc.specs.declared.request.AssociateRequest.{AssociateRequest}
use Rattle.acse_assoc.specs.declared.request.RequestSeen.{RequestSeen}
use Rattle.acse_assoc.specs.declared.request.TitleSeen.{TitleSeen}
use Rattle.acse_assoc.specs.Requests.{Titled}

abbrev pub titled_seen : TitleSeen → Titled
titled_seen t = record { title = option_copied t.title; least = t.left.least }

abbrev pub request_seen : RequestSeen → AssociateRequest
request_seen r =
    record { context = r.context.now; title = option_copied r.title; user = r.user }

-- the body of user information, if there is any, stands between two places
abbrev pub IsUserBodyWithin : ℕ → ℕ → Option External → Type 0
IsUserBodyWithin at end None = Unit {0}
IsUserBodyWithin at end (Some user) = IsSpanWithin at end user.body

-- the body of an APDU, if it has one, stands between two places
abbrev pub IsApduBodyWithin : ℕ → ℕ → Apdu → Type 0
IsApduBodyWithin at end (Aarq r) = IsSpanWithin at end r.user.body
IsApduBodyWithin at end (Aare r) = IsUserBodyWithin at end r.user
IsApduBodyWithin at end apdu = Unit {0}
