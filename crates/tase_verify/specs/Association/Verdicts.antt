-- What a check of an association comes to.
use Rattle.std.specs.Prelude.{◌≡◌, ℕ, ◌+◌, ◌==◌, Bool, if◌then◌else◌, List, [], ◌∷◌, Option, Some, None}
use Rattle.std.specs.Prelude.{bytes_eq, slice_get}
use Rattle.bilateral.specs.Rows.{CentreRows}
use Rattle.sbo_device.specs.declared.key.Key.{Key}
use Rattle.tase_views.specs.History.{Past}
use Rattle.tase_conn.specs.Map.Sent.{association_octets}
use Rattle.tase_verify.specs.declared.association.account.Account.{Account}
use Rattle.tase_verify.specs.declared.association.account.Account.TheVariants as accounts
use Rattle.tase_verify.specs.declared.association.verdict.Verdict.{Verdict}
use Rattle.tase_verify.specs.declared.association.verdict.Verdict.TheVariants as verdicts
use Rattle.tase_verify.specs.Association.Stray.{events_entered, events_asked, first_stray}

-- how many octets both begin with
abbrev pub common : List ℕ → List ℕ → ℕ
common [] want = 0
common (octet ∷ got) [] = 0
common (octet ∷ got) (wanted ∷ want) = if octet == wanted then 1 + common got want else 0

-- they are the same, or differ at a place, where these octets stand, if any
abbrev pub verdict_between : List ℕ → List ℕ → Verdict
verdict_between got want =
    if bytes_eq got want then verdicts.Equal
    else verdicts.Differs (common got want) (slice_get got (common got want))
    (slice_get want (common got want))

-- the same of octets in front of which so many others stand, alike in both
abbrev pub verdict_from : ℕ → List ℕ → List ℕ → Verdict
verdict_from place got want =
    if bytes_eq got want then verdicts.Equal
    else verdicts.Differs (place + common got want) (slice_get got (common got want))
    (slice_get want (common got want))

-- the verdict on octets, by how the events of their association are accounted for
abbrev pub verdict_on : Account → List ℕ → Verdict
verdict_on (accounts.Octets want) sent = verdict_between sent want.items
verdict_on (accounts.Stray number) sent = verdicts.Stray number

-- each octets are judged so by an account
abbrev pub Judges : (List ℕ → Verdict) → Account → Type 0
Judges judged account = (sent : List ℕ) → verdict_on account sent ≡ judged sent

abbrev pub verdict_by : Option ℕ → List ℕ → List ℕ → Verdict
verdict_by (Some number) sent want = verdicts.Stray number
verdict_by None sent want = verdict_between sent want

-- the verdict on an association of a history, whose link gave these octets and has ended or not,
-- and which was sent these
abbrev pub verdict_of : CentreRows → Past → Key → List ℕ → Bool → List ℕ → Verdict
verdict_of rows past key octets ended sent =
    verdict_by (first_stray (events_entered key past) (events_asked rows octets ended)) sent
    (association_octets rows past key octets ended)
