-- When octets are those that an association is sent.
use Rattle.std.proofs.Common.{◌≡◌, ℕ, Bool, true, false, List, Option, Some, None, refl, sym, ◌∙◌}
use Rattle.std.specs.Prelude.{if◌then◌else◌, slice_get, bytes_eq, ◌↔◌}
use Rattle.std.specs.List.{All}
use Rattle.std.proofs.lemmas.Bool.{false≢true}
use Rattle.std.proofs.lemmas.Option.{none-some}
use Rattle.std.proofs.lemmas.Slice.Eq.{bytes_eq-Decides}
use Rattle.bilateral.specs.Rows.{CentreRows}
use Rattle.sbo_device.specs.declared.key.Key.{Key}
use Rattle.tase_views.specs.History.{Past}
use Rattle.tase_conn.specs.Map.Sent.{association_octets}
use Rattle.texts.specs.Journal.Entries.{IsEvent}
use Rattle.tase_verify.specs.declared.association.verdict.Verdict.TheVariants as verdicts
use Rattle.tase_verify.specs.Association.Accounts.{IsAccountedFor}
use Rattle.tase_verify.specs.Association.Stray.{events_entered, events_asked, first_stray}
use Rattle.tase_verify.specs.Association.Verdicts.{common, verdict_by, verdict_of}
use Rattle.tase_verify.proofs.OfAssociation.Accounted.{none_stray}
use Rattle.tase_verify.proofs.OfAssociation.ClosedOnce.{closes_once}

between : (same : Bool) (sent want : List ℕ) → bytes_eq sent want ≡ same
    → ((if same then verdicts.Equal
    else verdicts.Differs (common sent want) (slice_get sent (common sent want))
    (slice_get want (common sent want))) ≡ verdicts.Equal) ↔ (sent ≡ want)
between true sent want k = (λ e. (bytes_eq-Decides sent want).0 k, λ s. refl)
between false sent want k = (
  λ e. absurd cc,
  λ s. absurd (false≢true (sym k ∙ (bytes_eq-Decides sent want).1 s)),
)

by_stray : (found : Option ℕ) (sent want : List ℕ)
    → (verdict_by found sent want ≡ verdicts.Equal) ↔ ((found ≡ None) × (sent ≡ want))
by_stray (Some number) sent want = (λ e. absurd cc, λ s. absurd (none-some number (sym s.0)))
by_stray None sent want =
    let same = between (bytes_eq sent want) sent want refl in
    (λ e. (refl, same.0 e), λ s. same.1 s.1)

pub equal_exactly : (rows : CentreRows) (past : Past) (key : Key) (octets : List ℕ)
    (ended : Bool) (sent : List ℕ) → All IsEvent (events_entered key past)
    → All IsEvent (events_asked rows octets ended)
    → (verdict_of rows past key octets ended sent ≡ verdicts.Equal)
    ↔ (IsAccountedFor rows past key octets ended
    × (sent ≡ association_octets rows past key octets ended))
equal_exactly rows past key octets ended sent entered asked =
    let stray = none_stray (events_entered key past) (events_asked rows octets ended) entered
    asked (closes_once key past) in
    let equal = by_stray (first_stray (events_entered key past) (events_asked rows octets ended))
    sent (association_octets rows past key octets ended) in (
      λ e. (stray.0 (equal.0 e).0, (equal.0 e).1),
      λ s. equal.1 (stray.1 s.0, s.1),
    )
