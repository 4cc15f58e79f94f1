-- What a seat is refused for its own doing hangs on its own entries alone.
use Rattle.std.proofs.Common.{◌≡◌, ◌==◌, ℕ, Bool, true, false, [], ◌∷◌, Option, Some, None}
use Rattle.std.proofs.Common.{is_some, refl, ap, ◌≢◌, if◌then◌else◌}
use Rattle.bilateral.specs.Rows.{CentreRows}
use Rattle.sbo_device.specs.declared.key.Key.{Key}
use Rattle.tase_views.specs.declared.event.EventKind.{EventKind}
use Rattle.tase_views.specs.Moves.{EventSort, sort_of, opening, requesting, taking, closing, Move}
use Rattle.tase_views.specs.Moves.{taking_orders, feeding}
use Rattle.tase_views.specs.declared.fault.StepFault.{StepFault}
use Rattle.tase_views.specs.declared.fault.StepFault.TheVariants.{UnknownName}
use Rattle.tase_views.specs.History.{Past, association_by, association_in, entries_by}
use Rattle.tase_views.specs.Outcomes.{seat_refusal_by, name_refusal, first_refusal, own_refusal}
use Rattle.tase_views.specs.Outcomes.{is_named_there}

-- whether a seat has an association behind an event hangs on whether it had one before
after_alike : (sort : EventSort) (past others : Past) (before other : Option Key)
    → is_some before ≡ is_some other
    → is_some (association_by sort past before) ≡ is_some (association_by sort others other)
after_alike (opening peer) past others before other same = refl
after_alike (requesting call) past others before other same = same
after_alike taking past others before other same = same
after_alike closing past others before other same = refl
after_alike taking_orders past others before other same = same
after_alike (feeding move) past others before other same = same

-- whether a seat has an association hangs on its own entries alone
pub seat_alike : (past : Past) (who : ℕ)
    → is_some (association_in past who) ≡ is_some (association_in (entries_by who past) who)
seat_alike [] who = refl
seat_alike (entry ∷ past) who = behind (entry.who == who) refl (seat_alike past who)
  where
    behind : (own : Bool) → (entry.who == who) ≡ own
        → is_some (association_in past who) ≡ is_some (association_in (entries_by who past) who)
        → is_some (association_in (entry ∷ past) who)
        ≡ is_some (association_in (entries_by who (entry ∷ past)) who)
    behind true own same = rw (own, own)
        (after_alike (sort_of entry.event) past (entries_by who past)
        (association_in past who) (association_in (entries_by who past) who) same)
    behind false own same = rw own same

-- a refusal for the seat's doing hangs on whether it has an association
refused_alike : (sort : EventSort) (before other : Option Key)
    → is_some before ≡ is_some other
    → seat_refusal_by before sort ≡ seat_refusal_by other sort
refused_alike (opening peer) before other same = rw same refl
refused_alike (requesting call) before other same = rw same refl
refused_alike taking before other same = rw same refl
refused_alike closing before other same = rw same refl
refused_alike taking_orders before other same = refl
refused_alike (feeding move) before other same = refl

pub own_refusal-own : (rows : CentreRows) (past : Past) (who : ℕ) (event : EventKind)
    → own_refusal rows past who event ≡ own_refusal rows (entries_by who past) who event
own_refusal-own rows past who event =
    ap (λ (seat : Option StepFault). first_refusal (seat ∷ name_refusal rows event ∷ []))
    (refused_alike (sort_of event) (association_in past who)
    (association_in (entries_by who past) who) (seat_alike past who))

-- the first of a list of refusals, where two of them stand for the first of both
pub first_refusal-within : (a b c d e : Option StepFault)
    → first_refusal (a ∷ b ∷ c ∷ d ∷ e ∷ [])
    ≡ first_refusal (a ∷ first_refusal (b ∷ c ∷ []) ∷ d ∷ e ∷ [])
first_refusal-within (Some fault) b c d e = refl
first_refusal-within None (Some fault) c d e = refl
first_refusal-within None None (Some fault) d e = refl
first_refusal-within None None None d e = refl

-- an event of a seat that has an association is refused alike in all centres
refused_with : (here there : CentreRows) (sort : EventSort) (before other : Option Key)
    → is_some before ≡ true → is_some other ≡ true → ((move : Move) → sort ≢ feeding move)
    → first_refusal (seat_refusal_by before sort
    ∷ (if is_named_there here sort then None else Some UnknownName) ∷ [])
    ≡ first_refusal (seat_refusal_by other sort
    ∷ (if is_named_there there sort then None else Some UnknownName) ∷ [])
refused_with here there (opening peer) before other one two isnt = rw (one, two) refl
refused_with here there (requesting call) before other one two isnt = rw (one, two) refl
refused_with here there taking before other one two isnt = rw (one, two) refl
refused_with here there closing before other one two isnt = rw (one, two) refl
refused_with here there taking_orders before other one two isnt = refl
refused_with here there (feeding move) before other one two isnt = absurd (isnt move refl)

pub own_refusal-association : (here there : CentreRows) (past more : Past) (who seat : ℕ)
    (event : EventKind) → is_some (association_in past who) ≡ true
    → is_some (association_in more seat) ≡ true
    → ((move : Move) → sort_of event ≢ feeding move)
    → own_refusal here past who event ≡ own_refusal there more seat event
own_refusal-association here there past more who seat event one two isnt =
    refused_with here there (sort_of event) (association_in past who) (association_in more seat)
    one two isnt
