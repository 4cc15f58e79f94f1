-- Worked rows: which event is stray, and where octets differ.
use Rattle.std.proofs.Common.{◌≡◌, [], ◌∷◌, Some, None, refl}
use Rattle.std.specs.Fmt.{digits}
use Rattle.tase_views.specs.declared.call.CallKind.TheVariants as calls
use Rattle.tase_views.specs.declared.event.EventKind.{EventKind}
use Rattle.tase_views.specs.declared.event.EventKind.TheVariants as events
use Rattle.tase_verify.specs.declared.association.verdict.Verdict.TheVariants as verdicts
use Rattle.tase_verify.specs.Association.Stray.{first_stray}
use Rattle.tase_verify.specs.Association.Verdicts.{verdict_between}

abbrev pub identify : EventKind
identify = events.Request calls.Identify

-- what is asked, in order
pub asked_all : first_stray (events.Open 0 ∷ identify ∷ events.Close ∷ [])
    (events.Open 0 ∷ identify ∷ events.Close ∷ []) ≡ None
unfolding digits
asked_all = refl

-- the node closes by itself: in the place of a request, and behind all
pub closes_early : first_stray (events.Open 0 ∷ events.Close ∷ [])
    (events.Open 0 ∷ identify ∷ events.Close ∷ []) ≡ None
unfolding digits
closes_early = refl

pub closes_last : first_stray (events.Open 0 ∷ identify ∷ events.Close ∷ [])
    (events.Open 0 ∷ identify ∷ []) ≡ None
unfolding digits
closes_last = refl

-- a close is asked and doesn't come
pub close_missing : first_stray (events.Open 0 ∷ identify ∷ [])
    (events.Open 0 ∷ identify ∷ events.Close ∷ []) ≡ Some 2
unfolding digits
close_missing = refl

-- a request that isn't asked, another peer, no association
pub not_asked : first_stray (events.Open 0 ∷ identify ∷ identify ∷ [])
    (events.Open 0 ∷ identify ∷ events.Close ∷ []) ≡ Some 2
unfolding digits
not_asked = refl

pub other_peer : first_stray (events.Open 1 ∷ events.Close ∷ [])
    (events.Open 0 ∷ events.Close ∷ []) ≡ Some 0
unfolding digits
other_peer = refl

pub no_events : first_stray [] [] ≡ Some 0
no_events = refl

-- an event behind the end
pub behind_end : first_stray (events.Open 0 ∷ events.Close ∷ identify ∷ [])
    (events.Open 0 ∷ events.Close ∷ []) ≡ Some 2
unfolding digits
behind_end = refl

-- octets
pub same_octets : verdict_between (1 ∷ 2 ∷ []) (1 ∷ 2 ∷ []) ≡ verdicts.Equal
same_octets = refl

pub other_octet : verdict_between (1 ∷ 2 ∷ 3 ∷ []) (1 ∷ 7 ∷ 3 ∷ [])
    ≡ verdicts.Differs 1 (Some 2) (Some 7)
other_octet = refl

pub octets_missing : verdict_between (1 ∷ []) (1 ∷ 2 ∷ []) ≡ verdicts.Differs 1 None (Some 2)
octets_missing = refl

pub octets_more : verdict_between (1 ∷ 2 ∷ []) (1 ∷ []) ≡ verdicts.Differs 1 (Some 2) None
octets_more = refl
