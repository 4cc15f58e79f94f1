-- Journals worked out by hand.
use Rattle.std.proofs.Common.{◌≡◌, ◌++◌, ℕ, List, [], ◌∷◌, Some, None, Ok, Err, codes, refl}
use Rattle.std.specs.Fmt.{digits}
use Rattle.tase_views.specs.declared.event.Entry.{Entry}
use Rattle.tase_views.specs.declared.event.EventKind.{EventKind}
use Rattle.tase_views.specs.declared.event.EventKind.TheVariants.{Open, Close, Tick}
use Rattle.tase_views.specs.declared.reply.Answer.TheVariants.{Opened, Noted, Closed}
use Rattle.tase_views.specs.Setup.{Setup}
use Rattle.tase_views.proofs.NodeSample.{rows}
use Rattle.tase_verify.specs.JournalIn.{journal_in}
use Rattle.tase_verify.specs.Verifying.{journal_setup, answered_for}

abbrev setup : Setup
setup = journal_setup rows

abbrev entry : ℕ → EventKind → Entry
entry who event = record { who = who; event = event }

-- a line with its LF
abbrev line : List ℕ → List ℕ
line text = text ++ 10 ∷ []

nothing : journal_in setup [] ≡ Ok []
nothing = refl

-- the newest entry comes first; a CR is dropped
three_lines : journal_in setup (line (codes "1 open 0") ++ codes "0 tick 7" ++ 13 ∷ 10 ∷ []
    ++ line (codes "1 close"))
    ≡ Ok (entry 1 Close ∷ entry 0 (Tick 7) ∷ entry 1 (Open 0) ∷ [])
unfolding digits
three_lines = refl

-- the last line lacks its LF
without_end : journal_in setup (line (codes "0 tick 7") ++ codes "0 stop") ≡ Err 2
unfolding digits
without_end = refl

-- no line is skipped
empty_line : journal_in setup (line (codes "0 tick 7") ++ 10 ∷ line (codes "0 stop")) ≡ Err 2
unfolding digits
empty_line = refl

no_entry : journal_in setup (line (codes "0 tick  7") ++ line (codes "x")) ≡ Err 1
unfolding digits
no_entry = refl

-- a take of a seat without an association is refused, and so is what stands behind a stop
refused : journal_in setup (line (codes "1 open 0") ++ line (codes "2 take")) ≡ Err 2
unfolding digits
refused = refl

behind_stop : journal_in setup (line (codes "0 stop") ++ line (codes "0 tick 7")) ≡ Err 2
unfolding digits
behind_stop = refl

-- the events of an association: a tick of its seat is one of them
events : answered_for setup (Some (record { peer = 0; ordinal = 0 }))
    (entry 1 (Open 1) ∷ entry 1 Close ∷ entry 1 (Tick 7) ∷ entry 2 (Tick 5) ∷ entry 1 (Open 0) ∷ [])
    ≡ record { event = Open 0; answer = Opened (record { peer = 0; ordinal = 0 }) }
    ∷ record { event = Tick 7; answer = Noted }
    ∷ record { event = Close; answer = Closed } ∷ []
events = refl

unknown : answered_for setup (Some (record { peer = 0; ordinal = 1 })) (entry 1 (Open 0) ∷ [])
    ≡ []
unknown = refl

none_meant : answered_for setup None (entry 1 (Open 0) ∷ []) ≡ []
none_meant = refl
