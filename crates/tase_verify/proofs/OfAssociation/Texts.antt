-- Events with one text are one event.
use Rattle.std.proofs.Common.{◌≡◌, ℕ, true, List, ◌∷◌, ◌++◌, sym, ap, ◌∙◌, arith}
use Rattle.std.specs.Prelude.{decimal}
use Rattle.std.proofs.lemmas.Option.{same_Some}
use Rattle.std.proofs.lemmas.Slice.Eq.{bytes_eq-Decides}
use Rattle.tase_views.specs.declared.call.CallKind.{CallKind}
use Rattle.tase_views.specs.declared.call.CallKind.TheVariants as calls
use Rattle.tase_views.specs.declared.event.Entry.{Entry}
use Rattle.tase_views.specs.declared.event.EventKind.{EventKind}
use Rattle.tase_views.specs.declared.event.EventKind.TheVariants as events
use Rattle.tase_views.specs.EventTexts.{event_text}
use Rattle.texts.specs.Journal.Entries.{IsEvent, entry_in}
use Rattle.texts.proofs.OfJournal.EntryRead.{entry_in-text}
use Rattle.tase_verify.specs.Association.Stray.{same_event}

abbrev at_first : EventKind → Entry
at_first event = record { who = 0; event = event }

pub same_events : (one other : EventKind) → IsEvent one → IsEvent other
    → same_event one other ≡ true → one ≡ other
same_events one other i j e =
    let texts : event_text one ≡ event_text other =
    (bytes_eq-Decides (event_text one) (event_text other)).0 e in
    ap (λ (entry : Entry). entry.event) (same_Some (at_first one) (at_first other)
    (sym (entry_in-text (at_first one) (record { who = omega arith; event = i }))
    ∙ ap (λ (text : List ℕ). entry_in (decimal 0 ++ 32 ∷ text)) texts
    ∙ entry_in-text (at_first other) (record { who = omega arith; event = j })))

abbrev call_of_event : EventKind → CallKind
call_of_event (events.Request call) = call
call_of_event event = calls.Identify

pub same_call : (one other : CallKind) → IsEvent (events.Request one)
    → IsEvent (events.Request other)
    → same_event (events.Request one) (events.Request other) ≡ true → one ≡ other
same_call one other i j e =
    ap (λ (event : EventKind). call_of_event event)
    (same_events (events.Request one) (events.Request other) i j e)
