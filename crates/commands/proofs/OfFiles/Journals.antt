-- The lines of a journal, written one after another.
use Rattle.std.proofs.Common.{◌≡◌, ◌≢◌, ℕ, ◌+◌, ◌<◌, ◌≤◌, Bool, true, false, List, [], ◌∷◌, ◌++◌, take, drop, length}
use Rattle.std.proofs.Common.{Option, Some, None, refl, sym, ap, ◌∙◌, subst, inl, inr, arith}
use Rattle.std.proofs.Common.{take-append-drop}
use Rattle.std.specs.Prelude.{IfSome, slice_get, get_or, Result, Ok, Err}
use Rattle.std.specs.Option.{option_map}
use Rattle.std.proofs.lemmas.Grind.{flat_map-append}
use Rattle.std.proofs.lemmas.List.{append-nil, take_more, take_all}
use Rattle.std.proofs.lemmas.Option.{slice_get_cases, get_or_from_slice_get}
use Rattle.outside.specs.declared.sink.SinkFailed.{SinkFailed}
use Rattle.outside.specs.Sink.{SinkTold, AppendsAll, AppendsPart, WritesAll}
use Rattle.outside.proofs.Writing.{Appends-append, AppendsPart-append, AppendsPart-front}
use Rattle.commands.specs.declared.io.status.Status.{Status}
use Rattle.commands.specs.declared.io.status.Status.TheVariants.{Done, Usage, Input, Outside, Full}
use Rattle.commands.specs.declared.io.status.Status.TheVariants.{Differs, Memory, Peer}
use Rattle.commands.specs.Io.Saying.{prints}
use Rattle.commands.specs.Io.Runs.{TellsSaid, IsFileEnd}
use Rattle.tase_views.specs.declared.event.Entry.{Entry}
use Rattle.commands.specs.Files.Kept.{status_of_write}
use Rattle.texts.specs.Journal.Journals.{entry_text, entry_line, journal_text}

-- the text with one entry more
with_line : (history : List Entry) (place : ℕ) (entry : Entry) → place < length history
    → slice_get history place ≡ Some entry
    → journal_text (take (place + 1) history)
    ≡ journal_text (take place history) ++ entry_line entry
with_line history place entry within at =
    let here : get_or history place entry ≡ entry = get_or_from_slice_get history place entry entry
    at in
    ap journal_text (take_more history place entry within)
    ∙ flat_map-append entry_line (take place history) (get_or history place entry ∷ [])
    ∙ ap (λ e. journal_text (take place history) ++ (entry_line e ++ [])) here
    ∙ ap (λ l. journal_text (take place history) ++ l) (append-nil (entry_line entry))

-- what is behind the first entries
rest_of : (history : List Entry) (count : ℕ)
    → journal_text (take count history) ++ journal_text (drop count history)
    ≡ journal_text history
rest_of history count =
    sym (flat_map-append entry_line (take count history) (drop count history))
    ∙ ap journal_text (take-append-drop count history)

module _ (history : List Entry) (place : ℕ) (within : place < length history) (a m l : SinkTold)
    (before : AppendsAll a m (journal_text (take place history))) where
  -- a line was written
  pub line_written : IfSome (slice_get history place)
      (λ entry. TellsSaid (prints Done (entry_line entry)) m l Done)
      → AppendsAll a l (journal_text (take (place + 1) history))
  line_written tells = elim (slice_get_cases history place).1 [
    | inl there ↦
        subst (λ (octets : List ℕ). AppendsAll a l octets)
        (sym (with_line history place there.0 there.1 there.2))
        (Appends-append a m l (journal_text (take place history)) (entry_line there.0) false
        before (rw there.2 at tells).1)
    | inr past ↦ absurd (omega (arith, within, past.0))
  ]

  -- it wasn't, whole
  line_stopped : (failed : Bool) → IfSome (slice_get history place)
      (λ entry. AppendsPart m l (entry_line entry) failed)
      → AppendsPart a l (journal_text history) failed
  line_stopped failed tells = elim (slice_get_cases history place).1 [
    | inl there ↦
        subst (λ (octets : List ℕ). AppendsPart a l octets failed)
        (ap (λ t. t ++ journal_text (drop (place + 1) history))
        (sym (with_line history place there.0 there.1 there.2))
        ∙ rest_of history (place + 1))
        (AppendsPart-front a l (journal_text (take place history) ++ entry_line there.0)
        (journal_text (drop (place + 1) history)) failed
        (AppendsPart-append a m l (journal_text (take place history)) (entry_line there.0) failed
        before (rw there.2 at tells)))
    | inr past ↦ absurd (omega (arith, within, past.0))
  ]

  pub journal_stopped : (status : Status) → IsFileEnd status → status ≢ Done
      → IfSome (slice_get history place)
      (λ entry. TellsSaid (prints Done (entry_line entry)) m l status)
      → TellsSaid (prints Done (journal_text history)) a l status
  journal_stopped Done ends other tells = absurd (other refl)
  journal_stopped Usage ends other tells = absurd ends
  journal_stopped Input ends other tells = absurd ends
  journal_stopped Full ends other tells = absurd ends
  journal_stopped Differs ends other tells = absurd ends
  journal_stopped Peer ends other tells = absurd ends
  journal_stopped Outside ends other tells = line_stopped true tells
  journal_stopped Memory ends other tells = line_stopped false tells

-- all lines were written
pub journal_written : (history : List Entry) (place : ℕ) (a l : SinkTold)
    → length history ≤ place → AppendsAll a l (journal_text (take place history))
    → TellsSaid (prints Done (journal_text history)) a l Done
journal_written history place a l past all = (
  refl,
  subst (λ (octets : List ℕ). AppendsAll a l octets)
      (ap journal_text (take_all place history past)) all,
)

-- a fact of the text of an entry that is there, and of none
pub of_entry : (P : List ℕ → Type 0) (line : List ℕ) (found : Option Entry)
    → Some line ≡ option_map entry_text found → P (line ++ 10 ∷ [])
    → IfSome found (λ entry. P (entry_line entry))
of_entry P line None is fact = absurd cc
of_entry P line (Some entry) is fact =
    subst (λ octets. P (octets ++ 10 ∷ [])) (some_text line (entry_text entry) is) fact
  where
    some_text : (one other : List ℕ) → Some one ≡ Some other → one ≡ other
    some_text one other is = cc

pub of_no_entry : (P : Entry → Type 0) (found : Option Entry)
    → None ≡ option_map entry_text found → IfSome found P
of_no_entry P None is = tt
of_no_entry P (Some entry) is = absurd cc

-- a text that was written, whole or not
pub tells_written : (b a : SinkTold) (octets : List ℕ) (end : Result (Unit {0}) SinkFailed)
    → WritesAll b a octets end → TellsSaid (prints Done octets) b a (status_of_write end)
tells_written b a octets (Ok done) all = (refl, all)
tells_written b a octets (Err failed) part = part
