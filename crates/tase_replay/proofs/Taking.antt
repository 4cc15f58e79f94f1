-- Steps that were taken, and then further ones.
use Rattle.std.proofs.Common.{◌≡◌, ◌==◌, Bool, true, false, ℕ, ◌+◌, List, [], ◌∷◌, ◌++◌, length}
use Rattle.std.proofs.Common.{take, drop, refl, sym, ap, ◌∙◌, subst, append_assoc, arith, map}
use Rattle.std.proofs.Common.{Option, None}
use Rattle.std.specs.Prelude.{if◌then◌else◌}
use Rattle.std.proofs.lemmas.List.{append-nil, length-append, take-append-le, drop-append-le}
use Rattle.std.proofs.lemmas.List.{map-append}
use Rattle.std.proofs.lemmas.Grind.{flat_map-append}
use Rattle.std.proofs.Math.Seq.{take-append-add, drop-append-add}
use Rattle.outside.specs.Sink.{SinkTold, AppendsAll, AppendsPart}
use Rattle.outside.proofs.Writing.{Appends-none, Appends-append, AppendsPart-none}
use Rattle.outside.proofs.Writing.{AppendsPart-append}
use Rattle.tase_views.specs.declared.event.Entry.{Entry}
use Rattle.tase_replay.specs.Play.{Step, entries_in, printed_in}
use Rattle.conn_service.specs.TaseConn.declared.stage.ConnEnd.{ConnEnd}
use Rattle.tase_replay.specs.PrintedLines.{ShownToPeer, sent_octet, end_shown, all_shown, shown_by}
use Rattle.tase_replay.specs.PrintedLines.{step_shows}
use Rattle.tase_replay.specs.Ends.{TakesAll, TakesPart, IsClosing}

pub entries_in-append : (first next : List Step) → entries_in (first ++ next) ≡ entries_in first
    ++ entries_in next
entries_in-append first next = flat_map-append (λ (step : Step). step.entries) first next

pub printed_in-append : (first next : List Step) → printed_in (first ++ next) ≡ printed_in first
    ++ printed_in next
printed_in-append first next = flat_map-append (λ (step : Step). step.printed) first next

pub shown_by-append : (who : ℕ) (first next : List Step)
    → shown_by who (first ++ next) ≡ shown_by who first ++ shown_by who next
shown_by-append who first next =
    flat_map-append (step_shows who) first next

-- what one step prints for a peer: nothing, where it has no octets and no end, or is of another seat
pub shown_by-silent : (who : ℕ) (step : Step) → step.octets ≡ [] → step.end ≡ None
    → shown_by who (step ∷ []) ≡ []
shown_by-silent who step none unended =
    append-nil (if step.who == who then all_shown step.octets step.end else [])
    ∙ either (step.who == who)
  where
    either : (b : Bool) → (if b then all_shown step.octets step.end else []) ≡ []
    either true = rw (none, unended) refl
    either false = refl

pub shown_by-other : (who : ℕ) (step : Step) → (step.who == who) ≡ false
    → shown_by who (step ∷ []) ≡ []
shown_by-other who step other =
    ap (λ (b : Bool). (if b then all_shown step.octets step.end else []) ++ []) other

pub shown_by-own : (who : ℕ) (step : Step) → (step.who == who) ≡ true
    → shown_by who (step ∷ []) ≡ all_shown step.octets step.end
shown_by-own who step own =
    ap (λ (b : Bool). (if b then all_shown step.octets step.end else []) ++ []) own
    ∙ append-nil (all_shown step.octets step.end)

-- octets, and behind them others with the end
pub all_shown-append : (first next : List ℕ) (end : Option ConnEnd)
    → all_shown first None ++ all_shown next end ≡ all_shown (first ++ next) end
all_shown-append first next end =
    ap (λ (ps : List ShownToPeer). ps ++ all_shown next end) (append-nil (map sent_octet first))
    ∙ sym (append_assoc (map sent_octet first) (map sent_octet next) (end_shown end))
    ∙ ap (λ (ps : List ShownToPeer). ps ++ end_shown end) (sym (map-append sent_octet first next))

-- nothing was taken
pub TakesAll-none : (history : List Entry) (sink : SinkTold) → TakesAll [] history history sink sink
TakesAll-none history sink = record {
  entries = sym (append-nil history);
  shown =
      Appends-none sink;
}

pub TakesPart-none : (steps : List Step) (history : List Entry) (sink : SinkTold)
    → TakesPart steps history history sink sink false
TakesPart-none steps history sink =
    record {
      count = 0;
      within = omega arith;
      closing = [];
      closes = tt;
      entries = sym (append-nil (history ++ []) ∙ append-nil history);
      shown =
          AppendsPart-none sink [];
    }

pub TakesAll-append : (first next : List Step) (history middle now : List Entry)
    (before between after : SinkTold)
    → TakesAll first history middle before between → TakesAll next middle now between after
    → TakesAll (first ++ next) history now before after
TakesAll-append first next history middle now before between after one two =
    record {
      entries = two.entries ∙ ap (λ (h : List Entry). h ++ entries_in next) one.entries
          ∙ append_assoc history (entries_in first) (entries_in next)
          ∙ ap (λ (e : List Entry). history ++ e) (sym (entries_in-append first next));
      shown = subst (λ (text : List ℕ). AppendsAll before after text)
          (sym (printed_in-append first next))
          (Appends-append before between after (printed_in first)
          (printed_in next) false one.shown two.shown);
    }

pub TakesPart-append : (first next : List Step) (history middle now : List Entry)
    (before between after : SinkTold) (failed : Bool)
    → TakesAll first history middle before between → TakesPart next middle now between after failed
    → TakesPart (first ++ next) history now before after failed
TakesPart-append first next history middle now before between after failed one two =
    let front : take (length first + two.count) (first ++ next) ≡ first ++ take two.count next =
    take-append-add first next two.count in
    record {
      count = length first + two.count;
      within = omega (arith, length-append first next, two.within);
      closing = two.closing;
      closes = subst (λ (steps : List Step). IsClosing failed two.closing steps)
          (sym (drop-append-add first next two.count)) two.closes;
      entries = two.entries ∙ ap (λ (h : List Entry). h ++ two.closing)
          (ap (λ (h : List Entry). h ++ entries_in (take two.count next)) one.entries
          ∙ append_assoc history (entries_in first) (entries_in (take two.count next))
          ∙ ap (λ (e : List Entry). history ++ e)
          (sym (entries_in-append first (take two.count next)))
          ∙ ap (λ (steps : List Step). history ++ entries_in steps) (sym front));
      shown = subst (λ (steps : List Step). AppendsPart before after (printed_in steps) failed)
          (sym front)
          (subst (λ (text : List ℕ). AppendsPart before after text failed)
          (sym (printed_in-append first (take two.count next)))
          (AppendsPart-append before between after (printed_in first)
          (printed_in (take two.count next)) failed one.shown two.shown));
    }

-- what closes the association of a next step does so whatever comes behind that
closing_on : (failed : Bool) (closing : List Entry) (next more : List Step)
    → IsClosing failed closing next → IsClosing failed closing (next ++ more)
closing_on failed [] next more c = tt
closing_on false (entry ∷ []) [] more c = absurd c
closing_on false (entry ∷ []) (step ∷ next) more c = c
closing_on false (entry ∷ other ∷ closing) next more c = absurd c
closing_on true (entry ∷ closing) next more c = absurd c

-- a front part of steps is one of these with others behind them
pub TakesPart-front : (steps more : List Step) (history now : List Entry) (before after : SinkTold)
    (failed : Bool)
    → TakesPart steps history now before after failed
    → TakesPart (steps ++ more) history now before after failed
TakesPart-front steps more history now before after failed part =
    let front : take part.count (steps ++ more) ≡ take part.count steps =
    take-append-le part.count steps more part.within in
    record {
      count = part.count;
      within = omega (arith, length-append steps more, part.within);
      closing = part.closing;
      closes = subst (λ (these : List Step). IsClosing failed part.closing these)
          (sym (drop-append-le part.count steps more part.within))
          (closing_on failed part.closing (drop part.count steps) more part.closes);
      entries = part.entries
          ∙ ap (λ (these : List Step). (history ++ entries_in these) ++ part.closing) (sym front);
      shown = subst (λ (these : List Step). AppendsPart before after (printed_in these) failed)
          (sym front) part.shown;
    }
