-- An octet of a feed, taken.
use Rattle.std.proofs.Common.{◌≡◌, ℕ, ◌<◌, Bool, true, false, eqb, List, [], ◌∷◌}
use Rattle.std.proofs.Common.{◌++◌, length, refl, sym, ap, ◌∙◌, subst, arith, append_assoc}
use Rattle.std.proofs.Common.{length-append, Some, Result, Ok, Err, IfOk}
use Rattle.std.specs.Prelude.{if◌then◌else◌}
use Rattle.std.specs.List.{slice_split}
use Rattle.std.specs.Str.Lines.{lines, strip_carriage_return}
use Rattle.std.proofs.lemmas.List.{append-nil}
use Rattle.std.proofs.lemmas.List.Elements.{All-push}
use Rattle.std.proofs.lemmas.List.Splits.{slice_split_at, slice_split_none, length-slice_split}
use Rattle.std.proofs.lemmas.Bool.{lt-ltb}
use Rattle.outside.specs.Faults.{next_count}
use Rattle.plain_text.specs.Lines.{is_skipped}
use Rattle.bilateral.specs.Rows.{CentreRows}
use Rattle.tase_views.specs.History.{is_stop}
use Rattle.texts.specs.Events.FeedLines.{feed_event_in}
use Rattle.tase_views.specs.declared.event.EventKind.{EventKind}
use Rattle.node_server.specs.HeldLines.{HasNoEnd, IsLongFirst}
use Rattle.node_server.specs.FeedReading.{FeedPlace, feed_lines, ended_parts, fed_from, yet_fed}
use Rattle.node_server.specs.FeedReading.{event_says, line_says, says_then, TakesOctet}
use Rattle.node_server.specs.FeedReading.{MayBeSaid}
use Rattle.node_server.specs.declared.feed_end.FeedEnd.TheVariants.{Ended, LongLine}
use Rattle.node_server.specs.declared.feed_end.FeedEnd.TheVariants.{StopLine}
use Rattle.node_server.specs.declared.feed_reader.FeedSays.{FeedSays}
use Rattle.node_server.specs.declared.feed_reader.FeedSays.TheVariants.{Nothing, Asks, Ends}
use Rattle.node_server.specs.declared.feed_reader.TheConstants.{LINE_LIMIT}
use Rattle.node_server.proofs.FedEvents.{fed-event}
use Rattle.node_server.proofs.LinesCut.{lines-ended, lines-held, lines-long}

ended-more : (part : List ℕ) (parts : List (List ℕ)) → 0 < length parts
    → ended_parts (part ∷ parts) ≡ strip_carriage_return part ∷ ended_parts parts
ended-more part [] some = absurd (omega arith)
ended-more part (next ∷ parts) some = refl

-- an LF ends the line that is held, whether the feed is whole or not
feed-ended : (whole : Bool) (held more : List ℕ) → HasNoEnd held
    → feed_lines whole (held ++ 10 ∷ more) ≡ strip_carriage_return held ∷ feed_lines whole more
feed-ended true held more none = lines-ended held more none
feed-ended false held more none =
    ap ended_parts (slice_split_at (λ x. eqb x 10) held 10 more none refl)
    ∙ ended-more held (slice_split (λ x. eqb x 10) more)
    (omega (arith, length-slice_split (λ x. eqb x 10) more))

-- no line was ended
pub none-ended : (held : List ℕ) → HasNoEnd held → feed_lines false held ≡ []
none-ended held none = ap ended_parts (slice_split_none (λ b. eqb b 10) held none)

long_says : (rows : CentreRows) (number : ℕ) (line : List ℕ) → LINE_LIMIT < length line
    → line_says rows number line ≡ Ends (LongLine number)
long_says rows number line long = ap (λ (b : Bool). if b then Ends (LongLine number)
    else (if is_skipped line then Nothing else event_says number (feed_event_in rows line)))
    (lt-ltb LINE_LIMIT (length line) long)

module _ (rows : CentreRows) (place : FeedPlace) (none : HasNoEnd place.held) where
  said : (whole : Bool) (more : List ℕ) → yet_fed rows whole place (10 ∷ more)
      ≡ says_then (line_says rows place.number (strip_carriage_return place.held))
      (fed_from rows (next_count place.number) (feed_lines whole more))
  said whole more = ap (fed_from rows place.number) (feed-ended whole place.held more none)

  -- an LF came
  pub line-taken : (says : FeedSays)
      → says ≡ line_says rows place.number (strip_carriage_return place.held)
      → TakesOctet rows place 10 (record { held = []; number = next_count place.number }) says
  line-taken Nothing is = λ whole more. said whole more
      ∙ ap (λ (s : FeedSays). says_then s
      (fed_from rows (next_count place.number) (feed_lines whole more))) (sym is)
  line-taken (Asks event) is = λ whole more. said whole more
      ∙ ap (λ (s : FeedSays). says_then s
      (fed_from rows (next_count place.number) (feed_lines whole more))) (sym is)
  line-taken (Ends end) is = λ more. said true more
      ∙ ap (λ (s : FeedSays). says_then s
      (fed_from rows (next_count place.number) (feed_lines true more))) (sym is)

  -- another octet came
  pub octet-taken : (octet : ℕ) → TakesOctet rows place octet
      (record { held = place.held ++ octet ∷ []; number = place.number }) Nothing
  octet-taken octet = λ whole more. ap (λ (l : List ℕ). fed_from rows place.number
      (feed_lines whole l)) (sym (append_assoc place.held (octet ∷ []) more))

  -- one too many came
  pub long-taken : (octet : ℕ) → eqb octet 10 ≡ false → LINE_LIMIT < length place.held
      → TakesOctet rows place octet place (Ends (LongLine place.number))
  long-taken octet inside long = λ more.
      let first : IsLongFirst LINE_LIMIT (lines ((place.held ++ octet ∷ []) ++ more)) =
      lines-long LINE_LIMIT more (place.held ++ octet ∷ [])
      (All-push (λ (y : ℕ). eqb y 10 ≡ false) place.held octet none inside)
      (omega (arith, length-append place.held (octet ∷ []))) in
      ap (λ (l : List ℕ). fed_from rows place.number (lines l))
      (sym (append_assoc place.held (octet ∷ []) more))
      ∙ (ap (fed_from rows place.number) first.2
      ∙ ap (λ (s : FeedSays). says_then s (fed_from rows (next_count place.number) first.1))
      (long_says rows place.number first.0 first.3))

  -- nothing comes any more
  pub last-taken : (says : FeedSays) → 0 < length place.held
      → says ≡ line_says rows place.number place.held
      → yet_fed rows true place [] ≡ says_then says (record { events = []; end = Ended })
  last-taken says some is =
      ap (λ (l : List ℕ). fed_from rows place.number (lines l)) (append-nil place.held)
      ∙ (ap (fed_from rows place.number) (lines-held place.held none some)
      ∙ ap (λ (s : FeedSays). says_then s (record { events = []; end = Ended })) (sym is))

-- the line that is held was read, and the next one begins
pub line-came : (rows : CentreRows) (place next : FeedPlace) (octet number : ℕ) (line : List ℕ)
    (says : FeedSays) → HasNoEnd place.held → octet ≡ 10 → number ≡ place.number
    → line ≡ strip_carriage_return place.held
    → next ≡ record { held = []; number = next_count place.number }
    → says ≡ line_says rows number line → TakesOctet rows place octet next says
line-came rows place next octet number line says none ended numbered held begun said =
    subst (λ (o : ℕ). TakesOctet rows place o next says) (sym ended)
    (subst (λ (p : FeedPlace). TakesOctet rows place 10 p says) (sym begun)
    (line-taken rows place none says
    (said ∙ (ap (λ (n : ℕ). line_says rows n line) numbered
    ∙ ap (line_says rows place.number) held))))

-- what a line may say that has an event
pub may-ask : (rows : CentreRows) (line : List ℕ) (event : EventKind) (says : FeedSays)
    → feed_event_in rows line ≡ Some event
    → says ≡ (if is_stop event then Ends StopLine else Asks event) → MayBeSaid rows says
may-ask rows line event says is said = by (is_stop event) said
  where
    by : (b : Bool) → says ≡ (if b then Ends StopLine else Asks event) → MayBeSaid rows says
    by true ends = subst (MayBeSaid rows) (sym ends) tt
    by false asks = subst (MayBeSaid rows) (sym asks) (fed-event rows line event is)

pub if_ok-map : {A E : Type 0} (P Q : A → Type 0) (result : Result A E)
    → ((x : A) → P x → Q x) → IfOk result P → IfOk result Q
if_ok-map P Q (Ok x) f h = f x h
if_ok-map P Q (Err e) f h = tt

pub none-yet : (rows : CentreRows) (place : FeedPlace) → HasNoEnd place.held
    → yet_fed rows false place [] ≡ record { events = []; end = Ended }
none-yet rows place none = ap (λ (l : List ℕ). fed_from rows place.number (feed_lines false l))
    (append-nil place.held) ∙ ap (fed_from rows place.number) (none-ended place.held none)
