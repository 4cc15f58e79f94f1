-- The text of an entry is its words with a space between each two, and each word has printing
-- characters alone.
use Rattle.std.proofs.Common.{◌⊎◌, inl, inr, ℤ, pos, negsuc, length, ◌==◌, false}
use Rattle.std.proofs.Common.{◌≡◌, ℕ, ◌<◌, ◌≤◌, ◌^◌, true, List, [], ◌∷◌, ◌++◌, map, Option, Some}
use Rattle.std.proofs.Common.{None, codes, decimal, refl, sym, ap, ◌∙◌, subst, arith, append_assoc}
use Rattle.std.proofs.Common.{append-nil}
use Rattle.std.specs.Prelude.{IfSome}
use Rattle.std.specs.Int.{w32, w64}
use Rattle.std.specs.Int.RustNames.{FitsSigned}
use Rattle.std.specs.List.{All, list_all, slice_split}
use Rattle.std.proofs.lemmas.Bool.{and_parts}
use Rattle.std.proofs.lemmas.Bool.Decides.{nat_tests}
use Rattle.std.proofs.lemmas.Fmt.{decimal_is_IsNumeral}
use Rattle.std.proofs.lemmas.List.Elements.{All-head, All-tail, filter_passes}
use Rattle.plain_text.specs.Escaped.{is_octet, escaped_text}
use Rattle.plain_text.specs.Octets.{hex_text}
use Rattle.plain_text.specs.Words.{words, is_word}
use Rattle.mms_data.specs.Datum.{Datum, real, octets, text}
use Rattle.mms_data.specs.ObjectName.{ObjectName, IsIdentifier, IsName}
use Rattle.mms_data.specs.Text.Texts.{name_text, data_text}
use Rattle.mms_data.specs.Text.TextRead.{HasText}
use Rattle.tase_points.specs.declared.body.Body.{Body}
use Rattle.tase_points.specs.declared.body.Body.TheVariants.{State, Discrete, Real}
use Rattle.tase_points.specs.Points.{state_of}
use Rattle.tase_points.specs.declared.value.TheConstants.{STATE_LIMIT, FLAGS_LIMIT}
use Rattle.tase_views.specs.declared.call.CallKind.{CallKind}
use Rattle.tase_views.specs.declared.call.CallKind.TheVariants.{Identify, Read, ReadSet, Write}
use Rattle.tase_views.specs.declared.call.CallKind.TheVariants.{WriteSet, NameList, TypeOf, Define}
use Rattle.tase_views.specs.declared.call.CallKind.TheVariants.{MembersOf, Delete, DeleteScope, Odd}
use Rattle.tase_views.specs.declared.event.Entry.{Entry}
use Rattle.tase_views.specs.declared.event.EventKind.{EventKind}
use Rattle.tase_views.specs.declared.event.EventKind.TheVariants.{Open, Request, Take, Close}
use Rattle.tase_views.specs.declared.event.EventKind.TheVariants.{Update, Table, Tick, Ask}
use Rattle.tase_views.specs.declared.event.EventKind.TheVariants.{TakeOrders, Stop}
use Rattle.tase_views.specs.declared.event.EventKind.TheVariants as events
use Rattle.tase_views.specs.Calls.{IsCall}
use Rattle.tase_views.specs.EventTexts.{body_text, call_text, event_text}
use Rattle.texts.specs.Events.CallWords.{assigned_words, after_words, call_words, HasWords}
use Rattle.texts.specs.Events.FeedLines.{IsWordBody}
use Rattle.texts.proofs.OfEvents.Behind.{call_words-are}
use Rattle.texts.proofs.OfEvents.Graphic.{is_graphic, AreGraphic, both_graphic, decimal_graphic}
use Rattle.texts.proofs.OfEvents.Graphic.{escaped_graphic, signed_graphic, scope_graphic, name_graphic}
use Rattle.texts.proofs.OfEvents.Graphic.{data_graphic}
use Rattle.texts.proofs.OfEvents.Parted.{IsPrinted, ArePrinted, after_spaces}
use Rattle.texts.proofs.OfEvents.Written.{call_text-is, written-is_read}
use Rattle.texts.specs.Journal.Journals.{entry_text}
use Rattle.texts.specs.Journal.Entries.{IsEvent}
use Rattle.texts.proofs.OfJournal.EventWords.{event_words}

value_parts : (body flags seconds millis : List ℕ)
    → ((body ++ 32 ∷ flags) ++ 32 ∷ seconds) ++ 32 ∷ millis
    ≡ body ++ 32 ∷ (flags ++ 32 ∷ (seconds ++ 32 ∷ (millis ++ [])))
value_parts body flags seconds millis = simp (append_assoc, append-nil)

tag_parts : (number reason : List ℕ)
    → (number ++ codes " v") ++ reason ≡ number ++ 32 ∷ 118 ∷ (reason ++ [])
tag_parts number reason = simp (append_assoc, append-nil)

spaced_event : (event : EventKind) → 32 ∷ event_text event ≡ after_spaces (event_words event)
spaced_event (Open peer) = ap (λ t. codes " open " ++ t) (sym (append-nil (decimal peer)))
spaced_event (Request call) =
    ap (λ t. codes " call " ++ t) (call_text-is call)
    ∙ ap (λ ws. codes " call" ++ after_spaces ws) (sym (call_words-are call))
spaced_event Take = refl
spaced_event Close = refl
spaced_event (Update point value) =
    ap (λ t. codes " update " ++ (decimal point ++ 32 ∷ t))
    (value_parts (body_text value.body) (hex_text (value.flags ∷ [])) (decimal value.seconds)
    (decimal value.millis))
spaced_event (Table peer variant) =
    ap (λ t. codes " table " ++ (decimal peer ++ 32 ∷ t)) (sym (append-nil (decimal variant)))
spaced_event (events.Tag device tag) =
    ap (λ t. codes " tag " ++ (decimal device ++ 32 ∷ t))
    (tag_parts (decimal tag.tag) (escaped_text tag.reason))
spaced_event (Tick now) = ap (λ t. codes " tick " ++ t) (sym (append-nil (decimal now)))
spaced_event (Ask peer slot) =
    ap (λ t. codes " ask " ++ (decimal peer ++ 32 ∷ t)) (sym (append-nil (decimal slot)))
spaced_event TakeOrders = refl
spaced_event Stop = refl

pub entry_text-is : (entry : Entry)
    → entry_text entry ≡ decimal entry.who ++ after_spaces (event_words entry.event)
entry_text-is entry = ap (λ t. decimal entry.who ++ t) (spaced_event entry.event)

-- ---- each word has printing characters alone

-- each word has printing characters alone
abbrev EachGraphic : List (List ℕ) → Type 0
EachGraphic [] = Unit {0}
EachGraphic (word ∷ words) = AreGraphic word × EachGraphic words

names_graphic : (names : List ObjectName) → All IsName names → EachGraphic (map name_text names)
names_graphic [] all = tt
names_graphic (name ∷ names) all = (
  name_graphic name (All-head IsName name names all),
  names_graphic names (All-tail IsName name names all),
)

values_graphic : (values : List Datum) → All HasText values → EachGraphic (map data_text values)
values_graphic [] all = tt
values_graphic (value ∷ values) all = (
  data_graphic value (All-head HasText value values all),
  values_graphic values (All-tail HasText value values all),
)

assigned_graphic : (names : List ObjectName) (values : List Datum) → All IsName names
    → All HasText values → EachGraphic (assigned_words names values)
assigned_graphic [] values named all = tt
assigned_graphic (name ∷ names) [] named all = tt
assigned_graphic (name ∷ names) (value ∷ values) named all = (
  both_graphic (name_text name) (61 ∷ data_text value)
      (name_graphic name (All-head IsName name names named))
      (data_graphic value (All-head HasText value values all)),
  assigned_graphic names values (All-tail IsName name names named)
      (All-tail HasText value values all),
)

after_graphic : (after : Option (List ℕ)) → IfSome after IsIdentifier
    → EachGraphic (after_words after)
after_graphic None h = tt
after_graphic (Some after) h = (escaped_graphic after h, tt)

odd_small : (kind : ℕ) → (kind ≡ 1) ⊎ (kind ≡ 5) → kind < 2 ^ 64
odd_small kind (inl e) = omega (arith, e)
odd_small kind (inr e) = omega (arith, e)

call_graphic : (call : CallKind) → IsCall call → HasWords call → EachGraphic (call_words call)
call_graphic Identify h k = (refl, tt)
call_graphic (Read names true) h k = (refl, names_graphic names k)
call_graphic (Read names false) h k = (refl, names_graphic names k)
call_graphic (ReadSet set true) h k = (refl, (name_graphic set k, tt))
call_graphic (ReadSet set false) h k = (refl, (name_graphic set k, tt))
call_graphic (Write names values) h k = (refl, assigned_graphic names values k.0 k.1)
call_graphic (WriteSet set values) h k =
    (refl, (name_graphic set k.0, values_graphic values k.1))
call_graphic (NameList class scope after) h k =
    (refl, (signed_graphic class k, (scope_graphic scope h.0, after_graphic after h.1)))
call_graphic (TypeOf name) h k = (refl, (name_graphic name k, tt))
call_graphic (Define set members) h k =
    (refl, (name_graphic set k.0, names_graphic members k.1))
call_graphic (MembersOf set) h k = (refl, (name_graphic set k, tt))
call_graphic (Delete sets) h k = (refl, names_graphic sets k)
call_graphic (DeleteScope scope) h k = (refl, (signed_graphic scope k, tt))
call_graphic (Odd kind code) h k =
    let one = decimal_graphic code (omega (arith, h.1)) in
    (refl, (decimal_graphic kind (odd_small kind h.0), (one, tt)))

printed_by : (ws : List (List ℕ)) → All (λ w. is_word w ≡ true) ws → EachGraphic ws
    → ArePrinted ws
printed_by [] all graphic = tt
printed_by ([] ∷ ws) all graphic =
    absurd (no_word (All-head (λ w. is_word w ≡ true) [] ws all))
  where
    no_word : is_word [] ≡ true → ⊥
    no_word e = cc
printed_by ((c ∷ w) ∷ ws) all graphic = (
  record { some = omega arith; graphic = graphic.0 },
  printed_by ws (All-tail (λ w. is_word w ≡ true) (c ∷ w) ws all) graphic.1,
)

call_printed : (call : CallKind) → IsCall call → HasWords call → ArePrinted (call_words call)
call_printed call h k =
    printed_by (call_words call)
    (subst (λ (ws : List (List ℕ)). All (λ w. is_word w ≡ true) ws)
    (written-is_read call h k).words.spelled
    (filter_passes is_word (slice_split (λ octet. octet == 32) (call_text call))))
    (call_graphic call h k)

pub decimal_printed : (n : ℕ) → n < 2 ^ 64 → IsPrinted (decimal n)
decimal_printed n small = record {
  some = omega (arith, (decimal_is_IsNumeral n small).0.0);
  graphic = decimal_graphic n small;
}

short_printed : (n : ℕ) → n < 2 ^ 32 → IsPrinted (decimal n)
short_printed n small = decimal_printed n (omega (arith, small))

wider : (z : ℤ) → FitsSigned w32 z → FitsSigned w64 z
wider (pos n) f = omega (arith, f)
wider (negsuc n) f = omega (arith, f)

body_printed : (body : Body) → state_of body ≤ STATE_LIMIT → IsWordBody body
    → IsPrinted (body_text body)
body_printed (State s) h k = record {
  some = omega arith;
  graphic = decimal_graphic s (omega (arith, h));
}
body_printed (Discrete d) h k = record {
  some = omega arith;
  graphic = signed_graphic d (wider d k);
}
body_printed (Real r) h k = record {
  some = omega arith;
  graphic = (and_parts (is_graphic 102) _
      (data_graphic (real r) (record { shallow = omega arith; parts = k }))).1;
}

flags_printed : (flags : ℕ) → flags ≤ FLAGS_LIMIT → IsPrinted (hex_text (flags ∷ []))
flags_printed flags h = record {
  some = omega arith;
  graphic = (and_parts (is_graphic 111) _
      (data_graphic (octets (flags ∷ [])) (record { shallow = omega arith; parts = small }))).1;
}
  where
    octet : is_octet flags ≡ true
    octet = grind (arith, nat_tests, h)

    small : list_all is_octet (flags ∷ []) ≡ true
    small = rw octet refl

verb_printed : (verb : List ℕ) → 0 < length verb → AreGraphic verb → IsPrinted verb
verb_printed verb some graphic = record { some = some; graphic = graphic }

pub event_printed : (event : EventKind) → IsEvent event → ArePrinted (event_words event)
event_printed (Open peer) h =
    (verb_printed (codes "open") (omega arith) refl, (short_printed peer h, tt))
event_printed (Request call) h =
    (verb_printed (codes "call") (omega arith) refl, call_printed call h.0 h.1)
event_printed Take h = (verb_printed (codes "take") (omega arith) refl, tt)
event_printed Close h = (verb_printed (codes "close") (omega arith) refl, tt)
event_printed (Update point value) h = (
  verb_printed (codes "update") (omega arith) refl,
  (
    short_printed point h.0,
    (
      body_printed value.body h.1.state h.2,
      (
        flags_printed value.flags h.1.flags,
        (
          decimal_printed value.seconds (omega (arith, h.1.seconds)),
          (decimal_printed value.millis (omega (arith, h.1.millis)), tt),
        ),
      ),
    ),
  ),
)
event_printed (Table peer variant) h = (
  verb_printed (codes "table") (omega arith) refl,
  (short_printed peer h.0, (short_printed variant h.1, tt)),
)
event_printed (events.Tag device tag) h = (
  verb_printed (codes "tag") (omega arith) refl,
  (
    short_printed device h.0,
    (
      decimal_printed tag.tag (omega (arith, h.1.limit)),
      (
        verb_printed (118 ∷ escaped_text tag.reason) (omega arith)
            (data_graphic (text tag.reason)
            (record { shallow = omega arith; parts = h.1.reason })),
        tt,
      ),
    ),
  ),
)
event_printed (Tick now) h =
    (verb_printed (codes "tick") (omega arith) refl, (decimal_printed now h, tt))
event_printed (Ask peer slot) h = (
  verb_printed (codes "ask") (omega arith) refl,
  (short_printed peer h.0, (short_printed slot h.1, tt)),
)
event_printed TakeOrders h = (verb_printed (codes "orders") (omega arith) refl, tt)
event_printed Stop h = (verb_printed (codes "stop") (omega arith) refl, tt)
