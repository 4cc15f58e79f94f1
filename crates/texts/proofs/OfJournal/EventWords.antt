-- The words of an event are read as this event, and no others are.
use Rattle.std.proofs.Common.{◌≡◌, ℕ, ◌-◌, ◌<◌, ◌≤◌, ◌^◌, nat_le, List, [], ◌∷◌, Option, Some, None}
use Rattle.std.proofs.Common.{true, ◌==◌, option_map, decimal, codes, refl, sym, ap, ◌∙◌, subst}
use Rattle.std.proofs.Common.{arith}
use Rattle.std.specs.Str.{bytes_eq}
use Rattle.std.proofs.lemmas.Bool.Decides.{nat_tests}
use Rattle.std.proofs.lemmas.Option.{option_and_then_some, none-some, same_Some}
use Rattle.std.proofs.lemmas.Slice.Eq.{bytes_eq-Decides}
use Rattle.plain_text.specs.Escaped.{escaped_text}
use Rattle.plain_text.specs.Numbers.{number_in, number_up_to}
use Rattle.plain_text.specs.Octets.{hex_text}
use Rattle.plain_text.proofs.Decimal.{number_in-decimal}
use Rattle.plain_text.proofs.EscapedText.{option_map-found}
use Rattle.ber_values.specs.Visible.{IsVisible}
use Rattle.mms_data.specs.Datum.{text}
use Rattle.mms_data.proofs.OfText.LeafRead.{number-read, leaf_stands}
use Rattle.mms_data.proofs.OfText.WordText.{passes, is_same, chosen, word-found}
use Rattle.tase_points.specs.Sample.{Sample}
use Rattle.sbo_device.specs.Moves.{Tag}
use Rattle.sbo_device.specs.declared.device.TheConstants.{TAG_LIMIT}
use Rattle.tase_views.specs.declared.event.Entry.{Entry}
use Rattle.tase_views.specs.declared.event.EventKind.{EventKind}
use Rattle.tase_views.specs.declared.event.EventKind.TheVariants.{Open, Request, Take, Close}
use Rattle.tase_views.specs.declared.event.EventKind.TheVariants.{Update, Table, Tick, Ask}
use Rattle.tase_views.specs.declared.event.EventKind.TheVariants.{TakeOrders, Stop}
use Rattle.tase_views.specs.declared.event.EventKind.TheVariants as events
use Rattle.tase_views.specs.EventTexts.{body_text}
use Rattle.texts.specs.Events.CallWords.{call_words}
use Rattle.tase_points.specs.Values.{IsSample}
use Rattle.texts.specs.Events.FeedLines.{sample_in, tag_words_in, reason_in, IsWordBody}
use Rattle.texts.proofs.OfEvents.ValueWords.{value-found, value-read}
use Rattle.texts.specs.Journal.CallIn.{call_in}
use Rattle.texts.specs.Journal.Entries.{long_in, short_in, pair_in, bare_in, open_in, tick_in}
use Rattle.texts.specs.Journal.Entries.{update_in, tagging_in, centre_event_in, event_in}
use Rattle.texts.specs.Journal.Entries.{seat_event_in, IsTag, IsEvent, IsEntry}
use Rattle.texts.proofs.OfJournal.CallRead.{call_in-found, call_in-words}

-- the words of an event
abbrev pub event_words : EventKind → List (List ℕ)
event_words (Open peer) = codes "open" ∷ decimal peer ∷ []
event_words (Request call) = codes "call" ∷ call_words call
event_words Take = codes "take" ∷ []
event_words Close = codes "close" ∷ []
event_words (Update point value) =
    codes "update" ∷ decimal point ∷ body_text value.body ∷ hex_text (value.flags ∷ [])
    ∷ decimal value.seconds ∷ decimal value.millis ∷ []
event_words (Table peer variant) = codes "table" ∷ decimal peer ∷ decimal variant ∷ []
event_words (events.Tag device tag) =
    codes "tag" ∷ decimal device ∷ decimal tag.tag ∷ (118 ∷ escaped_text tag.reason) ∷ []
event_words (Tick now) = codes "tick" ∷ decimal now ∷ []
event_words (Ask peer slot) = codes "ask" ∷ decimal peer ∷ decimal slot ∷ []
event_words TakeOrders = codes "orders" ∷ []
event_words Stop = codes "stop" ∷ []

abbrev pub entry_words : Entry → List (List ℕ)
entry_words entry = decimal entry.who ∷ event_words entry.event

-- words are those of an event
pub record SpellsEvent (words : List (List ℕ)) (event : EventKind) : Type 0 where
  pub spelled : words ≡ event_words event
  pub written : IsEvent event

-- ---- what is read is spelled

number-found : (limit n : ℕ) (word : List ℕ) → limit < 2 ^ 64 → number_up_to limit word ≡ Some n
    → (word ≡ decimal n) × (n ≤ limit)
number-found limit n word small e =
    let p = passes (λ m. nat_le m limit) (number_in word) n e in
    let most : n ≤ limit = at_most n limit p.1 in
    ((number_in-decimal word n (omega (arith, small, most))).0 p.0, most)
  where
    at_most : (n limit : ℕ) → nat_le n limit ≡ true → n ≤ limit
    at_most n limit e = grind (arith, nat_tests, e)

long-found : (word : List ℕ) (n : ℕ) → long_in word ≡ Some n → (word ≡ decimal n) × (n < 2 ^ 64)
long-found word n e =
    let found = number-found (2 ^ 64 - 1) n word (omega arith) e in
    (found.0, omega (arith, found.1))

short-found : (word : List ℕ) (n : ℕ) → short_in word ≡ Some n
    → (word ≡ decimal n) × (n < 2 ^ 32)
short-found word n e =
    let found = number-found (2 ^ 32 - 1) n word (omega arith) e in
    (found.0, omega (arith, found.1))

pair-found : (words : List (List ℕ)) (p : ℕ × ℕ) → pair_in words ≡ Some p
    → (words ≡ decimal p.0 ∷ decimal p.1 ∷ []) × (p.0 < 2 ^ 32) × (p.1 < 2 ^ 32)
pair-found [] p e = absurd (none-some p e)
pair-found (first ∷ []) p e = absurd (none-some p e)
pair-found (first ∷ second ∷ []) p e =
    option_and_then_some (λ a. option_map (λ b. (a, b)) (short_in second)) (short_in first) p e
    (λ a is_a k. option_map-found (λ b. (a, b)) (short_in second) p k
    (λ b is_b whole.
    let one = short-found first a is_a in
    let two = short-found second b is_b in
    subst
    (λ (q : ℕ × ℕ). (first ∷ second ∷ [] ≡ decimal q.0 ∷ decimal q.1 ∷ [])
    × (q.0 < 2 ^ 32) × (q.1 < 2 ^ 32))
    (sym whole) (λ i. one.0 i ∷ two.0 i ∷ [], one.1, two.1)))
pair-found (first ∷ second ∷ next ∷ more) p e = absurd (none-some p e)

bare-found : (word : List ℕ) (event : EventKind) (words : List (List ℕ)) (found : EventKind)
    → SpellsEvent (word ∷ []) event → bare_in event words ≡ Some found
    → SpellsEvent (word ∷ words) found
bare-found word event [] found s e =
    subst (λ (v : EventKind). SpellsEvent (word ∷ []) v) (same_Some event found e) s
bare-found word event (next ∷ words) found s e = absurd (none-some found e)

open-found : (words : List (List ℕ)) (event : EventKind) → open_in words ≡ Some event
    → SpellsEvent (codes "open" ∷ words) event
open-found [] event e = absurd (none-some event e)
open-found (peer ∷ []) event e =
    option_map-found Open (short_in peer) event e (λ n is whole.
    let found = short-found peer n is in
    subst (λ (v : EventKind). SpellsEvent (codes "open" ∷ peer ∷ []) v) (sym whole)
    (record { spelled = ap (λ w. codes "open" ∷ w ∷ []) found.0; written = found.1 }))
open-found (peer ∷ next ∷ more) event e = absurd (none-some event e)

tick-found : (words : List (List ℕ)) (event : EventKind) → tick_in words ≡ Some event
    → SpellsEvent (codes "tick" ∷ words) event
tick-found [] event e = absurd (none-some event e)
tick-found (now ∷ []) event e =
    option_map-found Tick (long_in now) event e (λ n is whole.
    let found = long-found now n is in
    subst (λ (v : EventKind). SpellsEvent (codes "tick" ∷ now ∷ []) v) (sym whole)
    (record { spelled = ap (λ w. codes "tick" ∷ w ∷ []) found.0; written = found.1 }))
tick-found (now ∷ next ∷ more) event e = absurd (none-some event e)

request-found : (words : List (List ℕ)) (event : EventKind)
    → option_map Request (call_in words) ≡ Some event → SpellsEvent (codes "call" ∷ words) event
request-found words event e =
    option_map-found Request (call_in words) event e (λ call is whole.
    let found = call_in-found words call is in
    subst (λ (v : EventKind). SpellsEvent (codes "call" ∷ words) v) (sym whole) (record {
      spelled = ap (λ ws. codes "call" ∷ ws) found.spelled;
      written = (found.lawful, found.textual);
    }))

table-found : (words : List (List ℕ)) (event : EventKind)
    → option_map (λ p. Table p.0 p.1) (pair_in words) ≡ Some event
    → SpellsEvent (codes "table" ∷ words) event
table-found words event e =
    option_map-found (λ p. Table p.0 p.1) (pair_in words) event e (λ p is whole.
    let found = pair-found words p is in
    subst (λ (v : EventKind). SpellsEvent (codes "table" ∷ words) v) (sym whole) (record {
      spelled = ap (λ ws. codes "table" ∷ ws) found.0;
      written = (found.1, found.2);
    }))

ask-found : (words : List (List ℕ)) (event : EventKind)
    → option_map (λ p. Ask p.0 p.1) (pair_in words) ≡ Some event
    → SpellsEvent (codes "ask" ∷ words) event
ask-found words event e =
    option_map-found (λ p. Ask p.0 p.1) (pair_in words) event e (λ p is whole.
    let found = pair-found words p is in
    subst (λ (v : EventKind). SpellsEvent (codes "ask" ∷ words) v) (sym whole) (record {
      spelled = ap (λ ws. codes "ask" ∷ ws) found.0;
      written = (found.1, found.2);
    }))

update-found : (words : List (List ℕ)) (event : EventKind) → update_in words ≡ Some event
    → SpellsEvent (codes "update" ∷ words) event
update-found [] event e = absurd (none-some event e)
update-found (point ∷ []) event e = absurd (none-some event e)
update-found (point ∷ body ∷ []) event e = absurd (none-some event e)
update-found (point ∷ body ∷ flags ∷ []) event e = absurd (none-some event e)
update-found (point ∷ body ∷ flags ∷ seconds ∷ []) event e = absurd (none-some event e)
update-found (point ∷ body ∷ flags ∷ seconds ∷ millis ∷ []) event e =
    option_and_then_some (λ p. option_map (λ v. Update p v) (sample_in body flags seconds millis))
    (short_in point) event e
    (λ p is_p k. option_map-found (λ v. Update p v) (sample_in body flags seconds millis) event k
    (λ value is_value whole.
    let first = short-found point p is_p in
    let found = value-found body flags seconds millis value is_value in
    subst
    (λ (v : EventKind).
    SpellsEvent (codes "update" ∷ point ∷ body ∷ flags ∷ seconds ∷ millis ∷ []) v)
    (sym whole) (record {
      spelled = λ i. codes "update" ∷ first.0 i ∷ found.body_is i ∷ found.flags_are i
          ∷ found.seconds_are i ∷ found.millis_are i ∷ [];
      written = (first.1, found.ranges, found.textual);
    })))
update-found (point ∷ body ∷ flags ∷ seconds ∷ millis ∷ next ∷ more) event e =
    absurd (none-some event e)

reason-found : (word reason : List ℕ) → reason_in word ≡ Some reason
    → (word ≡ 118 ∷ escaped_text reason) × IsVisible reason
reason-found [] reason e = absurd (none-some reason e)
reason-found (letter ∷ held) reason e =
    chosen ((letter ∷ held ≡ 118 ∷ escaped_text reason) × IsVisible reason) reason
    (letter == 118) _ None
    (λ is k.
    let found = word-found (118 ∷ held) (text reason) (ap (option_map text) k) in
    (ap (λ c. c ∷ held) (is_same letter 118 is) ∙ found.spelled, found.parts))
    (λ other k. absurd (none-some reason k)) e

tag-found : (number reason : List ℕ) (tag : Tag) → tag_words_in number reason ≡ Some tag
    → (number ≡ decimal tag.tag) × (reason ≡ 118 ∷ escaped_text tag.reason) × IsTag tag
tag-found number reason tag e =
    option_and_then_some
    (λ n. option_map (λ r. record { tag = n; reason = r }) (reason_in reason))
    (number_up_to TAG_LIMIT number) tag e
    (λ n is_n k.
    option_map-found (λ r. record { tag = n; reason = r }) (reason_in reason) tag k
    (λ r is_r whole.
    let first = number-found TAG_LIMIT n number (omega arith) is_n in
    let second = reason-found reason r is_r in
    subst
    (λ (t : Tag). (number ≡ decimal t.tag) × (reason ≡ 118 ∷ escaped_text t.reason) × IsTag t)
    (sym whole) (first.0, second.0, record { limit = first.1; reason = second.1 })))

tagging-found : (words : List (List ℕ)) (event : EventKind) → tagging_in words ≡ Some event
    → SpellsEvent (codes "tag" ∷ words) event
tagging-found [] event e = absurd (none-some event e)
tagging-found (device ∷ []) event e = absurd (none-some event e)
tagging-found (device ∷ number ∷ []) event e = absurd (none-some event e)
tagging-found (device ∷ number ∷ reason ∷ []) event e =
    option_and_then_some (λ d. option_map (λ t. events.Tag d t) (tag_words_in number reason))
    (short_in device) event e
    (λ d is_d k. option_map-found (λ t. events.Tag d t) (tag_words_in number reason) event k
    (λ tag is_tag whole.
    let first = short-found device d is_d in
    let found = tag-found number reason tag is_tag in
    subst
    (λ (v : EventKind). SpellsEvent (codes "tag" ∷ device ∷ number ∷ reason ∷ []) v) (sym whole)
    (record {
      spelled = λ i. codes "tag" ∷ first.0 i ∷ found.0 i ∷ found.1 i ∷ [];
      written = (first.1, found.2);
    })))
tagging-found (device ∷ number ∷ reason ∷ next ∷ more) event e = absurd (none-some event e)

-- a verb, and what stands behind it
verb_is : (verb word : List ℕ) (words : List (List ℕ)) (event : EventKind)
    → bytes_eq verb word ≡ true → SpellsEvent (word ∷ words) event
    → SpellsEvent (verb ∷ words) event
verb_is verb word words event e s =
    subst (λ (v : List ℕ). SpellsEvent (v ∷ words) event)
    (sym ((bytes_eq-Decides verb word).0 e)) s

centre-found : (verb : List ℕ) (words : List (List ℕ)) (event : EventKind)
    → centre_event_in verb words ≡ Some event → SpellsEvent (verb ∷ words) event
centre-found verb words event e =
    chosen (SpellsEvent (verb ∷ words) event) event (bytes_eq verb (codes "update")) _ _
    (λ is k. verb_is verb (codes "update") words event is (update-found words event k))
    (λ other k. chosen (SpellsEvent (verb ∷ words) event) event (bytes_eq verb (codes "tick")) _ _
    (λ is l. verb_is verb (codes "tick") words event is (tick-found words event l))
    (λ other l. chosen (SpellsEvent (verb ∷ words) event) event (bytes_eq verb (codes "table")) _ _
    (λ is m. verb_is verb (codes "table") words event is (table-found words event m))
    (λ other m. chosen (SpellsEvent (verb ∷ words) event) event (bytes_eq verb (codes "ask")) _ _
    (λ is n. verb_is verb (codes "ask") words event is (ask-found words event n))
    (λ other n. chosen (SpellsEvent (verb ∷ words) event) event (bytes_eq verb (codes "tag")) _ _
    (λ is o. verb_is verb (codes "tag") words event is (tagging-found words event o))
    (λ other o. chosen (SpellsEvent (verb ∷ words) event) event (bytes_eq verb (codes "orders")) _ _
    (λ is p. verb_is verb (codes "orders") words event is
    (bare-found (codes "orders") TakeOrders words event (record { spelled = refl; written = tt })
    p))
    (λ other p. chosen (SpellsEvent (verb ∷ words) event) event (bytes_eq verb (codes "stop")) _ _
    (λ is q. verb_is verb (codes "stop") words event is
    (bare-found (codes "stop") Stop words event (record { spelled = refl; written = tt }) q))
    (λ other q. absurd (none-some event q)) p) o) n) m) l) k) e

event-found : (words : List (List ℕ)) (event : EventKind) → event_in words ≡ Some event
    → SpellsEvent words event
event-found [] event e = absurd (none-some event e)
event-found (verb ∷ words) event e =
    chosen (SpellsEvent (verb ∷ words) event) event (bytes_eq verb (codes "open")) _ _
    (λ is k. verb_is verb (codes "open") words event is (open-found words event k))
    (λ other k. chosen (SpellsEvent (verb ∷ words) event) event (bytes_eq verb (codes "call")) _ _
    (λ is l. verb_is verb (codes "call") words event is (request-found words event l))
    (λ other l. chosen (SpellsEvent (verb ∷ words) event) event (bytes_eq verb (codes "take")) _ _
    (λ is m. verb_is verb (codes "take") words event is
    (bare-found (codes "take") Take words event (record { spelled = refl; written = tt }) m))
    (λ other m. chosen (SpellsEvent (verb ∷ words) event) event (bytes_eq verb (codes "close")) _ _
    (λ is n. verb_is verb (codes "close") words event is
    (bare-found (codes "close") Close words event (record { spelled = refl; written = tt }) n))
    (λ other n. centre-found verb words event n) m) l) k) e

pub entry-found : (words : List (List ℕ)) (entry : Entry) → seat_event_in words ≡ Some entry
    → (words ≡ entry_words entry) × IsEntry entry
entry-found [] entry e = absurd (none-some entry e)
entry-found (seat ∷ words) entry e =
    option_and_then_some
    (λ who. option_map (λ event. record { who = who; event = event }) (event_in words))
    (long_in seat) entry e
    (λ who is_who k.
    option_map-found (λ event. record { who = who; event = event }) (event_in words) entry k
    (λ event is_event whole.
    let first = long-found seat who is_who in
    let found = event-found words event is_event in
    subst (λ (x : Entry). (seat ∷ words ≡ entry_words x) × IsEntry x) (sym whole) (
      λ i. first.0 i ∷ found.spelled i,
      record { who = first.1; event = found.written },
    )))

-- ---- what is spelled is read

long-read : (n : ℕ) → n < 2 ^ 64 → long_in (decimal n) ≡ Some n
long-read n h = number-read (2 ^ 64 - 1) n h (omega (arith, h))

short-read : (n : ℕ) → n < 2 ^ 32 → short_in (decimal n) ≡ Some n
short-read n h = number-read (2 ^ 32 - 1) n (omega (arith, h)) (omega (arith, h))

pair-read : (a b : ℕ) → a < 2 ^ 32 → b < 2 ^ 32
    → pair_in (decimal a ∷ decimal b ∷ []) ≡ Some (a, b)
pair-read a b h k = rw (short-read a h, short-read b k) refl

reason-read : (reason : List ℕ) → IsVisible reason
    → reason_in (118 ∷ escaped_text reason) ≡ Some reason
reason-read reason h = by _ (leaf_stands (text reason) tt h)
  where
    by : (o : Option (List ℕ)) → option_map text o ≡ Some (text reason) → o ≡ Some reason
    by None e = absurd cc
    by (Some r) e = cc

tag-read : (tag : Tag) → IsTag tag
    → tag_words_in (decimal tag.tag) (118 ∷ escaped_text tag.reason) ≡ Some tag
tag-read tag h =
    rw (
      number-read TAG_LIMIT tag.tag (omega (arith, h.limit)) h.limit,
      reason-read tag.reason h.reason,
    ) refl

value-words : (value : Sample) → IsSample value → IsWordBody value.body
    → sample_in (body_text value.body) (hex_text (value.flags ∷ [])) (decimal value.seconds)
    (decimal value.millis) ≡ Some value
value-words value ranges textual =
    value-read (body_text value.body) (hex_text (value.flags ∷ [])) (decimal value.seconds)
    (decimal value.millis) value (record {
      body_is = refl;
      flags_are = refl;
      seconds_are = refl;
      millis_are = refl;
      ranges = ranges;
      textual = textual;
    })

event-read : (event : EventKind) → IsEvent event → event_in (event_words event) ≡ Some event
event-read (Open peer) h = ap (option_map Open) (short-read peer h)
event-read (Request call) h =
    ap (option_map Request)
    (call_in-words (call_words call) call
    (record { spelled = refl; lawful = h.0; textual = h.1 }))
event-read Take h = refl
event-read Close h = refl
event-read (Update point value) h =
    rw (short-read point h.0, value-words value h.1 h.2) refl
event-read (Table peer variant) h =
    ap (option_map (λ p. Table p.0 p.1)) (pair-read peer variant h.0 h.1)
event-read (events.Tag device tag) h = rw (short-read device h.0, tag-read tag h.1) refl
event-read (Tick now) h = ap (option_map Tick) (long-read now h)
event-read (Ask peer slot) h =
    ap (option_map (λ p. Ask p.0 p.1)) (pair-read peer slot h.0 h.1)
event-read TakeOrders h = refl
event-read Stop h = refl

pub entry-read : (entry : Entry) → IsEntry entry → seat_event_in (entry_words entry) ≡ Some entry
entry-read entry h = rw (long-read entry.who h.who, event-read entry.event h.event) refl
