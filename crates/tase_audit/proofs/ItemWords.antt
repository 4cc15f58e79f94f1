-- What is watched is told by its text: of lawful items there is one to a text.
use Rattle.std.proofs.Common.{◌≡◌, ℕ, ◌<◌, ◌^◌, ◌==◌, not, true, ℤ, pos, negsuc, List, [], ◌∷◌}
use Rattle.std.proofs.Common.{◌++◌, drop, get_or, codes, decimal, refl, sym, ap, ◌∙◌, arith}
use Rattle.std.proofs.Common.{append_assoc, Some}
use Rattle.std.specs.Fmt.{signed_decimal}
use Rattle.std.specs.Int.{w64}
use Rattle.std.specs.Int.RustNames.{FitsSigned}
use Rattle.std.specs.Int.Signed.{mag}
use Rattle.std.specs.List.{list_all, All}
use Rattle.std.proofs.lemmas.Bool.{and_parts}
use Rattle.std.proofs.lemmas.Bool.Decides.{nat_tests}
use Rattle.std.proofs.lemmas.Fmt.{decimal_injective, signed_decimal_injective}
use Rattle.std.proofs.lemmas.List.{append_cancel_left}
use Rattle.std.proofs.lemmas.List.Elements.{All-head, All-tail}
use Rattle.std.proofs.lemmas.Option.{same_Some}
use Rattle.tase_points.specs.Sample.{Sample}
use Rattle.tase_points.specs.Values.{IsSample}
use Rattle.sbo_device.specs.Moves.{Tag, DeviceAct, selecting, operating, tagging}
use Rattle.tase_views.specs.declared.event.EventKind.{EventKind}
use Rattle.tase_views.specs.declared.event.EventKind.TheVariants.{Request, Update}
use Rattle.tase_views.specs.declared.event.EventKind.TheVariants.{Tick}
use Rattle.tase_views.specs.declared.event.EventKind.TheVariants as events
use Rattle.tase_views.specs.declared.event.Entry.{Entry}
use Rattle.tase_views.specs.EventTexts.{event_text, value_text, tag_text}
use Rattle.tase_views.specs.View.{Seen, own, other_acted, other_closed, updated, tagged}
use Rattle.tase_views.specs.View.{asked, chose, ticked, stopped}
use Rattle.texts.specs.Events.FeedLines.{IsWordBody}
use Rattle.texts.specs.Journal.Entries.{entry_in, IsTag, IsEvent}
use Rattle.texts.specs.Journal.Journals.{entry_text}
use Rattle.texts.proofs.OfEvents.Graphic.{is_graphic, decimal_graphic}
use Rattle.texts.proofs.OfJournal.EntryRead.{entry_in-text}
use Rattle.tase_audit.specs.Watching.{OwnEntry, open_entry, call_entry, take_entry, close_entry}
use Rattle.tase_audit.specs.Watching.{WatchItem, own_item, seen_item}
use Rattle.tase_audit.specs.ItemTexts.{own_entry_text, device_act_text, other_text, seen_text}
use Rattle.tase_audit.specs.ItemTexts.{watch_text, watch_texts, IsUnspaced, IsOwnEntry, IsDeviceAct}
use Rattle.tase_audit.specs.ItemTexts.{IsSeenItem, IsWatchItem}

-- ---- where a word ends

no_space : (octet : ℕ) → not (octet == 32) ≡ true → octet ≡ 32 → ⊥
no_space octet isnt is = grind (arith, nat_tests)

-- two words, each with a space behind it, and what stands behind that
parted : (a b x y : List ℕ) → IsUnspaced a → IsUnspaced b → a ++ 32 ∷ x ≡ b ++ 32 ∷ y
    → (a ≡ b) × (x ≡ y)
parted [] [] x y h k e = (refl, ap (drop 1) e)
parted [] (d ∷ b) x y h k e =
    absurd (no_space d (and_parts (not (d == 32)) _ k).0 (sym (ap (λ t. get_or t 0 0) e)))
parted (c ∷ a) [] x y h k e =
    absurd (no_space c (and_parts (not (c == 32)) _ h).0 (ap (λ t. get_or t 0 0) e))
parted (c ∷ a) (d ∷ b) x y h k e =
    let first : c ≡ d = ap (λ t. get_or t 0 0) e in
    let rest = parted a b x y (and_parts (not (c == 32)) _ h).1 (and_parts (not (d == 32)) _ k).1
    (ap (drop 1) e) in (λ i. first i ∷ rest.0 i, rest.1)

unspaced : (octet : ℕ) → is_graphic octet ≡ true → not (octet == 32) ≡ true
unspaced octet graphic = grind (arith, nat_tests)

graphic_unspaced : (word : List ℕ) → list_all is_graphic word ≡ true → IsUnspaced word
graphic_unspaced [] graphic = refl
graphic_unspaced (octet ∷ word) graphic =
    let parts = and_parts (is_graphic octet) _ graphic in
    let first : not (octet == 32) ≡ true = unspaced octet parts.0 in
    rw (first, graphic_unspaced word parts.1) refl

-- two numbers, each with a space behind it
numbers_parted : (m n : ℕ) (x y : List ℕ) → m < 2 ^ 64 → n < 2 ^ 64
    → decimal m ++ 32 ∷ x ≡ decimal n ++ 32 ∷ y → (m ≡ n) × (x ≡ y)
numbers_parted m n x y h k e =
    let parts = parted (decimal m) (decimal n) x y
    (graphic_unspaced (decimal m) (decimal_graphic m h))
    (graphic_unspaced (decimal n) (decimal_graphic n k)) e in
    (decimal_injective m n h k parts.0, parts.1)

-- ---- by the texts of events

abbrev at_seat : EventKind → Entry
at_seat event = record { who = 0; event = event }

seat_read : (event : EventKind) → IsEvent event
    → entry_in (entry_text (at_seat event)) ≡ Some (at_seat event)
seat_read event h = entry_in-text (at_seat event) (record { who = omega arith; event = h })

same_event : (a b : EventKind) → IsEvent a → IsEvent b → event_text a ≡ event_text b → a ≡ b
same_event a b h k e =
    ap (λ (entry : Entry). entry.event)
    (same_Some (at_seat a) (at_seat b)
    (sym (seat_read a h) ∙ ap (λ (t : List ℕ). entry_in (decimal 0 ++ 32 ∷ t)) e
    ∙ seat_read b k))

abbrev call_of : EventKind → OwnEntry
call_of (Request call) = call_entry call
call_of _ = take_entry

abbrev value_of : Sample → EventKind → Sample
value_of other (Update point value) = value
value_of other _ = other

abbrev tag_of_event : Tag → EventKind → Tag
tag_of_event other (events.Tag device tag) = tag
tag_of_event other _ = other

abbrev moment_of_event : EventKind → ℕ
moment_of_event (Tick now) = now
moment_of_event _ = 0

same_value : (v w : Sample) → IsSample v → IsWordBody v.body → IsSample w → IsWordBody w.body
    → value_text v ≡ value_text w → v ≡ w
same_value v w h k t u e =
    ap (value_of v)
    (same_event (Update 0 v) (Update 0 w) (omega arith, h, k) (omega arith, t, u)
    (ap (λ (l : List ℕ). codes "update " ++ decimal 0 ++ 32 ∷ l) e))

same_tag : (t u : Tag) → IsTag t → IsTag u → tag_text t ≡ tag_text u → t ≡ u
same_tag t u h k e =
    ap (tag_of_event t)
    (same_event (events.Tag 0 t) (events.Tag 0 u) (omega arith, h) (omega arith, k)
    (ap (λ (l : List ℕ). codes "tag " ++ decimal 0 ++ 32 ∷ l) e))

-- ---- own entries

same_own_entry : (key : List ℕ) (a b : OwnEntry) → IsOwnEntry a → IsOwnEntry b
    → own_entry_text key a ≡ own_entry_text key b → a ≡ b
same_own_entry key open_entry open_entry h k e = refl
same_own_entry key take_entry take_entry h k e = refl
same_own_entry key close_entry close_entry h k e = refl
same_own_entry key (call_entry a) (call_entry b) h k e =
    ap call_of (same_event (Request a) (Request b) h k e)
same_own_entry key a b h k e =
    absurd (omega (arith, ap (λ (t : List ℕ). get_or t 0 0) e, ap (λ (t : List ℕ). get_or t 1 0) e))

-- ---- acts of others

same_number : (y z : ℤ) → FitsSigned w64 y → FitsSigned w64 z
    → signed_decimal y ≡ signed_decimal z → y ≡ z
same_number y z h k e = signed_decimal_injective y z (small y h) (small z k) e
  where
    small : (z : ℤ) → FitsSigned w64 z → mag z < 2 ^ 63
    small (pos n) h = omega (arith, h)
    small (negsuc n) h = omega (arith, h)

same_act : (d b : List ℕ) (one other : DeviceAct) → IsUnspaced d → IsUnspaced b
    → IsDeviceAct one → IsDeviceAct other → device_act_text d one ≡ device_act_text b other
    → (d ≡ b) × (one ≡ other)
same_act d b selecting selecting h k t u e = (ap (drop 7) e, refl)
same_act d b (operating y) (operating z) h k t u e =
    let parts = parted d b (signed_decimal y) (signed_decimal z) h k (ap (drop 8) e) in
    (parts.0, ap operating (same_number y z t u parts.1))
same_act d b (tagging y) (tagging z) h k t u e =
    let parts = parted d b (tag_text y) (tag_text z) h k (ap (drop 4) e) in
    (parts.0, ap tagging (same_tag y z t u parts.1))
same_act d b one other h k t u e =
    absurd (omega (arith, ap (λ (t : List ℕ). get_or t 0 0) e))

-- the same association of another, and what it did
same_other : (a b : List ℕ) (m n : ℕ) (x y : List ℕ) → IsUnspaced a → IsUnspaced b → m < 2 ^ 64
    → n < 2 ^ 64 → other_text a m x ≡ other_text b n y → (a ≡ b) × (m ≡ n) × (x ≡ y)
same_other a b m n x y h k t u e =
    let key = parted a b (decimal m ++ 32 ∷ x) (decimal n ++ 32 ∷ y) h k (ap (drop 6) e) in
    let rest = numbers_parted m n x y t u key.1 in (key.0, rest.0, rest.1)

no_close : (device : List ℕ) (act : DeviceAct) → device_act_text device act ≡ codes "close" → ⊥
no_close device selecting e = absurd (omega (arith, ap (λ (t : List ℕ). get_or t 0 0) e))
no_close device (operating value) e =
    absurd (omega (arith, ap (λ (t : List ℕ). get_or t 0 0) e))
no_close device (tagging tag) e = absurd (omega (arith, ap (λ (t : List ℕ). get_or t 0 0) e))

-- ---- what is seen

-- what stands behind a key and a space
spaced : (key x : List ℕ) → key ++ 32 ∷ x ≡ (key ++ 32 ∷ []) ++ x
spaced key x = sym (append_assoc key (32 ∷ []) x)

same_seen : (key : List ℕ) (one other : Seen) → IsSeenItem one → IsSeenItem other
    → seen_text key one ≡ seen_text key other → one ≡ other
same_seen key (own ordinal act) other h k e = absurd h
same_seen key (other_acted a m d x) (other_acted b n c y) h k e =
    let parts = same_other a b m n (device_act_text d x) (device_act_text c y) h.0 k.0 h.1 k.1 e in
    let act = same_act d c x y h.2 k.2 h.3 k.3 parts.2 in
    λ i. other_acted (parts.0 i) (parts.1 i) (act.0 i) (act.1 i)
same_seen key (other_acted a m d x) (other_closed b n) h k e =
    absurd (no_close d x
    (same_other a b m n (device_act_text d x) (codes "close") h.0 k.0 h.1 k.1 e).2)
same_seen key (other_closed a m) (other_acted b n d x) h k e =
    absurd (no_close d x
    (sym (same_other a b m n (codes "close") (device_act_text d x) h.0 k.0 h.1 k.1 e).2))
same_seen key (other_closed a m) (other_closed b n) h k e =
    let parts = same_other a b m n (codes "close") (codes "close") h.0 k.0 h.1 k.1 e in
    λ i. other_closed (parts.0 i) (parts.1 i)
same_seen key (updated p v) (updated q w) h k e =
    let parts = parted p q (value_text v) (value_text w) h.0 k.0 (ap (drop 11) e) in
    let value = same_value v w h.1 h.2 k.1 k.2 parts.1 in λ i. updated (parts.0 i) (value i)
same_seen key (tagged d t) (tagged c u) h k e =
    let parts = parted d c (tag_text t) (tag_text u) h.0 k.0 (ap (drop 8) e) in
    let tag = same_tag t u h.1 k.1 parts.1 in λ i. tagged (parts.0 i) (tag i)
same_seen key (asked m) (asked n) h k e =
    ap asked (decimal_injective m n h k
    (append_cancel_left (key ++ 32 ∷ []) (decimal m) (decimal n)
    (sym (spaced key (decimal m)) ∙ ap (drop 8) e ∙ spaced key (decimal n))))
same_seen key (chose m) (chose n) h k e =
    ap chose (decimal_injective m n h k
    (append_cancel_left (key ++ 32 ∷ []) (decimal m) (decimal n)
    (sym (spaced key (decimal m)) ∙ ap (drop 10) e ∙ spaced key (decimal n))))
same_seen key (ticked m) (ticked n) h k e =
    ap (λ (event : EventKind). ticked (moment_of_event event))
    (same_event (Tick m) (Tick n) h k (ap (drop 4) e))
same_seen key stopped stopped h k e = refl
same_seen key one other h k e =
    absurd (omega (
      arith,
      ap (λ (t : List ℕ). get_or t 0 0) e,
      ap (λ (t : List ℕ). get_or t 4 0) e,
      ap (λ (t : List ℕ). get_or t 6 0) e,
    ))

-- ---- items

not_own : (key text : List ℕ) (seen : Seen) → codes "own " ++ text ≡ seen_text key seen → ⊥
not_own key text stopped e = absurd (omega (arith, ap (λ (t : List ℕ). get_or t 0 0) e))
not_own key text seen e =
    absurd (omega (arith, ap (λ (t : List ℕ). get_or t 0 0) e, ap (λ (t : List ℕ). get_or t 1 0) e))

same_item : (key : List ℕ) (one other : WatchItem) → IsWatchItem one → IsWatchItem other
    → watch_text key one ≡ watch_text key other → one ≡ other
same_item key (own_item m a) (own_item n b) h k e =
    let parts = numbers_parted m n (own_entry_text key a) (own_entry_text key b) h.0 k.0
    (ap (drop 4) e) in
    let entry = same_own_entry key a b h.1 k.1 parts.1 in λ i. own_item (parts.0 i) (entry i)
same_item key (own_item m a) (seen_item seen) h k e =
    absurd (not_own key (decimal m ++ 32 ∷ own_entry_text key a) seen e)
same_item key (seen_item seen) (own_item n b) h k e =
    absurd (not_own key (decimal n ++ 32 ∷ own_entry_text key b) seen (sym e))
same_item key (seen_item one) (seen_item other) h k e =
    ap seen_item (same_seen key one other h k e)

-- of lists of lawful items there is one to a list of texts
pub same_items : (key : List ℕ) (one other : List WatchItem) → All IsWatchItem one
    → All IsWatchItem other → watch_texts key one ≡ watch_texts key other → one ≡ other
same_items key [] [] h k e = refl
same_items key [] (y ∷ other) h k e = absurd cc
same_items key (x ∷ one) [] h k e = absurd cc
same_items key (x ∷ one) (y ∷ other) h k e =
    let first = same_item key x y (All-head IsWatchItem x one h) (All-head IsWatchItem y other k)
    (ap (λ (t : List (List ℕ)). get_or t 0 []) e) in
    let rest = same_items key one other (All-tail IsWatchItem x one h)
    (All-tail IsWatchItem y other k) (ap (drop 1) e) in λ i. first i ∷ rest i
