-- The texts of what is watched for a peer, in which neighbours, points and devices stand by their
-- names, and items of which the texts tell all.
use Rattle.std.specs.Prelude.{IsTrue, ◌<◌, ◌^◌, ◌==◌, not, ℕ, List, [], ◌∷◌, ◌++◌, map, codes}
use Rattle.std.specs.Prelude.{decimal}
use Rattle.std.specs.Fmt.{signed_decimal}
use Rattle.std.specs.List.{list_all}
use Rattle.std.specs.Int.{w64}
use Rattle.std.specs.Int.RustNames.{FitsSigned}
use Rattle.tase_points.specs.Values.{IsSample}
use Rattle.sbo_device.specs.Moves.{DeviceAct, selecting, operating, tagging}
use Rattle.tase_views.specs.declared.event.EventKind.TheVariants.{Request, Take, Close, Tick, Stop}
use Rattle.tase_views.specs.EventTexts.{value_text, tag_text, event_text}
use Rattle.tase_views.specs.View.{Seen, own, other_acted, other_closed, updated, tagged}
use Rattle.tase_views.specs.View.{asked, chose, ticked, stopped}
use Rattle.texts.specs.Events.FeedLines.{IsWordBody}
use Rattle.texts.specs.Journal.Entries.{IsTag, IsEvent}
use Rattle.tase_audit.specs.Watching.{OwnEntry, open_entry, call_entry, take_entry, close_entry}
use Rattle.tase_audit.specs.Watching.{WatchItem, own_item, seen_item}

-- `open KEY`, `call CALL`, `take` or `close`, of the peer with this key
abbrev pub own_entry_text : List ℕ → OwnEntry → List ℕ
own_entry_text key open_entry = codes "open " ++ key
own_entry_text key (call_entry call) = event_text (Request call)
own_entry_text key take_entry = event_text Take
own_entry_text key close_entry = event_text Close

-- `select DEVICE`, `operate DEVICE VALUE` or `tag DEVICE TAG vREASON`
abbrev pub device_act_text : List ℕ → DeviceAct → List ℕ
device_act_text device selecting = codes "select " ++ device
device_act_text device (operating value) =
    codes "operate " ++ (device ++ 32 ∷ signed_decimal value)
device_act_text device (tagging tag) = codes "tag " ++ (device ++ 32 ∷ tag_text tag)

-- `other KEY N` and what the other's association did, or `close`
abbrev pub other_text : List ℕ → ℕ → List ℕ → List ℕ
other_text key ordinal text = codes "other " ++ (key ++ 32 ∷ (decimal ordinal ++ 32 ∷ text))

-- What is seen besides own entries: `other KEY N` with an act on a device or `close`; or `all` with
-- `update POINT BODY FLAGS SECONDS MILLIS`, `tag DEVICE TAG vREASON`, `tick NOW`, `stop`, and of
-- the peer with this key `ask KEY SLOT` or `table KEY VARIANT`. What it does itself is no such
-- item.
abbrev pub seen_text : List ℕ → Seen → List ℕ
seen_text key (own ordinal act) = []
seen_text key (other_acted other ordinal device act) =
    other_text other ordinal (device_act_text device act)
seen_text key (other_closed other ordinal) = other_text other ordinal (codes "close")
seen_text key (updated point value) = codes "all update " ++ (point ++ 32 ∷ value_text value)
seen_text key (tagged device tag) = codes "all tag " ++ (device ++ 32 ∷ tag_text tag)
seen_text key (asked slot) = codes "all ask " ++ (key ++ 32 ∷ decimal slot)
seen_text key (chose variant) = codes "all table " ++ (key ++ 32 ∷ decimal variant)
seen_text key (ticked now) = codes "all " ++ event_text (Tick now)
seen_text key stopped = codes "all " ++ event_text Stop

-- `own N` and the entry, or what is seen
abbrev pub watch_text : List ℕ → WatchItem → List ℕ
watch_text key (own_item ordinal entry) =
    codes "own " ++ (decimal ordinal ++ 32 ∷ own_entry_text key entry)
watch_text key (seen_item seen) = seen_text key seen

abbrev pub watch_texts : List ℕ → List WatchItem → List (List ℕ)
watch_texts key items = map (watch_text key) items

-- ---- items of which the text tells all

-- no space stands in it
abbrev pub IsUnspaced : List ℕ → Type 0
IsUnspaced word = IsTrue (list_all (λ octet. not (octet == 32)) word)

-- each part of an entry is one that a word spells
abbrev pub IsOwnEntry : OwnEntry → Type 0
IsOwnEntry (call_entry call) = IsEvent (Request call)
IsOwnEntry _ = Unit {0}

abbrev pub IsDeviceAct : DeviceAct → Type 0
IsDeviceAct selecting = Unit {0}
IsDeviceAct (operating value) = FitsSigned w64 value
IsDeviceAct (tagging tag) = IsTag tag

-- names have no space, and each other part is one that a word spells; what the peer does itself is
-- no item of this kind
abbrev pub IsSeenItem : Seen → Type 0
IsSeenItem (own ordinal act) = ⊥
IsSeenItem (other_acted other ordinal device act) =
    IsUnspaced other × (ordinal < 2 ^ 64) × IsUnspaced device × IsDeviceAct act
IsSeenItem (other_closed other ordinal) = IsUnspaced other × (ordinal < 2 ^ 64)
IsSeenItem (updated point value) = IsUnspaced point × IsSample value × IsWordBody value.body
IsSeenItem (tagged device tag) = IsUnspaced device × IsTag tag
IsSeenItem (asked slot) = slot < 2 ^ 64
IsSeenItem (chose variant) = variant < 2 ^ 64
IsSeenItem (ticked now) = now < 2 ^ 64
IsSeenItem stopped = Unit {0}

abbrev pub IsWatchItem : WatchItem → Type 0
IsWatchItem (own_item ordinal entry) = (ordinal < 2 ^ 64) × IsOwnEntry entry
IsWatchItem (seen_item seen) = IsSeenItem seen
