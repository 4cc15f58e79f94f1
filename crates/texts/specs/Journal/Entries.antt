-- The entry that a line of a journal is.
use Rattle.std.specs.Prelude.{ℕ, ◌-◌, ◌<◌, ◌≤◌, ◌^◌, Bool, ◌==◌, if◌then◌else◌, List, [], ◌∷◌}
use Rattle.std.specs.Prelude.{Option, Some, None, option_map, option_and_then, codes, bytes_eq}
use Rattle.std.specs.List.{list_all, slice_split}
use Rattle.plain_text.specs.Numbers.{number_up_to}
use Rattle.plain_text.specs.Words.{is_word, words}
use Rattle.ber_values.specs.Visible.{IsVisible}
use Rattle.tase_points.specs.Values.{IsSample}
use Rattle.sbo_device.specs.declared.device.TheConstants.{TAG_LIMIT}
use Rattle.sbo_device.specs.Moves.{Tag}
use Rattle.tase_views.specs.declared.event.Entry.{Entry}
use Rattle.tase_views.specs.declared.event.EventKind.{EventKind}
use Rattle.tase_views.specs.declared.event.EventKind.TheVariants.{Open, Request, Take, Close}
use Rattle.tase_views.specs.declared.event.EventKind.TheVariants.{Update, Table, Tick, Ask}
use Rattle.tase_views.specs.declared.event.EventKind.TheVariants.{TakeOrders, Stop}
use Rattle.tase_views.specs.declared.event.EventKind.TheVariants as events
use Rattle.tase_views.specs.Calls.{IsCall}
use Rattle.texts.specs.Events.CallWords.{HasWords}
use Rattle.texts.specs.Events.FeedLines.{sample_in, tag_words_in, IsWordBody}
use Rattle.texts.specs.Journal.CallIn.{call_in}

-- a number of 64 bits: a seat, or a moment of the clock
abbrev pub long_in : List ℕ → Option ℕ
long_in word = number_up_to (2 ^ 64 - 1) word

-- a number of 32 bits: a peer, a point, a table, a device or a transfer set
abbrev pub short_in : List ℕ → Option ℕ
short_in word = number_up_to (2 ^ 32 - 1) word

-- two numbers of 32 bits
abbrev pub pair_in : List (List ℕ) → Option (ℕ × ℕ)
pair_in (first ∷ second ∷ []) =
    option_and_then (λ a. option_map (λ b. (a, b)) (short_in second)) (short_in first)
pair_in words = None

-- an event behind whose verb nothing stands
abbrev pub bare_in : EventKind → List (List ℕ) → Option EventKind
bare_in event [] = Some event
bare_in event (word ∷ words) = None

-- `PEER` behind `open`
abbrev pub open_in : List (List ℕ) → Option EventKind
open_in (peer ∷ []) = option_map Open (short_in peer)
open_in words = None

-- `NOW` behind `tick`
abbrev pub tick_in : List (List ℕ) → Option EventKind
tick_in (now ∷ []) = option_map Tick (long_in now)
tick_in words = None

-- `POINT BODY FLAGS SECONDS MILLIS` behind `update`
abbrev pub update_in : List (List ℕ) → Option EventKind
update_in (point ∷ body ∷ flags ∷ seconds ∷ millis ∷ []) =
    option_and_then (λ p. option_map (λ v. Update p v) (sample_in body flags seconds millis))
    (short_in point)
update_in words = None

-- `DEVICE TAG vREASON` behind `tag`
abbrev pub tagging_in : List (List ℕ) → Option EventKind
tagging_in (device ∷ number ∷ reason ∷ []) =
    option_and_then (λ d. option_map (λ t. events.Tag d t) (tag_words_in number reason))
    (short_in device)
tagging_in words = None

-- the event of the centre that a verb and the words behind it are
abbrev pub centre_event_in : List ℕ → List (List ℕ) → Option EventKind
centre_event_in verb words =
    if bytes_eq verb (codes "update") then update_in words
    else (if bytes_eq verb (codes "tick") then tick_in words
    else (if bytes_eq verb (codes "table") then option_map (λ p. Table p.0 p.1) (pair_in words)
    else (if bytes_eq verb (codes "ask") then option_map (λ p. Ask p.0 p.1) (pair_in words)
    else (if bytes_eq verb (codes "tag") then tagging_in words
    else (if bytes_eq verb (codes "orders") then bare_in TakeOrders words
    else (if bytes_eq verb (codes "stop") then bare_in Stop words else None))))))

-- the event that words are
abbrev pub event_in : List (List ℕ) → Option EventKind
event_in [] = None
event_in (verb ∷ words) =
    if bytes_eq verb (codes "open") then open_in words
    else (if bytes_eq verb (codes "call") then option_map Request (call_in words)
    else (if bytes_eq verb (codes "take") then bare_in Take words
    else (if bytes_eq verb (codes "close") then bare_in Close words
    else centre_event_in verb words)))

-- the number of a seat, and an event
abbrev pub seat_event_in : List (List ℕ) → Option Entry
seat_event_in [] = None
seat_event_in (seat ∷ words) =
    option_and_then
    (λ who. option_map (λ event. record { who = who; event = event }) (event_in words))
    (long_in seat)

-- a line has exactly one space between each two words, and no other
abbrev pub is_single_spaced : List ℕ → Bool
is_single_spaced line = list_all is_word (slice_split (λ octet. octet == 32) line)

-- the entry whose text a line is
abbrev pub entry_in : List ℕ → Option Entry
entry_in line = if is_single_spaced line then seat_event_in (words line) else None

-- a tag within its limit, and a reason of visible octets
pub record IsTag (tag : Tag) : Type 0 where
  pub limit : tag.tag ≤ TAG_LIMIT
  pub reason : IsVisible tag.reason

-- each part of an event is one that a word spells: the number of a peer, a point, a table, a device
-- or a transfer set has 32 bits, a moment has 64, and a call, a value and a tag keep their ranges
abbrev pub IsEvent : EventKind → Type 0
IsEvent (Open peer) = peer < 2 ^ 32
IsEvent (Request call) = IsCall call × HasWords call
IsEvent Take = Unit {0}
IsEvent Close = Unit {0}
IsEvent (Update point value) = (point < 2 ^ 32) × IsSample value × IsWordBody value.body
IsEvent (Table peer variant) = (peer < 2 ^ 32) × (variant < 2 ^ 32)
IsEvent (events.Tag device tag) = (device < 2 ^ 32) × IsTag tag
IsEvent (Tick now) = now < 2 ^ 64
IsEvent (Ask peer slot) = (peer < 2 ^ 32) × (slot < 2 ^ 32)
IsEvent TakeOrders = Unit {0}
IsEvent Stop = Unit {0}

-- each part of an entry is one that a word spells: the number of its seat has 64 bits
pub record IsEntry (entry : Entry) : Type 0 where
  pub who : entry.who < 2 ^ 64
  pub event : IsEvent entry.event
