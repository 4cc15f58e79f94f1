-- The lines of a feed: what the centre's own systems may ask of the node.
use Rattle.std.specs.Prelude.{ℕ, ◌-◌, nat_le, nat_lt, ◌==◌, if◌then◌else◌, pos, negsuc, List}
use Rattle.std.specs.Prelude.{◌≡◌, Option, Some, None, option_map, option_and_then, codes, bytes_eq}
use Rattle.std.specs.Prelude.{[], ◌∷◌, length, decimal, IsTrue}
use Rattle.std.specs.Int.{w32}
use Rattle.std.specs.Int.RustNames.{FitsSigned}
use Rattle.std.specs.List.{list_all}
use Rattle.plain_text.specs.Octets.{hex_text}
use Rattle.plain_text.specs.Escaped.{is_octet, unescaped}
use Rattle.plain_text.specs.Numbers.{if_passes, number_up_to, integer_word_within, hex_octet}
use Rattle.plain_text.specs.Numbers.{hex_octets}
use Rattle.plain_text.specs.Words.{words_in}
use Rattle.tase_points.specs.declared.body.Body.{Body}
use Rattle.tase_points.specs.declared.body.Body.TheVariants.{State, Discrete, Real}
use Rattle.tase_points.specs.declared.value.TheConstants.{STATE_LIMIT, FLAGS_LIMIT, SECONDS_LIMIT}
use Rattle.tase_points.specs.declared.value.TheConstants.{MILLIS_LIMIT}
use Rattle.tase_points.specs.Sample.{Sample}
use Rattle.tase_points.specs.Points.{kind_of}
use Rattle.tase_points.specs.Same.{same_kind}
use Rattle.tase_points.specs.Values.{IsSample}
use Rattle.mms_data.specs.Text.WordValue.{is_visible}
use Rattle.bilateral.specs.Rows.{CentreRows, place_of_point, place_of_device, place_of_peer}
use Rattle.bilateral.specs.Rows.{point_of, variants_of}
use Rattle.sbo_device.specs.declared.device.TheConstants.{TAG_LIMIT}
use Rattle.sbo_device.specs.Moves.{Tag}
use Rattle.tase_views.specs.declared.event.EventKind.{EventKind}
use Rattle.tase_views.specs.declared.event.EventKind.TheVariants.{Update, Table, Tick, Ask}
use Rattle.tase_views.specs.declared.event.EventKind.TheVariants.{TakeOrders, Stop}
use Rattle.tase_views.specs.declared.event.EventKind.TheVariants as events
use Rattle.tase_views.specs.EventTexts.{body_text}
use Rattle.tase_views.specs.Outcomes.{has_slot}
use Rattle.texts.specs.declared.events.feed.TheConstants.{TABLE_NUMBER_LIMIT, SLOT_NUMBER_LIMIT}
use Rattle.texts.specs.declared.events.feed.TheConstants.{LAST_MOMENT}

-- a body: `s` and a state, `d` and a discrete value, `r` and the eight digits of a real one
abbrev pub body_in : List ℕ → Option Body
body_in [] = None
body_in (letter ∷ rest) =
    if letter == 115 then option_map State (number_up_to STATE_LIMIT rest)
    else (if letter == 100 then
    option_map Discrete (integer_word_within (negsuc 2147483647) (pos 2147483647) rest)
    else (if letter == 114 then option_map Real (hex_octets 4 rest) else None))

-- six bits of flags as two digits
abbrev pub flags_in : List ℕ → Option ℕ
flags_in word = option_and_then (if_passes (λ n. nat_le n FLAGS_LIMIT)) (hex_octet word)

-- a value: body, flags, seconds and milliseconds
abbrev pub sample_in : List ℕ → List ℕ → List ℕ → List ℕ → Option Sample
sample_in body flags seconds millis =
    option_and_then (λ b. option_and_then (λ f. option_and_then (λ s. option_map (λ m.
    record { body = b; flags = f; seconds = s; millis = m })
    (number_up_to MILLIS_LIMIT millis)) (number_up_to SECONDS_LIMIT seconds)) (flags_in flags))
    (body_in body)

-- the update of a point with a value of its kind
abbrev pub update_of : CentreRows → ℕ → Sample → Option EventKind
update_of rows point value =
    if same_kind (kind_of value.body) (point_of rows point).kind then Some (Update point value)
    else None

-- `NAME BODY FLAGS SECONDS MILLIS` behind `update`
abbrev pub update_in : CentreRows → List (List ℕ) → Option EventKind
update_in rows (name ∷ body ∷ flags ∷ seconds ∷ millis ∷ []) =
    option_and_then (λ point. option_and_then (λ value. update_of rows point value)
    (sample_in body flags seconds millis)) (place_of_point rows name)
update_in rows words = None

-- the choice of a table of a peer, where the peer has it
abbrev pub choice_of : CentreRows → ℕ → ℕ → Option EventKind
choice_of rows peer variant =
    if nat_lt variant (length (variants_of rows peer)) then Some (Table peer variant) else None

-- `KEY NUMBER` behind `table`: the peer's first table is 0
abbrev pub choice_in : CentreRows → List (List ℕ) → Option EventKind
choice_in rows (key ∷ number ∷ []) =
    option_and_then (λ peer. option_and_then (λ variant. choice_of rows peer variant)
    (number_up_to TABLE_NUMBER_LIMIT number)) (place_of_peer rows key)
choice_in rows words = None

-- the reason of a tag: visible octets as escaped text behind `v`
abbrev pub reason_in : List ℕ → Option (List ℕ)
reason_in [] = None
reason_in (letter ∷ held) =
    if letter == 118 then option_and_then (if_passes is_visible) (unescaped held) else None

-- a tag and its reason
abbrev pub tag_words_in : List ℕ → List ℕ → Option Tag
tag_words_in number reason =
    option_and_then (λ n. option_map (λ r. record { tag = n; reason = r }) (reason_in reason))
    (number_up_to TAG_LIMIT number)

-- `NAME TAG vREASON` behind `tag`
abbrev pub tagging_in : CentreRows → List (List ℕ) → Option EventKind
tagging_in rows (name ∷ number ∷ reason ∷ []) =
    option_and_then (λ device. option_map (events.Tag device) (tag_words_in number reason))
    (place_of_device rows name)
tagging_in rows words = None

-- the request for a transfer set of a peer, from 1 on, where a table of the peer has it
abbrev pub ask_of : CentreRows → ℕ → ℕ → Option EventKind
ask_of rows peer number =
    if number == 0 then None
    else (if has_slot rows peer (number - 1) then Some (Ask peer (number - 1)) else None)

-- `KEY NUMBER` behind `ask`
abbrev pub ask_in : CentreRows → List (List ℕ) → Option EventKind
ask_in rows (key ∷ number ∷ []) =
    option_and_then (λ peer. option_and_then (λ n. ask_of rows peer n)
    (number_up_to SLOT_NUMBER_LIMIT number)) (place_of_peer rows key)
ask_in rows words = None

-- nothing behind `stop`
abbrev pub stop_in : List (List ℕ) → Option EventKind
stop_in [] = Some Stop
stop_in (word ∷ words) = None

-- `update NAME BODY FLAGS SECONDS MILLIS`, `table KEY NUMBER`, `tag NAME TAG vREASON`,
-- `ask KEY NUMBER` or `stop`
abbrev pub feed_words_in : CentreRows → List (List ℕ) → Option EventKind
feed_words_in rows [] = None
feed_words_in rows (verb ∷ words) =
    if bytes_eq verb (codes "update") then update_in rows words
    else (if bytes_eq verb (codes "table") then choice_in rows words
    else (if bytes_eq verb (codes "tag") then tagging_in rows words
    else (if bytes_eq verb (codes "ask") then ask_in rows words
    else (if bytes_eq verb (codes "stop") then stop_in words else None))))

-- the event of seat 0 that a line asks for, where it is one of the forms and names a point of the
-- centre with a value of this point's kind, a device, or a peer and a table or a transfer set of it
abbrev pub feed_event_in : CentreRows → List ℕ → Option EventKind
feed_event_in rows line = option_and_then (feed_words_in rows) (words_in line)

-- `NOW` behind `tick`, in milliseconds since 1970
abbrev pub tick_in : List (List ℕ) → Option EventKind
tick_in (now ∷ []) = option_map Tick (number_up_to LAST_MOMENT now)
tick_in words = None

-- nothing behind `orders`
abbrev pub orders_in : List (List ℕ) → Option EventKind
orders_in [] = Some TakeOrders
orders_in (word ∷ words) = None

-- `tick NOW`, `orders`, or a line of a feed
abbrev pub centre_words_in : CentreRows → List (List ℕ) → Option EventKind
centre_words_in rows [] = None
centre_words_in rows (verb ∷ words) =
    if bytes_eq verb (codes "tick") then tick_in words
    else (if bytes_eq verb (codes "orders") then orders_in words
    else feed_words_in rows (verb ∷ words))

-- the event of seat 0 that a line of a scenario asks for
abbrev pub centre_event_in : CentreRows → List ℕ → Option EventKind
centre_event_in rows line = option_and_then (centre_words_in rows) (words_in line)

-- each part is one that a word spells: the ranges of every value, a discrete value of 32 bits, the
-- four octets of a real one
abbrev pub IsWordBody : Body → Type 0
IsWordBody (State s) = Unit {0}
IsWordBody (Discrete d) = FitsSigned w32 d
IsWordBody (Real r) = (length r ≡ 4) × IsTrue (list_all is_octet r)

-- words are a value's body, its flags, its seconds and its milliseconds
pub record AreValueWords (body flags seconds millis : List ℕ) (value : Sample) : Type 0 where
  pub body_is : body ≡ body_text value.body
  pub flags_are : flags ≡ hex_text (value.flags ∷ [])
  pub seconds_are : seconds ≡ decimal value.seconds
  pub millis_are : millis ≡ decimal value.millis
  pub ranges : IsSample value
  pub textual : IsWordBody value.body
