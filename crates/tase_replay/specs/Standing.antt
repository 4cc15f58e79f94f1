-- Where the seats of a scenario stand between two lines.
use Rattle.std.specs.Prelude.{◌≡◌, ℕ, Bool, true, false, List, [], ◌∷◌, ◌++◌, length, Option, Some}
use Rattle.std.specs.Prelude.{None, is_some, nat_eq}
use Rattle.std.specs.Prelude.{slice_get, ◌==◌, ◌⊎◌, reverse, if◌then◌else◌}
use Rattle.std.specs.List.{list_any, AllByRecursion}
use Rattle.std.specs.HashMap.{get}
use Rattle.outside.specs.Sink.{SinkTold}
use Rattle.bilateral.specs.Rows.{CentreRows}
use Rattle.tase_views.specs.declared.event.Entry.{Entry}
use Rattle.conn_service.specs.TaseConn.Talking.{Talking, pending_of, conn_end_in, IsResting}
use Rattle.conn_service.specs.Courses.Serving.{Serves}
use Rattle.tase_views.specs.History.{Past}
use Rattle.conn_service.specs.TaseConn.Map.Inputs.{Item, IsLinkInput}
use Rattle.conn_service.specs.TaseConn.Places.{ConnStandsAt}
use Rattle.conn_service.specs.TaseConn.declared.stage.PendingEvent.TheVariants as askeds
use Rattle.conn_service.specs.TaseConn.declared.stage.Progress.TheVariants as progresses
use Rattle.tase_replay.specs.declared.links.Seats.{Seats}
use Rattle.tase_replay.specs.declared.links.Use.{Use}
use Rattle.tase_replay.specs.declared.links.Use.TheVariants as uses
use Rattle.conn_service.specs.TaseConn.Map.Linked.{link_octets}
use Rattle.tase_replay.specs.Links.{SeatItem, items_of}
use Rattle.tase_replay.specs.Play.{Scene, is_linked, is_seated, conn_has_ended, is_unfit, Step}
use Rattle.tase_replay.specs.Play.{behind_link, LineMeaning, gives, entries_in}
use Rattle.tase_replay.specs.declared.playing.ReplayEnd.{ReplayEnd}
use Rattle.tase_replay.specs.declared.playing.ReplayEnd.TheVariants.{Done}
use Rattle.conn_service.specs.TaseConn.declared.stage.ConnEnd.{ConnEnd}
use Rattle.tase_views.specs.Setup.{Setup}
use Rattle.tase_replay.specs.PrintedLines.{ShownToPeer, sent_octet, end_words, all_shown, shown_by}
use Rattle.conn_service.specs.Sends.{Sends}
use Rattle.ber_values.specs.Octets.{IsOctets}

-- a connection that goes on: a seat of the node serves it, all that its link gave was acted on, and
-- all that its peer is sent was printed
pub record LinkGoesOn (rows : CentreRows) (scene : Scene) (who : ℕ) (v : Talking) : Type 0 where
  pub serves : Serves rows scene.past who (items_of who scene.given)
      (link_octets rows scene.past who (items_of who scene.given)) None v
  pub resting : IsResting v
  pub printed : pending_of v ≡ []
  pub unended : conn_end_in v.progress ≡ None
  pub shown : conn_has_ended who scene ≡ false

-- or it has ended, which was printed
pub record LinkIsOver (scene : Scene) (who : ℕ) (v : Talking) : Type 0 where
  pub ended : is_some (conn_end_in v.progress) ≡ true
  pub shown : conn_has_ended who scene ≡ true

-- a link's connection stands at this place
pub record LinkStands (rows : CentreRows) (scene : Scene) (conns : List Talking) (who place : ℕ) :
    Type 0 where
  pub linked : is_linked who scene ≡ true
  pub conn : Talking
  pub there : slice_get conns place ≡ Some conn
  pub stands : LinkGoesOn rows scene who conn ⊎ LinkIsOver scene who conn

abbrev pub use_by : Seats → ℕ → Option Use
use_by seats who = get nat_eq seats.uses who

-- what a seat is used for once an entry of the node's history was noted, where it is of that seat
abbrev pub noted_with : Option Entry → ℕ → Option Use → Option Use
noted_with None who before = before
noted_with (Some entry) who before = if entry.who == who then Some uses.Own else before

-- what a seat is used for: nothing yet, lines of its own, or a link
abbrev pub IsSeatUsedAs : CentreRows → Scene → List Talking → ℕ → Option Use → Type 0
IsSeatUsedAs rows scene conns who None = (is_linked who scene ≡ false)
    × (list_any (λ entry. entry.who == who) scene.past ≡ false) × (conn_has_ended who scene ≡ false)
IsSeatUsedAs rows scene conns who (Some uses.Own) = is_seated who scene ≡ true
IsSeatUsedAs rows scene conns who (Some (uses.Link place)) = LinkStands rows scene conns who place

-- no two links have one connection
abbrev pub AreApart : Seats → Type 0
AreApart seats = (who other place : ℕ) → use_by seats who ≡ Some (uses.Link place)
    → use_by seats other ≡ Some (uses.Link place) → who ≡ other

-- the seats are used as the lines so far say
pub record AreSeatsUsed (rows : CentreRows) (scene : Scene) (seats : Seats) : Type 0 where
  pub each : (who : ℕ) → IsSeatUsedAs rows scene seats.conns.items who (use_by seats who)
  pub apart : AreApart seats

-- a scene over a node whose history is this
pub record IsScene (rows : CentreRows) (history : List Entry) (scene : Scene) (seats : Seats) :
    Type 0 where
  pub past_is : scene.past ≡ reverse history
  pub sits : AreSeatsUsed rows scene seats

-- ---- one line

-- the place of a connection that goes on
abbrev pub going_at : ℕ → Option Talking → Option ℕ
going_at place None = None
going_at place (Some conn) = if is_some (conn_end_in conn.progress) then None else Some place

abbrev pub place_going : List Talking → ℕ → Option ℕ
place_going conns place = going_at place (slice_get conns place)

-- a connection of which nothing has come stands behind the others, and is this seat's
pub record Begun (rows : CentreRows) (who : ℕ) (old : Seats) (place : ℕ) (new : Seats) :
    Type 0 where
  pub conn : Talking
  pub conns : new.conns.items ≡ old.conns.items ++ conn ∷ []
  pub place_is : place ≡ length old.conns.items
  pub used : (other : ℕ) → use_by new other
      ≡ (if who == other then Some (uses.Link place) else use_by old other)
  pub stands : ConnStandsAt rows [] [] [] conn
  pub resting : IsResting conn
  pub running : conn.progress ≡ progresses.Running askeds.Nothing
  pub silent : pending_of conn ≡ []

-- a seat serves a connection that may take this item in
abbrev pub IsAwaiting : CentreRows → Past → ℕ → Item → Talking → Type 0
IsAwaiting rows past who item v = (items : List Item) × (said : List ℕ)
    × Serves rows past who items said None v × IsLinkInput (items ++ item ∷ []) × IsResting v

-- a line of its own may use a seat, and it is noted; or the seat is a link's
abbrev pub NotesUse : ℕ → Seats → Bool → Seats → Type 0
NotesUse who old true new = (new.conns ≡ old.conns)
    × ((place : ℕ) → use_by old who ≡ Some (uses.Link place) → ⊥)
    × ((other : ℕ) → use_by new other
    ≡ (if who == other then Some uses.Own else use_by old other))
NotesUse who old false new = (place : ℕ) × (use_by old who ≡ Some (uses.Link place))

-- the connection at this place may take in what a seat's link gives, and the other seats are used as
-- the lines so far say
pub record Awaits (rows : CentreRows) (scene : Scene) (seats : Seats) (who place : ℕ) :
    Type 0 where
  pub fit : is_unfit who scene ≡ false
  pub conn : Talking
  pub there : slice_get seats.conns.items place ≡ Some conn
  pub goes : LinkGoesOn rows scene who conn
  pub used : use_by seats who ≡ Some (uses.Link place)
  pub others : (other : ℕ) → (other ≡ who → ⊥)
      → IsSeatUsedAs rows scene seats.conns.items other (use_by seats other)
  pub apart : AreApart seats

-- a seat has such a connection, or none may be used
abbrev pub Finds : CentreRows → Scene → ℕ → Seats → Option ℕ → Type 0
Finds rows scene who seats None = is_unfit who scene ≡ true
Finds rows scene who seats (Some place) = Awaits rows scene seats who place

-- where a seat's connection stands behind such a line
abbrev pub StandsOn : CentreRows → Scene → ℕ → Talking → Type 0
StandsOn rows scene who conn = LinkGoesOn rows scene who conn ⊎ LinkIsOver scene who conn

-- none of these entries is of another seat
abbrev pub AreOf : ℕ → Past → Type 0
AreOf who [] = Unit {0}
AreOf who (entry ∷ entries) = (entry.who ≡ who) × AreOf who entries

-- the scene behind a line of a link, and its connection there: the node has taken events of that
-- seat alone
pub record IsBehind (rows : CentreRows) (scene : Scene) (given : SeatItem) (after : Scene)
    (history : List Entry) (conn : Talking) : Type 0 where
  pub entries : Past
  pub own : AreOf given.who entries
  pub end : Option ConnEnd
  pub after_is : after ≡ behind_link scene (entries ++ scene.past) given end
  pub past_is : after.past ≡ reverse history
  pub stands : StandsOn rows after given.who conn

-- ---- what was printed, from line to line

abbrev pub is_over : ShownToPeer → Bool
is_over (sent_octet octet) = false
is_over (end_words words) = true

-- what steps print for the peer of a seat's link, which gave these items, is all that it is owed
pub record StepsSendAll (setup : Setup) (past : Past) (steps : List Step) (who : ℕ)
    (items : List Item) : Type 0 where
  pub end : Option ConnEnd
  pub shown : shown_by who steps ≡ all_shown (link_octets setup.centre past who items) end
  pub sends : Sends setup past who items end (link_octets setup.centre past who items)

-- nothing is printed for a seat without a link
abbrev pub StepsSend : Setup → Past → List Step → ℕ → List Item → Type 0
StepsSend setup past steps who [] = shown_by who steps ≡ []
StepsSend setup past steps who (item ∷ items) = StepsSendAll setup past steps who (item ∷ items)

-- numbers below 256 are sent
abbrev pub HasOctets : Step → Type 0
HasOctets step = IsOctets step.octets

-- so in a scene, whose ended connections are those whose ends are printed
pub record AreSentIn (setup : Setup) (scene : Scene) (steps : List Step) : Type 0 where
  pub sent : (who : ℕ) → StepsSend setup scene.past steps who (items_of who scene.given)
  pub octets : AllByRecursion HasOctets steps
  pub ended : (who : ℕ) → conn_has_ended who scene ≡ list_any is_over (shown_by who steps)

-- where it is so in one scene, it is so in another, with these steps behind those before
abbrev pub StaySent : Setup → Scene → Scene → List Step → Type 0
StaySent setup before after more = (steps : List Step)
    → AreSentIn setup before steps → AreSentIn setup after (steps ++ more)

-- a line that is taken: what was sent stays so, and its entries stand behind the others
pub record IsTakenSent (setup : Setup) (scene : Scene) (meaning : LineMeaning) : Type 0 where
  pub steps : List Step
  pub after : Scene
  pub is : meaning ≡ gives steps after
  pub stays : StaySent setup scene after steps
  pub grown : after.past ≡ reverse (entries_in steps) ++ scene.past

-- a line is taken so, or it is the last, and nothing of it was printed
abbrev pub EndsSent : Setup → Scene → LineMeaning → ReplayEnd → SinkTold → SinkTold → Type 0
EndsSent setup scene meaning end before after =
    IsTakenSent setup scene meaning ⊎ ((end ≡ Done → ⊥) × (after ≡ before))
