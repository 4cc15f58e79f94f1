-- What the link of each seat gave in the lines of a scenario that were taken, and that its peer was
-- sent all that it is owed for that.
use Rattle.std.specs.Prelude.{◌≡◌, ◌⊎◌, ℕ, ◌<◌, ◌^◌, if◌then◌else◌, Bool, true, false, List, [], ◌∷◌}
use Rattle.std.specs.Prelude.{◌++◌, map, reverse, Option, Some, None}
use Rattle.std.specs.List.{filter_map}
use Rattle.outside.specs.Sink.{SinkTold, AppendsPart}
use Rattle.plain_text.specs.Lines.{is_skipped}
use Rattle.bilateral.specs.Rows.{CentreRows}
use Rattle.tase_views.specs.declared.event.Entry.{Entry}
use Rattle.tase_views.specs.Setup.{Setup}
use Rattle.tase_views.specs.History.{Past}
use Rattle.conn_service.specs.TaseConn.Map.Inputs.{Item}
use Rattle.conn_service.specs.TaseConn.declared.stage.ConnEnd.{ConnEnd}
use Rattle.conn_service.specs.TaseConn.Map.Linked.{link_octets}
use Rattle.conn_service.specs.Sends.{Sends}
use Rattle.tase_replay.specs.declared.playing.ReplayEnd.{ReplayEnd}
use Rattle.tase_replay.specs.declared.playing.ReplayEnd.TheVariants as replay_ends
use Rattle.tase_replay.specs.Links.{SeatItem, Asking, an_event, an_item, asking_in, items_of}
use Rattle.tase_replay.specs.Play.{TakenLine, Played, entries_in, steps_in, printed_in}
use Rattle.tase_replay.specs.PrintedLines.{shown_to, all_shown}
use Rattle.tase_replay.specs.OrdersPrinted.{AreOrdersPrinted}

-- ---- what lines give to links

-- what a line gives to a link, if it is a link's
abbrev pub given_asked : Option Asking → Option SeatItem
given_asked None = None
given_asked (Some (an_event entry)) = None
given_asked (Some (an_item given)) = Some given

abbrev pub given_by_line : CentreRows → List ℕ → Option SeatItem
given_by_line rows line = if is_skipped line then None else given_asked (asking_in rows line)

-- what these lines give to links, in order
abbrev pub given_by_lines : CentreRows → List (List ℕ) → List SeatItem
given_by_lines rows lines = filter_map (given_by_line rows) lines

-- ---- that they are sent what they are owed

-- a seat whose link gave these items: all that the `out` lines of a text show for its peer is what
-- the peer is sent over this past, and behind it stands once the end of the connection, if it has
-- ended
pub record IsSentAll (setup : Setup) (past : Past) (text : List ℕ) (who : ℕ)
    (items : List Item) : Type 0 where
  pub end : Option ConnEnd
  pub shown : shown_to who text ≡ all_shown (link_octets setup.centre past who items) end
  pub sends : Sends setup past who items end (link_octets setup.centre past who items)

-- nothing is shown for a seat without a link
abbrev pub SentBy : Setup → Past → List ℕ → ℕ → List Item → Type 0
SentBy setup past text who [] = shown_to who text ≡ []
SentBy setup past text who (item ∷ items) = IsSentAll setup past text who (item ∷ items)

-- so for each seat, over a history and what was given to links
abbrev pub AreSentTo : Setup → List SeatItem → Past → List ℕ → Type 0
AreSentTo setup given past text =
    (who : ℕ) → who < 2 ^ 64 → SentBy setup past text who (items_of who given)

-- over the lines that were taken behind a history, in the text that they print
abbrev pub AreSentOver : Setup → List Entry → List TakenLine → Type 0
AreSentOver setup history taken =
    AreSentTo setup (given_by_lines setup.centre (map (λ line. line.line) taken))
    (reverse (history ++ entries_in (steps_in taken))) (printed_in (steps_in taken))

-- whether a replay has come to the end of its play, and wasn't cut short by a fault of the sink or
-- for want of memory
abbrev pub is_played_out : ReplayEnd → Bool
is_played_out replay_ends.Done = true
is_played_out (replay_ends.BadLine line) = true
is_played_out (replay_ends.Full weight limit) = true
is_played_out replay_ends.SinkFault = false
is_played_out replay_ends.Memory = false

-- the lines of a play that a replay has taken, all of them where it has come to its end: for each
-- seat its peer was sent what it is owed for these, and the plant was shown the orders that it took
pub record AreSentSoFar (setup : Setup) (history : List Entry) (played : Played) (whole : Bool)
    (before after : SinkTold) : Type 0 where
  pub taken : List TakenLine
  pub others : List TakenLine
  pub lines : played.taken ≡ taken ++ others
  pub all : whole ≡ true → others ≡ []
  pub sent : AreSentOver setup history taken
  pub orders : AreOrdersPrinted setup history taken
  -- where it hasn't taken all, a front part of what these print went to the sink
  pub printed : (others ≡ []) ⊎ ((failed : Bool)
      × AppendsPart before after (printed_in (steps_in taken)) failed)
