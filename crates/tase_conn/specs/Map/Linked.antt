-- The association that a seat has opened last, and the octets that the peer of its link is sent.
use Rattle.std.specs.Prelude.{ℕ, ℤ, ◌==◌, if◌then◌else◌, List, [], ◌∷◌, Option, Some, None}
use Rattle.stack_assoc.specs.Arrivals.{first_in, connect_in}
use Rattle.bilateral.specs.Rows.{CentreRows}
use Rattle.sbo_device.specs.declared.key.Key.{Key}
use Rattle.tase_views.specs.Moves.{EventSort, sort_of, opening}
use Rattle.tase_views.specs.History.{Past, next_key}
use Rattle.tase_conn.specs.Map.Inputs.{Item, text_given, link_has_ended}
use Rattle.tase_conn.specs.Map.Readings.{reading_of}
use Rattle.tase_conn.specs.Map.Out.{early_octets, detail_of}
use Rattle.tase_conn.specs.Map.Sent.{association_octets}

-- the association that a seat has opened last, behind an event of its own
abbrev pub opened_by : EventSort → Past → Option Key → Option Key
opened_by (opening peer) past before = Some (next_key past peer)
opened_by _ past before = before

-- the association that a seat has opened last, open still or not
abbrev pub opened_in : Past → ℕ → Option Key
opened_in [] who = None
opened_in (entry ∷ past) who = if entry.who == who
    then opened_by (sort_of entry.event) past (opened_in past who) else opened_in past who

-- the most octets of a PDU, as agreed on in what the link gave
abbrev pub detail_given : List Item → ℤ
detail_given items = detail_of (first_in connect_in (reading_of (text_given items)).told)

-- what the peer of an association is sent, or of a connection without one
abbrev pub octets_by : CentreRows → Past → List Item → Option Key → List ℕ
octets_by rows past items None = early_octets rows (text_given items)
octets_by rows past items (Some key) = association_octets rows past key (text_given items)
    (link_has_ended items)

-- all octets that the peer of a seat's link is sent over this past, where the link gave these items
abbrev pub link_octets : CentreRows → Past → ℕ → List Item → List ℕ
link_octets rows past who items = octets_by rows past items (opened_in past who)
