-- Which line of a snapshot may follow which, in steps.
use Rattle.std.specs.Prelude.{ℕ, ◌==◌, ◌&&◌, Bool, true, false, if◌then◌else◌, length, Option, Some}
use Rattle.std.specs.Prelude.{None, option_and_then}
use Rattle.sbo_device.specs.Moves.{Tag}
use Rattle.tase_views.specs.declared.event.EventKind.{EventKind}
use Rattle.tase_views.specs.declared.reply.ReplyKind.{ReplyKind}
use Rattle.tase_views.specs.declared.reply.Answer.TheVariants.{Reply}
use Rattle.tase_views.specs.Outcomes.{is_close}
use Rattle.tase_resume.specs.declared.turns.LineTurn.{LineTurn}
use Rattle.tase_resume.specs.declared.turns.Standing.{Standing}
use Rattle.tase_resume.specs.Snapshots.{turn_at, turn_of, is_above, opens_association}
use Rattle.tase_resume.specs.Snapshots.{is_defined}

-- the place of a line that chooses a table, and of one that tags a device
abbrev pub table_turn : ℕ → ℕ → Option LineTurn
table_turn peer variant = if variant == 0 then None else turn_at 0 peer

abbrev pub tag_turn : ℕ → Tag → Option LineTurn
tag_turn device tag =
    if (tag.tag == 0) && (length tag.reason == 0) then None else turn_at 2 device

-- inside an association, whether a line has defined a data set, where it has opened one
abbrev pub begun_by : EventKind → Option Bool
begun_by event = if opens_association event then Some false else None

-- where lines leave a snapshot, or none where one may not follow: outside an association, inside
-- one, and wherever it stands
abbrev pub behind_outside : Option LineTurn → EventKind → Option Standing
behind_outside last event =
    option_and_then
    (λ turn. if is_above last turn
    then Some (record { last = Some turn; defining = begun_by event }) else None) (turn_of event)

abbrev pub behind_inside : Option LineTurn → Bool → Bool → Option Standing
behind_inside last defined may_close =
    if defined then Some (record { last = last; defining = Some true })
    else (if may_close then Some (record { last = last; defining = None }) else None)

abbrev pub behind_by : Option LineTurn → EventKind → Bool → Option Bool → Option Standing
behind_by last event defined None = behind_outside last event
behind_by last event defined (Some some) =
    behind_inside last defined (some && is_close event)

abbrev pub standing_behind : Standing → EventKind → Bool → Option Standing
standing_behind before event defined = behind_by before.last event defined before.defining

-- the one of two ways by what became of a line's event, which may be refused
abbrev pub next_of : Option Bool → Option Standing → Option Standing → Option Standing
next_of None defined other = None
next_of (Some true) defined other = defined
next_of (Some false) defined other = other

abbrev pub replies_defined : ReplyKind → Bool
replies_defined reply = is_defined (Reply reply)
