-- The moment in a peer's view is that of the last tick.
use Rattle.std.proofs.Common.{◌≡◌, ◌==◌, ℕ, true, false, [], ◌∷◌, Some, None, is_some, refl}
use Rattle.std.specs.Prelude.{if◌then◌else◌}
use Rattle.std.specs.List.{cons_option}
use Rattle.bilateral.specs.Rows.{CentreRows, point_of, device_of}
use Rattle.tase_views.specs.declared.event.EventKind.{EventKind}
use Rattle.tase_views.specs.declared.event.EventKind.TheVariants.{Open, Request, Take, Close}
use Rattle.tase_views.specs.declared.event.EventKind.TheVariants.{Update, Table, Tag, Tick, Ask}
use Rattle.tase_views.specs.declared.event.EventKind.TheVariants.{TakeOrders, Stop}
use Rattle.tase_views.specs.History.{Past, association_in, next_key, last_tick}
use Rattle.tase_views.specs.OwnTables.{own_tables, is_point_of, device_named}
use Rattle.tase_views.specs.Moves.{Act, opens, takes, closes, acts_of_call}
use Rattle.tase_views.specs.View.{View, asked, chose, updated, tagged, moment_in, moves_in}
use Rattle.tase_views.specs.View.{view_of}
use Rattle.node_core.proofs.CallActs.{each_of_call}
use Rattle.node_core.proofs.Seeing.{IsKept, by_seat}

abbrev Stands : ℕ → View → Type 0
Stands now view = moment_in view ≡ now

abbrev IsAny : Act → Type 0
IsAny act = Unit {0}

stands_kept : (now : ℕ) → IsKept (Stands now) IsAny
stands_kept now = record {
  acted = λ key ordinal device act view same. same;
  closed = λ key ordinal view same. same;
  own = λ ordinal act view any same. same;
}

moment_behind : (rows : CentreRows) (peer : ℕ) (past : Past) (who : ℕ) (event : EventKind)
    → moment_in (view_of rows peer past) ≡ last_tick past
    → moment_in (view_of rows peer (record { who = who; event = event } ∷ past))
    ≡ last_tick (record { who = who; event = event } ∷ past)
moment_behind rows peer past who (Open opener) same =
    by_seat (Stands (last_tick past)) IsAny (stands_kept (last_tick past)) rows peer
    (Some (next_key past opener)) (opens ∷ []) (moves_in past) (tt, tt) same
moment_behind rows peer past who (Request call) same =
    by_seat (Stands (last_tick past)) IsAny (stands_kept (last_tick past)) rows peer
    (association_in past who) (acts_of_call call) (moves_in past)
    (each_of_call IsAny (λ name. tt) (λ name value. tt) (λ other. tt) call
    (λ set members e. tt) (λ sets e set. tt)) same
moment_behind rows peer past who Take same =
    by_seat (Stands (last_tick past)) IsAny (stands_kept (last_tick past)) rows peer
    (association_in past who) (takes ∷ []) (moves_in past) (tt, tt) same
moment_behind rows peer past who Close same =
    by_seat (Stands (last_tick past)) IsAny (stands_kept (last_tick past)) rows peer
    (association_in past who) (closes ∷ []) (moves_in past) (tt, tt) same
moment_behind rows peer past who (Update point value) same =
    elim (is_point_of rows peer point) as
    (λ b. moment_in (cons_option (if b then Some (updated (point_of rows point).name value)
    else None) (view_of rows peer past)) ≡ last_tick past) [ true ↦ same | false ↦ same ]
moment_behind rows peer past who (Table chooser variant) same =
    elim (chooser == peer) as
    (λ b. moment_in (cons_option (if b then Some (chose variant) else None)
    (view_of rows peer past)) ≡ last_tick past) [ true ↦ same | false ↦ same ]
moment_behind rows peer past who (Tick now) same = refl
moment_behind rows peer past who (Ask asker slot) same =
    elim (asker == peer) as
    (λ b. moment_in (cons_option (if b then Some (asked slot) else None)
    (view_of rows peer past)) ≡ last_tick past) [ true ↦ same | false ↦ same ]
moment_behind rows peer past who (Tag device tag) same =
    elim (is_some (device_named (own_tables rows peer) (device_of rows device).name)) as
    (λ b. moment_in (cons_option (if b then Some (tagged (device_of rows device).name tag)
    else None) (view_of rows peer past)) ≡ last_tick past) [ true ↦ same | false ↦ same ]
moment_behind rows peer past who TakeOrders same = same
moment_behind rows peer past who Stop same = same

pub moment_is : (rows : CentreRows) (peer : ℕ) (past : Past)
    → moment_in (view_of rows peer past) ≡ last_tick past
moment_is rows peer [] = refl
moment_is rows peer (entry ∷ past) =
    moment_behind rows peer past entry.who entry.event (moment_is rows peer past)
