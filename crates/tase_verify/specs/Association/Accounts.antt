-- Which events of an association are those that its link asks.
use Rattle.std.specs.Prelude.{◌≡◌, ◌≢◌, ◌⊎◌, ℕ, Bool, false, List, [], ◌∷◌, ◌++◌}
use Rattle.std.specs.List.{list_any}
use Rattle.bilateral.specs.Rows.{CentreRows}
use Rattle.sbo_device.specs.declared.key.Key.{Key}
use Rattle.tase_views.specs.declared.call.CallKind.{CallKind}
use Rattle.tase_views.specs.declared.event.EventKind.{EventKind}
use Rattle.tase_views.specs.declared.event.EventKind.TheVariants as events
use Rattle.tase_views.specs.History.{Past}
use Rattle.tase_views.specs.Outcomes.{is_close}
use Rattle.tase_verify.specs.Association.Stray.{events_entered, events_asked}

-- the last is a close of the node's own, in the place of a request; those before it are asked
pub record ClosesEarly (entered asked : List EventKind) : Type 0 where
  pub front : List EventKind
  pub call : CallKind
  pub later : List EventKind
  pub is_asked : asked ≡ front ++ events.Request call ∷ later
  pub is_entered : entered ≡ front ++ events.Close ∷ []

-- the last is a close of the node's own, behind all that is asked, where none of that is a close
pub record ClosesLast (entered asked : List EventKind) : Type 0 where
  pub none : list_any is_close asked ≡ false
  pub is_entered : entered ≡ asked ++ events.Close ∷ []

-- all that is asked, or a front part of it and a close of the node's own
abbrev pub AreAccounted : List EventKind → List EventKind → Type 0
AreAccounted entered asked =
    (entered ≡ asked) ⊎ (ClosesEarly entered asked ⊎ ClosesLast entered asked)

-- there is such an association in the history, and its events but for takes are accounted for by
-- what its link asks
abbrev pub IsAccountedFor : CentreRows → Past → Key → List ℕ → Bool → Type 0
IsAccountedFor rows past key octets ended = (events_entered key past ≢ [])
    × AreAccounted (events_entered key past) (events_asked rows octets ended)
