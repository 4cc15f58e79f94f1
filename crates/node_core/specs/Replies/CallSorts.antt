-- Calls by what they do: reads of variables, writes of them, and all others.
use Rattle.tase_views.specs.declared.call.CallKind.{CallKind}
use Rattle.tase_views.specs.declared.call.CallKind.TheVariants as calls
use Rattle.tase_views.specs.declared.event.EventKind.{EventKind}
use Rattle.tase_views.specs.declared.event.EventKind.TheVariants.{Request}
use Rattle.node_core.specs.declared.replies.sorts.CallSort.{CallSort}
use Rattle.node_core.specs.declared.replies.sorts.CallSort.TheVariants as sorts
use Rattle.node_core.specs.Replies.Shown.{IsCalm}

abbrev pub IsOfSort : CallSort → CallKind → Type 0
IsOfSort sorts.Read (calls.Read names echo) = Unit {0}
IsOfSort sorts.Write (calls.Write names values) = Unit {0}
IsOfSort sorts.Other call = IsCalm call
IsOfSort sort call = ⊥

-- a request of a call of this sort
abbrev pub IsRequestOf : CallSort → EventKind → Type 0
IsRequestOf sort (Request call) = IsOfSort sort call
IsRequestOf sort event = ⊥
