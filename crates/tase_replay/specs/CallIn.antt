-- The call that the words behind `say W` spell.
use Rattle.std.specs.Prelude.{ℕ, if◌then◌else◌, List, Option, Some, None, option_and_then}
use Rattle.tase_views.specs.declared.call.CallKind.{CallKind}
use Rattle.texts.specs.Journal.CallIn.{call_in}
use Rattle.conn_service.specs.TaseConn.Map.Asked.{is_odd}

-- the call that words spell, but an odd one
abbrev pub call_of_words : List (List ℕ) → Option CallKind
call_of_words words =
    option_and_then (λ call. if is_odd call then None else Some call) (call_in words)
