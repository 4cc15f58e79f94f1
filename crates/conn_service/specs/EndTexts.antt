-- How the end of a connection is told in words.
use Rattle.std.specs.Prelude.{ℕ, List, ◌∷◌, ◌++◌, codes, decimal}
use Rattle.stack_assoc.specs.declared.messages.fault.StackFault.{StackFault}
use Rattle.stack_assoc.specs.Listing.Names.{layer_name, why_name}
use Rattle.tase_conn.specs.declared.stage.ConnEnd.{ConnEnd}
use Rattle.tase_conn.specs.declared.stage.ConnEnd.TheVariants as conn_ends

-- `LAYER PLACE WHY`
abbrev pub fault_text : StackFault → List ℕ
fault_text fault =
    layer_name fault.layer ++ 32 ∷ decimal fault.place ++ 32 ∷ why_name fault.why

abbrev pub end_text : ConnEnd → List ℕ
end_text conn_ends.Finished = codes "finished"
end_text conn_ends.PeerEnd = codes "peerend"
end_text conn_ends.Declined = codes "declined"
end_text (conn_ends.Refused fault) = codes "refused " ++ fault_text fault
end_text (conn_ends.TooLong len detail) =
    codes "toolong " ++ decimal len ++ 32 ∷ decimal detail
end_text (conn_ends.Overflow pending limit) =
    codes "overflow " ++ decimal pending ++ 32 ∷ decimal limit
end_text conn_ends.LinkFault = codes "link"
end_text conn_ends.Stopped = codes "stopped"
end_text (conn_ends.Full weight limit) =
    codes "full " ++ decimal weight ++ 32 ∷ decimal limit
end_text conn_ends.Memory = codes "memory"
