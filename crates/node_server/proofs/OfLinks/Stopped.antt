-- A connection stops its node where the history was full, and calls it no more else.
use Rattle.std.proofs.Common.{◌≡◌, true, false, List, [], refl, sym}
use Rattle.std.proofs.lemmas.Bool.{false≢true}
use Rattle.tase_conn.specs.declared.stage.ConnEnd.{ConnEnd}
use Rattle.tase_conn.specs.declared.stage.ConnEnd.TheVariants as conn_ends
use Rattle.node_server.specs.NodeCalls.{NodeCall, AsksStop}
use Rattle.node_server.specs.Links.FullEnds.{is_full_end}
use Rattle.node_server.specs.Links.ServedLinks.{StopsIfFull}

pub no_stop : (end : ConnEnd) → is_full_end end ≡ false → StopsIfFull end []
no_stop conn_ends.Finished is = refl
no_stop conn_ends.PeerEnd is = refl
no_stop conn_ends.Declined is = refl
no_stop (conn_ends.Refused fault) is = refl
no_stop (conn_ends.TooLong len detail) is = refl
no_stop (conn_ends.Overflow pending limit) is = refl
no_stop conn_ends.LinkFault is = refl
no_stop conn_ends.Stopped is = refl
no_stop (conn_ends.Full weight limit) is = absurd (false≢true (sym is))
no_stop conn_ends.Memory is = refl

pub full_stop : (end : ConnEnd) (calls : List NodeCall) → is_full_end end ≡ true → AsksStop calls
    → StopsIfFull end calls
full_stop conn_ends.Finished calls is asks = absurd (false≢true is)
full_stop conn_ends.PeerEnd calls is asks = absurd (false≢true is)
full_stop conn_ends.Declined calls is asks = absurd (false≢true is)
full_stop (conn_ends.Refused fault) calls is asks = absurd (false≢true is)
full_stop (conn_ends.TooLong len detail) calls is asks = absurd (false≢true is)
full_stop (conn_ends.Overflow pending limit) calls is asks = absurd (false≢true is)
full_stop conn_ends.LinkFault calls is asks = absurd (false≢true is)
full_stop conn_ends.Stopped calls is asks = absurd (false≢true is)
full_stop (conn_ends.Full weight limit) calls is asks = asks
full_stop conn_ends.Memory calls is asks = absurd (false≢true is)
