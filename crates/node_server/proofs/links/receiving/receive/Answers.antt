use Rattle.std.proofs.Common.{ℕ, List, take, refl}
use Rattle.outside.specs.declared.links.link.Recv.TheVariants.{Got}
use Rattle.outside.specs.Links.LinkAnswers.{piece}
use Rattle.tase_conn.specs.Map.Inputs.{piece as piece_item}
use Rattle.node_server.proofs.OfLinks.Uses.{recv_uses}
use Rattle.node_server.proofs.links.receiving.receive.Goals as goal

pub returns-in-Ok : goal.returns-in-Ok
returns-in-Ok g c = λ first heard.
    let octets : List ℕ = take c.in-Got.count c.recv.new.buf in record {
      received = piece octets;
      uses = recv_uses _ _ first (Got c.in-Got.count) c.recv.new.buf heard c.in-Got.ensures;
      taken_in = (piece_item octets, refl, c.in-Ok.ensures.ok, c.in-Ok.ensures.same);
    }

pub returns-in-Err : goal.returns-in-Err
returns-in-Err g c = λ first heard.
    let octets : List ℕ = take c.in-Got.count c.recv.new.buf in record {
      received = piece octets;
      uses = recv_uses _ _ first (Got c.in-Got.count) c.recv.new.buf heard c.in-Got.ensures;
      taken_in = (piece_item octets, refl, c.in-Err.ensures.err);
    }
