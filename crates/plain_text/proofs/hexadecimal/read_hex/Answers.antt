use Rattle.std.proofs.Common.{arith}
use Rattle.std.proofs.lemmas.List.{take_rest}
use Rattle.plain_text.proofs.Hex.{hex_in-step}
use Rattle.plain_text.proofs.hexadecimal.read_hex.Goals as goal

pub loop-rest-preserved : goal.loop-rest-preserved
loop-rest-preserved c =
    let e = hex_in-step c.loop-rest.octets.items c.args.word.now c.loop-rest.rest.now
    c.in-Some.octet (omega arith) c.loop-rest.invariant c.in-Some.ensures in
    rw take_rest (rw c.in_ok-push.ensures.items e)
