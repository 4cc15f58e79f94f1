use Rattle.std.proofs.Common.{arith, sym, ◌∙◌}
use Rattle.std.proofs.lemmas.List.{take_rest}
use Rattle.centre_client.proofs.ValuesSized.{last_octet-step}
use Rattle.centre_client.proofs.call_lines.word_sizes.last_octet.Goals as goal

pub loop-rest-preserved : goal.loop-rest-preserved
loop-rest-preserved c =
    rw take_rest (last_octet-step c.loop-rest.last c.in_ok-last.last c.args.word.now
    c.loop-rest.rest.now (omega arith) c.loop-rest.invariant
    (sym c.in_ok-last.was ∙ c.read_hex_octet.ensures))
