use Rattle.std.proofs.Common.{◌++◌, arith}
use Rattle.std.proofs.lemmas.List.{length-append}
use Rattle.ber_values.specs.Writing.{written}
use Rattle.acse_assoc.specs.Writing.{mms_context, aare_result_octets, diagnostic, some_user_octets}
use Rattle.acse_assoc.proofs.Sizes.{context_len}
use Rattle.acse_assoc.proofs.response.response_len.Goals as goal

pub returns-clause-value : goal.returns-clause-value
returns-clause-value c octets len =
    let r = c.args.response.now in
    omega (
      arith,
      context_len,
      c.result_len.ensures.value,
      c.some_user_len.ensures.value octets len,
      length-append (written 161 (written 6 mms_context))
          (aare_result_octets r.result ++ (diagnostic r.result ++ some_user_octets r.user octets)),
      length-append (aare_result_octets r.result)
          (diagnostic r.result ++ some_user_octets r.user octets),
      length-append (diagnostic r.result) (some_user_octets r.user octets),
    )
