use Rattle.std.proofs.Common.{◌++◌, arith}
use Rattle.std.proofs.lemmas.List.{length-append}
use Rattle.ber_values.specs.Writing.{written}
use Rattle.acse_assoc.specs.Writing.{title_octets, user_information_octets}
use Rattle.acse_assoc.proofs.request.request_len.Goals as goal

pub returns-clause-value : goal.returns-clause-value
returns-clause-value c octets len =
    let r = c.args.request.now in
    omega (
      arith,
      c.named_oid_len.ensures.value 161,
      c.title_len.ensures.value,
      c.user_len.ensures.value octets len,
      length-append (written 161 (written 6 r.context))
          (title_octets r.title ++ user_information_octets r.user.id octets),
      length-append (title_octets r.title) (user_information_octets r.user.id octets),
    )
