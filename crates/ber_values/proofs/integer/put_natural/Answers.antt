use Rattle.std.proofs.Common.{pos, refl}
use Rattle.std.proofs.lemmas.Result.{on_ok_weaker}
use Rattle.ber_values.proofs.Written.{put_written}
use Rattle.ber_values.proofs.integer.put_natural.Goals as goal

pub returns-clause-ok : goal.returns-clause-ok
returns-clause-ok c =
    on_ok_weaker c.put_number.result
    (λ e. put_written c.args.out.now.items c.put_head.new.out.items c.put_number.new.out.items
    c.args.tag c.size_of_number-size.result c.args.value (pos c.args.value)
    c.size_of_number-size.ensures.value refl c.in_ok-put_head.ensures.ok e)
    c.put_number.ensures.ok
