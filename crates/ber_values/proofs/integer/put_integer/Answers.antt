use Rattle.std.proofs.Common.{◌≡◌, ◌∙◌, ap}
use mir.Val.{to_z}
use Rattle.std.proofs.lemmas.Int.{to_z-of_z}
use Rattle.std.specs.Int.{w64, cast_unsigned}
use Rattle.std.proofs.lemmas.Result.{on_ok_weaker}
use Rattle.ber_values.specs.Writing.{integer_size}
use Rattle.ber_values.proofs.Written.{put_written}
use Rattle.ber_values.proofs.integer.put_integer.Goals as goal

pub returns-clause-ok : goal.returns-clause-ok
returns-clause-ok c =
    let old = c.args.out.now.items in
    let mid = c.put_head.new.out.items in
    let same : to_z w64 (cast_unsigned w64 c.args.value) ≡ c.args.value = to_z-of_z w64 c.args.value c.ranges.value in
    on_ok_weaker c.put_number.result (λ e. put_written old mid c.put_number.new.out.items c.args.tag c.size_of_integer-size.result c.cast_unsigned.result c.args.value (c.size_of_integer-size.ensures.value ∙ ap integer_size same) (c.cast_unsigned.ensures ∙ ap (cast_unsigned w64) same) c.in_ok-put_head.ensures.ok e) c.put_number.ensures.ok
