use Rattle.std.proofs.Common.{◌≡◌, ◌+◌, ◌++◌, length, ap, ◌∙◌, append_assoc, arith}
use Rattle.ber_values.specs.Lengths.{part_size}
use Rattle.ber_values.specs.Writing.{head_octets}
use Rattle.ber_values.proofs.Capped.{element-few, part_size-most}
use Rattle.presentation_profile.proofs.Sizes.{mode-sized}
use Rattle.presentation_profile.specs.Written.{mode_octets, ppdu_front_octets}
use Rattle.presentation_profile.proofs.ppdu.put_front.Goals as goal

pub write_head-requires-clause-bounded : goal.write_head-requires-clause-bounded
write_head-requires-clause-bounded c =
    omega (arith, element-few c.args.len c.part_len.result c.part_len.ensures, c.requires)

pub returns-clause-ok : goal.returns-clause-ok
unfolding ppdu_front_octets
returns-clause-ok c =
    let old = c.args.out.now.items in
    let head = head_octets 49 (length mode_octets + part_size c.args.len) in
    let size : 5 + c.part_len.result ≡ length mode_octets + part_size c.args.len =
    omega (arith, c.part_len.ensures, mode-sized, part_size-most c.args.len, c.requires) in
    let one = c.in_ok-write_head.ensures.ok ∙ ap (λ n. old ++ head_octets 49 n) size in
    let two = c.in_ok-put_mode.ensures.ok ∙ ap (λ os. os ++ mode_octets) one
    ∙ append_assoc old head mode_octets in
    c.in_ok-write_head-2.ensures.ok ∙ ap (λ os. os ++ head_octets 162 c.args.len) two
    ∙ append_assoc old (head ++ mode_octets) (head_octets 162 c.args.len)
    ∙ ap (λ os. old ++ os) (append_assoc head mode_octets (head_octets 162 c.args.len))
