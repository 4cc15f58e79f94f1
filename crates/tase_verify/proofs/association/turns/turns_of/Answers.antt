use Rattle.tase_verify.proofs.OfAssociation.KindsHanded.{kinds_end}
use Rattle.tase_verify.proofs.association.turns.turns_of.Goals as goal

pub returns : goal.returns
returns c =
    kinds_end c.loop-input.turns.items c.push_if.new.turns.items c.push_if-2.new.turns.items
    c.args.inputs.now c.loop-input.input-index c.args.broken c.args.ended c.loop-input.invariant
    c.loop-input-test.false c.in_ok-push_if.ensures c.in_ok-push_if-2.ensures
