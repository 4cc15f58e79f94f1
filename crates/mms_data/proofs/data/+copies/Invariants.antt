-- The copies so far are the members so far.
use Rattle.std.proofs.Common.{◌≡◌, take}
use Rattle.mms_data.proofs.data.+copies.Given as goal

abbrev pub invariant-DataListClone::clone-loop-item : goal.invariant-DataListClone::clone-loop-item
invariant-DataListClone::clone-loop-item l = l.copies.items ≡ take l.item-index l.item-items
