use Rattle.std.proofs.Common.{◌≡◌, ◌↔◌, Ok, Err, Result}
use Rattle.transfer_sets.specs.declared.wish.Wish.{Wish}
use Rattle.transfer_sets.specs.declared.wish.WishFault.{WishFault}
use Rattle.transfer_sets.specs.declared.wish.WishFault.TheVariants.{Form, Range}
use Rattle.transfer_sets.specs.WishData.{WishParts, IsWishForm, AreRanged, wish_of}
use Rattle.transfer_sets.proofs.Readings.{read_so, lawful_so, wish_exactly, form_exactly}
use Rattle.transfer_sets.proofs.Readings.{range_exactly}
use Rattle.transfer_sets.proofs.reading.read_wish.Goals as goal

pub returns-clause-wish : goal.returns-clause-wish
returns-clause-wish c =
    λ w. let d = c.args.value.now in
    let P : Result Wish WishFault → Type 0 = λ read. (read ≡ Ok w)
    ↔ ((p : WishParts) × IsWishForm d p × AreRanged p.numbers × (w ≡ wish_of p)) in
    read_so P d c.wish_from.result (wish_exactly d w) c.wish_from.ensures

pub returns-clause-form : goal.returns-clause-form
returns-clause-form c =
    let d = c.args.value.now in
    let P : Result Wish WishFault → Type 0 = λ read. (read ≡ Err Form)
    ↔ ((p : WishParts) → ¬ IsWishForm d p) in
    read_so P d c.wish_from.result (form_exactly d) c.wish_from.ensures

pub returns-clause-range : goal.returns-clause-range
returns-clause-range c =
    let d = c.args.value.now in
    let P : Result Wish WishFault → Type 0 = λ read. (read ≡ Err Range)
    ↔ ((p : WishParts) × IsWishForm d p × ¬ AreRanged p.numbers) in
    read_so P d c.wish_from.result (range_exactly d) c.wish_from.ensures

pub returns-clause-lawful : goal.returns-clause-lawful
returns-clause-lawful c = lawful_so c.args.value.now c.wish_from.result c.wish_from.ensures
