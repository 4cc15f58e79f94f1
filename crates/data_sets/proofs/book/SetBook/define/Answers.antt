use Rattle.std.proofs.Common.{rules, ◌≡◌, None, sym, subst}
use Rattle.data_sets.specs.Books.{set_fault_of}
use Rattle.data_sets.proofs.Booked.{IsSetBook-defined}
use Rattle.data_sets.proofs.book.SetBook.define.Goals as goal

pub invariant_of-self-2 : goal.invariant_of-self-2
invariant_of-self-2 c =
    let free : set_fault_of c.args.self.now c.args.name c.args.members ≡ None = search rules in
    IsSetBook-defined c.self.inside.limit c.self.inside.sets.items c.push.new.self.items
    (record { name = c.args.name; members = c.args.members }) c.requires.some
    (subst (λ book. set_fault_of book c.args.name c.args.members ≡ None) (sym c.self.view_is) free)
    c.in_ok-push.ensures.items c.self.invariant
