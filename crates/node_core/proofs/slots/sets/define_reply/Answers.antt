use Rattle.std.proofs.Common.{◌≡◌, true, false, List, is_some, refl, sym, ap, ◌∙◌}
use Rattle.mms_data.specs.ObjectName.{ObjectName}
use Rattle.data_sets.specs.Books.{members_in}
use Rattle.tase_views.specs.OwnTables.{OwnTable}
use Rattle.tase_views.specs.Sets.{define_fault}
use Rattle.tase_views.specs.Slots.{sets_in}
use Rattle.tase_views.specs.Answers.{define_replied}
use Rattle.node_core.specs.Objects.Found.{offered}
use Rattle.node_core.proofs.OfSlots.Faults.{is_own, exceeds, fits, fault_told}
use Rattle.node_core.proofs.slots.sets.define_reply.Goals as goal

pub returns-then-is_too_many-clause-value : goal.returns-then-is_too_many-clause-value
returns-then-is_too_many-clause-value c = λ tables view in_force b.
    let table = offered c.args.table.now in
    let book = c.args.book.now in
    let set = c.args.set.now in
    let members = c.args.members.now in
    let named : true ≡ is_own table set =
    rw (← c.table-own.ensures.table) (sym c.if-not-is_set_name.false ∙ c.is_set_name.ensures) in
    let there : false ≡ is_some (members_in book.sets set.item) =
    sym c.if-has_set.false ∙ c.has_set.ensures
    ∙ ap (λ name. is_some (members_in book.sets name)) c.item.ensures.value in
    let many : true ≡ exceeds table book members =
    rw (← c.table-own.ensures.table, ← c.len.ensures, ← c.count.ensures)
    (sym c.if-is_too_many.true ∙ c.is_too_many.ensures) in
    c.error-then-is_too_many.ensures
    ∙ sym (ap define_replied (fault_told table tables view book set members
    true false true (fits table members) named there many refl b))
    ∙ ap (λ (those : OwnTable). define_replied (define_fault those (sets_in tables view) view set
    members)) in_force

pub returns-then-not-are_members-clause-value : goal.returns-then-not-are_members-clause-value
returns-then-not-are_members-clause-value c = λ tables view in_force b.
    let table = offered c.args.table.now in
    let book = c.args.book.now in
    let set = c.args.set.now in
    let members = c.args.members.now in
    let named : true ≡ is_own table set =
    rw (← c.table-own.ensures.table) (sym c.if-not-is_set_name.false ∙ c.is_set_name.ensures) in
    let there : false ≡ is_some (members_in book.sets set.item) =
    sym c.if-has_set.false ∙ c.has_set.ensures
    ∙ ap (λ name. is_some (members_in book.sets name)) c.item.ensures.value in
    let many : false ≡ exceeds table book members =
    rw (← c.table-own.ensures.table, ← c.len.ensures, ← c.count.ensures)
    (sym c.if-is_too_many.false ∙ c.is_too_many.ensures) in
    let fit : false ≡ fits table members =
    sym c.if-not-are_members.true ∙ c.are_members.ensures
    ∙ ap (λ (those : List ObjectName). fits table those) c.as_slice.ensures in
    c.error-then-not-are_members.ensures
    ∙ sym (ap define_replied (fault_told table tables view book set members
    true false false false named there many fit b))
    ∙ ap (λ (those : OwnTable). define_replied (define_fault those (sets_in tables view) view set
    members)) in_force

pub returns-clause-value : goal.returns-clause-value
returns-clause-value c = λ tables view in_force b.
    let table = offered c.args.table.now in
    let book = c.args.book.now in
    let set = c.args.set.now in
    let members = c.args.members.now in
    let named : true ≡ is_own table set =
    rw (← c.table-own.ensures.table) (sym c.if-not-is_set_name.false ∙ c.is_set_name.ensures) in
    let there : false ≡ is_some (members_in book.sets set.item) =
    sym c.if-has_set.false ∙ c.has_set.ensures
    ∙ ap (λ name. is_some (members_in book.sets name)) c.item.ensures.value in
    let many : false ≡ exceeds table book members =
    rw (← c.table-own.ensures.table, ← c.len.ensures, ← c.count.ensures)
    (sym c.if-is_too_many.false ∙ c.is_too_many.ensures) in
    let fit : true ≡ fits table members =
    sym c.if-not-are_members.false ∙ c.are_members.ensures
    ∙ ap (λ (those : List ObjectName). fits table those) c.as_slice.ensures in
    sym (ap define_replied (fault_told table tables view book set members
    true false false true named there many fit b))
    ∙ ap (λ (those : OwnTable). define_replied (define_fault those (sets_in tables view) view set
    members)) in_force
