-- Each member is short enough, and one member more has been written.
use Rattle.std.proofs.Common.{◌≡◌, ◌++◌, ◌∙◌, sym, ap, length, take, get_or, append_assoc, arith}
use Rattle.mms_data.specs.Datum.{data_of, depth, deepest}
use Rattle.mms_data.specs.DataWritten.{datum_octets, members_octets}
use Rattle.mms_data.proofs.DataLengths.{member_few, member_shallow, members_octets-take}
use Rattle.mms_data.proofs.data.octets.+writing.Goals as goal

pub put_members-put_data-requires : goal.put_members-put_data-requires
put_members-put_data-requires t c =
    let ds = c.deref-member-items.result.now in
    let i = c.loop-member.member-index in
    let item = c.member-item.result in
    let all : ds ≡ c.args.members.now = c.deref-member-items.ensures.value ∙ c.members.view_is in
    let few = member_few ds i item c.loop-member-test.true in
    let same : length (datum_octets item) ≡ length (datum_octets (get_or ds i item)) =
    ap (λ d. length (datum_octets d)) c.member-item.is in
    let whole : length (members_octets (data_of ds))
    ≡ length (members_octets (data_of c.args.members.now)) =
    ap (λ xs. length (members_octets (data_of xs))) all in
    let shallow = member_shallow ds i item c.loop-member-test.true in
    let level : depth item ≡ depth (get_or ds i item) = ap depth c.member-item.is in
    let levels : deepest (data_of ds) ≡ deepest (data_of c.args.members.now) =
    ap (λ xs. deepest (data_of xs)) all in (
      omega (arith, shallow, level, levels, c.decreases),
      omega (arith, few, same, whole, c.requires),
    )

pub put_members-loop-member-preserved : goal.put_members-loop-member-preserved
put_members-loop-member-preserved t c =
    let ds = c.deref-member-items.result.now in
    let i = c.loop-member.member-index in
    let item = c.member-item.result in
    let old = c.args.out.now.items in
    let front = members_octets (data_of (take i ds)) in
    c.in_ok-put_data.ensures.ok
    ∙ ap (λ os. os ++ datum_octets item) c.loop-member.invariant
    ∙ append_assoc old front (datum_octets item)
    ∙ ap (λ os. old ++ os) (ap (λ d. front ++ datum_octets d) c.member-item.is
    ∙ sym (members_octets-take ds i item c.loop-member-test.true))
