-- One member more is written, behind a comma unless it is the first.
use Rattle.std.proofs.Common.{◌<◌, length, arith, append_assoc, ap}
use Rattle.std.proofs.lemmas.Grind.{common_steps}
use Rattle.mms_data.specs.Datum.{data_of, depth, deepest}
use Rattle.mms_data.proofs.OfText.Spelled.{members_text-take_one, members_text-take_more}
use Rattle.mms_data.proofs.OfText.Spelled.{member_shallow}
use Rattle.mms_data.proofs.text.spelling.+depth.Goals as goal
use Rattle.mms_data.proofs.text.spelling.+depth.Goals.{spell_members-then-index-gt0+in_ok-push}
use Rattle.mms_data.proofs.text.spelling.+depth.Goals.{spell_members-else-index-gt0}

pub spell_members-loop-index-preserved : goal.spell_members-loop-index-preserved
spell_members-loop-index-preserved t c =
    let members = c.args.members.now in
    let index = c.loop-index.index in
    let within : index < length members = omega (arith, ap length c.as_slice-member-items.ensures) in
    elim c.if-index-gt0.branch [
      | spell_members-then-index-gt0+in_ok-push w ↦
          let text = members_text-take_more members index c.member-item.result within
          (omega arith) in
          grind (arith, common_steps, text, append_assoc)
      | spell_members-else-index-gt0 w ↦
          let text = members_text-take_one members index c.member-item.result within
          (omega arith) in
          grind (arith, common_steps, text, append_assoc)
    ]

pub spell_members-spell-requires : goal.spell_members-spell-requires
spell_members-spell-requires t c =
    let items = c.as_slice-member-items.result.now in
    let member = c.member-item.result in
    let shallow = member_shallow items c.loop-index.index member c.loop-index-test.true in (
      omega (
        arith,
        c.decreases,
        shallow,
        ap depth c.member-item.is,
        ap (λ ds. deepest (data_of ds)) c.as_slice-member-items.ensures,
      ),
      tt,
    )
