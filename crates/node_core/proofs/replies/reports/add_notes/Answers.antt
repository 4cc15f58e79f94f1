use Rattle.std.proofs.Common.{◌<◌, ◌∷◌, [], map, length, refl, ◌∙◌, arith}
use Rattle.transfer_sets.specs.declared.noted.Noted.{Noted}
use Rattle.tase_views.specs.Reports.{noted_of}
use Rattle.node_core.specs.Objects.Found.{offered}
use Rattle.node_core.proofs.OfReplies.ReportsMade.{stepped, at_place}
use Rattle.node_core.proofs.replies.reports.add_notes.Goals as goal

pub loop-note-preserved : goal.loop-note-preserved
loop-note-preserved c =
    let told = noted_of (offered c.args.table.now) [] 0 0 0 c.args.members.now in
    let part = c.args.part.now in
    let i = c.loop-note.note-index in
    let note = c.note-item.result in
    let within : i < length part = omega arith in
    let known = at_place (λ (n : Noted). n.member < length c.args.members.now) part i note within
    c.note-item.is in
    record {
      names = λ all.
          stepped (map (λ (n : Noted). (told n).name)) part i note c.loop-note.names
          c.add_note.new.names ((told note).name ∷ []) within c.note-item.is
          (c.in_ok-add_note.ensures.names (known all)) refl
          ∙ c.loop-note.invariant.names all;
      results = λ all.
          stepped (map (λ (n : Noted). (told n).outcome)) part i note c.loop-note.results
          c.add_note.new.results ((told note).outcome ∷ []) within c.note-item.is
          (c.in_ok-add_note.ensures.results (known all)) refl
          ∙ c.loop-note.invariant.results all;
      many = λ same. c.in_ok-add_note.ensures.many (c.loop-note.invariant.many same);
      lawful = λ lawful. c.in_ok-add_note.ensures.lawful (c.loop-note.invariant.lawful lawful);
    }
