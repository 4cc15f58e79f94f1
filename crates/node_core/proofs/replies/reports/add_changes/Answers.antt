use Rattle.std.proofs.Common.{◌<◌, ◌++◌, List, length, map, sym, subst, ◌∙◌, arith}
use Rattle.std.specs.List.{All}
use Rattle.std.proofs.lemmas.List.Elements.{All-take, All-drop}
use Rattle.transfer_sets.specs.declared.noted.Noted.{Noted}
use Rattle.tase_views.specs.View.{View}
use Rattle.tase_views.specs.Reports.{told_of, members_where, is_variable, noted_of, report_of_all}
use Rattle.node_core.specs.Objects.Found.{offered}
use Rattle.node_core.proofs.OfReplies.ReportsMade.{part-step, parts-none, some_left}
use Rattle.node_core.proofs.replies.reports.add_changes.Goals as goal

pub loop-rest-preserved : goal.loop-rest-preserved
loop-rest-preserved c =
    let o = c.args.occasion in
    let own = offered c.args.shown.now.table in
    let members = c.args.members.now in
    let rest = c.loop-rest.rest.now in
    let part_of = λ (view : View) (part : List Noted). report_of_all (told_of own view o.slot o.now
    o.conditions (members_where own 0 (λ place. is_variable) members)
    ++ map (noted_of own view o.slot o.now o.conditions members) part) in
    let IsMember : Noted → Type 0 = λ n. n.member < length members in
    let some = some_left (length rest) c.is_empty.result c.is_empty.ensures c.loop-rest-test.true in
    record {
      made = λ updates tables view s all.
          part-step (part_of view) rest c.split_at.result.0.now c.split_at.result.1.now c.min.result
          c.loop-rest.made c.add_part.new.made some c.min.ensures c.split_at.ensures.front
          c.split_at.ensures.back
          (c.in_ok-add_part.ensures updates tables view s
          (omega (arith, some, c.min.ensures, c.split_at.ensures.front_len))
          (subst (All IsMember) (sym c.split_at.ensures.front)
          (All-take IsMember c.min.result rest (c.loop-rest.invariant.known all))))
          ∙ c.loop-rest.invariant.made updates tables view s all;
      known = λ all.
          subst (All IsMember) (sym c.split_at.ensures.back)
          (All-drop IsMember c.min.result rest (c.loop-rest.invariant.known all));
    }

pub loop-rest-smaller : goal.loop-rest-smaller
loop-rest-smaller c =
    let some = some_left (length c.loop-rest.rest.now) c.is_empty.result c.is_empty.ensures
    c.loop-rest-test.true in
    omega (arith, some, c.min.ensures, c.split_at.ensures.back_len)

pub returns : goal.returns
returns c = λ updates tables view s all.
    let o = c.args.occasion in
    let own = offered c.args.shown.now.table in
    let members = c.args.members.now in
    let part_of = λ (part : List Noted). report_of_all (told_of own view o.slot o.now o.conditions
    (members_where own 0 (λ place. is_variable) members)
    ++ map (noted_of own view o.slot o.now o.conditions members) part) in
    parts-none part_of c.loop-rest.rest.now c.loop-rest.made c.is_empty.result c.is_empty.ensures
    c.loop-rest-test.false ∙ c.loop-rest.invariant.made updates tables view s all
