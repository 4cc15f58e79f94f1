use Rattle.std.proofs.Common.{◌+◌, ◌∙◌, Bool, ◌||◌, ℕ, List, length, take, take_all, sym}
use Rattle.std.proofs.Common.{ap}
use Rattle.std.proofs.Common.{arith}
use Rattle.std.proofs.lemmas.List.Folds.{list_any_more}
use Rattle.mms_data.specs.ObjectName.{ObjectName}
use Rattle.bilateral.specs.Rows.{point_of}
use Rattle.tase_views.specs.Objects.{object_named}
use Rattle.tase_views.specs.Slots.{is_point}
use Rattle.node_core.specs.Objects.Found.{offered}
use Rattle.node_core.proofs.OfFeeds.Indexes.{named_in, watched-as, watched-then}
use Rattle.node_core.proofs.feeds.index.watch_members.Goals as goal

pub watch_member-requires-clause-room : goal.watch_member-requires-clause-room
watch_member-requires-clause-room c =
    c.loop-name.invariant.room c.args.table.now.table c.requires.room

pub loop-name-preserved : goal.loop-name-preserved
loop-name-preserved c =
    let t = c.args.table.now in
    let names = c.as_slice-name-items.result.now in
    let i = c.loop-name.name-index in
    let name = c.name-item.result in
    let is : ℕ → ObjectName → Bool = λ p member. is_point (point_of t.rows p).name
    (object_named (offered t) member) in
    let points = length t.rows.points in
    watched-as points c.args.slot (λ p. named_in t (take i names) p || is p name)
    (named_in t (take (i + 1) names)) c.args.watch.now c.watch_member.new.watch
    (λ p there. ap (λ (n : ObjectName). named_in t (take i names) p || is p n) c.name-item.is
    ∙ sym (list_any_more (is p) names i name (omega arith)))
    (watched-then points c.args.slot (named_in t (take i names)) (λ p. is p name)
    c.args.watch.now c.loop-name.watch c.watch_member.new.watch c.loop-name.invariant
    c.watch_member.ensures)

pub returns : goal.returns
returns c =
    let t = c.args.table.now in
    let names = c.as_slice-name-items.result.now in
    let i = c.loop-name.name-index in
    watched-as (length t.rows.points) c.args.slot (named_in t (take i names))
    (named_in t c.args.members.now) c.args.watch.now c.loop-name.watch
    (λ p there. ap (λ (members : List ObjectName). named_in t members p)
    (take_all i names (omega arith) ∙ c.as_slice-name-items.ensures))
    c.loop-name.invariant
