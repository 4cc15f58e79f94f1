use Rattle.std.proofs.Common.{◌≡◌, ℕ, List, [], ◌∷◌, reverse, sym, ap, ◌∙◌}
use Rattle.sbo_device.specs.Moves.{Tag}
use Rattle.tase_views.specs.declared.event.EventKind.{EventKind}
use Rattle.tase_views.specs.declared.event.EventKind.TheVariants as events
use Rattle.tase_resume.specs.Bases.{settled_past}
use Rattle.tase_resume.specs.Warming.{tag_told}
use Rattle.tase_resume.proofs.WarmNow.{no_tag, one_tag}
use Rattle.tase_resume.proofs.PutPlaces.{none_put, one_put}
use Rattle.tase_resume.proofs.warming.put_tag.Goals as goal

pub returns-then-is_blank : goal.returns-then-is_blank
returns-then-is_blank c =
    let rows = c.args.node.now.setup.centre in
    let past = reverse c.args.node.now.history in
    none_put (tag_told rows (settled_past past) c.args.device) c.args.out.now
    (no_tag rows past c.args.device c.tag-tag.result c.tag_reason-reason.result.now
    c.tag-tag.ensures.value c.tag_reason-reason.ensures
    (sym c.is_blank.ensures ∙ c.if-is_blank.true))

told_as : (device : ℕ) (these : List EventKind) (tag as_put : Tag)
    → these ≡ events.Tag device tag ∷ [] → as_put ≡ tag → these ≡ events.Tag device as_put ∷ []
told_as device these tag as_put is same =
    is ∙ ap (λ (t : Tag). events.Tag device t ∷ []) (sym same)

pub returns : goal.returns
returns c =
    let rows = c.args.node.now.setup.centre in
    let past = reverse c.args.node.now.history in
    let device = c.args.device in
    let value = c.tag-tag.result in
    let reason = c.tag_reason-reason.result.now in
    let tag : Tag = record { tag = value; reason = reason } in
    let these = tag_told rows (settled_past past) device in
    one_put c.put.result these (events.Tag device c.new-tag.result) c.args.out.now c.put.new.out
    (told_as device these tag c.new-tag.result
    (one_tag rows past device value reason c.tag-tag.ensures.value c.tag_reason-reason.ensures
    (sym c.is_blank.ensures ∙ c.if-is_blank.false))
    (c.new-tag.ensures
    ∙ ap (λ (l : List ℕ). let t : Tag = record { tag = value; reason = l } in t)
    c.in_ok-clone.ensures.cases)) c.put.ensures
