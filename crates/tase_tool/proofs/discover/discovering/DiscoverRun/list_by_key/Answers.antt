use Rattle.std.proofs.Common.{◌∙◌, ℕ, Option, ap, subst}
use Rattle.bilateral.specs.Rows.{place_of_peer}
use Rattle.commands.specs.Words.Words.{discover_seen}
use Rattle.tase_tool.specs.Discover.Discovering.{ListsByKey}
use Rattle.tase_tool.proofs.discover.discovering.DiscoverRun.list_by_key.Goals as goal

pub returns-in-Some : goal.returns-in-Some
returns-in-Some g c =
    let task = discover_seen c.args.self.now.words in
    let old = g.O.Outside.told c.args.outside.now in
    let now = g.O.Outside.told c.list_peer.new.outside in
    subst (λ (found : Option ℕ). ListsByKey task c.args.centre found old now c.list_peer.result)
    (c.in-Some.ensures ∙ ap (place_of_peer c.args.centre) c.as_bytes.ensures.value)
    c.list_peer.ensures

pub returns-in-None : goal.returns-in-None
returns-in-None g c =
    let task = discover_seen c.args.self.now.words in
    let old = g.O.Outside.told c.args.outside.now in
    let now = g.O.Outside.told c.end_unread.new.outside in
    subst (λ (found : Option ℕ). ListsByKey task c.args.centre found old now c.end_unread.result)
    (c.in-None.ensures ∙ ap (place_of_peer c.args.centre) c.as_bytes.ensures.value)
    c.end_unread.ensures
