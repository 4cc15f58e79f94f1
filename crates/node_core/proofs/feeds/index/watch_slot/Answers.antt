use Rattle.std.proofs.Common.{◌≡◌, Some, length, sym}
use Rattle.data_sets.specs.Books.{members_in}
use Rattle.tase_views.specs.Slots.{wished_members}
use Rattle.node_core.specs.Objects.Found.{offered}
use Rattle.node_core.proofs.OfFeeds.Indexes.{named_in, names_of_wish, watched-as, wish-there}
use Rattle.node_core.proofs.feeds.index.watch_slot.Goals as goal

pub returns-in-Some : goal.returns-in-Some
returns-in-Some c =
    let t = c.args.table.now in
    let book = c.args.book.now in
    let wish = c.args.wish.now in
    let there : wished_members (offered t) (members_in book.sets) wish ≡ Some c.in-Some.members.now =
    sym c.in-Some.ensures.members in
    watched-as (length t.rows.points) c.args.slot (named_in t c.in-Some.members.now)
    (names_of_wish t book wish) c.args.watch.now c.watch_members.new.watch
    (λ p known. wish-there t book wish c.in-Some.members.now c.if-not-wish.false there p)
    c.watch_members.ensures
