use Rattle.std.proofs.Common.{◌≡◌, true, false, map, sym, rules, append-nil}
use Rattle.std.proofs.lemmas.List.{map_push}
use Rattle.tase_views.specs.NameLists.{is_after}
use Rattle.node_core.proofs.objects.listing.push_after.Goals as goal

pub returns-then-not-is_after : goal.returns-then-not-is_after
returns-then-not-is_after c =
    let apart : is_after c.args.after.now c.args.name.now ≡ false = search rules in
    rw apart (sym (append-nil (map (λ name. name.now) c.args.names.now.items)))

pub returns : goal.returns
returns c =
    let here : is_after c.args.after.now c.args.name.now ≡ true = search rules in
    rw (here, c.in_ok-push.ensures.items)
    (map_push (λ name. name.now) c.args.names.now.items c.args.name)
