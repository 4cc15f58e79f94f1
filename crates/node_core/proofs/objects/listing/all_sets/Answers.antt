use Rattle.std.proofs.Common.{◌≡◌, ◌<◌, List, [], ◌∷◌, map, length, filter, get_or, take}
use Rattle.std.proofs.Common.{take_all, ap, ◌∙◌, arith}
use Rattle.std.specs.Option.{option_map}
use Rattle.std.proofs.lemmas.List.{map_more}
use Rattle.std.proofs.lemmas.Option.{slice_get-get_or, same_Some}
use Rattle.data_sets.specs.declared.book.DataSet.{DataSet}
use Rattle.tase_views.specs.NameLists.{is_after}
use Rattle.node_core.proofs.OfObjects.Listed.{filtered_twice}
use Rattle.node_core.proofs.OfObjects.Names.{copied-IsSome}
use Rattle.node_core.proofs.OfObjects.SetNames.{book_names}
use Rattle.node_core.proofs.objects.listing.all_sets.Goals as goal

no_set : DataSet
no_set = record { name = []; members = [] }

pub unwrap-name-requires : goal.unwrap-name-requires
unwrap-name-requires c =
    copied-IsSome c.name.result _ (c.name.ensures
    ∙ ap (option_map (λ (s : DataSet). s.name))
    (slice_get-get_or c.args.book.now.sets c.loop-index.index no_set (omega arith)))

pub loop-index-preserved : goal.loop-index-preserved
loop-index-preserved c =
    let sets = c.args.book.now.sets in
    let index = c.loop-index.index in
    let within : index < length sets = omega arith in
    let test = is_after c.args.after.now in
    let name : c.unwrap-name.result.now ≡ (get_or sets index no_set).name =
    same_Some _ _ ((rw c.unwrap-name.ensures at c.name.ensures)
    ∙ ap (option_map (λ (s : DataSet). s.name)) (slice_get-get_or sets index no_set within)) in
    let here = c.as_slice.ensures.value ∙ name in
    rw (map_more (λ (s : DataSet). s.name) sets index no_set within)
    (filtered_twice test (book_names (take index sets)) ((get_or sets index no_set).name ∷ [])
    (map (λ n. n.now) c.loop-index.names.items) _ c.loop-index.invariant
    (rw here at c.in_ok-push_after.ensures))

pub returns : goal.returns
returns c =
    c.loop-index.invariant
    ∙ ap (λ (sets : List DataSet). filter (is_after c.args.after.now) (book_names sets))
    (take_all c.loop-index.index c.args.book.now.sets (omega arith))
