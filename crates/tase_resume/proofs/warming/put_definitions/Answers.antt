use Rattle.std.proofs.Common.{◌≡◌, ℕ, ◌+◌, ◌<◌, List, [], ◌∷◌, ◌++◌, map, take, length, get_or, sym}
use Rattle.std.proofs.Common.{ap, ◌∙◌, arith}
use Rattle.std.proofs.lemmas.List.{append_assoc, map-append, take_more}
use Rattle.std.proofs.lemmas.Option.{slice_get-get_or}
use Rattle.data_sets.specs.declared.book.DataSet.{DataSet}
use Rattle.tase_views.specs.declared.event.Entry.{Entry}
use Rattle.tase_views.specs.OwnTables.{OwnTable}
use Rattle.tase_resume.specs.Warming.{of_centre, define_event}
use Rattle.tase_resume.proofs.warming.put_definitions.Goals as goal

defined_more : (owned : OwnTable) (sets : List DataSet) (k : ℕ) (d : DataSet)
    (first out new : List Entry) → k < length sets
    → out ≡ first ++ map of_centre (map (define_event owned) (take k sets))
    → new ≡ out ++ of_centre (define_event owned (get_or sets k d)) ∷ []
    → new ≡ first ++ map of_centre (map (define_event owned) (take (k + 1) sets))
defined_more owned sets k d first out new within before is =
    let these = take k sets in
    let set = get_or sets k d in
    is
    ∙ ap (λ (l : List Entry). l ++ of_centre (define_event owned set) ∷ []) before
    ∙ append_assoc first (map of_centre (map (define_event owned) these))
    (of_centre (define_event owned set) ∷ [])
    ∙ ap (λ (l : List Entry). first ++ l)
    (sym (ap (λ (l : List DataSet). map of_centre (map (define_event owned) l))
    (take_more sets k d within)
    ∙ ap (map of_centre) (map-append (define_event owned) these (set ∷ []))
    ∙ map-append of_centre (map (define_event owned) these) (define_event owned set ∷ [])))

pub loop-index-preserved : goal.loop-index-preserved
loop-index-preserved c = λ owned same.
    let sets = c.args.book.now.sets in
    let k = c.loop-index.index in
    let d : DataSet = record { name = []; members = [] } in
    let within : k < length sets =
    omega (arith, c.loop-index-test.true, c.count-index-end.ensures) in
    defined_more owned sets k d c.args.out.now c.loop-index.out c.put_definition.new.out within
    (c.loop-index.invariant owned same)
    (c.in_ok-put_definition.ensures owned (get_or sets k d) same (slice_get-get_or sets k d within))
