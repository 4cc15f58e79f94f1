use Rattle.std.proofs.Common.{◌≡◌, ℕ, ◌<◌, true, List, [], ◌∷◌, ◌++◌, length, Option, Some}
use Rattle.std.proofs.Common.{None, refl, is_some, sym, ap, subst, ◌∙◌, Bor, Result, Ok, Err}
use Rattle.std.proofs.Common.{slice_get, OnOk}
use Rattle.std.specs.Prelude.{option_map}
use Rattle.std.specs.Option.{option_copied}
use Rattle.std.proofs.lemmas.Option.{none-some, same_Some, get_or_from_slice_get}
use Rattle.std.proofs.lemmas.List.Elements.{same_from_all_zip}
use Rattle.mms_data.specs.ObjectName.{ObjectName, IsIdentifier}
use Rattle.data_sets.specs.declared.book.DataSet.{DataSet}
use Rattle.data_sets.specs.Books.{members_in}
use Rattle.tase_views.specs.declared.call.CallKind.{CallKind}
use Rattle.tase_views.specs.declared.call.CallKind.TheVariants.{Define}
use Rattle.tase_views.specs.declared.event.EventKind.{EventKind}
use Rattle.tase_views.specs.declared.event.EventKind.TheVariants.{Request}
use Rattle.tase_views.specs.declared.event.Entry.{Entry}
use Rattle.tase_views.specs.OwnTables.{OwnTable, domain_name}
use Rattle.tase_resume.specs.Warming.{of_centre, define_event}
use Rattle.tase_resume.proofs.SetsPut.{members_at}
use Rattle.tase_resume.proofs.warming.put_definition.Goals as goal

some_copied : {A : Type 0} (o : Option (Bor A)) (x : A) → option_copied o ≡ Some x
    → is_some o ≡ true
some_copied None x e = absurd (none-some x e)
some_copied (Some b) x e = refl

copied_is : {A : Type 0} (o : Option (Bor A)) (b : Bor A) (x : A) → o ≡ Some b
    → option_copied o ≡ Some x → b.now ≡ x
copied_is o b x is e = same_Some b.now x (ap option_copied (sym is) ∙ e)

named_at : (sets : List DataSet) (k : ℕ) (name : List ℕ)
    → Some name ≡ option_map (λ (s : DataSet). s.name) (slice_get sets k)
    → (set : DataSet) × (slice_get sets k ≡ Some set) × (name ≡ set.name)
named_at sets k name = by (slice_get sets k) refl
  where
    by : (o : Option DataSet) → slice_get sets k ≡ o
        → Some name ≡ option_map (λ (s : DataSet). s.name) o
        → (set : DataSet) × (slice_get sets k ≡ Some set) × (name ≡ set.name)
    by None is e = absurd (none-some name (sym e))
    by (Some set) is e = (set, is, same_Some name set.name e)

pub unwrap-requires : goal.unwrap-requires
unwrap-requires c =
    let sets = c.args.book.now.sets in
    let at = named_at sets c.args.index c.unwrap-name.result.now
    (ap option_copied (sym c.unwrap-name.ensures) ∙ c.name.ensures) in
    some_copied c.members.result at.0.members
    (c.members.ensures ∙ ap (members_in sets) at.2
    ∙ members_at sets c.args.index at.0 c.books_are_lawful.ensures.once at.1)

pub own_name-requires-clause-item : goal.own_name-requires-clause-item
own_name-requires-clause-item c =
    let sets = c.args.book.now.sets in
    let k = c.args.index in
    let at = named_at sets k c.unwrap-name.result.now
    (ap option_copied (sym c.unwrap-name.ensures) ∙ c.name.ensures) in
    subst IsIdentifier
    (ap (λ (s : DataSet). s.name) (get_or_from_slice_get sets k at.0 at.0 at.1) ∙ sym at.2)
    (c.requires.named k at.0 c.requires.there)

pub new-call-requires : goal.new-call-requires
new-call-requires c =
    let sets = c.args.book.now.sets in
    let k = c.args.index in
    let at = named_at sets k c.unwrap-name.result.now
    (ap option_copied (sym c.unwrap-name.ensures) ∙ c.name.ensures) in
    let found = c.members.ensures ∙ ap (members_in sets) at.2
    ∙ members_at sets k at.0 c.books_are_lawful.ensures.once at.1 in
    let members : c.in_ok-members.members ≡ at.0.members =
    same_from_all_zip (λ (a b : ObjectName). b ≡ a) c.unwrap.result.now c.in_ok-members.members
    c.in_ok-members.ensures.cases (λ a b same. same)
    ∙ copied_is c.members.result c.unwrap.result at.0.members c.unwrap.ensures found in
    subst (λ (l : List ObjectName). 0 < length l)
    (ap (λ (s : DataSet). s.members) (get_or_from_slice_get sets k at.0 at.0 at.1) ∙ sym members)
    (c.books_are_lawful.ensures.some k at.0 c.requires.there)

put_same : {T E : Type 0} (result : Result T E) (event same : EventKind) (out new : List Entry)
    → event ≡ same → OnOk result (new ≡ out ++ of_centre event ∷ [])
    → OnOk result (new ≡ out ++ of_centre same ∷ [])
put_same (Ok value) event same out new is put =
    put ∙ ap (λ (e : EventKind). out ++ of_centre e ∷ []) is
put_same (Err error) event same out new is put = tt

defines_same : (call : CallKind) (owned : OwnTable) (set : DataSet) (name : ObjectName)
    (item : List ℕ) (members : List ObjectName) → call ≡ Define name members
    → name ≡ domain_name owned item → item ≡ set.name → members ≡ set.members
    → Request call ≡ define_event owned set
defines_same call owned set name item members is named item_is members_are =
    ap Request (is
    ∙ ap (λ (n : ObjectName). Define n members)
    (named ∙ ap (domain_name owned) item_is)
    ∙ ap (Define (domain_name owned set.name)) members_are)

pub returns : goal.returns
returns c = λ owned set same at.
    let sets = c.args.book.now.sets in
    let k = c.args.index in
    let item = c.unwrap-name.result.now in
    let item_is : item ≡ set.name =
    same_Some item set.name (ap option_copied (sym c.unwrap-name.ensures) ∙ c.name.ensures
    ∙ ap (option_map (λ (s : DataSet). s.name)) at) in
    let found = c.members.ensures ∙ ap (members_in sets) item_is
    ∙ members_at sets k set c.books_are_lawful.ensures.once at in
    let members : c.in_ok-members.members ≡ set.members =
    same_from_all_zip (λ (a b : ObjectName). b ≡ a) c.unwrap.result.now c.in_ok-members.members
    c.in_ok-members.ensures.cases (λ a b same. same)
    ∙ copied_is c.members.result c.unwrap.result set.members c.unwrap.ensures found in
    put_same c.put.result (Request c.new-call.result) (define_event owned set) c.args.out.now
    c.put.new.out
    (defines_same c.new-call.result owned set c.in_ok-set.set item c.in_ok-members.members
    c.new-call.ensures (c.in_ok-set.ensures owned same) item_is members)
    c.put.ensures
