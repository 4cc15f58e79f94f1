-- The data sets of a peer as they are defined anew: their names are identifiers, each is found by
-- its name, and the peer's table in force has their domain.
use Rattle.std.proofs.Common.{◌≡◌, ◌≢◌, ◌==◌, ℕ, zero, suc, ◌<◌, Bool, true, false, not, List, []}
use Rattle.std.proofs.Common.{◌∷◌, ◌++◌, map, length, get_or, Option, Some, refl, sym, ap, subst}
use Rattle.std.proofs.Common.{◌∙◌, arith, bytes_eq}
use Rattle.std.specs.Prelude.{slice_get, slice_index_or, option_map}
use Rattle.std.specs.List.{All, AllPairs}
use Rattle.std.proofs.lemmas.Bool.{and_parts, false≢true}
use Rattle.std.proofs.lemmas.Option.{slice_get_within, get_or_from_slice_get}
use Rattle.std.proofs.lemmas.List.{get_or-map}
use Rattle.std.proofs.lemmas.List.Elements.{All-nil, All-cons}
use Rattle.std.proofs.lemmas.List.Folds.{find_at}
use Rattle.std.proofs.lemmas.List.Sums.{position_or_len_is}
use Rattle.std.proofs.lemmas.Slice.Eq.{bytes_eq-Decides}
use Rattle.mms_data.specs.ObjectName.{IsIdentifier}
use Rattle.data_sets.specs.declared.book.DataSet.{DataSet}
use Rattle.data_sets.specs.Books.{is_set_named, members_in}
use Rattle.bilateral.specs.Words.Words.{is_identifier}
use Rattle.bilateral.specs.declared.rows.Table.{Table}
use Rattle.bilateral.specs.Rows.{CentreRows, IsCentre, variants_of, no_table}
use Rattle.bilateral.proofs.OfWords.VisibleWords.{IsVisible-from_identifier}
use Rattle.tase_views.specs.declared.event.EventKind.TheVariants.{Open, Close}
use Rattle.tase_views.specs.OwnTables.{OwnTable, own_table, own_tables, table_in, no_own_table}
use Rattle.tase_views.specs.View.{View, held}
use Rattle.tase_views.specs.Listed.{sets_listed}
use Rattle.tase_resume.specs.Warming.{define_event, set_events}
use Rattle.tase_resume.proofs.SetsListed.{AreAllowed, listed}

not_zero : (n : ℕ) → not (n == 0) ≡ true → 0 < n
not_zero zero e = absurd (false≢true e)
not_zero (suc n) e = omega arith

identifier_word : (word : List ℕ) → is_identifier word ≡ true → IsIdentifier word
identifier_word word e = (
  not_zero (length word) (and_parts _ _ (and_parts _ _ e).0).0,
  IsVisible-from_identifier word e,
)

are_named : (table : OwnTable) (sets : List DataSet) → AreAllowed table sets
    → All (λ (set : DataSet). IsIdentifier set.name) sets
are_named table [] allowed = All-nil (λ (set : DataSet). IsIdentifier set.name)
are_named table (set ∷ sets) allowed =
    All-cons (λ (s : DataSet). IsIdentifier s.name) set sets
    (identifier_word set.name allowed.0.0) (are_named table sets allowed.1)

pub listed_named : (rows : CentreRows) (peer : ℕ) (view : View) (sets : List DataSet)
    → sets ≡ sets_listed (own_tables rows peer) view
    → All (λ (set : DataSet). IsIdentifier set.name) sets
listed_named rows peer view sets is =
    let tables = own_tables rows peer in
    subst (λ (l : List DataSet). All (λ (set : DataSet). IsIdentifier set.name) l) (sym is)
    (are_named (held tables view) (sets_listed tables view)
    (listed tables view).lawful.allowed)

-- the table of a peer with a number

word_at : (rows : CentreRows) (peer variant : ℕ) → IsCentre rows → peer < length rows.tables
    → variant < length (variants_of rows peer)
    → is_identifier (slice_index_or (variants_of rows peer) variant no_table).domain ≡ true
word_at rows peer zero lawful there within = (lawful.tables peer no_table there).domain
word_at rows peer (suc variant) lawful there within =
    ((lawful.further peer).tables variant no_table (omega arith)).domain

pub domain_named : (rows : CentreRows) (peer variant : ℕ) (table : Table) → IsCentre rows
    → peer < length rows.tables → slice_get (variants_of rows peer) variant ≡ Some table
    → IsIdentifier table.domain
domain_named rows peer variant table lawful there is =
    let within = slice_get_within (variants_of rows peer) variant table is in
    identifier_word table.domain
    (ap (λ (t : Table). is_identifier t.domain)
    (sym (get_or_from_slice_get (variants_of rows peer) variant table no_table is))
    ∙ word_at rows peer variant lawful there within)

pub domain_held : (rows : CentreRows) (peer variant : ℕ) (table : Table)
    → slice_get (variants_of rows peer) variant ≡ Some table
    → (table_in (own_tables rows peer) variant).domain ≡ table.domain
domain_held rows peer variant table is =
    let within = slice_get_within (variants_of rows peer) variant table is in
    ap (λ (t : OwnTable). t.domain)
    (get_or-map (own_table rows) (variants_of rows peer) variant no_table no_own_table within)
    ∙ ap (λ (t : Table). t.domain)
    (get_or_from_slice_get (variants_of rows peer) variant table no_table is)

-- each data set is found by its name
pub members_at : (sets : List DataSet) (k : ℕ) (set : DataSet)
    → AllPairs (λ (a b : DataSet). a.name ≢ b.name) sets → slice_get sets k ≡ Some set
    → members_in sets set.name ≡ Some set.members
members_at sets k set once is =
    ap (λ (o : Option DataSet). option_map (λ (s : DataSet). s.members) o)
    (find_at (is_set_named set.name) sets
    ∙ ap (slice_get sets)
    (position_or_len_is (is_set_named set.name) sets k set (omega (arith, within)) other
    (λ inside. here))
    ∙ is)
  where
    within : k < length sets
    within = slice_get_within sets k set is

    same : get_or sets k set ≡ set
    same = get_or_from_slice_get sets k set set is

    here : is_set_named set.name (get_or sets k set) ≡ true
    here = ap (λ (s : DataSet). bytes_eq s.name set.name) same
        ∙ (bytes_eq-Decides set.name set.name).1 refl

    other : (j : ℕ) → j < k → is_set_named set.name (get_or sets j set) ≡ false
    other j early = by (bytes_eq (get_or sets j set).name set.name) refl
      where
        by : (b : Bool) → bytes_eq (get_or sets j set).name set.name ≡ b → b ≡ false
        by false e = refl
        by true e =
            absurd (once j k set early within
            ((bytes_eq-Decides (get_or sets j set).name set.name).0 e
            ∙ ap (λ (s : DataSet). s.name) (sym same)))

-- an association defines those that there are

pub no_sets : (peer : ℕ) (table : OwnTable) (sets : List DataSet) → length sets ≡ 0
    → set_events peer table sets ≡ []
no_sets peer table [] none = refl
no_sets peer table (set ∷ sets) none = absurd (omega arith)

pub some_sets : (peer : ℕ) (table : OwnTable) (sets : List DataSet) → (length sets ≡ 0 → ⊥)
    → set_events peer table sets
    ≡ Open peer ∷ map (define_event table) sets ++ Close ∷ []
some_sets peer table [] some = absurd (some refl)
some_sets peer table (set ∷ sets) some = refl
