-- The lines by which a node's log keeps its entries.
use Rattle.std.proofs.Common.{◌≡◌, ◌↔◌, ℕ, List, [], ◌∷◌, ◌++◌, length, map, Option, Some, None}
use Rattle.std.proofs.Common.{refl, sym, ap, ◌∙◌}
use Rattle.std.specs.List.{slice_get}
use Rattle.std.specs.Option.{option_map}
use Rattle.std.proofs.lemmas.List.{map-append, length-map}
use Rattle.std.proofs.lemmas.List.Elements.{filter_map-append}
use Rattle.std.proofs.lemmas.Option.{slice_get-map}
use Rattle.tase_views.specs.declared.event.Entry.{Entry}
use Rattle.texts.specs.Journal.Journals.{entry_text}
use Rattle.texts.specs.Journal.Entries.{entry_in, IsEntry}
use Rattle.node_core.specs.LogLines.{entries_of, AreEntries}

-- there are as many entries as lines
pub length-entries : (lines : List (List ℕ)) → AreEntries lines
    → length (entries_of lines) ≡ length lines
length-entries lines all =
    sym (length-map (entries_of lines) Some) ∙ ap length (sym all) ∙ length-map lines entry_in

-- one more line
pub entries-push : (lines : List (List ℕ)) (line : List ℕ) (entry : Entry)
    → entry_in line ≡ Some entry → entries_of (lines ++ line ∷ []) ≡ entries_of lines ++ entry ∷ []
entries-push lines line entry is =
    filter_map-append entry_in lines (line ∷ []) ∙ ap (λ es. entries_of lines ++ es) (one_entry is)
  where
    one_entry : entry_in line ≡ Some entry → entries_of (line ∷ []) ≡ entry ∷ []
    one_entry is = rw is refl

pub AreEntries-push : (lines : List (List ℕ)) (line : List ℕ) (entry : Entry)
    → entry_in line ≡ Some entry → AreEntries lines → AreEntries (lines ++ line ∷ [])
AreEntries-push lines line entry is all =
    map-append entry_in lines (line ∷ [])
    ∙ ap (λ es. map entry_in lines ++ es) (ap (λ e. e ∷ []) is)
    ∙ ap (λ es. es ++ Some entry ∷ []) all
    ∙ sym (map-append Some (entries_of lines) (entry ∷ []))
    ∙ ap (λ es. map Some es) (sym (entries-push lines line entry is))

-- a place of one list beside that of another
module _ {A B : Type 0} (f : A → Option B) where
  at_some : (found : Option A) (other : Option B) (x : A)
      → option_map f found ≡ option_map Some other → found ≡ Some x → f x ≡ other
  at_some None other x same is = absurd cc
  at_some (Some y) None x same is = absurd cc
  at_some (Some y) (Some z) x same is = cc

  at_none : (found : Option A) (other : Option B)
      → option_map f found ≡ option_map Some other → found ≡ None → other ≡ None
  at_none None None same is = refl
  at_none None (Some z) same is = absurd cc
  at_none (Some y) other same is = absurd cc

  at_either : (g : B → A) → ((x : A) (y : B) → f x ≡ Some y → x ≡ g y)
      → (found : Option A) (other : Option B)
      → option_map f found ≡ option_map Some other → found ≡ option_map g other
  at_either g back None None same = refl
  at_either g back None (Some z) same = absurd cc
  at_either g back (Some y) None same = absurd cc
  at_either g back (Some y) (Some z) same = ap (λ x. Some x) (back y z cc)

-- the entry that stands at a place of the lines
module _ (lines : List (List ℕ)) (all : AreEntries lines) (place : ℕ) where
  same_place : option_map entry_in (slice_get lines place)
      ≡ option_map Some (slice_get (entries_of lines) place)
  same_place =
      sym (slice_get-map entry_in lines place) ∙ ap (λ es. slice_get es place) all
      ∙ slice_get-map Some (entries_of lines) place

  pub entry_at : (line : List ℕ) → slice_get lines place ≡ Some line
      → entry_in line ≡ slice_get (entries_of lines) place
  entry_at line is = at_some entry_in _ _ line same_place is

  pub no_entry_at : slice_get lines place ≡ None → slice_get (entries_of lines) place ≡ None
  no_entry_at is = at_none entry_in _ _ same_place is

  pub text_at : ((line : List ℕ) (entry : Entry)
      → (entry_in line ≡ Some entry) ↔ ((line ≡ entry_text entry) × IsEntry entry))
      → slice_get lines place ≡ option_map entry_text (slice_get (entries_of lines) place)
  text_at law =
      at_either entry_in entry_text (λ line entry is. ((law line entry).0 is).0) _ _ same_place
