-- Listings worked out by hand.
use Rattle.std.proofs.Common.{◌≡◌, ℕ, List, [], ◌∷◌, ◌++◌, true, false, Some, None, codes, refl, map, Bool}
use Rattle.std.specs.Fmt.{digits}
use Rattle.tase_points.specs.declared.kind.Kind.TheVariants.{State}
use Rattle.tase_points.specs.declared.layout.Component.TheVariants.{Value}
use Rattle.mms_data.specs.declared.object_name.Scope.TheVariants.{Vmd, Domain}
use Rattle.mms_data.specs.ObjectName.{ObjectName}
use Rattle.mms_data.specs.Types.TypeShape.{bits_shape, real_shape}
use Rattle.tase_views.specs.declared.call.CallKind.TheVariants.{NameList, TypeOf}
use Rattle.tase_views.specs.declared.call.TheConstants.{NAMED_VARIABLES}
use Rattle.tase_views.specs.declared.reply.ReplyKind.TheVariants.{NamesAre, TypeIs, Error}
use Rattle.tase_views.specs.OwnTables.{OwnTable}
use Rattle.asking_end.specs.declared.next.Next.TheVariants.{Ask, Conclude, End}
use Rattle.tase_discover.specs.declared.end.Stage.{Stage}
use Rattle.tase_discover.specs.declared.end.Stage.TheVariants as stages
use Rattle.tase_discover.specs.declared.end.ListingEnd.TheVariants.{Unordered, TooMany, Other}
use Rattle.tase_discover.specs.Listings.{ListingSeen, Heeded, heeded, listing_begun, listing_call}
use Rattle.tase_discover.specs.Listings.{reply_heeded, reply_shown, listed_names, differences, is_same}
use Rattle.tase_discover.specs.Ends.{listing_end_text}

-- a table with one point and one transfer set
abbrev table : OwnTable
table = record {
  domain = codes "D";
  id = codes "T";
  points = record { name = codes "P"; kind = State; vmd = false; layout = Value ∷ [] } ∷ [];
  devices = [];
  slots = 1;
  sets = 1;
}

abbrev vmd : List ℕ → ObjectName
vmd item = record { scope = Vmd; item = item }

abbrev own : List ℕ → ObjectName
own item = record { scope = Domain (codes "D"); item = item }

abbrev so_far : Stage → List ObjectName → List Bool → ListingSeen
so_far stage names judged = record { stage = stage; names = names; judged = judged }

abbrev paged : ListingSeen → List (List ℕ) → Bool → Heeded
paged s items more = reply_heeded table s (NamesAre items more)

abbrev a : List ℕ
a = codes "A"

abbrev b : List ℕ
b = codes "B"

abbrev c : List ℕ
c = codes "C"

pages :
    (paged listing_begun [] true ≡ heeded listing_begun (End Other)) ×
    (paged listing_begun (b ∷ a ∷ []) false
    ≡ heeded (so_far stages.Device (vmd b ∷ vmd a ∷ []) []) (End Unordered)) ×
    (paged (so_far stages.Device (vmd a ∷ vmd b ∷ []) []) (a ∷ b ∷ []) true
    ≡ heeded (so_far stages.Device (vmd a ∷ vmd b ∷ vmd a ∷ []) []) (End Unordered)) ×
    (paged (so_far stages.Device (vmd b ∷ vmd c ∷ []) []) (c ∷ codes "D" ∷ []) true
    ≡ heeded (so_far stages.Device (vmd b ∷ vmd c ∷ vmd c ∷ []) []) (End Unordered)) ×
    (paged (so_far stages.Device (vmd b ∷ []) []) (c ∷ []) false
    ≡ heeded (so_far stages.Domain (vmd b ∷ vmd c ∷ []) []) Ask) ×
    (paged (so_far stages.Domain (vmd b ∷ vmd c ∷ []) []) (a ∷ b ∷ []) false
    ≡ heeded (so_far stages.Types (vmd b ∷ vmd c ∷ own a ∷ own b ∷ []) []) Ask) ×
    (paged (so_far stages.Domain [] []) [] false ≡ heeded (so_far stages.Types [] []) Conclude)
pages = (refl, refl, refl, refl, refl, refl, refl)

asked :
    (listing_call table listing_begun ≡ Some (NameList NAMED_VARIABLES Vmd None)) ×
    (listing_call table (so_far stages.Device (vmd a ∷ vmd b ∷ []) [])
    ≡ Some (NameList NAMED_VARIABLES Vmd (Some b))) ×
    (listing_call table (so_far stages.Domain (vmd a ∷ vmd b ∷ []) [])
    ≡ Some (NameList NAMED_VARIABLES (Domain (codes "D")) None)) ×
    (listing_call table (so_far stages.Types (vmd a ∷ own b ∷ []) (false ∷ [])) ≡ Some (TypeOf (own b)))
asked = (refl, refl, refl, refl)

abbrev one_more : ListingSeen
one_more = so_far stages.Types (own (codes "P") ∷ vmd a ∷ []) []

types :
    (reply_heeded table one_more (TypeIs (bits_shape 8))
    ≡ heeded (so_far stages.Types (own (codes "P") ∷ vmd a ∷ []) (true ∷ [])) Ask) ×
    (reply_heeded table one_more (TypeIs real_shape)
    ≡ heeded (so_far stages.Types (own (codes "P") ∷ vmd a ∷ []) (false ∷ [])) Ask) ×
    (reply_shown table one_more (TypeIs (bits_shape 8)) ≡ codes "D/P bits8" ++ 10 ∷ []) ×
    (reply_heeded table one_more (Error 7 2) ≡ heeded one_more (End Other)) ×
    (reply_heeded table one_more (NamesAre (a ∷ []) false) ≡ heeded one_more (End Other)) ×
    (reply_heeded table listing_begun (TypeIs real_shape) ≡ heeded listing_begun (End Other))
unfolding digits
types = (refl, refl, refl, refl, refl, refl)

listed : listed_names table
    ≡ map vmd (codes "DSConditions_Detected" ∷ codes "Event_Code_Detected"
    ∷ codes "Supported_Features" ∷ codes "TASE2_Version" ∷ codes "Transfer_Set_Name"
    ∷ codes "Transfer_Set_Time_Stamp" ∷ [])
    ++ map own (codes "Bilateral_Table_ID" ∷ codes "DSConditions_Detected" ∷ codes "DSTrans1"
    ∷ codes "DSTrans1$Status" ∷ codes "Event_Code_Detected" ∷ codes "Next_DSTransfer_Set"
    ∷ codes "P" ∷ codes "Transfer_Set_Name" ∷ codes "Transfer_Set_Time_Stamp" ∷ [])
unfolding digits
listed = refl

-- all names of the table came alike but for a point with another type, and one that isn't the
-- table's
abbrev all_but : ListingSeen
all_but = so_far stages.Types (listed_names table ++ own (codes "Q") ∷ [])
    (true ∷ true ∷ true ∷ true ∷ true ∷ true ∷ true ∷ true ∷ true ∷ true ∷ true ∷ true ∷ false ∷ true
    ∷ true ∷ false ∷ [])

differing :
    (differences table all_but ≡ codes "missing D/P" ++ 10 ∷ codes "extra D/Q" ++ 10 ∷ []) ×
    (is_same table all_but ≡ false)
unfolding digits
differing = (refl, refl)

abbrev all_alike : ListingSeen
all_alike = so_far stages.Types (listed_names table) (map (λ name. true) (listed_names table))

alike : (differences table all_alike ≡ []) × (is_same table all_alike ≡ true)
unfolding digits
alike = (refl, refl)

told :
    (listing_end_text (so_far stages.Device (vmd b ∷ vmd c ∷ vmd c ∷ []) []) 3 Unordered
    ≡ codes "unordered C C") ×
    (listing_end_text one_more 3 TooMany ≡ codes "toomany 2") ×
    (listing_end_text one_more 3 Other ≡ codes "other 3")
unfolding digits
told = (refl, refl, refl)
