-- The types of what names stand for by the tables of two peers, computed.
use Rattle.std.proofs.Common.{◌≡◌, ℕ, List, [], ◌∷◌, refl}
use Rattle.std.specs.Prelude.{codes}
use Rattle.std.specs.Fmt.{digits}
use Rattle.mms_data.specs.declared.object_name.Scope.{Scope}
use Rattle.mms_data.specs.declared.object_name.Scope.TheVariants.{Vmd, Domain, Association}
use Rattle.mms_data.specs.Types.TypeShape.{TypeShape, bool_shape, bits_shape, int_shape}
use Rattle.mms_data.specs.Types.TypeShape.{uint_shape, real_shape, text_shape, structure_shape}
use Rattle.mms_data.specs.Types.TypeShape.{shapes_of}
use Rattle.tase_views.specs.declared.call.CallKind.TheVariants.{TypeOf}
use Rattle.tase_views.specs.declared.reply.ReplyKind.{ReplyKind}
use Rattle.tase_views.specs.declared.reply.ReplyKind.TheVariants.{TypeIs, Error}
use Rattle.tase_views.specs.OwnTables.{own_tables}
use Rattle.tase_views.specs.Answers.{reply_to}
use Rattle.tase_views.specs.EventTexts.{call_text}
use Rattle.tase_views.proofs.NodeSample.{rows}

-- the reply to a peer's request for the type of an item in a scope
abbrev typed : ℕ → Scope → List ℕ → ReplyKind
typed peer scope item =
    reply_to (own_tables rows peer) [] 1 (TypeOf (record { scope = scope; item = item }))

-- in the domain of the first peer, and of the second
abbrev in_a : List ℕ → ReplyKind
in_a item = typed 0 (Domain (codes "DOMA")) item

abbrev in_b : List ℕ → ReplyKind
in_b item = typed 1 (Domain (codes "DOMB")) item

abbrev both : TypeShape → TypeShape → ReplyKind
both one other = TypeIs (structure_shape (shapes_of (one ∷ other ∷ [])))

abbrev a_name : TypeShape
a_name = structure_shape (shapes_of (int_shape 8 ∷ text_shape 64 ∷ text_shape 64 ∷ []))

points :
    (in_a (codes "BUS1") ≡ TypeIs (bits_shape 8)) ×
    (in_a (codes "LOAD1") ≡ both (int_shape 32) (uint_shape 16)) ×
    (in_b (codes "LOAD1") ≡ both (int_shape 32) (bits_shape 8)) ×
    (typed 1 Vmd (codes "FREQ1") ≡ TypeIs real_shape) ×
    (in_b (codes "FREQ1") ≡ Error 7 2) ×
    (typed 0 Vmd (codes "FREQ1") ≡ Error 7 2) ×
    (typed 0 (Domain (codes "DOMB")) (codes "BUS1") ≡ Error 7 2) ×
    (typed 0 Association (codes "BUS1") ≡ Error 7 2)
unfolding digits
points = (refl, refl, refl, refl, refl, refl, refl, refl)

devices :
    (in_a (codes "BRK1") ≡ TypeIs (int_shape 16)) ×
    (in_a (codes "BRK1_SBO") ≡ TypeIs (int_shape 16)) ×
    (in_a (codes "BRK1_TIMEOUT") ≡ TypeIs (int_shape 16)) ×
    (in_a (codes "BRK1_TAG") ≡ both (bits_shape 2) (text_shape 64)) ×
    (in_b (codes "CAP1") ≡ TypeIs (int_shape 16)) ×
    (in_b (codes "CAP1_SBO") ≡ Error 7 2)
unfolding digits
devices = (refl, refl, refl, refl, refl, refl)

-- of the transfer set itself, its status, and those of it that a report tells
transfer_sets :
    (in_a (codes "DSTrans1") ≡ TypeIs (structure_shape (shapes_of (a_name
    ∷ int_shape 32 ∷ int_shape 32 ∷ int_shape 32 ∷ int_shape 32 ∷ int_shape 32 ∷ bits_shape 5
    ∷ bool_shape ∷ bool_shape ∷ bool_shape ∷ bool_shape ∷ bool_shape ∷ int_shape 16 ∷ [])))) ×
    (in_a (codes "DSTrans1$Status") ≡ TypeIs bool_shape) ×
    (in_a (codes "DSTrans2") ≡ Error 7 2) ×
    (in_b (codes "DSTrans2$Status") ≡ TypeIs bool_shape) ×
    (in_a (codes "Next_DSTransfer_Set") ≡ TypeIs a_name) ×
    (in_a (codes "Transfer_Set_Name") ≡ TypeIs a_name) ×
    (typed 0 Vmd (codes "Transfer_Set_Time_Stamp") ≡ TypeIs (int_shape 32)) ×
    (typed 0 Vmd (codes "DSConditions_Detected") ≡ TypeIs (bits_shape 5)) ×
    (in_a (codes "Event_Code_Detected") ≡ TypeIs (int_shape 16))
unfolding digits
transfer_sets = (refl, refl, refl, refl, refl, refl, refl, refl, refl)

constants :
    (typed 0 Vmd (codes "TASE2_Version") ≡ both (int_shape 16) (int_shape 16)) ×
    (typed 0 Vmd (codes "Supported_Features") ≡ TypeIs (bits_shape 12)) ×
    (in_a (codes "Bilateral_Table_ID") ≡ TypeIs (text_shape 64)) ×
    (in_a (codes "TASE2_Version") ≡ Error 7 2)
unfolding digits
constants = (refl, refl, refl, refl)

call-text : call_text (TypeOf (record { scope = Vmd; item = codes "FREQ1" }))
    ≡ codes "type vmd:FREQ1"
call-text = refl
