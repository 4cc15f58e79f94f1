-- Data that have not two members are no tag.
use Rattle.std.proofs.Common.{◌≡◌, ◌≢◌, List, [], ◌∷◌, length, None, refl}
use Rattle.mms_data.specs.Datum.{Datum, Data, boolean, integer, unsigned, bits, real, octets, text}
use Rattle.mms_data.specs.Datum.{structure, array, no_data, datum, data_of}
use Rattle.tase_views.specs.Devices.{tag_in}

one : (x : Datum) → None ≡ tag_in (structure (datum x no_data))
one (boolean b) = refl
one (integer z) = refl
one (unsigned n) = refl
one (bits b) = refl
one (real r) = refl
one (octets o) = refl
one (text t) = refl
one (structure d) = refl
one (array d) = refl

more : (x y z : Datum) (rest : Data)
    → None ≡ tag_in (structure (datum x (datum y (datum z rest))))
more (boolean b) y z rest = refl
more (integer n) y z rest = refl
more (unsigned n) y z rest = refl
more (bits b) (boolean c) z rest = refl
more (bits b) (integer n) z rest = refl
more (bits b) (unsigned n) z rest = refl
more (bits b) (bits c) z rest = refl
more (bits b) (real r) z rest = refl
more (bits b) (octets o) z rest = refl
more (bits b) (text t) z rest = refl
more (bits b) (structure d) z rest = refl
more (bits b) (array d) z rest = refl
more (real r) y z rest = refl
more (octets o) y z rest = refl
more (text t) y z rest = refl
more (structure d) y z rest = refl
more (array d) y z rest = refl

pub untagged : (parts : List Datum) → length parts ≢ 2
    → None ≡ tag_in (structure (data_of parts))
untagged [] apart = refl
untagged (x ∷ []) apart = one x
untagged (x ∷ y ∷ []) apart = absurd (apart refl)
untagged (x ∷ y ∷ z ∷ parts) apart = more x y z (data_of parts)
