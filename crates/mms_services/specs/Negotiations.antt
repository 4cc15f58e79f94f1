-- What is granted of the parameters of an association that are offered.
use Rattle.std.specs.Prelude.{ℤ, pos, ◌<ℤ◌, ◌⊎◌, Option, Some, None}
use Rattle.std.specs.Int.{int_min}
use Rattle.mms_services.specs.declared.initiate.TheConstants.{LEAST_DETAIL, MOST_DETAIL}
use Rattle.mms_services.specs.declared.initiate.TheConstants.{MOST_SERVICES, MOST_NESTING}
use Rattle.mms_services.specs.declared.initiate.Initiate.{Initiate}

-- a number that is offered is below the least one
abbrev pub IsBelow : ℤ → Option ℤ → Type 0
IsBelow least None = ⊥
IsBelow least (Some number) = number <ℤ least

-- too little is offered of one of the parameters
abbrev pub IsTooLittle : Initiate → Type 0
IsTooLittle offer = (offer.version <ℤ pos 1)
    ⊎ ((offer.calling <ℤ pos 1)
    ⊎ ((offer.called <ℤ pos 1)
    ⊎ (IsBelow LEAST_DETAIL offer.detail ⊎ IsBelow (pos 1) offer.nesting)))

-- what is offered, up to the most that is granted, which also stands for no offer
abbrev pub granted_of : ℤ → Option ℤ → ℤ
granted_of most None = most
granted_of most (Some number) = int_min number most

-- what is granted of an offer
abbrev pub granted : Initiate → Initiate
granted offer = record {
  detail = Some (granted_of MOST_DETAIL offer.detail);
  calling = int_min offer.calling MOST_SERVICES;
  called = int_min offer.called MOST_SERVICES;
  nesting = Some (granted_of MOST_NESTING offer.nesting);
  version = pos 1;
}
