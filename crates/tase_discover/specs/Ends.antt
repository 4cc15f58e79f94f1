-- How a listing ended its association, as text.
use Rattle.std.specs.Prelude.{ℕ, ◌-◌, List, [], ◌∷◌, ◌++◌, length, codes, decimal, slice_get}
use Rattle.std.specs.Option.{option_map_or}
use Rattle.plain_text.specs.Escaped.{escaped_text}
use Rattle.mms_data.specs.ObjectName.{ObjectName}
use Rattle.tase_discover.specs.declared.end.ListingEnd.{ListingEnd}
use Rattle.tase_discover.specs.declared.end.ListingEnd.TheVariants as endings
use Rattle.tase_discover.specs.Listings.{ListingSeen}

-- the item of the name so many from the end, of which the last is the first
abbrev pub item_from_end : List ObjectName → ℕ → List ℕ
item_from_end names count =
    option_map_or (λ name. name.item) (slice_get names (length names - count)) []

-- the last two items, of which the last doesn't stand above the other; how many names came; or the
-- number of the request that was asked last
abbrev pub listing_end_text : ListingSeen → ℕ → ListingEnd → List ℕ
listing_end_text s last endings.Unordered =
    codes "unordered " ++ escaped_text (item_from_end s.names 2) ++ 32
    ∷ escaped_text (item_from_end s.names 1)
listing_end_text s last endings.TooMany = codes "toomany " ++ decimal (length s.names)
listing_end_text s last endings.Other = codes "other " ++ decimal last
