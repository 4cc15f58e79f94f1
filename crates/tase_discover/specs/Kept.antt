-- What is kept of how far a listing has come.
use Rattle.std.specs.Prelude.{◌≡◌, length, take}
use Rattle.tase_discover.specs.declared.seen.Seen.{Seen}
use Rattle.tase_discover.specs.declared.seen.Mark.{Mark}
use Rattle.tase_discover.specs.Listings.{ListingSeen}

-- how far a listing has come by what is kept of it
abbrev pub seen_of : Seen → ListingSeen
seen_of s = record { stage = s.stage; names = s.names.items; judged = s.judged.items }

abbrev pub mark_of : Seen → Mark
mark_of s = record {
  stage = s.stage;
  names = length s.names.items;
  judged = length s.judged.items;
}

-- how far it had come at a mark
abbrev pub undone : Mark → ListingSeen → ListingSeen
undone mark s = record {
  stage = mark.stage;
  names = take mark.names s.names;
  judged = take mark.judged s.judged;
}

-- what was kept before is the front of what is kept, in the same domain
pub record Grows (old new : Seen) : Type 0 where
  pub domain : new.domain ≡ old.domain
  pub alike : new.alike ≡ old.alike
  pub names : take (length old.names.items) new.names.items ≡ old.names.items
  pub judged : take (length old.judged.items) new.judged.items ≡ old.judged.items

-- it has come as far as before
pub record IsAsBefore (old new : Seen) : Type 0 where
  pub domain : new.domain ≡ old.domain
  pub alike : new.alike ≡ old.alike
  pub seen : seen_of new ≡ seen_of old

-- it is as it was at a mark
pub record IsUndone (mark : Mark) (old new : Seen) : Type 0 where
  pub domain : new.domain ≡ old.domain
  pub alike : new.alike ≡ old.alike
  pub seen : seen_of new ≡ undone mark (seen_of old)
