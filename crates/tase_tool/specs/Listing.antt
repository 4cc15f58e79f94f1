-- What is said of a capture that holds a stream.
use Rattle.std.specs.Prelude.{◌≡◌, ◌++◌, ℕ, Bool, true, false, List, Result, Ok, Err, codes}
use Rattle.outside.specs.Sink.{SinkTold, AppendsAll}
use Rattle.commands.specs.declared.io.status.Status.{Status}
use Rattle.commands.specs.declared.io.status.Status.TheVariants.{Done, Input}
use Rattle.commands.specs.declared.io.input.Refusal.TheVariants.{BadLine}
use Rattle.commands.specs.Io.Saying.{Said, prints, refusal_text}
use Rattle.commands.specs.Io.Runs.{TellsSaid}
use Rattle.stack_assoc.specs.Listing.Listings.{Listing, listing_of, State, yet_listed, with_text}

-- a fault refuses the input
abbrev pub status_of : Bool → Status
status_of true = Input
status_of false = Done

abbrev pub listing_said : Listing → Said
listing_said listing = prints (status_of listing.broken) listing.text

-- the listing of the octets of a capture; a bad line refuses it
abbrev pub stream_said : Result (List ℕ) ℕ → Said
stream_said (Ok octets) = listing_said (listing_of octets)
stream_said (Err line) = prints Input (refusal_text (codes "in") (BadLine line))

-- what a piece led to: its lines were printed, and the lister goes on; or the run ends, whatever
-- octets may follow
abbrev pub ListsOn : State → List ℕ → SinkTold → SinkTold → Result State Status → Type 0
ListsOn old piece before after (Ok new) = (added : List ℕ) × AppendsAll before after added
    × ((more : List ℕ) → yet_listed old (piece ++ more) ≡ with_text added (yet_listed new more))
ListsOn old piece before after (Err status) = (more : List ℕ)
    → TellsSaid (listing_said (yet_listed old (piece ++ more))) before after status
