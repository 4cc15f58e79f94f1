-- Runs that were the same for a peer, and where those that weren't differ first.
use Rattle.std.specs.Prelude.{◌≡◌, ◌≢◌, ◌<◌, ◌^◌, ℕ, List, length, Option, Some, slice_get}
use Rattle.std.proofs.Common.{take}
use Rattle.std.specs.List.{All}
use Rattle.bilateral.specs.Rows.{IsCentre, place_of_peer}
use Rattle.tase_views.specs.Setup.{Setup}
use Rattle.texts.specs.Journal.Entries.{IsEntry}
use Rattle.tase_audit.specs.Watching.{watch_of}
use Rattle.tase_audit.specs.PeerAnswers.{PeerAnswer, answers_in}
use Rattle.tase_audit.specs.Owns.{own_terms}
use Rattle.tase_audit.specs.Audits.{PastRun}

-- a run of a lawful centre, each entry of which has a text, and which are fewer than a number of
-- 64 bits can count
pub record IsPastRun (run : PastRun) : Type 0 where
  pub lawful : IsCentre run.centre
  pub entries : All IsEntry run.past
  pub count : length run.past < 2 ^ 64

-- the tables of two runs say the same of a peer, and the same is watched for it
pub record AreAlike (one other : PastRun) (peer place : ℕ) : Type 0 where
  pub terms : own_terms one.centre peer ≡ own_terms other.centre place
  pub items : watch_of one.centre peer one.past ≡ watch_of other.centre place other.past

-- a node over the tables of a run, whatever the weight that a history may have
abbrev pub setup_of : PastRun → ℕ → Setup
setup_of run limit = record { centre = run.centre; limit = limit }

-- the peer with this key is in both runs, these are alike for it, and in each a node answered it so
pub record WereEqual (one other : PastRun) (key : List ℕ) (answers : List PeerAnswer) : Type 0 where
  pub peer : ℕ
  pub place : ℕ
  pub there : place_of_peer one.centre key ≡ Some peer
  pub too : place_of_peer other.centre key ≡ Some place
  pub alike : AreAlike one other peer place
  pub first : (limit : ℕ) → answers ≡ answers_in (setup_of one limit) peer one.past
  pub second : (limit : ℕ) → answers ≡ answers_in (setup_of other limit) place other.past

-- lists are the same in front of a place, and differ there: these items stand at it, if any
pub record DifferAt (one other : List (List ℕ)) (place : ℕ) (a b : Option (List ℕ)) : Type 0 where
  pub before : take place one ≡ take place other
  pub first : a ≡ slice_get one place
  pub second : b ≡ slice_get other place
  pub apart : a ≢ b
