-- Whether two runs were the same for a peer.
use Rattle.std.specs.Prelude.{ℕ, suc, if◌then◌else◌, List, [], ◌∷◌, reverse, Option, Some}
use Rattle.std.specs.Prelude.{bytes_eq, slice_get}
use Rattle.std.specs.Cmp.Lexicographic.{pointwise}
use Rattle.bilateral.specs.Rows.{CentreRows, place_of_peer}
use Rattle.tase_views.specs.History.{Past}
use Rattle.tase_views.specs.OwnTables.{own_tables}
use Rattle.tase_audit.specs.Watching.{watch_of}
use Rattle.tase_audit.specs.PeerAnswers.{PeerAnswer, answers_by}
use Rattle.tase_audit.specs.ItemTexts.{watch_texts}
use Rattle.tase_audit.specs.Owns.{own_terms, same_terms}

-- a run: the tables of a centre, and the history that its node came to
pub record PastRun : Type 0 where
  pub centre : CentreRows
  pub past : Past

-- what is watched of a run for the peer with this number, and with this key, the oldest first
abbrev pub watched_lines : PastRun → ℕ → List ℕ → List (List ℕ)
watched_lines run peer key = watch_texts key (reverse (watch_of run.centre peer run.past))

-- what the peer was answered in a run
abbrev pub watched_answers : PastRun → ℕ → List PeerAnswer
watched_answers run peer =
    answers_by (own_tables run.centre peer) (watch_of run.centre peer run.past)

-- how many lines both begin with
abbrev pub common_lines : List (List ℕ) → List (List ℕ) → ℕ
common_lines [] others = 0
common_lines (line ∷ lines) [] = 0
common_lines (line ∷ lines) (other ∷ others) =
    if bytes_eq line other then suc (common_lines lines others) else 0

-- what comes of an audit: the tables say something else of the peer, or it is in the tables of one
-- run alone or of none; what is watched for it differs at a place, where these items stand, if any;
-- or the runs were the same for it, and it was answered so
pub data AuditVerdict : Type 0 where
  other_tables : AuditVerdict
  apart_at : ℕ → Option (List ℕ) → Option (List ℕ) → AuditVerdict
  equal_runs : List PeerAnswer → AuditVerdict

-- the verdict on what is watched in two runs, in the first of which the peer was answered so
abbrev pub lines_verdict : List (List ℕ) → List (List ℕ) → List PeerAnswer → AuditVerdict
lines_verdict one other answers =
    if pointwise bytes_eq one other then equal_runs answers
    else apart_at (common_lines one other) (slice_get one (common_lines one other))
    (slice_get other (common_lines one other))

-- the verdict on two runs for the peer with these numbers in their tables, and with this key
abbrev pub audit_between : PastRun → PastRun → ℕ → ℕ → List ℕ → AuditVerdict
audit_between one other peer place key =
    if same_terms (own_terms one.centre peer) (own_terms other.centre place)
    then lines_verdict (watched_lines one peer key) (watched_lines other place key)
    (watched_answers one peer) else other_tables

abbrev pub audit_at : PastRun → PastRun → Option ℕ → Option ℕ → List ℕ → AuditVerdict
audit_at one other (Some peer) (Some place) key = audit_between one other peer place key
audit_at one other _ _ key = other_tables

-- the verdict on two runs for the peer with this key
abbrev pub audit_of : PastRun → PastRun → List ℕ → AuditVerdict
audit_of one other key =
    audit_at one other (place_of_peer one.centre key) (place_of_peer other.centre key) key
