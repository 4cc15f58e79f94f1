use Rattle.tase_conn.proofs.OfMap.ReadingLaws.{reading_found, reading_only}
use Rattle.tase_conn.proofs.map.octet_laws.octets_tell_one_thing.Goals as goal

pub returns-clause-found : goal.returns-clause-found
returns-clause-found c octets = reading_found octets

pub returns-clause-only : goal.returns-clause-only
returns-clause-only c octets told broken r = reading_only octets told broken r
