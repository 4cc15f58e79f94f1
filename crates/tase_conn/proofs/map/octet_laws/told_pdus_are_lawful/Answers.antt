use Rattle.std.proofs.Common.{[]}
use Rattle.tase_conn.proofs.OfMap.LawfulMessages.{told_lawful}
use Rattle.tase_conn.proofs.map.octet_laws.told_pdus_are_lawful.Goals as goal

pub returns : goal.returns
returns c = λ role told messages s. told_lawful role [] told messages s
