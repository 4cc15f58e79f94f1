use Rattle.plain_text.proofs.EscapedText.{unescaped-found, unescaped-escaped_text}
use Rattle.plain_text.proofs.laws.escaped_is_read_back.Goals as goal

pub returns-clause-found : goal.returns-clause-found
returns-clause-found c = λ escaped octets read. unescaped-found escaped octets read

pub returns-clause-only : goal.returns-clause-only
returns-clause-only c = λ octets small. unescaped-escaped_text octets small
