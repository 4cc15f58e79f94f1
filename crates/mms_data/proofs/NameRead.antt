-- Reading names is exact, and what is read is a name.
use Rattle.std.proofs.Common.{◌≡◌, ℕ, List, sym, subst, Result, Ok, Err, IfOk}
use Rattle.ber_values.specs.declared.stop.Stop.{Stop}
use Rattle.ber_values.specs.Stops.{Answers}
use Rattle.ber_values.specs.declared.head.Head.{Head}
use Rattle.ber_values.specs.Grammars.{IsGrammar}
use Rattle.ber_values.specs.Parts.{IsContentsGrammar}
use Rattle.ber_values.specs.Leaves.{visible_within}
use Rattle.ber_values.proofs.Grammars.{then_reads, map_reads, part_reads, choose_reads, as_reads}
use Rattle.ber_values.proofs.Grammars.{all_reads}
use Rattle.ber_values.proofs.Leaves.{text_contents}
use Rattle.mms_data.specs.ObjectName.{IsIdentifier}
use Rattle.mms_data.specs.NameOctets.{identifier, of_device, of_domain, of_association}
use Rattle.mms_data.specs.NameOctets.{domain_name, one_name}

pub identifier_contents : IsContentsGrammar identifier
unfolding identifier
identifier_contents = text_contents 1 _

pub domain_name_contents : IsContentsGrammar domain_name
unfolding domain_name
domain_name_contents = all_reads _
    (then_reads _ _ (part_reads 26 _ identifier_contents) (λ domain.
    map_reads (of_domain domain) _ (part_reads 26 _ identifier_contents)))

pub one_name_reads : IsGrammar one_name
unfolding one_name
one_name_reads =
    choose_reads 128 _ _ (as_reads of_device _ identifier_contents)
    (choose_reads 161 _ _ domain_name_contents
    (part_reads 130 _ (as_reads of_association _ identifier_contents)))

-- what contents spell is an identifier
pub identifier_named : (at : ℕ) (text octets : List ℕ) → identifier.spells at text octets
    → IsIdentifier text
unfolding identifier visible_within
identifier_named at text octets s =
    subst IsIdentifier (sym s.2) (s.0.0, (s.0.1, s.1))

-- what is read of contents is an identifier
pub identifier_read : (head : Head) (octets text : List ℕ)
    → identifier.reading head octets ≡ Ok text → IsIdentifier text
identifier_read head octets text e =
    identifier_named head.body text octets ((identifier_contents head octets).found text e)

-- the same of what a function answers
pub identifier_answered : (head : Head) (octets : List ℕ) (r : Result (List ℕ) Stop)
    → Answers (λ t. t) r (identifier.reading head octets) → IfOk r IsIdentifier
identifier_answered head octets (Ok text) e = identifier_read head octets text e
identifier_answered head octets (Err stop) e = tt
