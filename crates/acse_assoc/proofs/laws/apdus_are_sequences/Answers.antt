use Rattle.acse_assoc.proofs.SequencesWhole.{whole-aarq, aarq-whole, whole-aare, aare-whole}
use Rattle.acse_assoc.proofs.laws.apdus_are_sequences.Goals as goal

pub returns-clause-aarq : goal.returns-clause-aarq
returns-clause-aarq c e at octets r os = (whole-aarq e at octets r os, aarq-whole e at octets r os)

pub returns-clause-aare : goal.returns-clause-aare
returns-clause-aare c e at octets r os = (whole-aare e at octets r, aare-whole e at octets r os)
