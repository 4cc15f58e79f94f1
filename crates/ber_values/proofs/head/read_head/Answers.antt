use Rattle.std.specs.List.{slice_range}
use Rattle.ber_values.specs.declared.head.Head.{Head}
use Rattle.ber_values.specs.Heads.{SpellsHead, HeadFault, head_in}
use Rattle.ber_values.proofs.Reading.{found_of, only_of, fault_of}
use Rattle.ber_values.proofs.Heads.{head_reads}
use Rattle.ber_values.proofs.head.read_head.Goals as goal

pub returns-clause-found : goal.returns-clause-found
returns-clause-found c = let octets = slice_range c.args.bytes.now c.args.at c.args.end in
    found_of Head (SpellsHead c.args.at octets) (HeadFault c.args.at octets) (head_in c.args.at octets) c.head_at.result (head_reads c.args.at octets) c.head_at.ensures.exact

pub returns-clause-only : goal.returns-clause-only
returns-clause-only c = let octets = slice_range c.args.bytes.now c.args.at c.args.end in
    only_of Head (SpellsHead c.args.at octets) (HeadFault c.args.at octets) (head_in c.args.at octets) c.head_at.result (head_reads c.args.at octets) c.head_at.ensures.exact

pub returns-clause-fault : goal.returns-clause-fault
returns-clause-fault c = let octets = slice_range c.args.bytes.now c.args.at c.args.end in
    fault_of Head (SpellsHead c.args.at octets) (HeadFault c.args.at octets) (head_in c.args.at octets) c.head_at.result (head_reads c.args.at octets) c.head_at.ensures.exact
