use Rattle.std.proofs.Common.{◌≡◌, ℕ, List, Err, refl, subst}
use Rattle.std.specs.Prelude.{IsOk}
use Rattle.commands.specs.declared.io.input.InputEnd.{InputEnd}
use Rattle.commands.specs.declared.io.input.InputEnd.TheVariants.{Memory}
use Rattle.commands.specs.declared.io.input.TheConstants.{TEXT_LIMIT}
use Rattle.commands.specs.Io.Inputs.{ReadsInput}
use Rattle.tase_verify.specs.LinkText.{given_in}
use Rattle.tase_tool.proofs.verifying.read_link.Goals as goal

pub returns-in-Ok-clause-memory : goal.returns-in-Ok-clause-memory
returns-in-Ok-clause-memory g c =
    λ lack. record {
      read = _;
      mid = g.O.Outside.told c.read_input.new.outside;
      reads = rw c.in-Ok.is at c.read_input.ensures;
      lacks = (
        subst (λ (octets : List ℕ). IsOk (given_in octets)) c.deref.ensures.value
            (c.link_from.ensures.memory lack),
        refl,
      );
    }

pub returns-in-Err-clause-memory : goal.returns-in-Err-clause-memory
returns-in-Err-clause-memory g c =
    λ lack.
    let wanting : c.in-Err.end ≡ Memory = cc in
    record {
      read = Err Memory;
      mid = g.O.Outside.told c.read_input.new.outside;
      reads = subst (λ (end : InputEnd). ReadsInput (g.O.Outside.told c.args.outside.now)
          (g.O.Outside.told c.read_input.new.outside) c.args.name.now TEXT_LIMIT (Err end)) wanting
          (rw c.in-Err.is at c.read_input.ensures);
      lacks = refl;
    }
