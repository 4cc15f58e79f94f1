use Rattle.std.proofs.Common.{◌∙◌}
use Rattle.bilateral.specs.Index.{names_in}
use Rattle.bilateral.proofs.Names.{place-by_key}
use Rattle.bilateral.proofs.store.Store.find_device.Goals as goal

pub returns : goal.returns
returns c = c.find_name.ensures
    ∙ place-by_key (λ row. row.name) c.args.self.now.devices.items
    (names_in c.args.self.now.device_names)
    c.args.name.now c.requires.names.devices
