use Rattle.std.proofs.Common.{refl, ap, ◌∙◌}
use Rattle.bilateral.specs.Index.{names_in}
use Rattle.bilateral.proofs.Names.{place-by_key}
use Rattle.bilateral.proofs.Taken.{IsNewDevice-from_no_fault}
use Rattle.bilateral.proofs.Stores.{IsStore-with_device}
use Rattle.bilateral.specs.Store.{rows_of, so_far}
use Rattle.bilateral.specs.Rows.{place_of_device}
use Rattle.bilateral.proofs.store.Store.add_device.Goals as goal

pub note_name-requires : goal.note_name-requires
note_name-requires c =
    place-by_key (λ row. row.name) c.args.self.now.devices.items
    (names_in c.args.self.now.device_names)
    c.as_slice.result.now c.requires.store.names.devices
    ∙ ap (λ name. place_of_device (rows_of c.args.self.now) name) c.as_slice.ensures.value
    ∙ (IsNewDevice-from_no_fault (so_far c.args.self.now) c.args.device c.requires.taken).fresh

pub returns-clause-store : goal.returns-clause-store
returns-clause-store c =
    IsStore-with_device c.args.self.now _ c.args.device c.as_slice.result.now c.requires.store
    c.requires.lawful c.requires.taken c.as_slice.ensures.value c.in_ok-push.ensures.items
    c.in_ok-note_name.ensures refl
