use Rattle.std.proofs.Common.{◌≡◌, ◌<◌, length, Some, Option, ap}
use Rattle.std.specs.Prelude.{option_map}
use Rattle.std.specs.Option.{option_and_then}
use Rattle.std.proofs.lemmas.List.Elements.{All-contains}
use Rattle.bilateral.specs.declared.rows.Control.{Control}
use Rattle.tase_views.specs.OwnTables.{own_device}
use Rattle.tase_views.specs.Objects.{Object, object_named, selection}
use Rattle.tase_views.specs.Devices.{read_deed}
use Rattle.node_core.specs.Objects.Found.{offered}
use Rattle.node_core.specs.Deeds.{row_deed}
use Rattle.node_core.proofs.deeds.select_deed.Goals as goal

pub returns-in-Some-Selection-clause-deed : goal.returns-in-Some-Selection-clause-deed
returns-in-Some-Selection-clause-deed c =
    let t = c.args.table.now in
    let control = c.in-Some-Selection.control.now in
    let named : Some (selection (own_device t.rows control))
    ≡ object_named (offered t) c.args.name.now =
    rw c.in-Some-Selection.field-0-is at c.in-Some-Selection.ensures.named in
    ap (λ (o : Option Object). option_map row_deed (option_and_then read_deed o)) named

pub returns-in-Some-Selection-clause-there : goal.returns-in-Some-Selection-clause-there
returns-in-Some-Selection-clause-there c =
    let t = c.args.table.now in
    let control = c.in-Some-Selection.control.now in
    let among = rw c.in-Some-Selection.field-0-is at c.in-Some-Selection.ensures.there in
    record {
      device = All-contains (λ (x : Control). x.device < length t.rows.devices) t.table.controls
          control c.table-lawful.ensures.controls.known among.0;
      tag = tt;
    }
