use Rattle.std.proofs.Common.{ap, ◌∙◌}
use Rattle.tase_views.specs.OwnTables.{OwnTables, own_tables}
use Rattle.tase_views.specs.View.{View, view_of}
use Rattle.tase_conn.specs.Map.Out.{octets_out}
use Rattle.tase_conn.proofs.map.octet_laws.equal_worlds_give_equal_octets.Goals as goal

pub returns : goal.returns
returns c = λ here there past other_past peer other ordinal text ended same_table same_view.
    ap (λ (table : OwnTables). octets_out table (view_of here peer past) ordinal text ended)
    same_table
    ∙ ap (λ (view : View). octets_out (own_tables there other) view ordinal text ended) same_view
