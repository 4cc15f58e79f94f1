use Rattle.bilateral.specs.Rows.{variant_of}
use Rattle.tase_views.specs.OwnTables.{own_table}
use Rattle.tase_discover.proofs.SelfListed.{lists_itself}
use Rattle.tase_discover.proofs.laws.tables_list_themselves.Goals as goal

pub returns : goal.returns
returns c = λ rows peer variant tables ordinal replies lawful answered.
    lists_itself tables (own_table rows (variant_of rows peer variant)) ordinal replies
    (c.centre_names_differ.ensures rows peer variant lawful) answered
