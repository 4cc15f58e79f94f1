use Rattle.bilateral.specs.Rows.{variant_of}
use Rattle.tase_views.specs.OwnTables.{own_table}
use Rattle.tase_discover.proofs.HeardListed.{finishes_alike}
use Rattle.tase_discover.proofs.laws.answered_listings_finish.Goals as goal

pub returns : goal.returns
returns c = λ rows peer variant tables ordinal replies title a lawful answered.
    finishes_alike (own_table rows (variant_of rows peer variant)) replies
    c.replies_are_pdus.ensures.reply c.replies_are_pdus.ensures.number title a
    (c.tables_list_themselves.ensures rows peer variant tables ordinal replies lawful answered)
