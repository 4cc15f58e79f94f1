-- The end that an answer brings a connection.
use Rattle.std.specs.Prelude.{List, unsigned_abs, Option, None, option_map}
use Rattle.tase_views.specs.declared.reply.Answer.{Answer}
use Rattle.tase_views.specs.declared.reply.Answer.TheVariants as answers
use Rattle.tase_conn.specs.Map.Inputs.{Item}
use Rattle.tase_conn.specs.Map.Out.{first_too_long}
use Rattle.tase_conn.specs.Map.Linked.{detail_given}
use Rattle.tase_conn.specs.declared.stage.ConnEnd.{ConnEnd}
use Rattle.tase_conn.specs.declared.stage.ConnEnd.TheVariants as conn_ends

-- one of its reports is longer than was agreed on in what the link gave
abbrev pub end_answered : List Item → Answer → Option ConnEnd
end_answered items (answers.Reports reports) =
    option_map (λ len. conn_ends.TooLong len (unsigned_abs (detail_given items)))
    (first_too_long (detail_given items) reports)
end_answered items _ = None
