-- The texts of replies.
use Rattle.std.specs.Prelude.{ℕ, if◌then◌else◌, Bool, List, ◌∷◌, ◌++◌, flat_map, Option, Some}
use Rattle.std.specs.Prelude.{None, is_some, codes, decimal}
use Rattle.plain_text.specs.Escaped.{escaped_text}
use Rattle.mms_data.specs.declared.outcome.Outcome.{Outcome}
use Rattle.mms_data.specs.Text.Texts.{outcome_text}
use Rattle.mms_data.specs.Types.ShapeTexts.{shape_text}
use Rattle.tase_views.specs.declared.reply.ReplyKind.{ReplyKind}
use Rattle.tase_views.specs.declared.reply.ReplyKind.TheVariants.{Identified, Results, Written}
use Rattle.tase_views.specs.declared.reply.ReplyKind.TheVariants.{NamesAre, TypeIs, Defined}
use Rattle.tase_views.specs.declared.reply.ReplyKind.TheVariants.{MembersAre, Deleted, Error}
use Rattle.tase_views.specs.declared.reply.ReplyKind.TheVariants.{Reject}
use Rattle.tase_views.specs.EventTexts.{read_verb, next_name}

-- an outcome of a read, after a space
abbrev pub result_text : Outcome → List ℕ
result_text outcome = 32 ∷ outcome_text outcome

-- what came of a write of one variable, after a space: `ok`, or `!` and the number of the reason
abbrev pub written_text : Option ℕ → List ℕ
written_text None = codes " ok"
written_text (Some reason) = codes " !" ++ decimal reason

-- the name of an object, after a space
abbrev pub item_text : List ℕ → List ℕ
item_text name = 32 ∷ escaped_text name

-- whether more names follow those of a list
abbrev pub more_text : Bool → List ℕ
more_text more = if more then codes "more" else codes "end"

-- `identify`, `read OUTCOME ..`, or `read+ OUTCOME ..` where the reply repeats what the read named,
-- `write` with `ok` or `!N` for each variable, `names end ITEM ..`, `names more ITEM ..`,
-- `type SHAPE`, `defined`, `members NAME ..`, `deleted MATCHED DELETED`, `error CLASS CODE` or
-- `reject KIND CODE`
abbrev pub reply_text : ReplyKind → List ℕ
reply_text Identified = codes "identify"
reply_text (Results spec results) = read_verb (is_some spec) ++ flat_map result_text results
reply_text (Written results) = codes "write" ++ flat_map written_text results
reply_text (NamesAre names more) =
    codes "names " ++ more_text more ++ flat_map item_text names
reply_text (TypeIs shape) = codes "type " ++ shape_text shape
reply_text Defined = codes "defined"
reply_text (MembersAre names) = codes "members" ++ flat_map next_name names
reply_text (Deleted matched deleted) =
    codes "deleted " ++ decimal matched ++ 32 ∷ decimal deleted
reply_text (Error class code) = codes "error " ++ decimal class ++ 32 ∷ decimal code
reply_text (Reject kind code) = codes "reject " ++ decimal kind ++ 32 ∷ decimal code
