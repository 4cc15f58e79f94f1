-- What every reply and every report keeps.
use Rattle.std.specs.Prelude.{◌≡◌, ◌<◌, ◌≤◌, length, IfSome}
use Rattle.std.specs.List.{All}
use Rattle.mms_data.specs.ObjectName.{IsIdentifier}
use Rattle.mms_data.specs.OutcomeOctets.{IsLawfulOutcome}
use Rattle.mms_data.specs.Types.TypeShape.{IsTypeShape}
use Rattle.tase_views.specs.declared.reply.ReadSpec.{ReadSpec}
use Rattle.tase_views.specs.declared.reply.ReadSpec.TheVariants as specs
use Rattle.tase_views.specs.declared.reply.ReplyKind.{ReplyKind}
use Rattle.tase_views.specs.declared.reply.ReplyKind.TheVariants.{Identified, Results, Written}
use Rattle.tase_views.specs.declared.reply.ReplyKind.TheVariants.{NamesAre, TypeIs, Defined}
use Rattle.tase_views.specs.declared.reply.ReplyKind.TheVariants.{MembersAre, Deleted, Error}
use Rattle.tase_views.specs.declared.reply.ReplyKind.TheVariants.{Reject}
use Rattle.tase_views.specs.declared.reply.ReportKind.{ReportKind}
use Rattle.tase_views.specs.declared.reply.ReportKind.TheVariants.{Set, Variables}

-- a list of names has a name
abbrev pub IsReadSpec : ReadSpec → Type 0
IsReadSpec (specs.List names) = 0 < length names
IsReadSpec (specs.Set name) = Unit {0}

-- the data are lawful, what a read named has a name, and so have members; names are identifiers, an
-- error's class is at most 15, and a reject's kind is 1 to 15; a type is one that may be told
abbrev pub IsReply : ReplyKind → Type 0
IsReply Identified = Unit {0}
IsReply (Results spec results) = IfSome spec IsReadSpec × All IsLawfulOutcome results
IsReply (Written results) = Unit {0}
IsReply (NamesAre names more) = All IsIdentifier names
IsReply (TypeIs shape) = IsTypeShape shape
IsReply Defined = Unit {0}
IsReply (MembersAre names) = 0 < length names
IsReply (Deleted matched deleted) = Unit {0}
IsReply (Error class code) = class ≤ 15
IsReply (Reject kind code) = (1 ≤ kind) × (kind ≤ 15)

-- the data are lawful; variables are one at the least, with an outcome each
abbrev pub IsReport : ReportKind → Type 0
IsReport (Set set results) = All IsLawfulOutcome results
IsReport (Variables names results) =
    (0 < length names) × (length results ≡ length names) × All IsLawfulOutcome results
