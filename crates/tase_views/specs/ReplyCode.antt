-- Replies and reports as data that a proof can tell apart.
use Rattle.std.specs.Prelude.{◌≡◌, ℕ, Bool, ◌⊎◌, List, Option, refl}
use Rattle.std.specs.Coded.{Coded, code_by, coded×, coded⊎, coded_ℕ, coded_bool, coded_list}
use Rattle.std.specs.Coded.{coded_option}
use base.Stored.{coded_unit}
use Rattle.std.proofs.Common.{inl, inr}
use Rattle.mms_data.specs.ObjectName.{ObjectName}
use Rattle.mms_data.specs.declared.outcome.Outcome.{Outcome}
use Rattle.mms_data.specs.Types.TypeShape.{TypeShape}
use Rattle.mms_data.specs.Types.ShapeCode.{shape_code}
use Rattle.tase_views.specs.declared.reply.ReadSpec.{ReadSpec}
use Rattle.tase_views.specs.declared.reply.ReadSpec.TheVariants as specs
use Rattle.tase_views.specs.declared.reply.ReplyKind.{ReplyKind}
use Rattle.tase_views.specs.declared.reply.ReplyKind.TheVariants.{Identified, Results, Written}
use Rattle.tase_views.specs.declared.reply.ReplyKind.TheVariants.{NamesAre, TypeIs, Defined}
use Rattle.tase_views.specs.declared.reply.ReplyKind.TheVariants.{MembersAre, Deleted, Error}
use Rattle.tase_views.specs.declared.reply.ReplyKind.TheVariants.{Reject}
use Rattle.tase_views.specs.declared.reply.ReportKind.{ReportKind}
use Rattle.tase_views.specs.declared.reply.ReportKind.TheVariants as reports
use Rattle.tase_views.specs.Codes.{outcome_code, name_code}

abbrev pub spec_parts : ReadSpec → List ObjectName ⊎ ObjectName
spec_parts (specs.List names) = inl names
spec_parts (specs.Set name) = inr name

abbrev pub spec_from : List ObjectName ⊎ ObjectName → ReadSpec
spec_from (inl names) = specs.List names
spec_from (inr name) = specs.Set name

pub spec_from-parts : (s : ReadSpec) → spec_from (spec_parts s) ≡ s
spec_from-parts (specs.List names) = refl
spec_from-parts (specs.Set name) = refl

abbrev pub spec_code : Coded ReadSpec
spec_code =
    code_by (List ObjectName ⊎ ObjectName) (coded⊎ (coded_list name_code) name_code) spec_parts
    spec_from spec_from-parts

-- a reply about data sets: one is defined, its members, how many were meant and deleted
abbrev pub SetReplyParts : Type 0
SetReplyParts = Unit {0} ⊎ (List ObjectName ⊎ (ℕ × ℕ))

abbrev pub ReplyParts : Type 0
ReplyParts =
    Unit {0} ⊎ ((Option ReadSpec × List Outcome) ⊎ (List (Option ℕ)
    ⊎ ((List (List ℕ) × Bool) ⊎ ((ℕ × ℕ) ⊎ ((ℕ × ℕ) ⊎ (TypeShape ⊎ SetReplyParts))))))

abbrev pub reply_parts : ReplyKind → ReplyParts
reply_parts Identified = inl tt
reply_parts (Results spec results) = inr (inl (spec, results))
reply_parts (Written results) = inr (inr (inl results))
reply_parts (NamesAre names more) = inr (inr (inr (inl (names, more))))
reply_parts (TypeIs shape) = inr (inr (inr (inr (inr (inr (inl shape))))))
reply_parts Defined = inr (inr (inr (inr (inr (inr (inr (inl tt)))))))
reply_parts (MembersAre names) = inr (inr (inr (inr (inr (inr (inr (inr (inl names))))))))
reply_parts (Deleted matched deleted) =
    inr (inr (inr (inr (inr (inr (inr (inr (inr (matched, deleted)))))))))
reply_parts (Error class code) = inr (inr (inr (inr (inl (class, code)))))
reply_parts (Reject kind code) = inr (inr (inr (inr (inr (inl (kind, code))))))

abbrev pub set_reply_from : SetReplyParts → ReplyKind
set_reply_from (inl u) = Defined
set_reply_from (inr (inl names)) = MembersAre names
set_reply_from (inr (inr p)) = Deleted p.0 p.1

abbrev pub reply_from : ReplyParts → ReplyKind
reply_from (inl u) = Identified
reply_from (inr (inl p)) = Results p.0 p.1
reply_from (inr (inr (inl results))) = Written results
reply_from (inr (inr (inr (inl p)))) = NamesAre p.0 p.1
reply_from (inr (inr (inr (inr (inl p))))) = Error p.0 p.1
reply_from (inr (inr (inr (inr (inr (inl p)))))) = Reject p.0 p.1
reply_from (inr (inr (inr (inr (inr (inr (inl shape))))))) = TypeIs shape
reply_from (inr (inr (inr (inr (inr (inr (inr p))))))) = set_reply_from p

pub reply_from-parts : (r : ReplyKind) → reply_from (reply_parts r) ≡ r
reply_from-parts Identified = refl
reply_from-parts (Results spec results) = refl
reply_from-parts (Written results) = refl
reply_from-parts (NamesAre names more) = refl
reply_from-parts (TypeIs shape) = refl
reply_from-parts Defined = refl
reply_from-parts (MembersAre names) = refl
reply_from-parts (Deleted matched deleted) = refl
reply_from-parts (Error class code) = refl
reply_from-parts (Reject kind code) = refl

abbrev pub set_reply_code : Coded SetReplyParts
set_reply_code = coded⊎ coded_unit (coded⊎ (coded_list name_code) (coded× coded_ℕ coded_ℕ))

abbrev pub reply_code : Coded ReplyKind
reply_code =
    code_by ReplyParts
    (coded⊎ coded_unit
    (coded⊎ (coded× (coded_option spec_code) (coded_list outcome_code))
    (coded⊎ (coded_list (coded_option coded_ℕ))
    (coded⊎ (coded× (coded_list (coded_list coded_ℕ)) coded_bool)
    (coded⊎ (coded× coded_ℕ coded_ℕ)
    (coded⊎ (coded× coded_ℕ coded_ℕ) (coded⊎ shape_code set_reply_code)))))))
    reply_parts reply_from reply_from-parts

-- a data set or variables, and the outcomes
abbrev pub ReportParts : Type 0
ReportParts = (ObjectName ⊎ List ObjectName) × List Outcome

abbrev pub report_parts : ReportKind → ReportParts
report_parts (reports.Set set results) = (inl set, results)
report_parts (reports.Variables names results) = (inr names, results)

abbrev pub report_from : ReportParts → ReportKind
report_from (inl set, results) = reports.Set set results
report_from (inr names, results) = reports.Variables names results

pub report_from-parts : (r : ReportKind) → report_from (report_parts r) ≡ r
report_from-parts (reports.Set set results) = refl
report_from-parts (reports.Variables names results) = refl

abbrev pub report_code : Coded ReportKind
report_code =
    code_by ReportParts
    (coded× (coded⊎ name_code (coded_list name_code)) (coded_list outcome_code))
    report_parts report_from report_from-parts
