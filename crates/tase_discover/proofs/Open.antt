-- Where a listing goes on, or ends by itself, it is as before or not all came; and no type is judged
-- before all names came.
use Rattle.std.proofs.Common.{◌≡◌, ℕ, ◌+◌, ◌<◌, Bool, true, false, not, ◌&&◌, ◌⊎◌, inl, inr}
use Rattle.std.proofs.Common.{List, [], ◌∷◌, ◌++◌, length, Option, Some, None, refl, sym, ap, ◌∙◌, take}
use Rattle.std.proofs.Common.{arith}
use Rattle.std.specs.Prelude.{if◌then◌else◌, nat_lt}
use Rattle.std.proofs.lemmas.Bool.{false≢true, lt-ltb}
use Rattle.mms_data.specs.declared.object_name.Scope.{Scope}
use Rattle.mms_data.specs.declared.object_name.Scope.TheVariants.{Domain}
use Rattle.mms_data.specs.ObjectName.{ObjectName}
use Rattle.mms_data.specs.Types.TypeShape.{TypeShape}
use Rattle.tase_views.specs.declared.reply.ReplyKind.{ReplyKind}
use Rattle.tase_views.specs.declared.reply.ReplyKind.TheVariants as replies
use Rattle.tase_views.specs.OwnTables.{OwnTable}
use Rattle.tase_discover.specs.declared.end.Stage.{Stage}
use Rattle.tase_discover.specs.declared.end.Stage.TheVariants as stages
use Rattle.tase_discover.specs.declared.end.ListingEnd.{ListingEnd}
use Rattle.tase_discover.specs.declared.end.ListingEnd.TheVariants as endings
use Rattle.tase_discover.specs.declared.end.TheConstants.{MOST_NAMES}
use Rattle.asking_end.specs.declared.next.Next.{Next}
use Rattle.asking_end.specs.declared.next.Next.TheVariants as nexts
use Rattle.tase_discover.specs.Listings.{ListingSeen, Heeded, heeded, scope_of, names_with, is_done}
use Rattle.tase_discover.specs.Listings.{scope_ended, types_begun, page_ordered, page_judged, is_types}
use Rattle.tase_discover.specs.Listings.{page_heeded, page_at, type_judged, type_at}
use Rattle.tase_discover.specs.Listings.{reply_heeded, first_fallen, last_item, is_empty, name_asked}
use Rattle.tase_discover.specs.Listings.{is_type_of, are_judged}
use Rattle.tase_discover.specs.Listers.{IsFresh}

abbrev pub is_conclusion : Next ListingEnd → Bool
is_conclusion nexts.Wait = false
is_conclusion nexts.Ask = false
is_conclusion nexts.Conclude = true
is_conclusion (nexts.End end) = false

pub record IsKept (s : ListingSeen) (h : Heeded) : Type 0 where
  pub going : is_conclusion h.next ≡ false → (h.seen ≡ s) ⊎ (is_done h.seen ≡ false)
  pub fresh : IsFresh h.seen

both : (s : ListingSeen) (b : Bool) (one other : Heeded) → IsKept s one → IsKept s other
    → IsKept s (if b then one else other)
both s true one other p q = p
both s false one other p q = q

not_listed : (s : ListingSeen) → is_types s.stage ≡ false → is_done s ≡ false
not_listed s e = ap (λ (b : Bool). b && are_judged s) e

unjudged : (s : ListingSeen) → length s.judged < length s.names → are_judged s ≡ false
unjudged s less = ap not (lt-ltb (length s.judged) (length s.names) less)

and_false : (a : Bool) → (a && false) ≡ false
and_false true = refl
and_false false = refl

as_before : (s : ListingSeen) (next : Next ListingEnd) → IsFresh s → IsKept s (heeded s next)
as_before s next fresh = record { going = λ _. inl refl; fresh = fresh }

types_kept : (s t : ListingSeen) (names : List ObjectName) → t.names ≡ names → t.judged ≡ []
    → IsKept s (types_begun t)
types_kept s t [] e none = record {
  going = λ goes_on. absurd (false≢true (sym goes_on ∙ ap is_conclusion
      (ap (λ (ns : List ObjectName). if is_empty ns then nexts.Conclude else nexts.Ask) e)));
  fresh = λ away. absurd (false≢true (sym away));
}
types_kept s t (name ∷ names) e none =
    let less : length t.judged < length t.names =
    omega (arith, ap length e, ap length none) in record {
      going = λ goes_on. inr (unjudged t less);
      fresh = λ away. absurd (false≢true (sym away));
    }

scope_kept : (s t : ListingSeen) (stage : Stage) → t.judged ≡ [] → IsKept s (scope_ended stage t)
scope_kept s t stages.Device none = record { going = λ _. inr refl; fresh = λ _. none }
scope_kept s t stages.Domain none = types_kept s t t.names refl none
scope_kept s t stages.Types none = types_kept s t t.names refl none

module _ (domain : Scope) (s : ListingSeen) (items : List (List ℕ)) (more : Bool)
    (listed : is_types s.stage ≡ false) (fresh : IsFresh s) where
  with_names : (these : List (List ℕ)) (next : Next ListingEnd)
      → IsKept s (heeded (names_with domain s these) next)
  with_names these next = record {
    going = λ _. inr (not_listed (names_with domain s these) listed);
    fresh = fresh;
  }

  ordered_kept : IsKept s (page_ordered domain s items more)
  ordered_kept =
      both s (nat_lt MOST_NAMES (length s.names + length items)) _ _
      (with_names items (nexts.End endings.TooMany))
      (both s (not more) _ _
      (scope_kept s (names_with domain s items) s.stage (fresh listed))
      (both s (is_empty items) _ _ (as_before s (nexts.End endings.Other) fresh)
      (with_names items nexts.Ask)))

  judged_kept : (place : Option ℕ) → IsKept s (page_judged domain s items more place)
  judged_kept (Some place) = with_names (take (place + 1) items) (nexts.End endings.Unordered)
  judged_kept None = ordered_kept

  heeded_kept : IsKept s (page_heeded domain s items more)
  heeded_kept = judged_kept (first_fallen (last_item (scope_of domain s.stage) s.names) items)

page_kept : (domain : Scope) (s : ListingSeen) (items : List (List ℕ)) (more : Bool) (stage : Stage)
    → s.stage ≡ stage → IsFresh s → IsKept s (page_at stage domain s items more)
page_kept domain s items more stages.Device at fresh =
    heeded_kept domain s items more (ap is_types at) fresh
page_kept domain s items more stages.Domain at fresh =
    heeded_kept domain s items more (ap is_types at) fresh
page_kept domain s items more stages.Types at fresh =
    as_before s (nexts.End endings.Other) fresh

one_type : (s more : ListingSeen) → is_types more.stage ≡ true → (b : Bool) → are_judged more ≡ b
    → IsKept s (heeded more (if b then nexts.Conclude else nexts.Ask))
one_type s more at true e = record {
  going = λ goes_on. absurd (false≢true (sym goes_on));
  fresh = λ away. absurd (false≢true (sym away ∙ at));
}
one_type s more at false e = record {
  going = λ _. inr (ap (λ (b : Bool). is_types more.stage && b) e ∙ and_false (is_types more.stage));
  fresh = λ away. absurd (false≢true (sym away ∙ at));
}

judged_type : (table : OwnTable) (s : ListingSeen) (shape : TypeShape) → is_types s.stage ≡ true
    → IsFresh s → (name : Option ObjectName) → IsKept s (type_judged table s shape name)
judged_type table s shape at fresh None = as_before s (nexts.End endings.Other) fresh
judged_type table s shape at fresh (Some name) =
    let more = record s { judged = s.judged ++ is_type_of table name shape ∷ [] } in
    one_type s more at (are_judged more) refl

type_kept : (table : OwnTable) (s : ListingSeen) (shape : TypeShape) (stage : Stage)
    → s.stage ≡ stage → IsFresh s → IsKept s (type_at stage table s shape)
type_kept table s shape stages.Device at fresh = as_before s (nexts.End endings.Other) fresh
type_kept table s shape stages.Domain at fresh = as_before s (nexts.End endings.Other) fresh
type_kept table s shape stages.Types at fresh =
    judged_type table s shape (ap is_types at) fresh (name_asked s)

pub reply_kept : (table : OwnTable) (s : ListingSeen) (reply : ReplyKind) → IsFresh s
    → IsKept s (reply_heeded table s reply)
reply_kept table s (replies.NamesAre items more) fresh =
    page_kept (Domain table.domain) s items more s.stage refl fresh
reply_kept table s (replies.TypeIs shape) fresh = type_kept table s shape s.stage refl fresh
reply_kept table s replies.Identified fresh = as_before s (nexts.End endings.Other) fresh
reply_kept table s (replies.Results spec results) fresh =
    as_before s (nexts.End endings.Other) fresh
reply_kept table s (replies.Written results) fresh = as_before s (nexts.End endings.Other) fresh
reply_kept table s replies.Defined fresh = as_before s (nexts.End endings.Other) fresh
reply_kept table s (replies.MembersAre names) fresh = as_before s (nexts.End endings.Other) fresh
reply_kept table s (replies.Deleted matched deleted) fresh =
    as_before s (nexts.End endings.Other) fresh
reply_kept table s (replies.Error class code) fresh = as_before s (nexts.End endings.Other) fresh
reply_kept table s (replies.Reject kind code) fresh = as_before s (nexts.End endings.Other) fresh
