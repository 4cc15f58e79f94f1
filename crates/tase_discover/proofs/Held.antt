-- A listing that is held against a table stays so.
use Rattle.std.proofs.Common.{◌≡◌, Bool, false, List, take, length, Result, Ok, Err}
use Rattle.std.proofs.Common.{sym, ap, ◌∙◌, subst, ⊎_elim}
use Rattle.std.specs.Prelude.{OnOk, OnErr}
use Rattle.std.proofs.lemmas.Bool.{false≢true}
use Rattle.mms_data.specs.ObjectName.{ObjectName, IsScope}
use Rattle.tase_views.specs.declared.reply.ReplyKind.{ReplyKind}
use Rattle.tase_views.specs.OwnTables.{OwnTable}
use Rattle.tase_discover.specs.declared.seen.Seen.{Seen}
use Rattle.tase_discover.specs.Listings.{reply_heeded, is_done, nothing_differs}
use Rattle.tase_discover.specs.Kept.{seen_of, mark_of, undone, Grows, IsAsBefore, IsUndone}
use Rattle.tase_discover.specs.Listers.{IsFresh, IsHeld, MayConclude}
use Rattle.tase_discover.proofs.Open.{is_conclusion, reply_kept}

pub on_err : {T E : Type 0} (P Q : Type 0) (r : Result T E) → (P → Q) → OnErr r P → OnErr r Q
on_err P Q (Ok x) f p = tt
on_err P Q (Err e) f p = f p

-- whatever the result
pub whatever : {T E : Type 0} (P : Type 0) (r : Result T E) → P → OnErr r P
whatever P (Ok x) p = tt
whatever P (Err e) p = p

pub on_ok : {T E : Type 0} (P Q : Type 0) (r : Result T E) → (P → Q) → OnOk r P → OnOk r Q
on_ok P Q (Ok x) f p = f p
on_ok P Q (Err e) f p = tt

pub held_before : (table : OwnTable) (old new : Seen) → IsHeld table old → IsAsBefore old new
    → IsHeld table new
held_before table old new h b = record {
  domain = b.domain ∙ h.domain;
  named = subst IsScope (sym b.domain) h.named;
  fresh = subst IsFresh (sym b.seen) h.fresh;
  alike = λ done. b.alike ∙ h.alike (sym (ap is_done b.seen) ∙ done)
      ∙ ap (nothing_differs table) (sym b.seen);
}

pub held_after : (table : OwnTable) (old new : Seen) (reply : ReplyKind) → IsHeld table old
    → Grows old new → seen_of new ≡ (reply_heeded table (seen_of old) reply).seen
    → is_conclusion (reply_heeded table (seen_of old) reply).next ≡ false → IsHeld table new
held_after table old new reply h g is goes_on =
    let kept = reply_kept table (seen_of old) reply h.fresh in record {
      domain = g.domain ∙ h.domain;
      named = subst IsScope (sym g.domain) h.named;
      fresh = subst IsFresh (sym is) kept.fresh;
      alike = λ done. ⊎_elim
          (λ same. let all : seen_of new ≡ seen_of old = is ∙ same in
          g.alike ∙ h.alike (sym (ap is_done all) ∙ done) ∙ ap (nothing_differs table) (sym all))
          (λ part. absurd (false≢true (sym part ∙ sym (ap is_done is) ∙ done)))
          (kept.going goes_on);
    }

-- what is undone to the mark is as before
pub undone_is : (old new : Seen) → Grows old new → undone (mark_of old) (seen_of new) ≡ seen_of old
undone_is old new g =
    ap (λ (ns : List ObjectName). record {
      stage = old.stage;
      names = ns;
      judged = take (length old.judged.items) new.judged.items;
    }) g.names
    ∙ ap (λ (bs : List Bool). record {
      stage = old.stage;
      names = old.names.items;
      judged = bs;
    }) g.judged

pub may_conclude : (table : OwnTable) (old new : Seen) (reply : ReplyKind) → IsHeld table old
    → Grows old new → seen_of new ≡ (reply_heeded table (seen_of old) reply).seen
    → MayConclude table (mark_of old) new
may_conclude table old new reply h g is =
    let kept = reply_kept table (seen_of old) reply h.fresh in
    let back = undone_is old new g in record {
      domain = g.domain ∙ h.domain;
      named = subst IsScope (sym g.domain) h.named;
      fresh = subst IsFresh (sym is) kept.fresh;
      fresh_before = subst IsFresh (sym back) h.fresh;
      alike_before = λ done. g.alike ∙ h.alike (sym (ap is_done back) ∙ done)
          ∙ ap (nothing_differs table) (sym back);
    }

pub concluded_undone : (old mid new : Seen) → Grows old mid → IsUndone (mark_of old) mid new
    → IsAsBefore old new
concluded_undone old mid new g u = record {
  domain = u.domain ∙ g.domain;
  alike = u.alike ∙ g.alike;
  seen = u.seen ∙ undone_is old mid g;
}
