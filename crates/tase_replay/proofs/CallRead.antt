-- The call of a `say` line is the one that its words spell, unless that is an odd one.
use Rattle.std.proofs.Common.{◌≡◌, ◌↔◌, ℕ, Bool, true, false, List, Option, Some, None, refl, sym}
use Rattle.std.proofs.Common.{ap, subst}
use Rattle.std.specs.Prelude.{if◌then◌else◌, option_and_then}
use Rattle.std.proofs.lemmas.Option.{option_and_then_some, none-some, same_Some}
use Rattle.tase_views.specs.declared.call.CallKind.{CallKind}
use Rattle.texts.specs.Events.CallWords.{SpellsCall, AreCallWords}
use Rattle.texts.specs.Journal.CallIn.{call_in}
use Rattle.texts.proofs.OfJournal.CallRead as whole
use Rattle.conn_service.specs.TaseConn.Map.Asked.{is_odd}
use Rattle.tase_replay.specs.CallIn.{call_of_words}

abbrev unless_odd : CallKind → Option CallKind
unless_odd call = if is_odd call then None else Some call

kept : (b : Bool) (c call : CallKind) → is_odd c ≡ b → (if b then None else Some c) ≡ Some call
    → (c ≡ call) × (is_odd call ≡ false)
kept true c call odd e = absurd (none-some call e)
kept false c call even e =
    let same = same_Some c call e in
    (same, subst (λ (x : CallKind). is_odd x ≡ false) same even)

pub call_in-spelled : (words : List (List ℕ)) (call : CallKind)
    → (call_of_words words ≡ Some call) ↔ (SpellsCall words call × (is_odd call ≡ false))
call_in-spelled words call = (
  λ e. option_and_then_some unless_odd (call_in words) call e (λ c is k.
      let p = kept (is_odd c) c call refl k in (
        whole.call_in-found words call
            (subst (λ (x : CallKind). call_in words ≡ Some x) p.0 is),
        p.1,
      )),
  λ s. rw (whole.call_in-words words call s.0, s.1) refl,
)

-- of words that spell a call
pub call_in-read : (words : List (List ℕ)) (call : CallKind) → SpellsCall words call
    → (if is_odd call then None else Some call) ≡ call_of_words words
call_in-read words call s =
    sym (ap (option_and_then unless_odd) (whole.call_in-words words call s))

-- of words that spell none
pub call_in-none : (words : List (List ℕ)) → (AreCallWords words → ⊥) → None ≡ call_of_words words
call_in-none words unspelled =
    sym (ap (option_and_then unless_odd) (whole.call_in-none words unspelled))
