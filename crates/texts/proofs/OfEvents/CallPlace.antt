-- A text breaks at one place, and where it breaks it spells no call.
use Rattle.std.proofs.Common.{◌≡◌, ℕ, Bool, true, false, List, Err, sym, ap, ◌∙◌}
use Rattle.std.proofs.Common.{inl, inr, IsTrue}
use Rattle.std.specs.Prelude.{Result, ◌↔◌}
use Rattle.plain_text.specs.Words.{words, is_spaced}
use Rattle.tase_views.specs.declared.call.CallKind.{CallKind}
use Rattle.texts.specs.Events.CallWords.{AreCallWords}
use Rattle.texts.specs.Events.Breaks.{Breaks}
use Rattle.texts.specs.Events.WordPlaces.{word_place}
use Rattle.texts.specs.Events.CallTexts.{IsCallText, CallBreaksAt}
use Rattle.texts.proofs.OfEvents.Breaking.{one_break}
use Rattle.texts.proofs.OfEvents.OneCall.{one_call}

both : (b : Bool) → b ≡ true → b ≡ false → ⊥
both b e k = let same : true ≡ false = sym e ∙ k in absurd cc

pub one_place : (text : List ℕ) (a b : ℕ) → CallBreaksAt text a → CallBreaksAt text b → a ≡ b
one_place text a b (inl x) (inl y) = x.first ∙ sym y.first
one_place text a b (inl x) (inr y) = absurd (both (is_spaced text) y.spaced x.spaced)
one_place text a b (inr x) (inl y) = absurd (both (is_spaced text) x.spaced y.spaced)
one_place text a b (inr x) (inr y) =
    x.first
    ∙ ap (word_place text) (one_break AreCallWords (words text) x.count y.count x.breaks y.breaks)
    ∙ sym y.first

pub no_call : (text : List ℕ) (call : CallKind) (place : ℕ) → IsCallText text call
    → CallBreaksAt text place → ⊥
no_call text call place c (inl x) = both (is_spaced text) c.spaced x.spaced
no_call text call place c (inr x) = x.breaks.unspelled (call, c.words)

pub one_text : (text : List ℕ) (a b : CallKind) → IsCallText text a → IsCallText text b → a ≡ b
one_text text a b x y = one_call (words text) a b x.words y.words

pub place-fault : {A : Type 0} (text : List ℕ) (count here place : ℕ) → IsTrue (is_spaced text)
    → here ≡ word_place text count → Breaks AreCallWords (words text) count
    → (◌≡◌ {A = Result A ℕ} (Err here) (Err place)) ↔ CallBreaksAt text place
place-fault text count here place spaced here_is b = (
  λ e. let same : here ≡ place = cc in inr (record {
    spaced = spaced;
    count = count;
    breaks = b;
    first = sym same ∙ here_is;
  }),
  λ k. ap Err (one_place text here place
      (inr (record { spaced = spaced; count = count; breaks = b; first = here_is })) k),
)
