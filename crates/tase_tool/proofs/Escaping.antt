-- Escaped text, written octet by octet.
use Rattle.std.proofs.Common.{◌≡◌, ◌∙◌, ℕ, ◌+◌, ◌<◌, ◌≤◌, true, false, List, [], ◌∷◌, ◌++◌, take, drop}
use Rattle.std.proofs.Common.{length, get_or, sym, ap, subst, take-append-drop}
use Rattle.std.proofs.lemmas.Grind.{flat_map-append}
use Rattle.std.proofs.lemmas.List.{append-nil, take_more, take_all}
use Rattle.outside.specs.Sink.{SinkTold, AppendsAll, AppendsPart}
use Rattle.outside.proofs.Writing.{Appends-append, AppendsPart-append, AppendsPart-front}
use Rattle.plain_text.specs.Escaped.{escaped_octet, escaped_text}

with_octet : (octets : List ℕ) (place : ℕ) → place < length octets
    → escaped_text (take (place + 1) octets)
    ≡ escaped_text (take place octets) ++ escaped_octet (get_or octets place 0)
with_octet octets place within =
    ap escaped_text (take_more octets place 0 within)
    ∙ flat_map-append escaped_octet (take place octets) (get_or octets place 0 ∷ [])
    ∙ ap (λ l. escaped_text (take place octets) ++ l)
    (append-nil (escaped_octet (get_or octets place 0)))

rest_of : (octets : List ℕ) (count : ℕ)
    → escaped_text (take count octets) ++ escaped_text (drop count octets) ≡ escaped_text octets
rest_of octets count =
    sym (flat_map-append escaped_octet (take count octets) (drop count octets))
    ∙ ap escaped_text (take-append-drop count octets)

module _ (octets : List ℕ) (place : ℕ) (a m l : SinkTold)
    (before : AppendsAll a m (escaped_text (take place octets))) where
  -- an octet was written
  pub octet_written : place < length octets
      → AppendsAll m l (escaped_octet (get_or octets place 0))
      → AppendsAll a l (escaped_text (take (place + 1) octets))
  octet_written within all =
      subst (λ (o : List ℕ). AppendsAll a l o) (sym (with_octet octets place within))
      (Appends-append a m l (escaped_text (take place octets))
      (escaped_octet (get_or octets place 0)) false before all)

  -- it wasn't, whole
  pub octet_stopped : place < length octets
      → AppendsPart m l (escaped_octet (get_or octets place 0)) true
      → AppendsPart a l (escaped_text octets) true
  octet_stopped within part =
      subst (λ (o : List ℕ). AppendsPart a l o true)
      (ap (λ t. t ++ escaped_text (drop (place + 1) octets))
      (sym (with_octet octets place within)) ∙ rest_of octets (place + 1))
      (AppendsPart-front a l
      (escaped_text (take place octets) ++ escaped_octet (get_or octets place 0))
      (escaped_text (drop (place + 1) octets)) true
      (AppendsPart-append a m l (escaped_text (take place octets))
      (escaped_octet (get_or octets place 0)) true before part))

-- all octets were written
pub all_written : (octets : List ℕ) (place : ℕ) (a l : SinkTold) → length octets ≤ place
    → AppendsAll a l (escaped_text (take place octets)) → AppendsAll a l (escaped_text octets)
all_written octets place a l past all =
    subst (λ (o : List ℕ). AppendsAll a l o) (ap escaped_text (take_all place octets past)) all
