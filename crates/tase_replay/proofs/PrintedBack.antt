-- What a printed text shows for the peer of a seat's link is what the steps that print it show: no
-- other line is taken for one of its lines.
use Rattle.std.proofs.Common.{◌≡◌, ◌≢◌, ℕ, ◌+◌, ◌*◌, ◌/◌, ◌%◌, ◌^◌, ◌<◌, Bool}
use Rattle.std.proofs.Common.{true, false, ◌⊎◌, inl, inr, cond, eqb, List, [], ◌∷◌, ◌++◌}
use Rattle.std.proofs.Common.{length, map, Option, Some, None, Ok, decimal, refl, sym, ap}
use Rattle.std.proofs.Common.{◌∙◌, arith, append_assoc}
use Rattle.std.specs.Prelude.{codes, flat_map, option_and_then}
use Rattle.std.specs.List.{AllByRecursion, list_all}
use Rattle.std.specs.Result.{result_ok}
use Rattle.std.proofs.lemmas.Bool.{cond-true, cond-false, and_parts, and_from, eq-eqb}
use Rattle.std.proofs.lemmas.Bool.{eqb-true, false≢true}
use Rattle.std.proofs.lemmas.Bool.Decides.{nat_tests}
use Rattle.std.proofs.lemmas.List.{append-nil}
use Rattle.std.specs.Char.{is_ascii_digit}
use Rattle.std.specs.Str.{all_ascii_digits}
use Rattle.std.specs.Str.Parse.{digits_value}
use Rattle.std.proofs.lemmas.Fmt.{decimal_injective, digits_decimal}
use Rattle.std.proofs.lemmas.Str.Parse.{IsNumeralModel, numerals_by_value, tells_all_ascii_digits}
use Rattle.std.proofs.lemmas.List.Folds.{list_all-append}
use Rattle.std.proofs.lemmas.Grind.{flat_map-append}
use Rattle.hex.specs.Hex.{decode_pairs, digit_or_error, hex_digit_value, pair_value}
use Rattle.hex.specs.Hex.{value_at}
use Rattle.hex.proofs.HexLemmas.{decode_of-even}
use Rattle.hex.proofs.Pairs.{cons_byte, decode_pairs-ok_pair}
use Rattle.plain_text.specs.Octets.{hex_digit, hex_text}
use Rattle.plain_text.specs.Escaped.{is_octet}
use Rattle.ber_values.specs.Octets.{IsOctets}
use Rattle.ber_values.proofs.BitsLemmas.{list_all-octets}
use Rattle.bilateral.specs.Rows.{CentreRows}
use Rattle.sbo_device.specs.declared.order.Order.{Order}
use Rattle.conn_service.specs.TaseConn.declared.stage.ConnEnd.{ConnEnd}
use Rattle.tase_views.specs.declared.reply.ReplyKind.{ReplyKind}
use Rattle.tase_views.specs.declared.reply.ReportKind.{ReportKind}
use Rattle.tase_views.specs.declared.reply.Answer.{Answer}
use Rattle.tase_views.specs.declared.reply.Answer.TheVariants.{Opened, Reply, Reports, Closed}
use Rattle.tase_views.specs.declared.reply.Answer.TheVariants.{Orders, Noted}
use Rattle.texts.specs.Events.ReplyTexts.{reply_text}
use Rattle.texts.specs.Reports.ReportTexts.{report_text}
use Rattle.tase_replay.specs.Links.{line_of_out, line_of_end, end_text}
use Rattle.tase_replay.specs.Play.{Step, printed_of, line_of_reply, line_of_report, order_words}
use Rattle.tase_replay.specs.Play.{line_of_order, printed_in}
use Rattle.tase_replay.specs.PrintedLines.{ShownToPeer, sent_octet, end_words, behind_front}
use Rattle.tase_replay.specs.PrintedLines.{digits_shown, octets_shown}
use Rattle.tase_replay.specs.PrintedLines.{words_shown, line_shows, shown_to, end_shown, all_shown}
use Rattle.tase_replay.specs.PrintedLines.{step_shows, shown_by, octets_to}
use Rattle.tase_replay.specs.Standing.{HasOctets}
use Rattle.tase_replay.proofs.Printable.{IsPrintable, of_words, printable-append, printable-cons}
use Rattle.tase_replay.proofs.Printable.{decimal-printable, hex-printable, reply-printable}
use Rattle.tase_replay.proofs.Printable.{report-printable, order-printable, end-printable}
use Rattle.texts.proofs.OfJournal.TextLines.{lines-more}

-- ---- which steps these are

-- the step of an entry: what the node answers is printed
pub record PrintsAnswer (step : Step) : Type 0 where
  pub rows : CentreRows
  pub answer : Answer
  pub printed : step.printed ≡ printed_of rows step.who answer
  pub octets : step.octets ≡ []
  pub end : step.end ≡ None

-- the step of a link: its octets are printed, and its end
abbrev pub PrintsSent : Step → Type 0
PrintsSent step =
    step.printed ≡ line_of_out step.who step.octets ++ line_of_end step.who step.end

-- a step of a seat that prints so
pub record IsPrintedStep (step : Step) : Type 0 where
  pub seat : step.who < 2 ^ 64
  pub prints : PrintsAnswer step ⊎ PrintsSent step

-- ---- octets are read back

digit_back : (n : ℕ) → n < 16 → hex_digit_value (hex_digit n) ≡ Some n
digit_back n low = grind (arith, nat_tests)

length-hex_text : (octets : List ℕ) → length (hex_text octets) ≡ 2 * length octets
length-hex_text [] = refl
length-hex_text (octet ∷ octets) = omega (arith, length-hex_text octets)

pairs_back : (place : ℕ) (octets : List ℕ) → list_all is_octet octets ≡ true
    → decode_pairs place (hex_text octets) ≡ Ok octets
unfolding decode_pairs
pairs_back place [] are = refl
pairs_back place (octet ∷ octets) are =
    let parts = and_parts (is_octet octet) (list_all is_octet octets) are in
    let fits : octet < 256 = grind (arith, nat_tests, parts.0) in
    let high : octet / 16 < 16 = omega arith in
    let low : octet % 16 < 16 = omega arith in
    let first : value_at (hex_digit (octet / 16)) place ≡ Ok (octet / 16) =
    ap (digit_or_error (hex_digit (octet / 16)) place) (digit_back (octet / 16) high) in
    let second : value_at (hex_digit (octet % 16)) (place + 1) ≡ Ok (octet % 16) =
    ap (digit_or_error (hex_digit (octet % 16)) (place + 1)) (digit_back (octet % 16) low) in
    let pair : pair_value (hex_digit (octet / 16)) (hex_digit (octet % 16)) place
    ≡ Ok (octet / 16 * 16 + octet % 16) = rw (first, second) refl in
    let whole : octet / 16 * 16 + octet % 16 ≡ octet = omega arith in
    decode_pairs-ok_pair place (hex_digit (octet / 16)) (hex_digit (octet % 16)) _
    (hex_text octets) pair
    ∙ ap (cons_byte (octet / 16 * 16 + octet % 16)) (pairs_back (place + 2) octets parts.1)
    ∙ ap (λ (v : ℕ). Ok (v ∷ octets)) whole

pub digits_shown-hex_text : (octets : List ℕ) → list_all is_octet octets ≡ true
    → digits_shown (hex_text octets) ≡ Some octets
digits_shown-hex_text octets are =
    ap result_ok
    (decode_of-even (hex_text octets) (omega (arith, length-hex_text octets))
    ∙ pairs_back 0 octets are)

-- ---- fronts

own_model : IsNumeralModel (λ ds. all_ascii_digits ds ≡ true) (digits_value 10)
own_model = numerals_by_value (λ ds. all_ascii_digits ds ≡ true) tells_all_ascii_digits

-- a number and a space stand in front of what begins with them
behind-same : (number rest : List ℕ)
    → behind_front (number ++ 32 ∷ []) (number ++ 32 ∷ rest) ≡ Some rest
behind-same [] rest = refl
behind-same (code ∷ number) rest =
    cond-true (eqb code code) _ _ (eq-eqb code code refl) ∙ behind-same number rest

digit-no_space : (digit : ℕ) → is_ascii_digit digit ≡ true → eqb digit 32 ≡ false
digit-no_space digit is = grind (arith, nat_tests)

space-no_digit : (digit : ℕ) → is_ascii_digit digit ≡ true → eqb 32 digit ≡ false
space-no_digit digit is = grind (arith, nat_tests)

-- no number and a space stand in front of another number and a space
behind-other : (a b rest : List ℕ) → all_ascii_digits a ≡ true → all_ascii_digits b ≡ true
    → a ≢ b → behind_front (a ++ 32 ∷ []) (b ++ 32 ∷ rest) ≡ None
behind-other [] [] rest first second other = absurd (other refl)
behind-other [] (y ∷ b) rest first second other =
    cond-false (eqb 32 y) _ _
    (space-no_digit y (and_parts (is_ascii_digit y) (all_ascii_digits b) second).0)
behind-other (x ∷ a) [] rest first second other =
    cond-false (eqb x 32) _ _
    (digit-no_space x (and_parts (is_ascii_digit x) (all_ascii_digits a) first).0)
behind-other (x ∷ a) (y ∷ b) rest first second other =
    choose (eqb x y) refl
    (λ same. behind-other a b rest
    (and_parts (is_ascii_digit x) (all_ascii_digits a) first).1
    (and_parts (is_ascii_digit y) (all_ascii_digits b) second).1 (λ more. other cc))
  where
    choose : (same : Bool) → eqb x y ≡ same
        → (x ≡ y → behind_front (a ++ 32 ∷ []) (b ++ 32 ∷ rest) ≡ None)
        → cond same (behind_front (a ++ 32 ∷ []) (b ++ 32 ∷ rest)) None ≡ None
    choose true is further = further (eqb-true x y is)
    choose false is further = refl

seat-same : (who from : ℕ) (rest : List ℕ) → from ≡ who
    → behind_front (decimal who ++ 32 ∷ []) (decimal from ++ 32 ∷ rest) ≡ Some rest
seat-same who from rest same =
    ap (λ w. behind_front (decimal who ++ 32 ∷ []) (decimal w ++ 32 ∷ rest)) same
    ∙ behind-same (decimal who) rest

seat-other : (who from : ℕ) (rest : List ℕ) → who < 2 ^ 64 → from < 2 ^ 64 → from ≢ who
    → behind_front (decimal who ++ 32 ∷ []) (decimal from ++ 32 ∷ rest) ≡ None
seat-other who from rest fits fits' other =
    behind-other (decimal who) (decimal from) rest (digits_decimal own_model who fits)
    (digits_decimal own_model from fits')
    (λ same. other (sym (decimal_injective who from fits fits' same)))

-- ---- lines

line-shown : (who : ℕ) (line rest : List ℕ) → IsPrintable line
    → shown_to who ((line ++ 10 ∷ []) ++ rest) ≡ line_shows who line ++ shown_to who rest
line-shown who line rest are =
    ap (shown_to who) (append_assoc line (10 ∷ []) rest)
    ∙ ap (flat_map (line_shows who)) (lines-more line rest are.octets)

-- words, a number, a space and something more
pub line-printable : (words : List ℕ) (who : ℕ) (more : List ℕ) → IsPrintable words
    → IsPrintable more → IsPrintable (words ++ decimal who ++ 32 ∷ more)
line-printable words who more are others =
    printable-append (printable-append are (decimal-printable who)) (printable-cons refl others)

reply-nothing : (who from : ℕ) (reply : ReplyKind) (rest : List ℕ)
    → shown_to who (line_of_reply from reply ++ rest) ≡ shown_to who rest
reply-nothing who from reply rest =
    line-shown who (codes "reply " ++ decimal from ++ 32 ∷ reply_text reply) rest
    (line-printable (codes "reply ") from (reply_text reply) (of_words _ refl)
    (reply-printable reply))

report-nothing : (who from : ℕ) (report : ReportKind) (rest : List ℕ)
    → shown_to who (line_of_report from report ++ rest) ≡ shown_to who rest
report-nothing who from report rest =
    line-shown who (codes "report " ++ decimal from ++ 32 ∷ report_text report) rest
    (line-printable (codes "report ") from (report_text report) (of_words _ refl)
    (report-printable report))

reports-nothing : (who from : ℕ) (reports : List ReportKind) (rest : List ℕ)
    → shown_to who (flat_map (line_of_report from) reports ++ rest) ≡ shown_to who rest
reports-nothing who from [] rest = refl
reports-nothing who from (report ∷ reports) rest =
    let more : List ℕ = flat_map (line_of_report from) reports in
    ap (shown_to who) (append_assoc (line_of_report from report) more rest)
    ∙ report-nothing who from report (more ++ rest) ∙ reports-nothing who from reports rest

orders-nothing : (who : ℕ) (rows : CentreRows) (orders : List Order) (rest : List ℕ)
    → shown_to who (flat_map (line_of_order rows) orders ++ rest) ≡ shown_to who rest
orders-nothing who rows [] rest = refl
orders-nothing who rows (order ∷ orders) rest =
    let more : List ℕ = flat_map (line_of_order rows) orders in
    ap (shown_to who) (append_assoc (line_of_order rows order) more rest)
    ∙ line-shown who (codes "order " ++ order_words rows order) (more ++ rest)
    (printable-append (of_words (codes "order ") refl) (order-printable rows order))
    ∙ orders-nothing who rows orders rest

answer-nothing : (who from : ℕ) (rows : CentreRows) (answer : Answer) (rest : List ℕ)
    → shown_to who (printed_of rows from answer ++ rest) ≡ shown_to who rest
answer-nothing who from rows (Opened key) rest = refl
answer-nothing who from rows (Reply reply) rest = reply-nothing who from reply rest
answer-nothing who from rows (Reports reports) rest = reports-nothing who from reports rest
answer-nothing who from rows Closed rest = refl
answer-nothing who from rows (Orders orders) rest = orders-nothing who rows orders rest
answer-nothing who from rows Noted rest = refl

out-line : (who from octet : ℕ) (octets rest : List ℕ)
    → shown_to who (line_of_out from (octet ∷ octets) ++ rest)
    ≡ line_shows who (codes "out " ++ decimal from ++ 32 ∷ hex_text (octet ∷ octets))
    ++ shown_to who rest
out-line who from octet octets rest =
    line-shown who (codes "out " ++ decimal from ++ 32 ∷ hex_text (octet ∷ octets)) rest
    (line-printable (codes "out ") from (hex_text (octet ∷ octets)) (of_words _ refl)
    (hex-printable (octet ∷ octets)))

out-own : (who from : ℕ) (octets rest : List ℕ) → from ≡ who → list_all is_octet octets ≡ true
    → shown_to who (line_of_out from octets ++ rest) ≡ map sent_octet octets ++ shown_to who rest
out-own who from [] rest same are = refl
out-own who from (octet ∷ octets) rest same are =
    out-line who from octet octets rest
    ∙ ap (λ shown. shown ++ shown_to who rest)
    (ap (λ behind. octets_shown (option_and_then digits_shown behind) ++ [])
    (seat-same who from (hex_text (octet ∷ octets)) same)
    ∙ ap (λ found. octets_shown found ++ []) (digits_shown-hex_text (octet ∷ octets) are)
    ∙ append-nil (map sent_octet (octet ∷ octets)))

out-other : (who from : ℕ) (octets rest : List ℕ) → who < 2 ^ 64 → from < 2 ^ 64 → from ≢ who
    → shown_to who (line_of_out from octets ++ rest) ≡ shown_to who rest
out-other who from [] rest fits fits' other = refl
out-other who from (octet ∷ octets) rest fits fits' other =
    out-line who from octet octets rest
    ∙ ap (λ behind. octets_shown (option_and_then digits_shown behind) ++ [] ++ shown_to who rest)
    (seat-other who from (hex_text (octet ∷ octets)) fits fits' other)

end-line : (who from : ℕ) (end : ConnEnd) (rest : List ℕ)
    → shown_to who (line_of_end from (Some end) ++ rest)
    ≡ line_shows who (codes "ended " ++ decimal from ++ 32 ∷ end_text end) ++ shown_to who rest
end-line who from end rest =
    line-shown who (codes "ended " ++ decimal from ++ 32 ∷ end_text end) rest
    (line-printable (codes "ended ") from (end_text end) (of_words _ refl) (end-printable end))

end-own : (who from : ℕ) (end : Option ConnEnd) (rest : List ℕ) → from ≡ who
    → shown_to who (line_of_end from end ++ rest) ≡ end_shown end ++ shown_to who rest
end-own who from None rest same = refl
end-own who from (Some end) rest same =
    end-line who from end rest
    ∙ ap (λ behind. words_shown behind ++ shown_to who rest)
    (seat-same who from (end_text end) same)

end-other : (who from : ℕ) (end : Option ConnEnd) (rest : List ℕ) → who < 2 ^ 64 → from < 2 ^ 64
    → from ≢ who → shown_to who (line_of_end from end ++ rest) ≡ shown_to who rest
end-other who from None rest fits fits' other = refl
end-other who from (Some end) rest fits fits' other =
    end-line who from end rest
    ∙ ap (λ behind. words_shown behind ++ shown_to who rest)
    (seat-other who from (end_text end) fits fits' other)

-- ---- steps

sent-shown : (who from : ℕ) (octets : List ℕ) (end : Option ConnEnd) (rest : List ℕ)
    → who < 2 ^ 64 → from < 2 ^ 64 → (own : Bool) → eqb from who ≡ own
    → list_all is_octet (cond own octets []) ≡ true
    → shown_to who ((line_of_out from octets ++ line_of_end from end) ++ rest)
    ≡ cond own (all_shown octets end) [] ++ shown_to who rest
sent-shown who from octets end rest fits fits' true is are =
    let same : from ≡ who = eqb-true from who is in
    ap (shown_to who) (append_assoc (line_of_out from octets) (line_of_end from end) rest)
    ∙ out-own who from octets (line_of_end from end ++ rest) same are
    ∙ ap (λ more. map sent_octet octets ++ more) (end-own who from end rest same)
    ∙ sym (append_assoc (map sent_octet octets) (end_shown end) (shown_to who rest))
sent-shown who from octets end rest fits fits' false is are =
    let other : from ≢ who = λ same. false≢true (sym is ∙ eq-eqb from who same) in
    ap (shown_to who) (append_assoc (line_of_out from octets) (line_of_end from end) rest)
    ∙ out-other who from octets (line_of_end from end ++ rest) fits fits' other
    ∙ end-other who from end rest fits fits' other

shows-nothing : (own : Bool) → cond own (all_shown [] None) [] ≡ []
shows-nothing true = refl
shows-nothing false = refl

step-shown : (who : ℕ) (step : Step) (rest : List ℕ) → who < 2 ^ 64 → step.who < 2 ^ 64
    → PrintsAnswer step ⊎ PrintsSent step
    → list_all is_octet (cond (eqb step.who who) step.octets []) ≡ true
    → shown_to who (step.printed ++ rest) ≡ step_shows who step ++ shown_to who rest
step-shown who step rest fits fits' (inl answered) are =
    ap (λ printed. shown_to who (printed ++ rest)) answered.printed
    ∙ answer-nothing who step.who answered.rows answered.answer rest
    ∙ ap (λ shown. shown ++ shown_to who rest)
    (sym (ap (λ octets. cond (eqb step.who who) (all_shown octets step.end) []) answered.octets
    ∙ ap (λ end. cond (eqb step.who who) (all_shown [] end) []) answered.end
    ∙ shows-nothing (eqb step.who who)))
step-shown who step rest fits fits' (inr sent) are =
    ap (λ printed. shown_to who (printed ++ rest)) sent
    ∙ sent-shown who step.who step.octets step.end rest fits fits' (eqb step.who who) refl are

-- what the printed text of steps shows for the peer of a seat's link is what the steps show
pub printed_back : (who : ℕ) → who < 2 ^ 64 → (steps : List Step)
    → AllByRecursion IsPrintedStep steps → list_all is_octet (octets_to who steps) ≡ true
    → shown_to who (printed_in steps) ≡ shown_by who steps
printed_back who fits [] are octets = refl
printed_back who fits (step ∷ steps) are octets =
    let parts = and_parts (list_all is_octet (cond (eqb step.who who) step.octets []))
    (list_all is_octet (octets_to who steps))
    (sym (list_all-append is_octet (cond (eqb step.who who) step.octets [])
    (octets_to who steps)) ∙ octets) in
    step-shown who step (printed_in steps) fits are.0.seat are.0.prints parts.0
    ∙ ap (λ more. step_shows who step ++ more) (printed_back who fits steps are.1 parts.1)

-- ---- over steps of octets

octets_kept : (own : Bool) (octets : List ℕ) → IsOctets octets
    → list_all is_octet (cond own octets []) ≡ true
octets_kept true octets os = list_all-octets octets os
octets_kept false octets os = refl

octets_fit : (who : ℕ) (steps : List Step) → AllByRecursion HasOctets steps
    → list_all is_octet (octets_to who steps) ≡ true
octets_fit who [] are = refl
octets_fit who (step ∷ steps) are =
    list_all-append is_octet (cond (eqb step.who who) step.octets []) (octets_to who steps)
    ∙ and_from _ _ (octets_kept (eqb step.who who) step.octets are.0)
    (octets_fit who steps are.1)

-- what the printed text of steps of octets shows is what they show
pub steps_back : (who : ℕ) → who < 2 ^ 64 → (steps : List Step)
    → AllByRecursion IsPrintedStep steps → AllByRecursion HasOctets steps
    → shown_to who (printed_in steps) ≡ shown_by who steps
steps_back who fits steps are octets =
    printed_back who fits steps are (octets_fit who steps octets)

-- ---- where the steps show octets and an end

abbrev octet_in : ShownToPeer → List ℕ
octet_in (sent_octet octet) = octet ∷ []
octet_in (end_words words) = []

octets_in_all : (octets : List ℕ) (end : Option ConnEnd)
    → flat_map octet_in (all_shown octets end) ≡ octets
octets_in_all [] None = refl
octets_in_all [] (Some end) = refl
octets_in_all (octet ∷ octets) end = ap (λ os. octet ∷ os) (octets_in_all octets end)

octets_in_step : (own : Bool) (octets : List ℕ) (end : Option ConnEnd)
    → flat_map octet_in (cond own (all_shown octets end) []) ≡ cond own octets []
octets_in_step true octets end = octets_in_all octets end
octets_in_step false octets end = refl

octets_in_steps : (who : ℕ) (steps : List Step)
    → flat_map octet_in (shown_by who steps) ≡ octets_to who steps
octets_in_steps who [] = refl
octets_in_steps who (step ∷ steps) =
    flat_map-append octet_in (step_shows who step) (shown_by who steps)
    ∙ ap (λ os. os ++ flat_map octet_in (shown_by who steps))
    (octets_in_step (eqb step.who who) step.octets step.end)
    ∙ ap (λ os. cond (eqb step.who who) step.octets [] ++ os) (octets_in_steps who steps)

-- where steps show these octets and this end, so does their printed text
pub shown_back : (who : ℕ) → who < 2 ^ 64 → (steps : List Step)
    → AllByRecursion IsPrintedStep steps → (octets : List ℕ) (end : Option ConnEnd)
    → IsOctets octets → shown_by who steps ≡ all_shown octets end
    → shown_to who (printed_in steps) ≡ all_shown octets end
shown_back who fits steps are octets end os shows =
    let same : octets_to who steps ≡ octets =
    sym (octets_in_steps who steps) ∙ ap (λ shown. flat_map octet_in shown) shows
    ∙ octets_in_all octets end in
    printed_back who fits steps are (ap (λ all. list_all is_octet all) same
    ∙ list_all-octets octets os) ∙ shows
