-- A line is an entry exactly where it is that entry's text, and a journal is of one history.
use Rattle.std.proofs.Common.{◌≡◌, ℕ, ◌==◌, Bool, true, false, List, [], ◌∷◌, ◌++◌}
use Rattle.std.proofs.Common.{Some, None, filter, decimal, refl, sym, ap, ◌∙◌, subst, arith}
use Rattle.std.proofs.Common.{append_assoc, append-nil}
use Rattle.std.proofs.lemmas.List.Folds.{list_all-append}
use Rattle.std.specs.Prelude.{if◌then◌else◌, map, nat_le}
use Rattle.std.specs.List.{All, list_all, slice_split, join_with_byte}
use Rattle.std.proofs.lemmas.Bool.{and_parts}
use Rattle.std.proofs.lemmas.Bool.Decides.{nat_tests}
use Rattle.std.proofs.lemmas.List.Elements.{All-nil, All-cons, All-head, All-tail}
use Rattle.std.proofs.lemmas.List.Splits.{slice_split_none, slice_split_at}
use Rattle.std.proofs.lemmas.List.Splits.{join_with_byte-slice_split}
use Rattle.std.proofs.lemmas.Option.{none-some, same_Some}
use Rattle.std.specs.Str.Lines.{lines}
use Rattle.plain_text.specs.Words.{words, is_word, each_in}
use Rattle.mms_data.proofs.OfText.WordText.{chosen}
use Rattle.tase_views.specs.declared.event.Entry.{Entry}
use Rattle.texts.proofs.OfEvents.Graphic.{is_graphic, AreGraphic}
use Rattle.texts.proofs.OfEvents.Parted.{IsPrinted, ArePrinted, after_spaces, words-parted}
use Rattle.texts.specs.Journal.Journals.{entry_text, journal_text}
use Rattle.texts.specs.Journal.Entries.{is_single_spaced, seat_event_in, entry_in, IsEntry}
use Rattle.texts.proofs.OfJournal.CallParts.{each_in-words}
use Rattle.texts.proofs.OfJournal.TextLines.{IsPlainLine, lines-more}
use Rattle.texts.proofs.OfJournal.EventWords.{event_words, entry_words, entry-found, entry-read}
use Rattle.texts.proofs.OfJournal.EventTexts.{entry_text-is, decimal_printed, event_printed}

-- ---- words with a space between each two

-- a space
abbrev is_space : ℕ → Bool
is_space octet = octet == 32

unspaced : (os : List ℕ) → AreGraphic os → All (λ c. is_space c ≡ false) os
unspaced [] e = All-nil (λ c. is_space c ≡ false)
unspaced (c ∷ os) e =
    let parts = and_parts (is_graphic c) _ e in
    All-cons (λ c. is_space c ≡ false) c os (other c parts.0) (unspaced os parts.1)
  where
    other : (c : ℕ) → is_graphic c ≡ true → is_space c ≡ false
    other c e = grind (arith, nat_tests, e)

parted : (word : List ℕ) (others : List (List ℕ)) → IsPrinted word → ArePrinted others
    → slice_split is_space (word ++ after_spaces others) ≡ word ∷ others
parted word [] h k =
    ap (slice_split is_space) (append-nil word)
    ∙ slice_split_none is_space word (unspaced word h.graphic)
parted word (next ∷ others) h k =
    slice_split_at is_space word 32 (next ++ after_spaces others) (unspaced word h.graphic) refl
    ∙ ap (λ t. word ∷ t) (parted next others k.0 k.1)

all_words : (ws : List (List ℕ)) → ArePrinted ws → list_all is_word ws ≡ true
all_words [] h = refl
all_words ([] ∷ ws) h = absurd (omega (arith, h.0.some))
all_words ((c ∷ w) ∷ ws) h = all_words ws h.1

joined : (word : List ℕ) (others : List (List ℕ))
    → join_with_byte 32 (word ∷ others) ≡ word ++ after_spaces others
joined word [] = sym (append-nil word)
joined word (next ∷ others) = ap (λ t. word ++ 32 ∷ t) (joined next others)

kept_all : (ws : List (List ℕ)) → list_all is_word ws ≡ true → filter is_word ws ≡ ws
kept_all [] e = refl
kept_all (w ∷ ws) e =
    let parts = and_parts (is_word w) _ e in
    rw parts.0 (ap (λ t. w ∷ t) (kept_all ws parts.1))

-- a line with one space between each two words is these words
rejoined : (line : List ℕ) → is_single_spaced line ≡ true → line ≡ join_with_byte 32 (words line)
rejoined line e =
    sym (join_with_byte-slice_split 32 line)
    ∙ ap (join_with_byte 32) (sym (kept_all (slice_split is_space line) e))

-- ---- a line and its entry

pub entry_in-found : (line : List ℕ) (entry : Entry) → entry_in line ≡ Some entry
    → (line ≡ entry_text entry) × IsEntry entry
entry_in-found line entry e =
    chosen ((line ≡ entry_text entry) × IsEntry entry) entry (is_single_spaced line)
    (seat_event_in (words line)) None
    (λ single k.
    let found = entry-found (words line) entry k in (
      rejoined line single
          ∙ ap (join_with_byte 32) found.0
          ∙ joined (decimal entry.who) (event_words entry.event)
          ∙ sym (entry_text-is entry),
      found.1,
    ))
    (λ other k. absurd (none-some entry k)) e

if_true : {A : Type 0} (test : Bool) (x y : A) → test ≡ true → (if test then x else y) ≡ x
if_true true x y e = refl
if_true false x y e = absurd cc

pub entry_in-text : (entry : Entry) → IsEntry entry → entry_in (entry_text entry) ≡ Some entry
entry_in-text entry h =
    let who = decimal_printed entry.who h.who in
    let event = event_printed entry.event h.event in
    let line : List ℕ = decimal entry.who ++ after_spaces (event_words entry.event) in
    let single : is_single_spaced line ≡ true =
    ap (list_all is_word) (parted (decimal entry.who) (event_words entry.event) who event)
    ∙ all_words (entry_words entry) (who, event) in
    ap entry_in (entry_text-is entry)
    ∙ if_true (is_single_spaced line) (seat_event_in (words line)) None single
    ∙ ap seat_event_in (words-parted (decimal entry.who) (event_words entry.event) who event)
    ∙ entry-read entry h

-- ---- a journal and its history

graphic_plain : (os : List ℕ) → AreGraphic os → IsPlainLine os
graphic_plain [] e = refl
graphic_plain (c ∷ os) e =
    let parts = and_parts (is_graphic c) _ e in
    rw (high c parts.0, graphic_plain os parts.1) refl
  where
    high : (c : ℕ) → is_graphic c ≡ true → nat_le 32 c ≡ true
    high c e = grind (arith, nat_tests, e)

words_plain : (word : List ℕ) (others : List (List ℕ)) → IsPrinted word → ArePrinted others
    → IsPlainLine (word ++ after_spaces others)
words_plain word [] h k = rw (append-nil word) (graphic_plain word h.graphic)
words_plain word (next ∷ others) h k =
    rw (
      list_all-append (λ c. nat_le 32 c) word (32 ∷ (next ++ after_spaces others)),
      graphic_plain word h.graphic,
    ) (words_plain next others k.0 k.1)

entry_plain : (entry : Entry) → IsEntry entry → IsPlainLine (entry_text entry)
entry_plain entry h =
    subst IsPlainLine (sym (entry_text-is entry))
    (words_plain (decimal entry.who) (event_words entry.event)
    (decimal_printed entry.who h.who) (event_printed entry.event h.event))

pub journal_lines : (entries : List Entry) → All IsEntry entries
    → lines (journal_text entries) ≡ map entry_text entries
journal_lines [] all = refl
journal_lines (entry ∷ entries) all =
    ap lines (append_assoc (entry_text entry) (10 ∷ []) (journal_text entries))
    ∙ lines-more (entry_text entry) (journal_text entries)
    (entry_plain entry (All-head IsEntry entry entries all))
    ∙ ap (λ ls. entry_text entry ∷ ls)
    (journal_lines entries (All-tail IsEntry entry entries all))

pub journal_read : (entries : List Entry) → All IsEntry entries
    → each_in entry_in (lines (journal_text entries)) ≡ Some entries
journal_read entries all =
    ap (each_in entry_in) (journal_lines entries all)
    ∙ each_in-words entry_in entry_text IsEntry entry_in-text entries all

pub same_journal : (a b : List Entry) → All IsEntry a → All IsEntry b
    → journal_text a ≡ journal_text b → a ≡ b
same_journal a b all each e =
    same_Some a b (sym (journal_read a all)
    ∙ ap (λ t. each_in entry_in (lines t)) e
    ∙ journal_read b each)
