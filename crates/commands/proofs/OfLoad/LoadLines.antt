-- The lines of the load run's scenario: each is words with a space between each two, all of them of
-- printing characters.
use Rattle.std.proofs.Common.{◌≡◌, ℕ, ◌+◌, ◌*◌, ◌%◌, ◌^◌, ◌<◌, ◌≤◌, Bool, true, false}
use Rattle.std.proofs.Common.{◌==◌, cond, leb}
use Rattle.std.proofs.Common.{List, [], ◌∷◌, ◌++◌, map, length, refl, sym, ap, ◌∙◌, arith}
use Rattle.std.proofs.Common.{append_assoc, append-nil}
use Rattle.std.specs.Prelude.{decimal, codes}
use Rattle.std.specs.Fmt.{digits}
use Rattle.std.specs.List.{list_all}
use Rattle.std.proofs.lemmas.Bool.{and_parts, and_from}
use Rattle.std.proofs.lemmas.List.Folds.{flat_map-map}
use Rattle.plain_text.specs.Octets.{hex_text}
use Rattle.mms_data.specs.Text.Texts.{name_text, data_text}
use Rattle.bilateral.specs.Writing.{spaced}
use Rattle.bilateral.proofs.CleanWords.{AreClean}
use Rattle.bilateral.proofs.OfWords.VisibleWords.{list_all-weaker}
use Rattle.tase_views.specs.declared.call.CallKind.{CallKind}
use Rattle.tase_views.specs.declared.event.EventKind.TheVariants.{Request, Update}
use Rattle.texts.specs.Events.CallWords.{call_words}
use Rattle.texts.proofs.OfEvents.Graphic.{is_graphic, decimal_graphic}
use Rattle.texts.proofs.OfEvents.Parted.{IsPrinted, ArePrinted, after_spaces}
use Rattle.texts.proofs.OfJournal.EventTexts.{event_printed, decimal_printed}
use Rattle.commands.specs.declared.load.tables.TheConstants.{POINTS, PEERS}
use Rattle.commands.specs.declared.load.scenario.TheConstants.{MEMBERS}
use Rattle.commands.specs.Load.Generated.{load_member, seen_point}
use Rattle.commands.specs.Load.Generated as own
use Rattle.commands.specs.Load.Rows.{list_below}
use Rattle.commands.proofs.OfLoad.WrittenRows.{each_written}
use Rattle.commands.proofs.OfLoad.LoadPast.{value_of_round}
use Rattle.commands.proofs.OfLoad.LoadCalls.{own_name, name_text-is, member_of, define_call}
use Rattle.commands.proofs.OfLoad.LoadCalls.{next_set_call, enable_call, wish_by, wish_text-is}
use Rattle.commands.proofs.OfLoad.LoadCalls.{behind_set, IsSpelled, value_words, point_identifier}

-- a line of words, and its end
abbrev pub line_of : List (List ℕ) → List ℕ
line_of words = spaced words ++ 10 ∷ []

-- ---- the words

abbrev pub open_words : ℕ → List (List ℕ)
open_words k = codes "open" ∷ decimal (k + 1) ∷ (75 ∷ decimal k) ∷ []

abbrev pub say_words : ℕ → CallKind → List (List ℕ)
say_words k call = codes "say" ∷ decimal (k + 1) ∷ call_words call

abbrev pub update_words : ℕ → ℕ → List (List ℕ)
update_words m r =
    codes "update" ∷ (80 ∷ decimal m) ∷ (100 ∷ decimal r) ∷ hex_text (0 ∷ []) ∷ decimal r
    ∷ decimal 0 ∷ []

abbrev pub tick_words : ℕ → List (List ℕ)
tick_words now = codes "tick" ∷ decimal now ∷ []

abbrev pub take_words : ℕ → List (List ℕ)
take_words k = codes "take" ∷ decimal (k + 1) ∷ []

-- ---- they are words

clean_graphic : (octet : ℕ) → is_graphic octet ≡ true → leb 33 octet ≡ true
clean_graphic octet graphic = (and_parts (leb 33 octet) (leb octet 126) graphic).0

clean_printed : (words : List (List ℕ)) → ArePrinted words → AreClean words
clean_printed [] are = tt
clean_printed (word ∷ words) are = (
  record {
    some = are.0.some;
    octets = list_all-weaker is_graphic (λ octet. leb 33 octet) clean_graphic word are.0.graphic;
  },
  clean_printed words are.1,
)

verb : (word : List ℕ) → 0 < length word → list_all is_graphic word ≡ true → IsPrinted word
verb word some graphic = record { some = some; graphic = graphic }

-- a letter and a number
numbered : (first n : ℕ) → is_graphic first ≡ true → n < 2 ^ 64 → IsPrinted (first ∷ decimal n)
numbered first n letter small = record {
  some = omega arith;
  graphic = and_from (is_graphic first) (list_all is_graphic (decimal n)) letter
      (decimal_graphic n small);
}

pub open_clean : (k : ℕ) → k < PEERS → AreClean (open_words k)
open_clean k known =
    clean_printed (open_words k) (
      verb (codes "open") (omega arith) refl,
      (
        decimal_printed (k + 1) (omega (arith, known)),
        (numbered 75 k refl (omega (arith, known)), tt),
      ),
    )

pub say_clean : (k : ℕ) (call : CallKind) → k < PEERS → IsSpelled call → AreClean (say_words k call)
say_clean k call known spelled =
    clean_printed (say_words k call) (
      verb (codes "say") (omega arith) refl,
      (
        decimal_printed (k + 1) (omega (arith, known)),
        (event_printed (Request call) (spelled.lawful, spelled.textual)).1,
      ),
    )

pub update_clean : (m r : ℕ) → m < POINTS → r ≤ 2000 → AreClean (update_words m r)
update_clean m r below few =
    let words = value_words r few in
    clean_printed (update_words m r) (
      verb (codes "update") (omega arith) refl,
      (
        numbered 80 m refl (omega (arith, below)),
        (event_printed (Update m (value_of_round r))
            (omega (arith, below), words.ranges, words.textual)).1.1,
      ),
    )

pub tick_clean : (now : ℕ) → now ≤ 2000000 → AreClean (tick_words now)
tick_clean now early =
    clean_printed (tick_words now) (
      verb (codes "tick") (omega arith) refl,
      (decimal_printed now (omega (arith, early)), tt),
    )

pub take_clean : (k : ℕ) → k < PEERS → AreClean (take_words k)
take_clean k known =
    clean_printed (take_words k) (
      verb (codes "take") (omega arith) refl,
      (decimal_printed (k + 1) (omega (arith, known)), tt),
    )

-- ---- their lines

spaced-after : (word : List ℕ) (more : List (List ℕ))
    → spaced (word ∷ more) ≡ word ++ after_spaces more
spaced-after word [] = sym (append-nil word)
spaced-after word (next ∷ more) = ap (λ rest. word ++ 32 ∷ rest) (spaced-after next more)

pub open-line : (k : ℕ) → own.load_open k ≡ line_of (open_words k)
open-line k = simp append_assoc

pub tick-line : (before : ℕ) → own.load_tick before ≡ line_of (tick_words (1000 * (before + 1)))
tick-line before = simp append_assoc

pub take-line : (k : ℕ) → own.load_take k ≡ line_of (take_words k)
take-line k = simp append_assoc

none-is : decimal 0 ≡ codes "0"
unfolding digits
none-is = refl

digits_last : (m r : ℕ)
    → own.update_line m r ≡ line_of (codes "update" ∷ (80 ∷ decimal m) ∷ (100 ∷ decimal r)
    ∷ codes "00" ∷ decimal r ∷ codes "0" ∷ [])
digits_last m r = simp append_assoc

pub update-line : (m r : ℕ) → own.update_line m r ≡ line_of (update_words m r)
update-line m r =
    digits_last m r ∙ ap (λ none. line_of (codes "update" ∷ (80 ∷ decimal m) ∷ (100 ∷ decimal r)
    ∷ codes "00" ∷ decimal r ∷ none ∷ [])) (sym none-is)

pub define-line : (k : ℕ) → k < PEERS
    → own.load_define k ≡ line_of (say_words k (define_call k))
define-line k known =
    let names = list_below (member_of k) MEMBERS in
    sym (
    ap (λ rest. codes "say " ++ (decimal (k + 1) ++ (codes " define " ++ rest)) ++ 10 ∷ [])
    (spaced-after (name_text (own_name k (codes "DS"))) (map name_text names)
    ∙ ap (λ set. set ++ after_spaces (map name_text names))
    (name_text-is k (codes "DS") known refl)
    ∙ ap (λ members. (68 ∷ (decimal k ++ codes "/DS")) ++ members)
    (flat_map-map (λ word. 32 ∷ word) name_text names
    ∙ each_written (λ name. 32 ∷ name_text name) (member_of k) (load_member k) MEMBERS
    (λ j below. ap (λ text. 32 ∷ text)
    (name_text-is k (80 ∷ decimal (seen_point k j)) known (point_identifier k j))
    ∙ simp append_assoc)))
    ∙ simp append_assoc
    )

pub next_set-line : (k : ℕ) → k < PEERS
    → own.load_next_set k ≡ line_of (say_words k (next_set_call k))
next_set-line k known =
    sym (
    ap (λ name. codes "say " ++ (decimal (k + 1) ++ (codes " read " ++ name)) ++ 10 ∷ [])
    (name_text-is k (codes "Next_DSTransfer_Set") known refl)
    ∙ simp append_assoc
    )

behind-is : (k : ℕ) → own.wish_behind_set k ≡ behind_set ((k % 2) == 0)
behind-is k = by ((k % 2) == 0)
  where
    by : (periodic : Bool)
        → cond periodic (codes "},i0,i10,i0,i0,i0,b5.80,F,F,F,F,T,i0}")
        (codes "},i0,i0,i0,i0,i0,b5.20,F,F,T,F,T,i0}") ≡ behind_set periodic
    by true = refl
    by false = refl

pub enable-line : (k : ℕ) → k < PEERS
    → own.load_enable k ≡ line_of (say_words k (enable_call k))
enable-line k known =
    ap (λ wish. own.enable_line k wish) (behind-is k)
    ∙ sym (
    ap (λ name. codes "say " ++ (decimal (k + 1) ++ (codes " write "
    ++ (name ++ 61 ∷ data_text (wish_by ((k % 2) == 0) (68 ∷ decimal k))))) ++ 10 ∷ [])
    (name_text-is k (codes "DSTrans1") known refl)
    ∙ ap (λ wish. codes "say " ++ (decimal (k + 1) ++ (codes " write "
    ++ ((68 ∷ (decimal k ++ codes "/DSTrans1")) ++ 61 ∷ wish))) ++ 10 ∷ [])
    (wish_text-is ((k % 2) == 0) k known)
    ∙ simp append_assoc
    )
