-- The words of the load run's scenario: what its calls and its updates are spelled as, and that
-- these words are read as them.
use Rattle.std.proofs.Common.{◌≡◌, ◌≢◌, ℕ, ◌+◌, ◌%◌, ◌^◌, ◌<◌, ◌≤◌, Bool, true, false, ◌||◌}
use Rattle.std.proofs.Common.{◌==◌, cond, List, [], ◌∷◌, ◌++◌, pos}
use Rattle.std.proofs.Common.{Some, None, refl, ap, ◌∙◌, inl, inr, arith, append_assoc}
use Rattle.std.proofs.Common.{position, bytes_eq, max}
use Rattle.std.specs.Prelude.{decimal, codes, option_and_then, option_map}
use Rattle.std.specs.Fmt.{digits}
use Rattle.std.specs.Int.{w64}
use Rattle.std.specs.Int.RustNames.{FitsSigned}
use Rattle.std.specs.List.{list_all}
use Rattle.std.specs.Char.{is_ascii_alphanumeric}
use Rattle.std.specs.Cmp.Lexicographic.{bytes_decides}
use Rattle.std.proofs.lemmas.Bool.{cases_Bool, cond-true, and_parts}
use Rattle.std.proofs.lemmas.Bool.Decides.{nat_tests}
use Rattle.std.proofs.lemmas.List.Elements.{All-nil, All-cons}
use Rattle.plain_text.specs.Escaped.{is_plain, escaped_text}
use Rattle.plain_text.specs.Octets.{hex_text}
use Rattle.tase_points.specs.Points.{kind_of}
use Rattle.tase_points.specs.Same.{same_kind}
use Rattle.ber_values.specs.Bits.{IsBits}
use Rattle.mms_data.specs.ObjectName.{ObjectName, IsIdentifier, IsName}
use Rattle.mms_data.specs.declared.object_name.Scope.TheVariants.{Domain}
use Rattle.mms_data.specs.Datum.{Datum, boolean, integer, bits, text, structure, Data, datum}
use Rattle.mms_data.specs.Datum.{no_data}
use Rattle.mms_data.specs.Datum.{depth, deepest}
use Rattle.mms_data.specs.Lawful.{IsLawful, KeepUnsigned}
use Rattle.mms_data.specs.Text.Texts.{name_text, data_text, further_text}
use Rattle.mms_data.specs.Text.TextRead.{HasText, AreTextual}
use Rattle.mms_data.proofs.OfText.LeafRead.{number-read}
use Rattle.bilateral.specs.Words.Words.{is_identifier}
use Rattle.bilateral.specs.declared.rows.PointRow.{PointRow}
use Rattle.bilateral.specs.declared.rows.Table.{Table}
use Rattle.bilateral.specs.Rows.{place_of_point, place_of_peer, no_point, no_table}
use Rattle.bilateral.proofs.CleanWords.{clean_identifier}
use Rattle.bilateral.proofs.OfWords.VisibleWords.{IsVisible-from_identifier}
use Rattle.bilateral.proofs.Positions.{found}
use Rattle.tase_views.specs.Calls.{IsCall}
use Rattle.tase_views.specs.declared.call.CallKind.{CallKind}
use Rattle.tase_views.specs.declared.call.CallKind.TheVariants.{Read, Write, Define}
use Rattle.tase_views.specs.declared.event.EventKind.TheVariants.{Update, Tick}
use Rattle.texts.specs.Events.CallWords.{HasWords}
use Rattle.texts.specs.Events.FeedLines.{update_in, update_of, sample_in, tick_in, AreValueWords}
use Rattle.texts.proofs.OfEvents.ValueWords.{value-read}
use Rattle.commands.specs.declared.load.tables.TheConstants.{POINTS, PEERS}
use Rattle.commands.specs.declared.load.scenario.TheConstants.{MEMBERS}
use Rattle.commands.specs.Load.Generated.{seen_point}
use Rattle.commands.specs.Load.Rows.{list_below, load_point_row, load_table, load_rows}
use Rattle.commands.proofs.OfLoad.LoadRows.{list_below-at, length-list_below, all_below}
use Rattle.commands.proofs.OfLoad.LoadRows.{numbered_apart, numbered_identifier}
use Rattle.commands.proofs.OfLoad.LoadPast.{value_of_round}

-- ---- names of a peer's domain

plain_in_identifiers : (octet : ℕ)
    → (is_ascii_alphanumeric octet || (octet == 95) || (octet == 36)) ≡ true
    → is_plain octet ≡ true
plain_in_identifiers octet in_word = grind (arith, nat_tests)

escaped_each : (octets : List ℕ)
    → list_all (λ octet. is_ascii_alphanumeric octet || (octet == 95) || (octet == 36)) octets
    ≡ true → escaped_text octets ≡ octets
escaped_each [] each = refl
escaped_each (octet ∷ octets) each =
    let parts = and_parts (is_ascii_alphanumeric octet || (octet == 95) || (octet == 36)) _ each in
    ap (λ front. front ++ escaped_text octets)
    (cond-true (is_plain octet) (octet ∷ []) _ (plain_in_identifiers octet parts.0))
    ∙ ap (λ more. octet ∷ more) (escaped_each octets parts.1)

-- an identifier stands for itself
escaped_same : (word : List ℕ) → is_identifier word ≡ true → escaped_text word ≡ word
escaped_same word identifier = escaped_each word (and_parts _ _ identifier).1

named : (word : List ℕ) → is_identifier word ≡ true → IsIdentifier word
named word identifier =
    ((clean_identifier word identifier).some, IsVisible-from_identifier word identifier)

-- an item of the domain of peer k
abbrev pub own_name : ℕ → List ℕ → ObjectName
own_name k item = record { scope = Domain (codes "D" ++ decimal k); item = item }

domain_identifier : (k : ℕ) → k < PEERS → is_identifier (68 ∷ decimal k) ≡ true
domain_identifier k known = numbered_identifier 68 k refl (omega (arith, known))

name_lawful : (k : ℕ) (item : List ℕ) → k < PEERS → is_identifier item ≡ true
    → IsName (own_name k item)
name_lawful k item known identifier =
    (named (68 ∷ decimal k) (domain_identifier k known), named item identifier)

pub name_text-is : (k : ℕ) (item : List ℕ) → k < PEERS → is_identifier item ≡ true
    → name_text (own_name k item) ≡ 68 ∷ (decimal k ++ 47 ∷ item)
name_text-is k item known identifier =
    ap (λ domain. (domain ++ codes "/") ++ escaped_text item)
    (escaped_same (68 ∷ decimal k) (domain_identifier k known))
    ∙ ap (λ i. ((68 ∷ decimal k) ++ codes "/") ++ i) (escaped_same item identifier)
    ∙ append_assoc (68 ∷ decimal k) (codes "/") item

pub point_identifier : (k j : ℕ) → is_identifier (80 ∷ decimal (seen_point k j)) ≡ true
point_identifier k j = numbered_identifier 80 (seen_point k j) refl (omega arith)

-- ---- the calls

abbrev pub member_of : ℕ → ℕ → ObjectName
member_of k j = own_name k (80 ∷ decimal (seen_point k j))

abbrev pub define_call : ℕ → CallKind
define_call k = Define (own_name k (codes "DS")) (list_below (member_of k) MEMBERS)

abbrev pub next_set_call : ℕ → CallKind
next_set_call k = Read (own_name k (codes "Next_DSTransfer_Set") ∷ []) false

abbrev int : ℕ → Datum
int n = integer (pos n)

-- the data set of a wish, by the domain of the peer
abbrev set_wished : List ℕ → Datum
set_wished domain =
    structure (datum (int 1) (datum (text domain) (datum (text (codes "DS")) no_data)))

abbrev flag : Bool → Datum
flag b = boolean b

-- what stands in a wish behind its data set, by whether reports are periodic
abbrev wish_tail : Bool → Data
wish_tail true =
    datum (int 0) (datum (int 10) (datum (int 0) (datum (int 0) (datum (int 0)
    (datum (bits (record { count = 5; octets = 128 ∷ [] })) (datum (flag false) (datum (flag false)
    (datum (flag false) (datum (flag false) (datum (flag true) (datum (int 0) no_data)))))))))))
wish_tail false =
    datum (int 0) (datum (int 0) (datum (int 0) (datum (int 0) (datum (int 0)
    (datum (bits (record { count = 5; octets = 32 ∷ [] })) (datum (flag false) (datum (flag false)
    (datum (flag true) (datum (flag false) (datum (flag true) (datum (int 0) no_data)))))))))))

abbrev pub wish_by : Bool → List ℕ → Datum
wish_by periodic domain = structure (datum (set_wished domain) (wish_tail periodic))

-- what stands behind the data set's name
abbrev pub behind_set : Bool → List ℕ
behind_set true = codes "},i0,i10,i0,i0,i0,b5.80,F,F,F,F,T,i0}"
behind_set false = codes "},i0,i0,i0,i0,i0,b5.20,F,F,T,F,T,i0}"

tail_text : (periodic : Bool)
    → (codes "}" ++ further_text (wish_tail periodic)) ++ codes "}" ≡ behind_set periodic
unfolding digits
tail_text true = refl
tail_text false = refl

pieces : (a b c d : List ℕ) → (((a ++ b) ++ c) ++ d) ++ c ≡ a ++ (b ++ ((c ++ d) ++ c))
pieces a b c d = simp append_assoc

wish_text : (periodic : Bool) (domain : List ℕ)
    → data_text (wish_by periodic domain)
    ≡ codes "{{i1,v" ++ (escaped_text domain ++ (codes ",vDS" ++ behind_set periodic))
unfolding digits
wish_text periodic domain =
    ap (λ rest. codes "{{i1,v" ++ rest)
    (pieces (escaped_text domain) (codes ",vDS") (codes "}") (further_text (wish_tail periodic)))
    ∙ ap (λ tail. codes "{{i1,v" ++ (escaped_text domain ++ (codes ",vDS" ++ tail)))
    (tail_text periodic)

pub wish_text-is : (periodic : Bool) (k : ℕ) → k < PEERS
    → data_text (wish_by periodic (68 ∷ decimal k))
    ≡ codes "{{i1,vD" ++ (decimal k ++ (codes ",vDS" ++ behind_set periodic))
wish_text-is periodic k known =
    wish_text periodic (68 ∷ decimal k)
    ∙ ap (λ domain. codes "{{i1,v" ++ (domain ++ (codes ",vDS" ++ behind_set periodic)))
    (escaped_same (68 ∷ decimal k) (domain_identifier k known))

tail_low : (periodic : Bool) → KeepUnsigned (wish_tail periodic)
tail_low true = (tt, (tt, (tt, (tt, (tt, (tt, (tt, (tt, (tt, (tt, (tt, (tt, tt))))))))))))
tail_low false = (tt, (tt, (tt, (tt, (tt, (tt, (tt, (tt, (tt, (tt, (tt, (tt, tt))))))))))))

tail_shallow : (periodic : Bool) → deepest (wish_tail periodic) ≡ 1
tail_shallow true = refl
tail_shallow false = refl

wish_shallow : (periodic : Bool) (domain : List ℕ) → depth (wish_by periodic domain) ≡ 3
wish_shallow periodic domain = ap (λ d. max 2 d + 1) (tail_shallow periodic)

wish_lawful : (periodic : Bool) (domain : List ℕ) → IsLawful (wish_by periodic domain)
wish_lawful periodic domain = record {
  shallow = omega (arith, wish_shallow periodic domain);
  numbers = ((tt, (tt, (tt, tt))), tail_low periodic);
}

fits : (n : ℕ) → n < 2 ^ 63 → FitsSigned w64 (pos n)
fits n small = record { sfits = omega (arith, small) }

tail_textual : (periodic : Bool) → FitsSigned w64 (pos 0) → AreTextual (wish_tail periodic)
tail_textual true none =
    let bit : IsBits (record { count = 5; octets = 128 ∷ [] }) × (5 < 2 ^ 64) =
    (record { fitting = refl; in_octets = refl; padded = refl }, omega arith) in
    let ten = fits 10 (omega arith) in
    (none, (ten, (none, (none, (none, (bit, (tt, (tt, (tt, (tt, (tt, (none, tt))))))))))))
tail_textual false none =
    let bit : IsBits (record { count = 5; octets = 32 ∷ [] }) × (5 < 2 ^ 64) =
    (record { fitting = refl; in_octets = refl; padded = refl }, omega arith) in
    (none, (none, (none, (none, (none, (bit, (tt, (tt, (tt, (tt, (tt, (none, tt))))))))))))

wish_textual : (periodic : Bool) (domain : List ℕ) → is_identifier domain ≡ true
    → HasText (wish_by periodic domain)
wish_textual periodic domain identifier = record {
  shallow = omega (arith, wish_shallow periodic domain);
  parts = (
    (
      fits 1 (omega arith),
      (
        IsVisible-from_identifier domain identifier,
        (IsVisible-from_identifier (codes "DS") refl, tt),
      ),
    ),
    tail_textual periodic (fits 0 (omega arith)),
  );
}

abbrev pub enable_call : ℕ → CallKind
enable_call k =
    Write (own_name k (codes "DSTrans1") ∷ []) (wish_by ((k % 2) == 0) (68 ∷ decimal k) ∷ [])

-- a call that words spell
pub record IsSpelled (call : CallKind) : Type 0 where
  pub lawful : IsCall call
  pub textual : HasWords call

pub define_spelled : (k : ℕ) → k < PEERS → IsSpelled (define_call k)
define_spelled k known = record {
  lawful = omega (arith, length-list_below (member_of k) MEMBERS);
  textual = (
    name_lawful k (codes "DS") known refl,
    all_below IsName (member_of k) MEMBERS
        (λ j below. name_lawful k (80 ∷ decimal (seen_point k j)) known (point_identifier k j)),
  );
}

pub next_set_spelled : (k : ℕ) → k < PEERS → IsSpelled (next_set_call k)
next_set_spelled k known = record {
  lawful = omega arith;
  textual = All-cons IsName (own_name k (codes "Next_DSTransfer_Set")) []
      (name_lawful k (codes "Next_DSTransfer_Set") known refl) (All-nil IsName);
}

pub enable_spelled : (k : ℕ) → k < PEERS → IsSpelled (enable_call k)
enable_spelled k known =
    let wish = wish_by ((k % 2) == 0) (68 ∷ decimal k) in
    record {
      lawful = (
        omega arith,
        refl,
        All-cons IsLawful wish [] (wish_lawful ((k % 2) == 0) (68 ∷ decimal k)) (All-nil IsLawful),
      );
      textual = (
        All-cons IsName (own_name k (codes "DSTrans1")) []
            (name_lawful k (codes "DSTrans1") known refl) (All-nil IsName),
        All-cons HasText wish []
            (wish_textual ((k % 2) == 0) (68 ∷ decimal k) (domain_identifier k known))
            (All-nil HasText),
      );
    }

-- ---- points and peers by their names

same_octets : (a b : List ℕ) → a ≢ b → bytes_eq a b ≡ false
same_octets a b apart =
    elim (cases_Bool (bytes_eq a b))
    [ inl same ↦ absurd (apart ((bytes_decides a b).0 same)) | inr other ↦ other ]

found_below : {A : Type 0} (name : A → List ℕ) (item : ℕ → A) (n i : ℕ) (d : A) → i < n
    → ((k : ℕ) → k < i → name (item k) ≢ name (item i))
    → position (λ row. bytes_eq (name row) (name (item i))) (list_below item n) ≡ Some i
found_below name item n i d below apart =
    found (λ row. bytes_eq (name row) (name (item i))) (list_below item n) i d
    (omega (arith, below, length-list_below item n))
    (ap (λ row. bytes_eq (name row) (name (item i))) (list_below-at item n i d below)
    ∙ (bytes_decides (name (item i)) (name (item i))).1 refl)
    (λ k early. ap (λ row. bytes_eq (name row) (name (item i)))
    (list_below-at item n k d (omega (arith, early, below)))
    ∙ same_octets (name (item k)) (name (item i)) (apart k early))

pub point_found : (m : ℕ) → m < POINTS → place_of_point load_rows (80 ∷ decimal m) ≡ Some m
point_found m below =
    found_below (λ (row : PointRow). row.name) load_point_row POINTS m no_point below
    (λ k early. numbered_apart 80 k m early (omega (arith, below)))

pub peer_found : (k : ℕ) → k < PEERS → place_of_peer load_rows (75 ∷ decimal k) ≡ Some k
peer_found k below =
    found_below (λ (table : Table). table.key) load_table PEERS k no_table below
    (λ i early. numbered_apart 75 i k early (omega (arith, below)))

-- ---- updates and ticks

pub value_words : (r : ℕ) → r ≤ 2000
    → AreValueWords (100 ∷ decimal r) (hex_text (0 ∷ [])) (decimal r) (decimal 0) (value_of_round r)
value_words r few = record {
  body_is = refl;
  flags_are = refl;
  seconds_are = refl;
  millis_are = refl;
  ranges = record {
    state = omega arith;
    flags = omega arith;
    seconds = omega (arith, few);
    millis = omega arith;
  };
  textual = record { sfits = omega (arith, few) };
}

pub update_read : (m r : ℕ) → m < POINTS → r ≤ 2000
    → update_in load_rows
    ((80 ∷ decimal m) ∷ (100 ∷ decimal r) ∷ hex_text (0 ∷ []) ∷ decimal r ∷ decimal 0 ∷ [])
    ≡ Some (Update m (value_of_round r))
update_read m r below few =
    ap (option_and_then (λ point. option_and_then (λ value. update_of load_rows point value)
    (sample_in (100 ∷ decimal r) (hex_text (0 ∷ [])) (decimal r) (decimal 0))))
    (point_found m below)
    ∙ ap (option_and_then (λ value. update_of load_rows m value))
    (value-read (100 ∷ decimal r) (hex_text (0 ∷ [])) (decimal r) (decimal 0) (value_of_round r)
    (value_words r few))
    ∙ ap (λ (row : PointRow). cond (same_kind (kind_of (value_of_round r).body) row.kind)
    (Some (Update m (value_of_round r))) None)
    (list_below-at load_point_row POINTS m no_point below)

pub tick_read : (now : ℕ) → now ≤ 2000000 → tick_in (decimal now ∷ []) ≡ Some (Tick now)
tick_read now early =
    ap (option_map Tick) (number-read _ now (omega (arith, early)) (omega (arith, early)))
