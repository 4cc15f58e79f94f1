-- The written form of a line is read back as that line.
use Rattle.std.proofs.Common.{◌≡◌, ℕ, suc, ◌<◌, ◌≤◌, ◌^◌, Bool, true, false, not, ◌&&◌, cond}
use Rattle.std.proofs.Common.{eqb}
use Rattle.std.proofs.Common.{leb, List, [], ◌∷◌, ◌++◌, length, filter, IsTrue, Option, Some}
use Rattle.std.proofs.Common.{None, refl, sym, ap, ◌∙◌, arith, ℤ, int_le, decimal, append_assoc}
use Rattle.std.specs.Prelude.{pos, negsuc, codes, Ok, option_and_then}
use Rattle.std.specs.Option.{option_map}
use Rattle.std.specs.Fmt.{signed_decimal}
use Rattle.std.specs.List.{slice_split}
use Rattle.std.specs.Str.Lines.{lines}
use Rattle.std.proofs.lemmas.Bool.{cond-true, and_parts, and_from, leb-true, eqb-true}
use Rattle.std.proofs.lemmas.Bool.{le-leb}
use Rattle.plain_text.specs.Lines.{is_skipped}
use Rattle.plain_text.specs.Words.{each_in}
use Rattle.plain_text.specs.Numbers.{number_in, integer_of_word, if_passes, negative}
use Rattle.plain_text.proofs.Decimal.{number_in-of_decimal}
use Rattle.tase_points.specs.declared.kind.Kind.{Kind}
use Rattle.tase_points.specs.declared.kind.Kind.TheVariants.{State, Discrete, Real}
use Rattle.tase_points.specs.declared.layout.Component.{Component}
use Rattle.tase_points.specs.declared.layout.Component.TheVariants.{Value, Time, Millis, Flags, Cov}
use Rattle.sbo_device.specs.declared.kind.CommandKind.{CommandKind}
use Rattle.sbo_device.specs.declared.kind.CommandKind.TheVariants.{Command, Setpoint}
use Rattle.bilateral.specs.Words.Words.{is_name, is_identifier, kind_in, whole_scope_in}
use Rattle.bilateral.specs.Words.Words.{component_in, layout_in, layout_from, is_distinct}
use Rattle.bilateral.specs.Words.Words.{limit_in, limit_of}
use Rattle.bilateral.specs.Words.Devices.{short_in, span_in, natural_of, range_in, range_of}
use Rattle.bilateral.specs.Words.Devices.{form_in, order_in, is_short, is_range}
use Rattle.bilateral.specs.declared.line.TableLine.{TableLine}
use Rattle.bilateral.specs.declared.line.TableLine.TheVariants.{Point, Device, Peer, Slots, Sets}
use Rattle.bilateral.specs.declared.line.TableLine.TheVariants.{Pending, See, Control, Variant}
use Rattle.bilateral.specs.declared.rows.PointRow.{PointRow}
use Rattle.bilateral.specs.declared.rows.DeviceRow.{DeviceRow}
use Rattle.bilateral.specs.declared.rows.Table.{Table}
use Rattle.bilateral.specs.declared.rows.TheConstants.{SLOT_LIMIT, SET_LIMIT}
use Rattle.sbo_device.specs.declared.device.TheConstants.{SPAN_LIMIT}
use Rattle.bilateral.specs.declared.rows.TheConstants.{PENDING_LEAST, PENDING_LIMIT}
use Rattle.bilateral.specs.Lines.{line_in, table_line_of, form_of, named_device, see_with}
use Rattle.bilateral.specs.Writing.{kind_word, component_word, layout_word, title_word}
use Rattle.bilateral.specs.Writing.{command_words, mode_words, scope_word, tag_words, line_words}
use Rattle.bilateral.specs.Writing.{line_text, empty_table, IsWritableLine, AreWritable, lines_text}
use Rattle.bilateral.proofs.CleanWords.{IsClean, AreClean, clean, words_of_spaced, clean_name}
use Rattle.bilateral.proofs.CleanWords.{clean_identifier, clean_number_in, clean_solid}
use Rattle.bilateral.proofs.CleanWords.{lines_of_spaced}
use Rattle.bilateral.proofs.TitleWords.{title_read, title_solid}

-- a word that is a number is that integer
integer_of_number : (word : List ℕ) (n : ℕ) → number_in word ≡ Some n
    → integer_of_word word ≡ Some (pos n)
integer_of_number [] n is = absurd cc
integer_of_number (first ∷ more) n is =
    choose (eqb first 45) refl
  where
    no_minus : (rest : List ℕ) → number_in (45 ∷ rest) ≡ Some n → ⊥
    no_minus [] is = cc
    no_minus (x ∷ rest) is = cc

    choose : (minus : Bool) → eqb first 45 ≡ minus
        → cond minus (option_and_then negative (number_in more))
        (option_map pos (number_in (first ∷ more))) ≡ Some (pos n)
    choose false other = ap (option_map pos) is
    choose true same =
        absurd (no_minus more (ap (λ x. number_in (x ∷ more)) (sym (eqb-true first 45 same)) ∙ is))

short_size : (z : ℤ) → is_short z ≡ true → integer_of_word (signed_decimal z) ≡ Some z
short_size (pos n) short =
    let parts = and_parts (int_le (negsuc 32767) (pos n)) (int_le (pos n) (pos 32767)) short in
    let small : n ≤ 32767 = leb-true n 32767 parts.1 in
    integer_of_number (decimal n) n (number_in-of_decimal n (omega arith))
short_size (negsuc n) short =
    let parts = and_parts (int_le (negsuc 32767) (negsuc n)) (int_le (negsuc n) (pos 32767))
    short in
    let small : n ≤ 32767 = leb-true n 32767 parts.0 in
    ap (option_and_then negative) (number_in-of_decimal (suc n) (omega arith))

short_read : (z : ℤ) → is_short z ≡ true → short_in (signed_decimal z) ≡ Some z
short_read z short =
    ap (option_and_then (if_passes (λ k. int_le (negsuc 32767) k && int_le k (pos 32767))))
    (short_size z short)
    ∙ cond-true (is_short z) (Some z) None short

span_read : (n : ℕ) → n ≤ SPAN_LIMIT → span_in (decimal n) ≡ Some n
span_read n small =
    ap (λ o. option_map natural_of
    (option_and_then
    (if_passes (λ k. int_le (negsuc 2147483647) k && int_le k (pos 2147483647))) o))
    (integer_of_number (decimal n) n (number_in-of_decimal n (omega arith)))
    ∙ ap (option_map natural_of) (cond-true (leb n 2147483647) (Some (pos n)) None
    (le-leb n 2147483647 (omega arith)))

form_read : (kind : CommandKind) (direct : Bool) (checkback : ℤ) (span : ℕ)
    → is_short checkback ≡ true → span ≤ SPAN_LIMIT
    → (direct ≡ true → checkback ≡ pos 0) → (direct ≡ true → span ≡ 0)
    → form_in kind
    (cond direct (codes "direct" ∷ [])
    (codes "sbo" ∷ signed_decimal checkback ∷ decimal span ∷ []))
    ≡ Some (record { kind = kind; direct = direct; checkback = checkback; span = span })
form_read kind true checkback span short small no_checkback no_span =
    ap (λ c. Some (record { kind = kind; direct = true; checkback = c; span = 0 }))
    (sym (no_checkback refl))
    ∙ ap (λ s. Some (record { kind = kind; direct = true; checkback = checkback; span = s }))
    (sym (no_span refl))
form_read kind false checkback span short small no_checkback no_span =
    ap (option_and_then
    (λ c. option_map (λ s. record { kind = kind; direct = false; checkback = c; span = s })
    (span_in (decimal span)))) (short_read checkback short)
    ∙ ap (option_map
    (λ s. record { kind = kind; direct = false; checkback = checkback; span = s }))
    (span_read span small)

range_read : (low high : ℤ) → is_range (Setpoint low high) ≡ true
    → range_in (signed_decimal low) (signed_decimal high) ≡ Some (Setpoint low high)
range_read low high range =
    let parts = and_parts (is_short low && is_short high) (int_le low high) range in
    let shorts = and_parts (is_short low) (is_short high) parts.0 in
    ap (option_and_then (λ l. option_and_then (range_of l) (short_in (signed_decimal high))))
    (short_read low shorts.0)
    ∙ ap (option_and_then (range_of low)) (short_read high shorts.1)
    ∙ cond-true (int_le low high) (Some (Setpoint low high)) None parts.1

order_read : (row : DeviceRow) (kind : CommandKind) → is_range kind ≡ true
    → form_in kind (mode_words row) ≡ Some (record (form_of row) { kind = kind })
    → order_in (command_words kind ++ mode_words row) ≡ Some (record (form_of row) { kind = kind })
order_read row Command range form = form
order_read row (Setpoint low high) range form =
    ap (option_and_then (λ kind. form_in kind (mode_words row))) (range_read low high range) ∙ form

device_read : (row : DeviceRow) → IsWritableLine (Device row)
    → table_line_of (line_words (Device row)) ≡ Some (Device row)
device_read row fits =
    cond-true (is_name row.name) _ _ fits.0
    ∙ ap (option_map (λ form. Device (named_device row.name form)))
    (order_read row row.kind fits.1.range
    (form_read row.kind row.direct row.checkback row.span fits.1.short fits.2
    fits.1.no_checkback fits.1.no_span))

kind_read : (kind : Kind) → kind_in (kind_word kind) ≡ Some kind
kind_read State = refl
kind_read Discrete = refl
kind_read Real = refl

point_read : (row : PointRow) → IsTrue (is_name row.name)
    → table_line_of (line_words (Point row)) ≡ Some (Point row)
point_read row named =
    cond-true (is_name row.name) _ _ named
    ∙ ap (option_map (λ k. Point (record { name = row.name; kind = k }))) (kind_read row.kind)

peer_read : (table : Table) → IsWritableLine (Peer table)
    → table_line_of (line_words (Peer table)) ≡ Some (Peer table)
peer_read table fits =
    cond-true (is_identifier table.key && is_identifier table.domain && is_identifier table.id) _ _
    (and_from _ _ (and_from _ _ fits.0 fits.1) fits.2)
    ∙ ap (option_map (λ t. Peer (record (empty_table table) { title = t })))
    (title_read table.title fits.4)
    ∙ ap (λ t. Some (Peer t)) (sym fits.3)

variant_read : (key domain id : List ℕ) → IsWritableLine (Variant key domain id)
    → table_line_of (line_words (Variant key domain id)) ≡ Some (Variant key domain id)
variant_read key domain id fits =
    cond-true (is_identifier key && is_identifier domain && is_identifier id) _ _
    (and_from _ _ (and_from _ _ fits.0 fits.1) fits.2)

limit_read : (form : Option ℕ → TableLine) (least most n : ℕ) → least ≤ n → n ≤ most
    → most < 2 ^ 64 → option_map form (limit_in least most (decimal n)) ≡ Some (form (Some n))
limit_read form least most n above below small =
    ap (λ o. option_map form (option_and_then (limit_of least most) o))
    (number_in-of_decimal n (omega arith))
    ∙ ap (option_map form)
    (cond-true (leb least n) _ _ (le-leb least n above)
    ∙ ap Some (cond-true (leb n most) (Some n) None (le-leb n most below)))

component_read : (component : Component) → component_in (component_word component) ≡ Some component
component_read Value = refl
component_read Time = refl
component_read Millis = refl
component_read Flags = refl
component_read Cov = refl

component_split : (component : Component) (rest : List ℕ)
    → slice_split (λ x. eqb x 44) (component_word component ++ 44 ∷ rest)
    ≡ component_word component ∷ slice_split (λ x. eqb x 44) rest
component_split Value rest = refl
component_split Time rest = refl
component_split Millis rest = refl
component_split Flags rest = refl
component_split Cov rest = refl

component_last : (component : Component)
    → slice_split (λ x. eqb x 44) (component_word component) ≡ component_word component ∷ []
component_last Value = refl
component_last Time = refl
component_last Millis = refl
component_last Flags = refl
component_last Cov = refl

parts_read : (component : Component) (more : List Component)
    → each_in component_in (slice_split (λ x. eqb x 44) (layout_word (component ∷ more)))
    ≡ Some (component ∷ more)
parts_read component [] =
    ap (each_in component_in) (component_last component)
    ∙ ap (option_and_then (λ item. Some (item ∷ []))) (component_read component)
parts_read component (next ∷ more) =
    ap (each_in component_in) (component_split component (layout_word (next ∷ more)))
    ∙ ap (option_and_then
    (λ item. option_map (λ items. item ∷ items)
    (each_in component_in (slice_split (λ x. eqb x 44) (layout_word (next ∷ more))))))
    (component_read component)
    ∙ ap (option_map (λ items. component ∷ items)) (parts_read next more)

layout_read : (layout : List Component) → 0 < length layout → is_distinct layout ≡ true
    → layout_in (layout_word layout) ≡ Ok layout
layout_read [] some distinct = absurd (omega arith)
layout_read (component ∷ more) some distinct =
    ap layout_from (parts_read component more)
    ∙ cond-true (is_distinct (component ∷ more)) _ _ distinct

scope_read : (vmd : Bool) → whole_scope_in (scope_word vmd) ≡ Some vmd
scope_read true = refl
scope_read false = refl

see_read : (name : List ℕ) (vmd : Bool) (layout : Option (List Component))
    → IsWritableLine (See name vmd layout)
    → table_line_of (line_words (See name vmd layout)) ≡ Some (See name vmd layout)
see_read name vmd None fits = absurd fits.1
see_read name vmd (Some layout) fits =
    cond-true (is_name name) _ _ fits.0
    ∙ ap (option_and_then (λ v. see_with name v (layout_in (layout_word layout)))) (scope_read vmd)
    ∙ ap (see_with name vmd) (layout_read layout fits.1.0 fits.1.1)

control_read : (name : List ℕ) (tag : Bool) → is_name name ≡ true
    → table_line_of (line_words (Control name tag)) ≡ Some (Control name tag)
control_read name true named = cond-true (is_name name) _ _ named
control_read name false named = cond-true (is_name name) _ _ named

-- the words of a line are read as the line
words_read : (line : TableLine) → IsWritableLine line → table_line_of (line_words line) ≡ Some line
words_read (Point row) fits = point_read row fits
words_read (Device row) fits = device_read row fits
words_read (Peer table) fits = peer_read table fits
words_read (Variant key domain id) fits = variant_read key domain id fits
words_read (Slots None) fits = absurd fits
words_read (Slots (Some n)) fits =
    limit_read Slots 1 SLOT_LIMIT n fits.0 fits.1 (omega arith)
words_read (Sets None) fits = absurd fits
words_read (Sets (Some n)) fits = limit_read Sets 1 SET_LIMIT n fits.0 fits.1 (omega arith)
words_read (Pending None) fits = absurd fits
words_read (Pending (Some n)) fits =
    limit_read Pending PENDING_LEAST PENDING_LIMIT n fits.0 fits.1 (omega arith)
words_read (See name vmd layout) fits = see_read name vmd layout fits
words_read (Control name tag) fits = control_read name tag fits

word_clean : (word : List ℕ) → 0 < length word → clean word ≡ true → IsClean word
word_clean word some octets = record { some = some; octets = octets }

number_clean : (n : ℕ) → n < 2 ^ 64 → IsClean (decimal n)
number_clean n small = clean_number_in (decimal n) n (number_in-of_decimal n small)

short_clean : (z : ℤ) → is_short z ≡ true → IsClean (signed_decimal z)
short_clean (pos n) short =
    let parts = and_parts (int_le (negsuc 32767) (pos n)) (int_le (pos n) (pos 32767)) short in
    let small : n ≤ 32767 = leb-true n 32767 parts.1 in number_clean n (omega arith)
short_clean (negsuc n) short =
    let parts = and_parts (int_le (negsuc 32767) (negsuc n)) (int_le (negsuc n) (pos 32767))
    short in
    let small : n ≤ 32767 = leb-true n 32767 parts.0 in
    record { some = omega arith; octets = (number_clean (suc n) (omega arith)).octets }

kind_clean : (kind : Kind) → IsClean (kind_word kind)
kind_clean State = word_clean _ (omega arith) refl
kind_clean Discrete = word_clean _ (omega arith) refl
kind_clean Real = word_clean _ (omega arith) refl

scope_clean : (vmd : Bool) → IsClean (scope_word vmd)
scope_clean true = word_clean _ (omega arith) refl
scope_clean false = word_clean _ (omega arith) refl

layout_clean : (layout : List Component) → 0 < length layout → IsClean (layout_word layout)
layout_clean [] some = absurd (omega arith)
layout_clean (Value ∷ []) some = word_clean _ (omega arith) refl
layout_clean (Time ∷ []) some = word_clean _ (omega arith) refl
layout_clean (Millis ∷ []) some = word_clean _ (omega arith) refl
layout_clean (Flags ∷ []) some = word_clean _ (omega arith) refl
layout_clean (Cov ∷ []) some = word_clean _ (omega arith) refl
layout_clean (Value ∷ next ∷ more) some =
    word_clean _ (omega arith) (layout_clean (next ∷ more) (omega arith)).octets
layout_clean (Time ∷ next ∷ more) some =
    word_clean _ (omega arith) (layout_clean (next ∷ more) (omega arith)).octets
layout_clean (Millis ∷ next ∷ more) some =
    word_clean _ (omega arith) (layout_clean (next ∷ more) (omega arith)).octets
layout_clean (Flags ∷ next ∷ more) some =
    word_clean _ (omega arith) (layout_clean (next ∷ more) (omega arith)).octets
layout_clean (Cov ∷ next ∷ more) some =
    word_clean _ (omega arith) (layout_clean (next ∷ more) (omega arith)).octets

mode_clean : (direct : Bool) (checkback : ℤ) (span : ℕ) → is_short checkback ≡ true
    → span ≤ SPAN_LIMIT
    → AreClean
    (cond direct (codes "direct" ∷ [])
    (codes "sbo" ∷ signed_decimal checkback ∷ decimal span ∷ []))
mode_clean true checkback span short small = (word_clean _ (omega arith) refl, tt)
mode_clean false checkback span short small = (
  word_clean _ (omega arith) refl,
  (
    short_clean checkback short,
    (number_clean span (omega arith), tt),
  ),
)

command_clean : (kind : CommandKind) (mode : List (List ℕ)) → is_range kind ≡ true
    → AreClean mode → AreClean (command_words kind ++ mode)
command_clean Command mode range are = (word_clean _ (omega arith) refl, are)
command_clean (Setpoint low high) mode range are =
    let parts = and_parts (is_short low && is_short high) (int_le low high) range in
    let shorts = and_parts (is_short low) (is_short high) parts.0 in (
      word_clean _ (omega arith) refl,
      (short_clean low shorts.0, (short_clean high shorts.1, are)),
    )

tag_clean : (tag : Bool) → AreClean (tag_words tag)
tag_clean true = (word_clean _ (omega arith) refl, tt)
tag_clean false = tt

limit_clean : (first : List ℕ) (n : ℕ) → IsClean first → n < 2 ^ 64
    → AreClean (first ∷ decimal n ∷ [])
limit_clean first n is small = (is, (number_clean n small, tt))

-- the words of a line have no blanks
line_clean : (line : TableLine) → IsWritableLine line → AreClean (line_words line)
line_clean (Point row) fits =
    (word_clean _ (omega arith) refl, (clean_name row.name fits, (kind_clean row.kind, tt)))
line_clean (Device row) fits = (
  word_clean _ (omega arith) refl,
  (
    clean_name row.name fits.0,
    command_clean row.kind (mode_words row) fits.1.range
        (mode_clean row.direct row.checkback row.span fits.1.short fits.2),
  ),
)
line_clean (Peer table) fits = (
  word_clean _ (omega arith) refl,
  (
    clean_identifier table.key fits.0,
    (
      clean_solid (title_word table.title) (title_solid table.title fits.4),
      (clean_identifier table.domain fits.1, (clean_identifier table.id fits.2, tt)),
    ),
  ),
)
line_clean (Variant key domain id) fits = (
  word_clean _ (omega arith) refl,
  (
    clean_identifier key fits.0,
    (clean_identifier domain fits.1, (clean_identifier id fits.2, tt)),
  ),
)
line_clean (Slots None) fits = absurd fits
line_clean (Slots (Some n)) fits =
    limit_clean (codes "slots") n (word_clean _ (omega arith) refl) (omega (arith, fits.1))
line_clean (Sets None) fits = absurd fits
line_clean (Sets (Some n)) fits =
    limit_clean (codes "sets") n (word_clean _ (omega arith) refl) (omega (arith, fits.1))
line_clean (Pending None) fits = absurd fits
line_clean (Pending (Some n)) fits =
    limit_clean (codes "pending") n (word_clean _ (omega arith) refl) (omega (arith, fits.1))
line_clean (See name vmd None) fits = absurd fits.1
line_clean (See name vmd (Some layout)) fits = (
  word_clean _ (omega arith) refl,
  (clean_name name fits.0, (scope_clean vmd, (layout_clean layout fits.1.0, tt))),
)
line_clean (Control name tag) fits =
    (word_clean _ (omega arith) refl, (clean_name name fits, tag_clean tag))

-- a line has words, and is none that is skipped
begins : (line : TableLine)
    → (0 < length (line_words line)) × (is_skipped (line_text line) ≡ false)
begins (Point row) = (omega arith, refl)
begins (Device row) = (omega arith, refl)
begins (Peer table) = (omega arith, refl)
begins (Variant key domain id) = (omega arith, refl)
begins (Slots number) = (omega arith, refl)
begins (Sets number) = (omega arith, refl)
begins (Pending number) = (omega arith, refl)
begins (See name vmd layout) = (omega arith, refl)
begins (Control name tag) = (omega arith, refl)

-- the written form of a line is read as this line
pub line_read : (line : TableLine) → IsWritableLine line → line_in (line_text line) ≡ Some line
line_read line fits =
    ap (option_and_then table_line_of)
    (words_of_spaced (line_words line) (begins line).0 (line_clean line fits))
    ∙ words_read line fits

abbrev is_told : List ℕ → Bool
is_told line = not (is_skipped line)

-- the text of lines is read as these lines
pub lines_read : (said : List TableLine) → AreWritable said
    → each_in line_in (filter is_told (lines (lines_text said))) ≡ Some said
lines_read [] fits = refl
lines_read (line ∷ more) fits =
    ap (λ t. each_in line_in (filter is_told (lines t)))
    (append_assoc (line_text line) (10 ∷ []) (lines_text more))
    ∙ ap (λ ls. each_in line_in (filter is_told ls))
    (lines_of_spaced (line_words line) (lines_text more) (begins line).0
    (line_clean line fits.0))
    ∙ ap (λ s. each_in line_in
    (cond (not s) (line_text line ∷ filter is_told (lines (lines_text more)))
    (filter is_told (lines (lines_text more)))))
    (begins line).1
    ∙ ap (option_and_then
    (λ item. option_map (λ items. item ∷ items)
    (each_in line_in (filter is_told (lines (lines_text more)))))) (line_read line fits.0)
    ∙ ap (option_map (λ items. line ∷ items)) (lines_read more fits.1)
