-- What is read of a line is lawful, and so are the rows of lawful lines.
use Rattle.std.proofs.Common.{◌≡◌, ℕ, ◌<◌, ◌≤◌, ◌&&◌, Bool, true, false, cond, leb, List, []}
use Rattle.std.proofs.Common.{◌∷◌, length, IsTrue, Option, Some, None, refl, arith, ℤ, int_le, ◌==◌}
use Rattle.std.specs.Prelude.{codes, bytes_eq, Ok, Err, IfSome, option_and_then}
use Rattle.std.specs.Option.{option_map}
use Rattle.std.specs.List.{slice_split}
use Rattle.std.proofs.lemmas.Bool.{and_parts, and_from, leb-true}
use Rattle.std.proofs.lemmas.List.Splits.{length-slice_split}
use Rattle.std.proofs.lemmas.Option.{IfSome_then}
use Rattle.plain_text.specs.Words.{words_in, each_in}
use Rattle.plain_text.specs.Numbers.{number_in, integer_of_word}
use Rattle.tase_points.specs.declared.layout.Component.{Component}
use Rattle.ber_values.specs.Dotted.{dotted_in}
use Rattle.sbo_device.specs.declared.kind.CommandKind.{CommandKind}
use Rattle.sbo_device.specs.declared.kind.CommandKind.TheVariants.{Command, Setpoint}
use Rattle.bilateral.specs.Words.Words.{is_name, is_identifier, kind_in, whole_scope_in}
use Rattle.bilateral.specs.Words.Words.{component_in, layout_from, is_distinct, title_in, IsTitle}
use Rattle.bilateral.specs.Words.Words.{limit_in, limit_of}
use Rattle.bilateral.specs.Words.Devices.{short_in, span_in, range_in, range_of, direct_form}
use Rattle.bilateral.specs.Words.Devices.{sbo_form, form_in, setpoint_form, order_in, is_short}
use Rattle.bilateral.specs.Words.Devices.{IsRange, IsDeviceLine}
use Rattle.bilateral.specs.declared.words.layouts.LayoutWhy.TheVariants.{Twice}
use Rattle.bilateral.specs.declared.line.TableLine.{TableLine}
use Rattle.bilateral.specs.declared.line.TableLine.TheVariants.{Slots, Sets, Pending}
use Rattle.bilateral.specs.declared.rows.TheConstants.{SLOT_LIMIT, SET_LIMIT, PENDING_LEAST}
use Rattle.bilateral.specs.declared.rows.TheConstants.{PENDING_LIMIT}
use Rattle.bilateral.specs.Lines.{point_line, device_line, peer_line, variant_line, limit_line}
use Rattle.bilateral.specs.Lines.{see_with, see_line, tag_word_in, control_line, table_told_by}
use Rattle.bilateral.specs.Lines.{table_line_of, line_in, IsLimit, IsLawfulLine}
use Rattle.bilateral.proofs.OfWords.Components.{IsLayout-from_distinct}
use Rattle.bilateral.proofs.OfWords.Titles.{dotted_lawful}

-- what passes a test, what is made of a value, and what is read behind another
tested : {A : Type 0} (P : A → Type 0) (test : Bool) (o : Option A) → (test ≡ true → IfSome o P)
    → IfSome (cond test o None) P
tested P true o passes = passes refl
tested P false o passes = tt

mapped : {A B : Type 0} (P : B → Type 0) (f : A → B) (o : Option A) → IfSome o (λ a. P (f a))
    → IfSome (option_map f o) P
mapped P f (Some a) holds = holds
mapped P f None holds = tt

then : {A B : Type 0} (Q : A → Type 0) (P : B → Type 0) (f : A → Option B) (o : Option A)
    → IfSome o Q → ((a : A) → Q a → IfSome (f a) P) → IfSome (option_and_then f o) P
then Q P f (Some a) holds next = next a holds
then Q P f None holds next = tt

anything : {A : Type 0} (P : A → Type 0) (o : Option A) → ((a : A) → P a) → IfSome o P
anything P (Some a) all = all a
anything P None all = tt

either : {A : Type 0} (P : A → Type 0) (test : Bool) (a b : Option A) → IfSome a P → IfSome b P
    → IfSome (cond test a b) P
either P true a b first second = first
either P false a b first second = second

-- the same word, where it is known to be what is read
found_by : {A : Type 0} (P : A → Type 0) (o : Option A) → ((a : A) → o ≡ Some a → P a) → IfSome o P
found_by P (Some a) holds = holds a refl
found_by P None holds = tt

point_lawful : (ws : List (List ℕ)) → IfSome (point_line ws) IsLawfulLine
point_lawful [] = tt
point_lawful (name ∷ []) = tt
point_lawful (name ∷ kind ∷ []) =
    tested IsLawfulLine (is_name name) _
    (λ named. mapped IsLawfulLine _ (kind_in kind) (anything _ (kind_in kind) (λ k. named)))
point_lawful (name ∷ kind ∷ next ∷ more) = tt

abbrev IsShort : ℤ → Type 0
IsShort z = IsTrue (is_short z)

short_lawful : (word : List ℕ) → IfSome (short_in word) IsShort
short_lawful word =
    then (λ z. Unit {0}) IsShort _ (integer_of_word word)
    (anything _ (integer_of_word word) (λ z. tt))
    (λ z any. tested IsShort (is_short z) (Some z) (λ short. short))

range_lawful : (low high : List ℕ) → IfSome (range_in low high) IsRange
range_lawful low high =
    then IsShort IsRange _ (short_in low) (short_lawful low)
    (λ l low_short. then IsShort IsRange (range_of l) (short_in high) (short_lawful high)
    (λ h high_short. tested IsRange (int_le l h) (Some (Setpoint l h))
    (λ ordered. and_from (is_short l && is_short h) (int_le l h)
    (and_from (is_short l) (is_short h) low_short high_short) ordered)))

direct_lawful : (kind : CommandKind) (ws : List (List ℕ)) → IsRange kind
    → IfSome (direct_form kind ws) IsDeviceLine
direct_lawful kind [] range =
    record { range = range; short = refl; no_checkback = λ d. refl; no_span = λ d. refl }
direct_lawful kind (word ∷ more) range = tt

sbo_lawful : (kind : CommandKind) (ws : List (List ℕ)) → IsRange kind
    → IfSome (sbo_form kind ws) IsDeviceLine
sbo_lawful kind [] range = tt
sbo_lawful kind (checkback ∷ []) range = tt
sbo_lawful kind (checkback ∷ span ∷ []) range =
    then IsShort IsDeviceLine _ (short_in checkback) (short_lawful checkback)
    (λ c short. mapped IsDeviceLine _ (span_in span) (anything _ (span_in span)
    (λ s. record {
      range = range;
      short = short;
      no_checkback = λ d. absurd cc;
      no_span = λ d. absurd cc;
    })))
sbo_lawful kind (checkback ∷ span ∷ next ∷ more) range = tt

form_lawful : (kind : CommandKind) (ws : List (List ℕ)) → IsRange kind
    → IfSome (form_in kind ws) IsDeviceLine
form_lawful kind [] range = tt
form_lawful kind (mode ∷ more) range =
    either IsDeviceLine (bytes_eq mode (codes "sbo")) _ _ (sbo_lawful kind more range)
    (tested IsDeviceLine (bytes_eq mode (codes "direct")) _
    (λ same. direct_lawful kind more range))

setpoint_lawful : (ws : List (List ℕ)) → IfSome (setpoint_form ws) IsDeviceLine
setpoint_lawful [] = tt
setpoint_lawful (low ∷ []) = tt
setpoint_lawful (low ∷ high ∷ more) =
    then IsRange IsDeviceLine _ (range_in low high) (range_lawful low high)
    (λ kind range. form_lawful kind more range)

order_lawful : (ws : List (List ℕ)) → IfSome (order_in ws) IsDeviceLine
order_lawful [] = tt
order_lawful (command ∷ more) =
    either IsDeviceLine (bytes_eq command (codes "command")) _ _ (form_lawful Command more refl)
    (tested IsDeviceLine (bytes_eq command (codes "setpoint")) _ (λ same. setpoint_lawful more))

device_lawful : (ws : List (List ℕ)) → IfSome (device_line ws) IsLawfulLine
device_lawful [] = tt
device_lawful (name ∷ more) =
    tested IsLawfulLine (is_name name) _
    (λ named. mapped IsLawfulLine _ (order_in more)
    (IfSome_then (order_in more) (order_lawful more) (λ form line. (named, line))))

title_lawful : (word : List ℕ) → IfSome (title_in word) IsTitle
title_lawful word =
    either IsTitle (bytes_eq word (codes "*")) _ _ tt
    (mapped IsTitle Some (dotted_in word)
    (found_by _ (dotted_in word) (λ octets is. dotted_lawful word octets is)))

peer_lawful : (ws : List (List ℕ)) → IfSome (peer_line ws) IsLawfulLine
peer_lawful [] = tt
peer_lawful (key ∷ []) = tt
peer_lawful (key ∷ title ∷ []) = tt
peer_lawful (key ∷ title ∷ domain ∷ []) = tt
peer_lawful (key ∷ title ∷ domain ∷ id ∷ []) =
    tested IsLawfulLine (is_identifier key && is_identifier domain && is_identifier id) _
    (λ are.
    let parts = and_parts (is_identifier key && is_identifier domain) (is_identifier id) are in
    let front = and_parts (is_identifier key) (is_identifier domain) parts.0 in
    mapped IsLawfulLine _ (title_in title)
    (IfSome_then (title_in title) (title_lawful title)
    (λ t lawful. (front.0, front.1, parts.1, (refl, refl, refl, refl, refl), lawful))))
peer_lawful (key ∷ title ∷ domain ∷ id ∷ next ∷ more) = tt

variant_lawful : (ws : List (List ℕ)) → IfSome (variant_line ws) IsLawfulLine
variant_lawful [] = tt
variant_lawful (key ∷ []) = tt
variant_lawful (key ∷ domain ∷ []) = tt
variant_lawful (key ∷ domain ∷ id ∷ []) =
    tested IsLawfulLine (is_identifier key && is_identifier domain && is_identifier id) _
    (λ are.
    let parts = and_parts (is_identifier key && is_identifier domain) (is_identifier id) are in
    let front = and_parts (is_identifier key) (is_identifier domain) parts.0 in
    (front.0, front.1, parts.1))
variant_lawful (key ∷ domain ∷ id ∷ next ∷ more) = tt

limit_lawful : (least most : ℕ) (word : List ℕ)
    → IfSome (limit_in least most word) (IsLimit least most)
limit_lawful least most word =
    then (λ n. Unit {0}) (IsLimit least most) (limit_of least most) (number_in word)
    (anything _ (number_in word) (λ n. tt))
    (λ n any. tested (IsLimit least most) (leb least n) _
    (λ above. tested (λ k. (least ≤ k) × (k ≤ most)) (leb n most) (Some n)
    (λ below. (leb-true least n above, leb-true n most below))))

limits_lawful : (form : Option ℕ → TableLine) (least most : ℕ)
    → ((number : Option ℕ) → IsLimit least most number → IsLawfulLine (form number))
    → (ws : List (List ℕ)) → IfSome (limit_line form least most ws) IsLawfulLine
limits_lawful form least most is [] = tt
limits_lawful form least most is (word ∷ []) =
    mapped IsLawfulLine form (limit_in least most word)
    (IfSome_then (limit_in least most word) (limit_lawful least most word) is)
limits_lawful form least most is (word ∷ next ∷ more) = tt

some_read : (parts : List (List ℕ)) → 0 < length parts
    → IfSome (each_in component_in parts) (λ components. 0 < length components)
some_read [] some = absurd (omega arith)
some_read (part ∷ parts) some =
    then (λ component. Unit {0}) (λ components. 0 < length components) _ (component_in part)
    (anything _ (component_in part) (λ component. tt))
    (λ component any. mapped (λ components. 0 < length components) _ (each_in component_in parts)
    (anything _ (each_in component_in parts) (λ components. omega arith)))

see_with_lawful : (name : List ℕ) (vmd : Bool) (read : Option (List Component))
    → IfSome read (λ components. 0 < length components)
    → IfSome (see_with name vmd (layout_from read)) IsLawfulLine
see_with_lawful name vmd None some = tt
see_with_lawful name vmd (Some components) some = by (is_distinct components) refl
  where
    by : (distinct : Bool) → is_distinct components ≡ distinct
        → IfSome (see_with name vmd (cond distinct (Ok components) (Err Twice))) IsLawfulLine
    by true is = IsLayout-from_distinct components some is
    by false is = tt

see_lawful : (ws : List (List ℕ)) → IfSome (see_line ws) IsLawfulLine
see_lawful [] = tt
see_lawful (name ∷ []) = tt
see_lawful (name ∷ scope ∷ []) = tt
see_lawful (name ∷ scope ∷ layout ∷ []) =
    let parts = slice_split (λ octet. octet == 44) layout in
    tested IsLawfulLine (is_name name) _
    (λ named. then (λ vmd. Unit {0}) IsLawfulLine _ (whole_scope_in scope)
    (anything _ (whole_scope_in scope) (λ vmd. tt))
    (λ vmd any. see_with_lawful name vmd (each_in component_in parts)
    (some_read parts (omega (arith, length-slice_split (λ octet. octet == 44) layout)))))
see_lawful (name ∷ scope ∷ layout ∷ next ∷ more) = tt

control_lawful : (ws : List (List ℕ)) → IfSome (control_line ws) IsLawfulLine
control_lawful [] = tt
control_lawful (name ∷ more) =
    tested IsLawfulLine (is_name name) _
    (λ named. mapped IsLawfulLine _ (tag_word_in more)
    (anything _ (tag_word_in more) (λ tag. tt)))

table_lawful : (first : List ℕ) (more : List (List ℕ))
    → IfSome (table_told_by first more) IsLawfulLine
table_lawful first more =
    either IsLawfulLine (bytes_eq first (codes "see")) _ _ (see_lawful more)
    (either IsLawfulLine (bytes_eq first (codes "control")) _ _ (control_lawful more)
    (either IsLawfulLine (bytes_eq first (codes "slots")) _ _
    (limits_lawful Slots 1 SLOT_LIMIT (λ number is. is) more)
    (either IsLawfulLine (bytes_eq first (codes "sets")) _ _
    (limits_lawful Sets 1 SET_LIMIT (λ number is. is) more)
    (tested IsLawfulLine (bytes_eq first (codes "pending")) _
    (λ same. limits_lawful Pending PENDING_LEAST PENDING_LIMIT (λ number is. is) more)))))

words_lawful : (ws : List (List ℕ)) → IfSome (table_line_of ws) IsLawfulLine
words_lawful [] = tt
words_lawful (first ∷ more) =
    either IsLawfulLine (bytes_eq first (codes "point")) _ _ (point_lawful more)
    (either IsLawfulLine (bytes_eq first (codes "device")) _ _ (device_lawful more)
    (either IsLawfulLine (bytes_eq first (codes "peer")) _ _ (peer_lawful more)
    (either IsLawfulLine (bytes_eq first (codes "variant")) _ _ (variant_lawful more)
    (table_lawful first more))))

-- what a line says is lawful
pub line_lawful : (line : List ℕ) → IfSome (line_in line) IsLawfulLine
line_lawful line =
    then (λ ws. Unit {0}) IsLawfulLine table_line_of (words_in line)
    (anything _ (words_in line) (λ ws. tt)) (λ ws any. words_lawful ws)
