-- Neither the texts of replies and reports nor the words of an end have an octet below 32, whatever
-- they hold.
use Rattle.std.proofs.Common.{◌≡◌, ℕ, zero, suc, ◌/◌, ◌%◌, ℤ, Bool, true, false, cond, eqb, leb}
use Rattle.std.proofs.Common.{List, [], ◌∷◌, ◌++◌, Option, Some, None, decimal, refl, arith}
use Rattle.std.specs.Prelude.{pos, negsuc, flat_map, codes}
use Rattle.std.specs.Fmt.{digits, digits_onto, digit_glyph, signed_decimal}
use Rattle.std.specs.List.{list_all}
use Rattle.std.proofs.lemmas.Bool.{and_parts, and_from}
use Rattle.std.proofs.lemmas.Bool.Decides.{nat_tests}
use Rattle.plain_text.specs.Octets.{hex_digit, hex_pair, hex_text}
use Rattle.plain_text.specs.Escaped.{is_plain, escaped_octet, escaped_text}
use Rattle.bilateral.specs.Rows.{CentreRows, device_of}
use Rattle.sbo_device.specs.declared.order.Order.{Order}
use Rattle.mms_data.specs.declared.object_name.Scope.{Scope}
use Rattle.mms_data.specs.declared.object_name.Scope.TheVariants.{Vmd, Domain, Association}
use Rattle.mms_data.specs.declared.outcome.Outcome.{Outcome}
use Rattle.mms_data.specs.declared.outcome.Outcome.TheVariants.{Good, Fail}
use Rattle.mms_data.specs.Datum.{Datum, boolean, integer, unsigned, bits, real, octets, text}
use Rattle.mms_data.specs.Datum.{structure, array, Data, no_data, datum}
use Rattle.mms_data.specs.ObjectName.{ObjectName}
use Rattle.mms_data.specs.Types.TypeShape.{TypeShape, bool_shape, bits_shape, int_shape}
use Rattle.mms_data.specs.Types.TypeShape.{uint_shape, real_shape, text_shape, structure_shape}
use Rattle.mms_data.specs.Types.TypeShape.{TypeShapes, no_shapes, shapes}
use Rattle.mms_data.specs.Types.ShapeTexts.{shape_text, components_text, further_components}
use Rattle.mms_data.specs.Text.Texts.{data_text, members_text, further_text, outcome_text, scope_text}
use Rattle.ber_values.specs.declared.fault.Why.{Why}
use Rattle.ber_values.specs.declared.fault.Why.TheVariants as whys
use Rattle.stack_assoc.specs.declared.messages.fault.Layer.{Layer}
use Rattle.stack_assoc.specs.declared.messages.fault.Layer.TheVariants as layers
use Rattle.stack_assoc.specs.Listing.Names.{layer_name, why_name}
use Rattle.conn_service.specs.TaseConn.declared.stage.ConnEnd.{ConnEnd}
use Rattle.conn_service.specs.TaseConn.declared.stage.ConnEnd.TheVariants as conn_ends
use Rattle.tase_views.specs.declared.reply.ReplyKind.{ReplyKind}
use Rattle.tase_views.specs.declared.reply.ReplyKind.TheVariants.{Identified, Results, Written}
use Rattle.tase_views.specs.declared.reply.ReplyKind.TheVariants.{NamesAre, TypeIs, Defined}
use Rattle.tase_views.specs.declared.reply.ReplyKind.TheVariants.{MembersAre, Deleted, Error}
use Rattle.tase_views.specs.declared.reply.ReplyKind.TheVariants.{Reject}
use Rattle.tase_views.specs.declared.reply.ReportKind.{ReportKind}
use Rattle.tase_views.specs.declared.reply.ReportKind.TheVariants.{Set, Variables}
use Rattle.tase_views.specs.EventTexts.{read_verb, next_name}
use Rattle.texts.specs.Events.ReplyTexts.{result_text, written_text, item_text, more_text, reply_text}
use Rattle.texts.specs.Reports.ReportTexts.{next_outcome, told_text, report_text}
use Rattle.tase_replay.specs.Links.{end_text}
use Rattle.tase_replay.specs.Play.{order_words}

-- a text without an octet below 32
pub record IsPrintable (shown : List ℕ) : Type 0 where
  pub octets : list_all (λ octet. leb 32 octet) shown ≡ true

pub printable-nil : IsPrintable []
printable-nil = record { octets = refl }

-- words that are written out
pub of_words : (words : List ℕ) → list_all (λ octet. leb 32 octet) words ≡ true
    → IsPrintable words
of_words words are = record { octets = are }

pub printable-cons : {octet : ℕ} {rest : List ℕ} → leb 32 octet ≡ true → IsPrintable rest
    → IsPrintable (octet ∷ rest)
printable-cons {octet} {rest} first are = record { octets = and_from _ _ first are.octets }

pub printable-append : {a b : List ℕ} → IsPrintable a → IsPrintable b → IsPrintable (a ++ b)
printable-append {a = []} are others = others
printable-append {a = octet ∷ a} {b} are others =
    let parts = and_parts (leb 32 octet) (list_all (λ o. leb 32 o) a) are.octets in
    let rest : IsPrintable (a ++ b) =
    printable-append {a = a} (record { octets = parts.1 }) others in
    record { octets = and_from _ _ parts.0 rest.octets }

pub printable-all : {A : Type 0} (f : A → List ℕ) → ((x : A) → IsPrintable (f x))
    → (xs : List A) → IsPrintable (flat_map f xs)
printable-all f each [] = printable-nil
printable-all f each (x ∷ xs) = printable-append (each x) (printable-all f each xs)

-- ---- numbers and digits

glyph-high : (n : ℕ) → leb 32 (digit_glyph false n) ≡ true
glyph-high n = grind (arith, nat_tests)

either-printable : (test : Bool) (a b : List ℕ) → IsPrintable a → IsPrintable b
    → IsPrintable (cond test a b)
either-printable true a b first second = first
either-printable false a b first second = second

digits_onto-printable : (count n : ℕ) (behind : List ℕ) → IsPrintable behind
    → IsPrintable (digits_onto count 10 false n behind)
digits_onto-printable zero n behind are = are
digits_onto-printable (suc count) n behind are =
    let more : IsPrintable (digit_glyph false (n % 10) ∷ behind) =
    printable-cons (glyph-high (n % 10)) are in
    either-printable (eqb (n / 10) 0) _ _ more
    (digits_onto-printable count (n / 10) (digit_glyph false (n % 10) ∷ behind) more)

pub decimal-printable : (n : ℕ) → IsPrintable (decimal n)
unfolding digits
decimal-printable n = digits_onto-printable 64 n [] printable-nil

signed-printable : (z : ℤ) → IsPrintable (signed_decimal z)
signed-printable (pos n) = decimal-printable n
signed-printable (negsuc n) = printable-cons refl (decimal-printable (suc n))

hex_digit-high : (n : ℕ) → leb 32 (hex_digit n) ≡ true
hex_digit-high n = grind (arith, nat_tests)

hex_pair-printable : (octet : ℕ) → IsPrintable (hex_pair octet)
hex_pair-printable octet = printable-cons (hex_digit-high (octet / 16))
    (printable-cons (hex_digit-high (octet % 16)) printable-nil)

pub hex-printable : (octets : List ℕ) → IsPrintable (hex_text octets)
hex-printable os = printable-all hex_pair hex_pair-printable os

plain-high : (octet : ℕ) → is_plain octet ≡ true → leb 32 octet ≡ true
plain-high octet plain = grind (arith, nat_tests)

escaped_octet-printable : (octet : ℕ) → IsPrintable (escaped_octet octet)
escaped_octet-printable octet = choose (is_plain octet) refl
  where
    choose : (plain : Bool) → is_plain octet ≡ plain
        → IsPrintable (cond plain (octet ∷ []) (37 ∷ hex_pair octet))
    choose true is = printable-cons (plain-high octet is) printable-nil
    choose false is = printable-cons refl (hex_pair-printable octet)

escaped-printable : (octets : List ℕ) → IsPrintable (escaped_text octets)
escaped-printable os = printable-all escaped_octet escaped_octet-printable os

-- ---- data and names

mutual
  data-printable : (d : Datum) → IsPrintable (data_text d)
  data-printable (boolean true) = of_words _ refl
  data-printable (boolean false) = of_words _ refl
  data-printable (integer z) = printable-cons refl (signed-printable z)
  data-printable (unsigned n) = printable-cons refl (decimal-printable n)
  data-printable (bits b) = printable-append
      (printable-append (printable-cons refl (decimal-printable b.count))
      (of_words _ refl)) (hex-printable b.octets)
  data-printable (real o) = printable-cons refl (hex-printable o)
  data-printable (octets o) = printable-cons refl (hex-printable o)
  data-printable (text o) = printable-cons refl (escaped-printable o)
  data-printable (structure ds) = printable-append (printable-cons refl (members-printable ds))
      (of_words _ refl)
  data-printable (array ds) = printable-append (printable-cons refl (members-printable ds))
      (of_words _ refl)

  members-printable : (ds : Data) → IsPrintable (members_text ds)
  members-printable no_data = printable-nil
  members-printable (datum d ds) = printable-append (data-printable d) (further-printable ds)

  further-printable : (ds : Data) → IsPrintable (further_text ds)
  further-printable no_data = printable-nil
  further-printable (datum d ds) =
      printable-append (printable-cons refl (data-printable d)) (further-printable ds)

outcome-printable : (outcome : Outcome) → IsPrintable (outcome_text outcome)
outcome-printable (Good d) = data-printable d
outcome-printable (Fail reason) = printable-cons refl (decimal-printable reason)

scope-printable : (scope : Scope) → IsPrintable (scope_text scope)
scope-printable Vmd = of_words _ refl
scope-printable (Domain domain) =
    printable-append (escaped-printable domain) (of_words _ refl)
scope-printable Association = of_words _ refl

name-printable : (name : ObjectName) → IsPrintable (next_name name)
name-printable name = printable-cons refl
    (printable-append (scope-printable name.scope) (escaped-printable name.item))

-- ---- types

mutual
  shape-printable : (s : TypeShape) → IsPrintable (shape_text s)
  shape-printable bool_shape = of_words _ refl
  shape-printable (bits_shape n) =
      printable-append (of_words (codes "bits") refl) (decimal-printable n)
  shape-printable (int_shape n) =
      printable-append (of_words (codes "int") refl) (decimal-printable n)
  shape-printable (uint_shape n) =
      printable-append (of_words (codes "uint") refl) (decimal-printable n)
  shape-printable real_shape = of_words _ refl
  shape-printable (text_shape n) =
      printable-append (of_words (codes "text") refl) (decimal-printable n)
  shape-printable (structure_shape ss) =
      printable-append (printable-cons refl (components-printable ss)) (of_words _ refl)

  components-printable : (ss : TypeShapes) → IsPrintable (components_text ss)
  components-printable no_shapes = printable-nil
  components-printable (shapes s ss) =
      printable-append (shape-printable s) (further_components-printable ss)

  further_components-printable : (ss : TypeShapes) → IsPrintable (further_components ss)
  further_components-printable no_shapes = printable-nil
  further_components-printable (shapes s ss) =
      printable-append (printable-cons refl (shape-printable s)) (further_components-printable ss)

-- ---- replies

written-printable : (result : Option ℕ) → IsPrintable (written_text result)
written-printable None = of_words _ refl
written-printable (Some reason) =
    printable-append (of_words (codes " !") refl) (decimal-printable reason)

verb-printable : (echo : Bool) → IsPrintable (read_verb echo)
verb-printable true = of_words _ refl
verb-printable false = of_words _ refl

more-printable : (more : Bool) → IsPrintable (more_text more)
more-printable true = of_words _ refl
more-printable false = of_words _ refl

-- words, a number, a space and a number
numbers-printable : (words : List ℕ) (m n : ℕ) → IsPrintable words
    → IsPrintable (words ++ decimal m ++ 32 ∷ decimal n)
numbers-printable words m n are = printable-append (printable-append are (decimal-printable m))
    (printable-cons refl (decimal-printable n))

pub reply-printable : (reply : ReplyKind) → IsPrintable (reply_text reply)
reply-printable Identified = of_words _ refl
reply-printable (Results spec results) = printable-append (verb-printable _)
    (printable-all result_text (λ outcome. printable-cons refl (outcome-printable outcome)) _)
reply-printable (Written results) = printable-append (of_words (codes "write") refl)
    (printable-all written_text written-printable _)
reply-printable (NamesAre names more) = printable-append
    (printable-append (of_words (codes "names ") refl) (more-printable more))
    (printable-all item_text (λ name. printable-cons refl (escaped-printable name)) _)
reply-printable (TypeIs shape) =
    printable-append (of_words (codes "type ") refl) (shape-printable shape)
reply-printable Defined = of_words _ refl
reply-printable (MembersAre names) = printable-append (of_words (codes "members") refl)
    (printable-all next_name name-printable _)
reply-printable (Deleted matched deleted) =
    numbers-printable (codes "deleted ") matched deleted (of_words _ refl)
reply-printable (Error class code) =
    numbers-printable (codes "error ") class code (of_words _ refl)
reply-printable (Reject kind code) =
    numbers-printable (codes "reject ") kind code (of_words _ refl)

-- ---- reports

told-printable : (names : List ObjectName) (outcomes : List Outcome)
    → IsPrintable (told_text names outcomes)
told-printable [] outcomes = printable-nil
told-printable (name ∷ names) [] = printable-nil
told-printable (name ∷ names) (outcome ∷ outcomes) = printable-append
    (printable-append (name-printable name) (printable-cons refl (outcome-printable outcome)))
    (told-printable names outcomes)

pub report-printable : (report : ReportKind) → IsPrintable (report_text report)
report-printable (Set set results) = printable-append
    (printable-append (of_words (codes "set") refl) (name-printable set))
    (printable-all next_outcome (λ outcome. printable-cons refl (outcome-printable outcome)) _)
report-printable (Variables names results) =
    printable-append (of_words (codes "vars") refl) (told-printable names results)

-- ---- orders

pub order-printable : (rows : CentreRows) (order : Order) → IsPrintable (order_words rows order)
order-printable rows order =
    printable-append (escaped-printable (device_of rows order.device).name)
    (printable-cons refl (signed-printable order.value))

-- ---- ends

layer-printable : (layer : Layer) → IsPrintable (layer_name layer)
layer-printable layers.Transport = of_words _ refl
layer-printable layers.Session = of_words _ refl
layer-printable layers.Presentation = of_words _ refl
layer-printable layers.Acse = of_words _ refl
layer-printable layers.Mms = of_words _ refl

why-printable : (why : Why) → IsPrintable (why_name why)
why-printable whys.Short = of_words _ refl
why-printable whys.Length = of_words _ refl
why-printable whys.Tag = of_words _ refl
why-printable whys.Value = of_words _ refl
why-printable whys.Order = of_words _ refl
why-printable whys.Long = of_words _ refl

pub end-printable : (end : ConnEnd) → IsPrintable (end_text end)
end-printable conn_ends.Finished = of_words _ refl
end-printable conn_ends.PeerEnd = of_words _ refl
end-printable conn_ends.Declined = of_words _ refl
end-printable (conn_ends.Refused fault) = printable-append (of_words (codes "refused ") refl)
    (printable-append (printable-append (layer-printable fault.layer)
    (printable-cons {octet = 32} refl (decimal-printable fault.place)))
    (printable-cons {octet = 32} refl (why-printable fault.why)))
end-printable (conn_ends.TooLong len detail) =
    numbers-printable (codes "toolong ") len detail (of_words _ refl)
end-printable (conn_ends.Overflow pending limit) = printable-nil
end-printable conn_ends.LinkFault = printable-nil
end-printable conn_ends.Stopped = of_words _ refl
end-printable (conn_ends.Full weight limit) = printable-nil
end-printable conn_ends.Memory = printable-nil
