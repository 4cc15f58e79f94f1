-- The text of a call spells that call.
use Rattle.std.proofs.Common.{◌≡◌, ◌⊎◌, ℕ, ◌<◌, ◌^◌, Bool, true, false, List, [], ◌∷◌, ◌++◌}
use Rattle.std.proofs.Common.{length, map, flat_map, Option, Some, None, codes, decimal, refl, sym}
use Rattle.std.proofs.Common.{ap}
use Rattle.std.proofs.Common.{◌∙◌, arith, append_assoc, append-nil, inl, inr, ℤ, pos, negsuc}
use Rattle.std.specs.Prelude.{IfSome}
use Rattle.std.specs.Fmt.{signed_decimal}
use Rattle.std.specs.List.{All}
use Rattle.std.specs.Int.{w64}
use Rattle.std.specs.Int.RustNames.{FitsSigned}
use Rattle.std.proofs.lemmas.List.{length-append}
use Rattle.std.proofs.lemmas.List.Elements.{All-head, All-tail}
use Rattle.std.proofs.lemmas.Fmt.{decimal_is_IsNumeral}
use Rattle.plain_text.specs.Escaped.{is_plain, escaped_octet, escaped_text}
use Rattle.plain_text.specs.Words.{words}
use Rattle.mms_data.specs.Datum.{Datum, boolean}
use Rattle.mms_data.specs.declared.object_name.Scope.{Scope}
use Rattle.mms_data.specs.declared.object_name.Scope.TheVariants.{Vmd, Domain, Association}
use Rattle.mms_data.specs.ObjectName.{ObjectName, IsName, IsScope, IsIdentifier}
use Rattle.mms_data.specs.Text.Texts.{data_text, name_text, scope_text}
use Rattle.mms_data.specs.Text.TextRead.{HasText}
use Rattle.tase_views.specs.declared.call.CallKind.{CallKind}
use Rattle.tase_views.specs.declared.call.CallKind.TheVariants.{Identify, Read, ReadSet, Write}
use Rattle.tase_views.specs.declared.call.CallKind.TheVariants.{WriteSet, NameList, TypeOf, Define}
use Rattle.tase_views.specs.declared.call.CallKind.TheVariants.{MembersOf, Delete, DeleteScope, Odd}
use Rattle.tase_views.specs.Calls.{IsCall}
use Rattle.tase_views.specs.EventTexts.{call_text, next_name, next_value, assigned_text}
use Rattle.tase_views.specs.EventTexts.{after_text}
use Rattle.texts.specs.Events.CallWords.{assigned_words, after_words}
use Rattle.texts.specs.Events.CallWords.{HasWords}
use Rattle.texts.specs.Events.CallTexts.{IsCallText}
use Rattle.texts.specs.Events.Verbs.{verb_text}
use Rattle.texts.specs.declared.events.reading.verbs.Verb.{Verb}
use Rattle.texts.specs.declared.events.reading.verbs.Verb.TheVariants as verbs
use Rattle.texts.proofs.OfEvents.Behind.{verb_of, others_of, call_words-are}
use Rattle.texts.proofs.OfEvents.Graphic.{both_graphic, escaped_graphic, signed_graphic}
use Rattle.texts.proofs.OfEvents.Graphic.{scope_graphic, name_graphic, data_graphic, decimal_graphic}
use Rattle.texts.proofs.OfEvents.Parted.{IsPrinted, ArePrinted, after_spaces, words-parted}
use Rattle.texts.proofs.OfEvents.Parted.{spaced-parted}

names-after : (names : List ObjectName)
    → flat_map next_name names ≡ after_spaces (map name_text names)
names-after [] = refl
names-after (name ∷ names) = ap (λ t. next_name name ++ t) (names-after names)

values-after : (values : List Datum)
    → flat_map next_value values ≡ after_spaces (map data_text values)
values-after [] = refl
values-after (value ∷ values) = ap (λ t. next_value value ++ t) (values-after values)

name-after : (name : ObjectName) → next_name name ≡ after_spaces (name_text name ∷ [])
name-after name = sym (append-nil (32 ∷ name_text name))

name-first : (name : ObjectName) (rest : List ℕ) (words : List (List ℕ))
    → rest ≡ after_spaces words → next_name name ++ rest ≡ after_spaces (name_text name ∷ words)
name-first name rest words e = ap (λ t. next_name name ++ t) e

assigned-after : (names : List ObjectName) (values : List Datum)
    → assigned_text names values ≡ after_spaces (assigned_words names values)
assigned-after [] values = refl
assigned-after (name ∷ names) [] = refl
assigned-after (name ∷ names) (value ∷ values) =
    ap (λ t. next_name name ++ 61 ∷ data_text value ++ t) (assigned-after names values)

afters-after : (after : Option (List ℕ)) → after_text after ≡ after_spaces (after_words after)
afters-after None = refl
afters-after (Some after) = sym (append-nil (32 ∷ escaped_text after))

-- a call's text is its words, a space before each but the first
pub call_text-is : (call : CallKind)
    → call_text call ≡ verb_text (verb_of call) ++ after_spaces (others_of call)
call_text-is Identify = refl
call_text-is (Read names true) = ap (λ t. codes "read+" ++ t) (names-after names)
call_text-is (Read names false) = ap (λ t. codes "read" ++ t) (names-after names)
call_text-is (Write names values) = ap (λ t. codes "write" ++ t) (assigned-after names values)
call_text-is (ReadSet set true) = ap (λ t. codes "readset+" ++ t) (name-after set)
call_text-is (ReadSet set false) = ap (λ t. codes "readset" ++ t) (name-after set)
call_text-is (WriteSet set values) =
    ap (λ t. codes "writeset" ++ t) (name-first set (flat_map next_value values) (map data_text values) (values-after values))
call_text-is (TypeOf name) = ap (λ t. codes "type" ++ t) (name-after name)
call_text-is (Define set members) =
    ap (λ t. codes "define" ++ t) (name-first set (flat_map next_name members) (map name_text members) (names-after members))
call_text-is (MembersOf set) = ap (λ t. codes "members" ++ t) (name-after set)
call_text-is (Delete sets) = ap (λ t. codes "delete" ++ t) (names-after sets)
call_text-is (DeleteScope scope) =
    ap (λ t. codes "deletescope " ++ t) (sym (append-nil (signed_decimal scope)))
call_text-is (NameList class scope after) =
    ap (λ t. codes "names " ++ signed_decimal class ++ 32 ∷ scope_text scope ++ t)
    (afters-after after)
    ∙ append_assoc (codes "names " ++ signed_decimal class) (32 ∷ scope_text scope)
    (after_spaces (after_words after))
    ∙ append_assoc (codes "names ") (signed_decimal class)
    (32 ∷ (scope_text scope ++ after_spaces (after_words after)))
call_text-is (Odd kind code) =
    append_assoc (codes "odd ") (decimal kind) (32 ∷ decimal code)
    ∙ ap (λ t. codes "odd " ++ (decimal kind ++ 32 ∷ t)) (sym (append-nil (decimal code)))

longer : (xs ys : List ℕ) → 0 < length xs → 0 < length (xs ++ ys)
longer xs ys h = rw (length-append xs ys) (omega (arith, h))

escaped_some : (os : List ℕ) → IsIdentifier os → 0 < length (escaped_text os)
escaped_some [] h = absurd (omega (arith, h.0))
escaped_some (octet ∷ os) h = longer (escaped_octet octet) (escaped_text os) (by_plain octet _ refl)
  where
    by_plain : (octet : ℕ) (plain : Bool) → is_plain octet ≡ plain
        → 0 < length (escaped_octet octet)
    by_plain octet true e = rw e (omega arith)
    by_plain octet false e = rw e (omega arith)

scope_some : (scope : Scope) → IsScope scope → 0 < length (scope_text scope)
scope_some Vmd h = omega arith
scope_some (Domain domain) h = longer (escaped_text domain) (47 ∷ []) (escaped_some domain h)
scope_some Association h = omega arith

name_printed : (name : ObjectName) → IsName name → IsPrinted (name_text name)
name_printed name h = record {
  some = longer (scope_text name.scope) (escaped_text name.item) (scope_some name.scope h.0);
  graphic = name_graphic name h;
}

decimal_printed : (n : ℕ) → n < 2 ^ 64 → IsPrinted (decimal n)
decimal_printed n small = record {
  some = omega (arith, (decimal_is_IsNumeral n small).0.0);
  graphic = decimal_graphic n small;
}

signed_printed : (z : ℤ) → FitsSigned w64 z → IsPrinted (signed_decimal z)
signed_printed (pos n) fits = decimal_printed n (omega (arith, fits))
signed_printed (negsuc n) fits = record {
  some = omega arith;
  graphic = signed_graphic (negsuc n) fits;
}

names_printed : (names : List ObjectName) → All IsName names → ArePrinted (map name_text names)
names_printed [] all = tt
names_printed (name ∷ names) all = (
  name_printed name (All-head IsName name names all),
  names_printed names (All-tail IsName name names all),
)

assigned_printed : (names : List ObjectName) (values : List Datum) → All IsName names
    → All HasText values → ArePrinted (assigned_words names values)
assigned_printed [] values all textual = tt
assigned_printed (name ∷ names) [] all textual = tt
assigned_printed (name ∷ names) (value ∷ values) all textual =
    let n = name_printed name (All-head IsName name names all) in (
      record {
        some = longer (name_text name) (61 ∷ data_text value) n.some;
        graphic = both_graphic (name_text name) (61 ∷ data_text value) n.graphic
            (data_graphic value (All-head HasText value values textual));
      },
      assigned_printed names values (All-tail IsName name names all)
          (All-tail HasText value values textual),
    )

data_some : (d : Datum) → 0 < length (data_text d)
data_some (boolean true) = omega arith
data_some (boolean false) = omega arith
data_some _ = omega arith

data_printed : (d : Datum) → HasText d → IsPrinted (data_text d)
data_printed d h = record { some = data_some d; graphic = data_graphic d h }

values_printed : (values : List Datum) → All HasText values → ArePrinted (map data_text values)
values_printed [] textual = tt
values_printed (value ∷ values) textual = (
  data_printed value (All-head HasText value values textual),
  values_printed values (All-tail HasText value values textual),
)

after_printed : (after : Option (List ℕ)) → IfSome after IsIdentifier
    → ArePrinted (after_words after)
after_printed None h = tt
after_printed (Some after) h =
    (record { some = escaped_some after h; graphic = escaped_graphic after h }, tt)

odd_small : (kind : ℕ) → (kind ≡ 1) ⊎ (kind ≡ 5) → kind < 2 ^ 64
odd_small kind (inl e) = omega (arith, e)
odd_small kind (inr e) = omega (arith, e)

others_printed : (call : CallKind) → IsCall call → HasWords call → ArePrinted (others_of call)
others_printed Identify h k = tt
others_printed (Read names echo) h k = names_printed names k
others_printed (ReadSet set echo) h k = (name_printed set k, tt)
others_printed (WriteSet set values) h k = (name_printed set k.0, values_printed values k.1)
others_printed (TypeOf name) h k = (name_printed name k, tt)
others_printed (Define set members) h k = (name_printed set k.0, names_printed members k.1)
others_printed (MembersOf set) h k = (name_printed set k, tt)
others_printed (Delete sets) h k = names_printed sets k
others_printed (DeleteScope scope) h k = (signed_printed scope k, tt)
others_printed (Write names values) h k = assigned_printed names values k.0 k.1
others_printed (NameList class scope after) h k = (
  signed_printed class k,
  (
    record { some = scope_some scope h.0; graphic = scope_graphic scope h.0 },
    after_printed after h.1,
  ),
)
others_printed (Odd kind code) h k =
    (decimal_printed kind (odd_small kind h.0), (decimal_printed code (omega (arith, h.1)), tt))

verb_printed : (verb : Verb) → IsPrinted (verb_text verb)
verb_printed verbs.Identify = record { some = omega arith; graphic = refl }
verb_printed verbs.Read = record { some = omega arith; graphic = refl }
verb_printed verbs.ReadEcho = record { some = omega arith; graphic = refl }
verb_printed verbs.Write = record { some = omega arith; graphic = refl }
verb_printed verbs.NameList = record { some = omega arith; graphic = refl }
verb_printed verbs.ReadSet = record { some = omega arith; graphic = refl }
verb_printed verbs.ReadSetEcho = record { some = omega arith; graphic = refl }
verb_printed verbs.WriteSet = record { some = omega arith; graphic = refl }
verb_printed verbs.TypeOf = record { some = omega arith; graphic = refl }
verb_printed verbs.Define = record { some = omega arith; graphic = refl }
verb_printed verbs.MembersOf = record { some = omega arith; graphic = refl }
verb_printed verbs.Delete = record { some = omega arith; graphic = refl }
verb_printed verbs.DeleteScope = record { some = omega arith; graphic = refl }
verb_printed verbs.Odd = record { some = omega arith; graphic = refl }

pub written-is_read : (call : CallKind) → IsCall call → HasWords call
    → IsCallText (call_text call) call
written-is_read call h k =
    let verb = verb_printed (verb_of call) in
    let others = others_printed call h k in
    record {
      spaced = rw (call_text-is call)
          (spaced-parted (verb_text (verb_of call)) (others_of call) verb others);
      words = record {
        spelled = ap words (call_text-is call)
            ∙ words-parted (verb_text (verb_of call)) (others_of call) verb others
            ∙ sym (call_words-are call);
        lawful = h;
        textual = k;
      };
    }
