-- The words of table lines: names, identifiers, kinds, scopes, layouts and titles.
use Rattle.std.specs.Prelude.{◌≡◌, ◌≤◌, All, IsTrue}
use Rattle.std.specs.Prelude.{ℕ, Bool, true, false, not, ◌&&◌, ◌||◌, ◌==◌, nat_le, nat_eq}
use Rattle.std.specs.Prelude.{if◌then◌else◌, List, [], ◌∷◌, length, Option, Some, None, Result, Ok}
use Rattle.std.specs.Prelude.{Err}
use Rattle.std.specs.Prelude.{bytes_eq, codes, option_and_then}
use Rattle.std.specs.Option.{option_map}
use Rattle.std.specs.List.{slice_split, list_any, list_all, starts_with, ends_with}
use Rattle.std.specs.Char.{is_ascii_alphabetic, is_ascii_alphanumeric}
use Rattle.plain_text.specs.Words.{each_in}
use Rattle.plain_text.specs.Numbers.{number_in, if_passes}
use Rattle.ber_values.specs.Dotted.{dotted_in, is_oid, arcs_octets}
use Rattle.ber_values.specs.declared.object_identifier.TheConstants.{ARC_LIMIT}
use Rattle.tase_points.specs.declared.kind.Kind.{Kind}
use Rattle.tase_points.specs.declared.kind.Kind.TheVariants.{State, Discrete, Real}
use Rattle.tase_points.specs.declared.layout.Component.{Component}
use Rattle.tase_points.specs.declared.layout.Component.TheVariants.{Value, Time, Millis, Flags, Cov}
use Rattle.tase_points.specs.Same.{same_component}
use Rattle.bilateral.specs.declared.words.layouts.LayoutWhy.{LayoutWhy}
use Rattle.bilateral.specs.declared.words.layouts.LayoutWhy.TheVariants.{Part, Twice}
use Rattle.bilateral.specs.declared.words.words.TheConstants.{NAME_LIMIT, IDENTIFIER_LIMIT}

-- names that the protocol uses itself
abbrev pub special_names : List (List ℕ)
special_names =
    codes "TASE2_Version" ∷ codes "Supported_Features" ∷ codes "Bilateral_Table_ID"
    ∷ codes "Next_DSTransfer_Set" ∷ codes "Transfer_Set_Name" ∷ codes "Transfer_Set_Time_Stamp"
    ∷ codes "DSConditions_Detected" ∷ codes "Event_Code_Detected" ∷ []

abbrev pub is_special : List ℕ → Bool
is_special name = list_any (λ special. bytes_eq name special) special_names

-- names that belong to devices and transfer sets, or that the protocol uses itself
abbrev pub is_reserved : List ℕ → Bool
is_reserved name =
    ends_with nat_eq name (codes "_SBO") || ends_with nat_eq name (codes "_TAG")
    || ends_with nat_eq name (codes "_TIMEOUT") || starts_with nat_eq name (codes "DSTrans")
    || is_special name

-- letters, digits and `_`, up to the limit of a name, the first of them a letter
abbrev pub is_plain_name : List ℕ → Bool
is_plain_name [] = false
is_plain_name (first ∷ more) =
    is_ascii_alphabetic first
    && list_all (λ octet. is_ascii_alphanumeric octet || (octet == 95)) more
    && nat_le (length (first ∷ more)) NAME_LIMIT

-- the name of a point
abbrev pub is_name : List ℕ → Bool
is_name name = is_plain_name name && not (is_reserved name)

-- an identifier: letters, digits, `_` and `$`, one to the limit
abbrev pub is_identifier : List ℕ → Bool
is_identifier word =
    not (length word == 0) && nat_le (length word) IDENTIFIER_LIMIT
    && list_all (λ octet. is_ascii_alphanumeric octet || (octet == 95) || (octet == 36)) word

-- the kind of point that a word names
abbrev pub kind_in : List ℕ → Option Kind
kind_in word =
    if bytes_eq word (codes "state") then Some State
    else (if bytes_eq word (codes "discrete") then Some Discrete
    else (if bytes_eq word (codes "real") then Some Real else None))

-- whether a scope is the whole device; otherwise it is the table's domain
abbrev pub whole_scope_in : List ℕ → Option Bool
whole_scope_in word =
    if bytes_eq word (codes "vmd") then Some true
    else (if bytes_eq word (codes "domain") then Some false else None)

-- the component that a word names
abbrev pub component_in : List ℕ → Option Component
component_in word =
    if bytes_eq word (codes "value") then Some Value
    else (if bytes_eq word (codes "time") then Some Time
    else (if bytes_eq word (codes "millis") then Some Millis
    else (if bytes_eq word (codes "flags") then Some Flags
    else (if bytes_eq word (codes "cov") then Some Cov else None))))

-- whether no component stands twice
abbrev pub is_distinct : List Component → Bool
is_distinct [] = true
is_distinct (component ∷ more) = not (list_any (same_component component) more) && is_distinct more

-- the layout that components are, unless one stands twice
abbrev pub layout_of : List Component → Result (List Component) LayoutWhy
layout_of components = if is_distinct components then Ok components else Err Twice

-- the layout that the components named by parts are, unless a part names none or two name one
abbrev pub layout_from : Option (List Component) → Result (List Component) LayoutWhy
layout_from None = Err Part
layout_from (Some components) = layout_of components

-- the layout that a word is: components joined by commas
abbrev pub layout_in : List ℕ → Result (List Component) LayoutWhy
layout_in word = layout_from (each_in component_in (slice_split (λ octet. octet == 44) word))

-- the title that a word is: an object identifier, or `*` for none
abbrev pub title_in : List ℕ → Option (Option (List ℕ))
title_in word =
    if bytes_eq word (codes "*") then Some None else option_map Some (dotted_in word)

-- the contents octets of an object identifier that a word can spell: of arcs within their limits
pub record IsDottedOid (octets : List ℕ) : Type 0 where
  pub arcs : List ℕ
  pub is : IsTrue (is_oid arcs)
  pub small : All (λ arc. arc ≤ ARC_LIMIT) arcs
  pub same : octets ≡ arcs_octets arcs

-- a title that a word can spell
abbrev pub IsTitle : Option (List ℕ) → Type 0
IsTitle None = Unit {0}
IsTitle (Some octets) = IsDottedOid octets

-- a number from `least` on, without it where it is above `most`
abbrev pub limit_of : ℕ → ℕ → ℕ → Option (Option ℕ)
limit_of least most n = if nat_le least n then Some (if_passes (λ k. nat_le k most) n) else None

-- the limit that a word is
abbrev pub limit_in : ℕ → ℕ → List ℕ → Option (Option ℕ)
limit_in least most word = option_and_then (limit_of least most) (number_in word)
