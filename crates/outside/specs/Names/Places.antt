-- The places of an outside in memory: a name each, with the object that stands there.
use Rattle.std.specs.Prelude.{◌≡◌, ℕ, List, [], ◌∷◌, Option, Some, None, bytes_eq, if◌then◌else◌}
use Rattle.std.specs.Option.{IfSome}
use Rattle.outside.specs.States.{TextState, ByteState, text_told, byte_told}
use Rattle.outside.specs.Links.ScriptStates.{LinkState, ListenerState, ClockState}
use Rattle.outside.specs.Links.ScriptStates.{script_link_told, script_listener_told}
use Rattle.outside.specs.Links.ScriptStates.{script_clock_told}
use Rattle.outside.specs.Names.Names.{AskedState}
use Rattle.outside.specs.Names.Outside.{NameEntry, untold, missing, lent, there, OutsideTold}

-- what stands at a place
abbrev pub at_place : {X : Type 0} → Option X → NameEntry X
at_place {X} None = lent
at_place {X} (Some object) = there object

-- what stands under a name
abbrev pub standing : {X : Type 0} → List (List ℕ × Option X) → List ℕ → NameEntry X
standing [] name = missing
standing (place ∷ places) name =
    if bytes_eq name place.0 then at_place place.1 else standing places name

-- the object that stands there
abbrev pub object_there : {X : Type 0} → NameEntry X → Option X
object_there {X} untold = None
object_there {X} missing = None
object_there {X} lent = None
object_there {X} (there object) = Some object

-- what is told of it
abbrev pub told_there : {X Y : Type 0} → (X → Y) → NameEntry X → NameEntry Y
told_there {X} {Y} told untold = untold
told_there {X} {Y} told missing = missing
told_there {X} {Y} told lent = lent
told_there {X} {Y} told (there object) = there (told object)

-- the object stands under the name now, and what stands under any other name is as before
abbrev pub PutsUnder : {X : Type 0} → List (List ℕ × Option X) → List (List ℕ × Option X) → List ℕ
    → X → Type 0
PutsUnder before after name object =
    (n : List ℕ) → standing after n ≡ (if bytes_eq n name then there object else standing before n)

-- each object bears the name of its place
abbrev pub AllNamed : {X : Type 0} → (X → List ℕ) → List (List ℕ × Option X) → Type 0
AllNamed name_of [] = Unit {0}
AllNamed name_of (place ∷ places) =
    IfSome place.1 (λ object. name_of object ≡ place.0) × AllNamed name_of places

-- what stands where there is one place or none
abbrev pub at_one_place : {X : Type 0} → Option (Option X) → NameEntry X
at_one_place {X} None = missing
at_one_place {X} (Some place) = at_place place

-- an outside in memory, with the names and addresses that it was asked to open
pub record MemoryState : Type 0 where
  pub sources : List (List ℕ × Option TextState)
  pub sinks : List (List ℕ × Option ByteState)
  pub listeners : List (List ℕ × Option ListenerState)
  pub links : List (List ℕ × Option LinkState)
  pub clock : Option (Option ClockState)
  pub read_names : AskedState
  pub written_names : AskedState
  pub listened : AskedState
  pub connected : AskedState
  pub faults : ℕ

abbrev pub memory_told : MemoryState → OutsideTold
memory_told o = record {
  sources = λ name. told_there text_told (standing o.sources name);
  sinks = λ name. told_there byte_told (standing o.sinks name);
  read_names = o.read_names.names;
  written_names = o.written_names.names;
  network = record {
    listeners = λ address. told_there script_listener_told (standing o.listeners address);
    links = λ address. told_there script_link_told (standing o.links address);
    clock = told_there script_clock_told (at_one_place o.clock);
    listened = o.listened.names;
    connected = o.connected.names;
  };
  faults = o.faults;
}
