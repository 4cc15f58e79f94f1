-- What an outside tells of its names, and what opening and closing an object does to it.
use Rattle.std.specs.Prelude.{◌≡◌, ◌⊎◌, ℕ, List, [], ◌∷◌, ◌++◌, Option, Some, None, IfSome, is_none}
use Rattle.std.specs.Prelude.{nat_lt, bytes_eq, if◌then◌else◌}
use Rattle.outside.specs.Faults.{counted}
use Rattle.outside.specs.Source.{SourceTold}
use Rattle.outside.specs.Sink.{SinkTold}
use Rattle.outside.specs.Links.Links.{LinkTold, IsNewLink}
use Rattle.outside.specs.Links.Listeners.{ListenerTold}
use Rattle.outside.specs.Links.Clocks.{ClockTold}

-- what is told of a name: nothing; that it isn't there; that its object is handed out; that this
-- object stands there
pub data NameEntry (X : Type 0) : Type 0 where
  untold : NameEntry X
  missing : NameEntry X
  lent : NameEntry X
  there : X → NameEntry X

-- what an outside tells of other nodes and of the time
pub record NetworkTold : Type 0 where
  -- what stands at each address to listen at
  pub listeners : List ℕ → NameEntry ListenerTold
  -- the link that stands at each address to connect to
  pub links : List ℕ → NameEntry LinkTold
  pub clock : NameEntry ClockTold
  -- the addresses that it was asked to listen at, in order, also those at which nothing stood
  pub listened : Option (List (List ℕ))
  -- the addresses that it was asked to connect to
  pub connected : Option (List (List ℕ))

-- what an outside tells
pub record OutsideTold : Type 0 where
  -- what stands under each name of a source
  pub sources : List ℕ → NameEntry SourceTold
  -- what stands under each name of a sink
  pub sinks : List ℕ → NameEntry SinkTold
  -- the names that it was asked to open for reading, in order, also those that it found nothing
  -- under
  pub read_names : Option (List (List ℕ))
  -- the names that it was asked to open for writing
  pub written_names : Option (List (List ℕ))
  pub network : NetworkTold
  -- how many faults there were, of opens and of objects when they were closed
  pub faults : ℕ

-- what stands under a name after an open, and after an object was put back there
abbrev pub lent_from : {X : Type 0} → NameEntry X → NameEntry X
lent_from {X} untold = untold
lent_from {X} missing = missing
lent_from {X} lent = lent
lent_from {X} (there object) = lent

abbrev pub put_back_at : {X : Type 0} → NameEntry X → X → NameEntry X
put_back_at {X} untold object = untold
put_back_at {X} missing object = missing
put_back_at {X} lent object = there object
put_back_at {X} (there other) object = there object

-- what an open hands out: exactly what stands under the name, and it bears that name. Where nothing
-- is told of the name, a new object, which has no faults, or nothing; of the name that such an
-- object bears nothing is told either
abbrev pub HandsOutObject : {X : Type 0} → (X → List ℕ) → (X → ℕ) → (List ℕ → NameEntry X) → List ℕ
    → NameEntry X → Option X → Type 0
HandsOutObject {X} name_of faults_of before name untold result =
    IfSome result (λ object. (faults_of object ≡ 0) × (before (name_of object) ≡ untold))
HandsOutObject {X} name_of faults_of before name missing result = result ≡ None
HandsOutObject {X} name_of faults_of before name lent result = result ≡ None
HandsOutObject {X} name_of faults_of before name (there object) result =
    (result ≡ Some object) × (name_of object ≡ name)

-- this change at the name; every other name is as before
abbrev pub Changes : {X : Type 0} → (NameEntry X → NameEntry X) → (List ℕ → NameEntry X)
    → (List ℕ → NameEntry X) → List ℕ → Type 0
Changes change before after name =
    (n : List ℕ) → after n ≡ (if bytes_eq n name then change (before n) else before n)

-- what the object under a name went through between these two, where it is told; what isn't there
-- stays so
abbrev pub Acts : {X : Type 0} → (X → X → Type 0) → NameEntry X → NameEntry X → Type 0
Acts {X} R untold after = after ≡ untold
Acts {X} R missing after = after ≡ missing
Acts {X} R lent after = after ≡ lent
Acts {X} R (there object) after = (now : X) × (after ≡ there now) × R object now

-- the names asked for were more by these; an outside that tells none goes on so, and one that tells
-- them may stop
abbrev pub Asks : Option (List (List ℕ)) → Option (List (List ℕ)) → List (List ℕ) → Type 0
Asks None after names = after ≡ None
Asks (Some before) after names = (after ≡ None) ⊎ (after ≡ Some (before ++ names))

pub record OpensIn (before after : OutsideTold) (name : List ℕ)
    (result : Option SourceTold) : Type 0 where
  -- it hands out what stood there
  pub source : HandsOutObject (λ source. source.name) (λ source. source.faults) before.sources name
      (before.sources name) result
  -- which is handed out now
  pub sources : Changes lent_from before.sources after.sources name
  pub sinks : after.sinks ≡ before.sinks
  pub read_names : Asks before.read_names after.read_names (name ∷ [])
  pub written_names : after.written_names ≡ before.written_names
  pub network : after.network ≡ before.network
  -- the count rises by one exactly where nothing is handed out
  pub faults : after.faults ≡ counted (is_none result) before.faults

pub record ClosesIn (before after : OutsideTold) (source : SourceTold) : Type 0 where
  -- the source stands under its name again
  pub sources : Changes (λ standing. put_back_at standing source) before.sources after.sources
      source.name
  pub sinks : after.sinks ≡ before.sinks
  pub read_names : after.read_names ≡ before.read_names
  pub written_names : after.written_names ≡ before.written_names
  pub network : after.network ≡ before.network
  -- the count rises by one exactly where the source had faults
  pub faults : after.faults ≡ counted (nat_lt 0 source.faults) before.faults

pub record OpensOut (before after : OutsideTold) (name : List ℕ)
    (result : Option SinkTold) : Type 0 where
  -- it hands out what stood there
  pub sink : HandsOutObject (λ sink. sink.name) (λ sink. sink.faults) before.sinks name
      (before.sinks name) result
  -- and it holds nothing back
  pub held : IfSome result (λ sink. sink.held ≡ 0)
  -- which is handed out now
  pub sinks : Changes lent_from before.sinks after.sinks name
  pub sources : after.sources ≡ before.sources
  pub written_names : Asks before.written_names after.written_names (name ∷ [])
  pub read_names : after.read_names ≡ before.read_names
  pub network : after.network ≡ before.network
  -- the count rises by one exactly where nothing is handed out
  pub faults : after.faults ≡ counted (is_none result) before.faults

pub record ClosesOut (before after : OutsideTold) (sink : SinkTold) : Type 0 where
  -- the sink stands under its name again
  pub sinks : Changes (λ standing. put_back_at standing sink) before.sinks after.sinks sink.name
  pub sources : after.sources ≡ before.sources
  pub written_names : after.written_names ≡ before.written_names
  pub read_names : after.read_names ≡ before.read_names
  pub network : after.network ≡ before.network
  -- the count rises by one exactly where the sink had faults
  pub faults : after.faults ≡ counted (nat_lt 0 sink.faults) before.faults

-- the network changed in one member, and in another that says what was asked; all else is as before
abbrev pub with_listeners : OutsideTold → OutsideTold → OutsideTold
with_listeners before after = record before {
  network = record before.network {
    listeners = after.network.listeners;
    listened = after.network.listened;
  };
  faults = after.faults;
}

abbrev pub with_links : OutsideTold → OutsideTold → OutsideTold
with_links before after = record before {
  network = record before.network {
    links = after.network.links;
    connected = after.network.connected;
  };
  faults = after.faults;
}

abbrev pub with_clock : OutsideTold → OutsideTold → OutsideTold
with_clock before after = record before {
  network = record before.network { clock = after.network.clock };
  faults = after.faults;
}

pub record Listens (before after : OutsideTold) (address : List ℕ)
    (result : Option ListenerTold) : Type 0 where
  -- it hands out what stood there
  pub listener : HandsOutObject (λ listener. listener.name) (λ listener. listener.faults)
      before.network.listeners address (before.network.listeners address) result
  -- which is handed out now
  pub listeners : Changes lent_from before.network.listeners after.network.listeners address
  pub asked : Asks before.network.listened after.network.listened (address ∷ [])
  -- the count rises by one exactly where nothing is handed out
  pub faults : after.faults ≡ counted (is_none result) before.faults
  pub rest : after ≡ with_listeners before after

pub record ClosesListener (before after : OutsideTold) (listener : ListenerTold) : Type 0 where
  -- the listener stands at its address again
  pub listeners : Changes (λ standing. put_back_at standing listener) before.network.listeners
      after.network.listeners listener.name
  pub asked : after.network.listened ≡ before.network.listened
  -- the count rises by one exactly where the listener had faults
  pub faults : after.faults ≡ counted (nat_lt 0 listener.faults) before.faults
  pub rest : after ≡ with_listeners before after

pub record Connects (before after : OutsideTold) (address : List ℕ)
    (result : Option LinkTold) : Type 0 where
  -- it hands out what stood there
  pub link : HandsOutObject (λ link. link.name) (λ link. link.faults)
      before.network.links address (before.network.links address) result
  -- a link of which nothing was told is new
  pub fresh : before.network.links address ≡ untold → IfSome result IsNewLink
  -- which is handed out now
  pub links : Changes lent_from before.network.links after.network.links address
  pub asked : Asks before.network.connected after.network.connected (address ∷ [])
  -- the count rises by one exactly where nothing is handed out
  pub faults : after.faults ≡ counted (is_none result) before.faults
  pub rest : after ≡ with_links before after

pub record ClosesLink (before after : OutsideTold) (link : LinkTold) : Type 0 where
  -- the link stands at its address again
  pub links : Changes (λ standing. put_back_at standing link) before.network.links
      after.network.links link.name
  pub asked : after.network.connected ≡ before.network.connected
  -- the count rises by one exactly where the link had faults
  pub faults : after.faults ≡ counted (nat_lt 0 link.faults) before.faults
  pub rest : after ≡ with_links before after

-- what a call hands out as the clock: exactly the one that stands there; where nothing is told, one
-- without faults, or none
abbrev pub HandsOutClock : NameEntry ClockTold → Option ClockTold → Type 0
HandsOutClock untold result = IfSome result (λ clock. clock.faults ≡ 0)
HandsOutClock missing result = result ≡ None
HandsOutClock lent result = result ≡ None
HandsOutClock (there clock) result = result ≡ Some clock

pub record OpensClock (before after : OutsideTold) (result : Option ClockTold) : Type 0 where
  pub clock : HandsOutClock before.network.clock result
  -- it is handed out now
  pub lent : after.network.clock ≡ lent_from before.network.clock
  -- the count rises by one exactly where none is handed out
  pub faults : after.faults ≡ counted (is_none result) before.faults
  pub rest : after ≡ with_clock before after

pub record ClosesClock (before after : OutsideTold) (clock : ClockTold) : Type 0 where
  -- it stands there again
  pub back : after.network.clock ≡ put_back_at before.network.clock clock
  -- the count rises by one exactly where the clock had faults
  pub faults : after.faults ≡ counted (nat_lt 0 clock.faults) before.faults
  pub rest : after ≡ with_clock before after
