-- What stands under a name while an object is handed out, used and closed again.
use Rattle.std.proofs.Common.{◌≡◌, ◌⊎◌, ℕ, Bool, true, false, ◌<◌, List, Some, None, refl, sym}
use Rattle.std.proofs.Common.{◌∙◌, ap, subst, inl, inr}
use Rattle.std.specs.Prelude.{bytes_eq}
use Rattle.outside.specs.Names.Outside.{NameEntry, untold, missing, lent, there, OutsideTold}
use Rattle.outside.specs.Names.Outside.{HandsOutObject, Changes, lent_from, put_back_at}
use Rattle.commands.specs.Io.OutsideUse.{SomeOf, StandsAgain, FailedAt, FaultyAt, Uses}
use Rattle.commands.specs.Io.OutsideUse.{source_faults, sink_faults}
use Rattle.commands.proofs.OfIo.Leaving.{Rises-positive, StandsAgain-refl, FaultyAt-after, SomeOf-map}
use Rattle.commands.proofs.OfIo.Exchanging.{name_is, IsExchanged, is_exchanged}

-- it is as it was, or something stands there again
abbrev pub IsLater : {X : Type 0} → NameEntry X → NameEntry X → Type 0
IsLater {X} before after = (after ≡ before) ⊎ ((now : X) × (after ≡ there now))

module _ {X : Type 0} (faults : X → ℕ) where
  pub lifted : (s m a : NameEntry X) → IsLater s m → FaultyAt faults m a → FaultyAt faults s a
  lifted s m a (inl same) faulty = subst (λ e. FaultyAt faults e a) same faulty
  lifted untold m a (inr now) faulty = tt
  lifted missing m a (inr now) faulty = tt
  lifted lent m a (inr now) faulty = tt
  lifted (there x) m a (inr now) faulty = subst (λ e. FaultyAt faults e a) now.1 faulty

  pub again_later : (f : Bool) (s m : NameEntry X) → StandsAgain faults f s m → IsLater s m
  again_later f untold m again = inl again
  again_later f missing m again = inl again
  again_later f lent m again = inl again
  again_later f (there x) m again = inr (again.0, again.1)

  pub failed_faulty : (s a : NameEntry X) → FailedAt faults s a → FaultyAt faults s a
  failed_faulty untold a failed = tt
  failed_faulty missing a failed = tt
  failed_faulty lent a failed = tt
  failed_faulty (there x) a failed =
      (failed.0, failed.1, Rises-positive (faults x) (faults failed.0) failed.2)

  -- nothing was handed out
  pub unhanded : (name_of : X → List ℕ) (entries : List ℕ → NameEntry X) (name : List ℕ)
      (s a : NameEntry X) → HandsOutObject name_of faults entries name s None → FaultyAt faults s a
  unhanded name_of entries name untold a hands = tt
  unhanded name_of entries name missing a hands = tt
  unhanded name_of entries name lent a hands = tt
  unhanded name_of entries name (there x) a hands =
      absurd (let e : None ≡ Some x = hands.0 in cc)

  -- an object was handed out, and closed with this one in its place
  module _ (name_of : X → List ℕ) (name : List ℕ) (before mid closing after : List ℕ → NameEntry X)
      (x y : X) (hands : HandsOutObject name_of faults before name (before name) (Some x))
      (opens : Changes lent_from before mid name) (same : closing ≡ mid)
      (named : name_of y ≡ name_of x)
      (closes : Changes (λ standing. put_back_at standing y) closing after (name_of y)) where
    exchanged : IsExchanged name_of faults name before mid after x y
    exchanged = is_exchanged name_of faults name before mid after x y hands opens named
        (subst (λ (m : List ℕ → NameEntry X). Changes (λ standing. put_back_at standing y) m after
        (name_of y)) same closes)

    -- with a fault
    pub handed_faulty : 0 < faults y → FaultyAt faults (before name) (after name)
    handed_faulty positive =
        elim exchanged [
          | inl nothing ↦ subst (λ s. FaultyAt faults s (after name)) (sym nothing.0) tt
          | inr stood ↦ subst (λ s. FaultyAt faults s (after name)) (sym stood.0)
              (y, stood.1, positive)
        ]

    pub handed_later : (n : List ℕ) → IsLater (before n) (after n)
    handed_later n =
        elim exchanged [
          | inl nothing ↦ inl (nothing.2 n)
          | inr stood ↦ here (bytes_eq n name) refl stood.1 stood.2
        ]
      where
        here : (b : Bool) → bytes_eq n name ≡ b → after name ≡ there y
            → ((m : List ℕ) → bytes_eq m name ≡ false → after m ≡ before m)
            → IsLater (before n) (after n)
        here false at stands others = inl (others n at)
        here true at stands others = inr (y, ap after (name_is n name at) ∙ stands)

-- ---- all names

-- what stood under a name stands there again, with no fewer faults, and the network is as it was
pub record IsKept (before after : OutsideTold) : Type 0 where
  pub sources : (name : List ℕ)
      → (f : Bool) × StandsAgain source_faults f (before.sources name) (after.sources name)
  pub sinks : (name : List ℕ)
      → (f : Bool) × StandsAgain sink_faults f (before.sinks name) (after.sinks name)
  pub network : after.network ≡ before.network

pub kept_all : (o : OutsideTold) → IsKept o o
kept_all o = record {
  sources = λ name. (false, StandsAgain-refl source_faults false (o.sources name));
  sinks = λ name. (false, StandsAgain-refl sink_faults false (o.sinks name));
  network = refl;
}

pub kept_used : (reads writes : List (List ℕ)) (f : Bool) (b a : OutsideTold)
    → Uses reads writes f b a → IsKept b a
kept_used reads writes f b a uses = record {
  sources = λ name. (f, uses.sources.again name);
  sinks = λ name. (f, uses.sinks.again name);
  network = uses.network;
}

-- what is faulty under one of some names is so, with what came before and what comes behind
pub sources_between : (names : List (List ℕ)) (b t m a : OutsideTold) → IsKept b t → IsKept m a
    → SomeOf names (λ name. FaultyAt source_faults (t.sources name) (m.sources name))
    → SomeOf names (λ name. FaultyAt source_faults (b.sources name) (a.sources name))
sources_between names b t m a first then some =
    SomeOf-map names (λ name. FaultyAt source_faults (t.sources name) (m.sources name))
    (λ name. FaultyAt source_faults (b.sources name) (a.sources name)) (λ name faulty.
    lifted source_faults (b.sources name) (t.sources name) (a.sources name)
    (again_later source_faults (first.sources name).0 (b.sources name) (t.sources name)
    (first.sources name).1)
    (FaultyAt-after source_faults (then.sources name).0 (t.sources name) (m.sources name)
    (a.sources name) faulty (then.sources name).1)) some

pub sinks_between : (names : List (List ℕ)) (b t m a : OutsideTold) → IsKept b t → IsKept m a
    → SomeOf names (λ name. FaultyAt sink_faults (t.sinks name) (m.sinks name))
    → SomeOf names (λ name. FaultyAt sink_faults (b.sinks name) (a.sinks name))
sinks_between names b t m a first then some =
    SomeOf-map names (λ name. FaultyAt sink_faults (t.sinks name) (m.sinks name))
    (λ name. FaultyAt sink_faults (b.sinks name) (a.sinks name)) (λ name faulty.
    lifted sink_faults (b.sinks name) (t.sinks name) (a.sinks name)
    (again_later sink_faults (first.sinks name).0 (b.sinks name) (t.sinks name)
    (first.sinks name).1)
    (FaultyAt-after sink_faults (then.sinks name).0 (t.sinks name) (m.sinks name)
    (a.sinks name) faulty (then.sinks name).1)) some
