-- An object that was opened, used, and closed again under its name.
use Rattle.std.proofs.Common.{◌≡◌, ℕ, true, false, cond, List, [], ◌∷◌, ◌++◌, Option, Some, None, inl, inr, refl, sym, ◌∙◌, ap, subst, append_assoc}
use Rattle.std.specs.Prelude.{bytes_eq, nat_lt}
use Rattle.std.proofs.lemmas.Bool.{cases_Bool}
use Rattle.std.proofs.lemmas.List.{append-nil}
use Rattle.std.proofs.lemmas.Slice.Eq.{bytes_eq-Decides}
use Rattle.outside.specs.Faults.{counted}
use Rattle.outside.specs.Source.{SourceTold}
use Rattle.outside.specs.Sink.{SinkTold}
use Rattle.outside.specs.Names.Outside.{OutsideTold, OpensIn, ClosesIn, OpensOut, ClosesOut, NameEntry, untold, missing, lent, there, lent_from, put_back_at, HandsOutObject, Changes, Acts, Asks}

pub bytes_are : (xs ys : List ℕ) → bytes_eq xs ys ≡ true → xs ≡ ys
bytes_are xs ys = (bytes_eq-Decides xs ys).0

pub bytes_same : (xs : List ℕ) → bytes_eq xs xs ≡ true
bytes_same xs = (bytes_eq-Decides xs xs).1 refl

-- what stood under a name where x was opened there and y was closed, and what stands there then
abbrev pub IsExchanged : {X : Type 0} → NameEntry X → NameEntry X → X → X → Type 0
IsExchanged {X} untold after x y = after ≡ untold
IsExchanged {X} missing after x y = ⊥
IsExchanged {X} lent after x y = ⊥
IsExchanged {X} (there object) after x y = (object ≡ x) × (after ≡ there y)

-- the object that stood under the name was exchanged, and every other name is as before
pub record Exchanges {X : Type 0} (before after : List ℕ → NameEntry X) (name : List ℕ)
    (x y : X) : Type 0 where
  pub object : IsExchanged (before name) (after name) x y
  pub others : (n : List ℕ) → bytes_eq n name ≡ false → after n ≡ before n

module _ {X : Type 0} where
  -- at the name itself, and at another one
  pub changed_at : (change : NameEntry X → NameEntry X) (before after : List ℕ → NameEntry X)
      (name : List ℕ)
      → Changes change before after name → after name ≡ change (before name)
  changed_at change before after name changes =
      changes name ∙ ap (λ t. cond t (change (before name)) (before name)) (bytes_same name)

  pub same_at : (change : NameEntry X → NameEntry X) (before after : List ℕ → NameEntry X)
      (name n : List ℕ)
      → Changes change before after name → bytes_eq n name ≡ false → after n ≡ before n
  same_at change before after name n changes other =
      changes n ∙ ap (λ t. cond t (change (before n)) (before n)) other

  -- a change at a name under which it changes nothing
  pub unchanged : (change : NameEntry X → NameEntry X) (before after : List ℕ → NameEntry X)
      (name n : List ℕ)
      → Changes change before after name → change (before name) ≡ before name → after n ≡ before n
  unchanged change before after name n changes nothing = elim (cases_Bool (bytes_eq n name)) [
    | inl same ↦
        subst (λ (m : List ℕ). after m ≡ before m) (sym (bytes_are n name same))
        (changed_at change before after name changes ∙ nothing)
    | inr other ↦ same_at change before after name n changes other
  ]

  -- an open that hands out nothing changes nothing
  pub opened_nothing : (name_of : X → List ℕ) (faults_of : X → ℕ)
      (before after : List ℕ → NameEntry X) (name n : List ℕ)
      → HandsOutObject name_of faults_of before name (before name) None
      → Changes lent_from before after name → after n ≡ before n
  opened_nothing name_of faults_of before after name n handed opened =
      unchanged lent_from before after name n opened (go (before name) handed)
    where
      go : (stood : NameEntry X) → HandsOutObject name_of faults_of before name stood None
          → lent_from stood ≡ stood
      go untold h = refl
      go missing h = refl
      go lent h = refl
      go (there x) h = let none = h.0 in cc

  pub exchanges : (name_of : X → List ℕ) (faults_of : X → ℕ)
      (before mid after : List ℕ → NameEntry X) (name : List ℕ) (x y : X)
      → HandsOutObject name_of faults_of before name (before name) (Some x)
      → Changes lent_from before mid name
      → name_of y ≡ name_of x → Changes (λ s. put_back_at s y) mid after (name_of y)
      → Exchanges before after name x y
  exchanges name_of faults_of before mid after name x y handed opened same closed =
      go (before name) refl handed
    where
      untold_there : before name ≡ untold → before (name_of x) ≡ untold → (n : List ℕ)
          → after n ≡ before n
      untold_there is bears n =
          let mid_as : (m : List ℕ) → mid m
          ≡ before m = λ m. unchanged lent_from before mid name m opened
          (ap lent_from is ∙ sym is) in
          let at_y : mid (name_of y) ≡ untold = mid_as (name_of y) ∙ ap before same ∙ bears in
          unchanged (λ s. put_back_at s y) mid after (name_of y) n closed
          (ap (λ s. put_back_at s y) at_y ∙ sym at_y) ∙ mid_as n

      go : (stood : NameEntry X) → before name ≡ stood
          → HandsOutObject name_of faults_of before name stood (Some x) → Exchanges before after name x y
      go untold is h = record {
        object = subst (λ (s : NameEntry X). IsExchanged s (after name) x y) (sym is)
            (untold_there is h.1 name ∙ is);
        others = λ n other. untold_there is h.1 n;
      }
      go missing is h = cc
      go lent is h = cc
      go (there z) is h =
          let x_is : z ≡ x = let some = h.0 in cc in
          let y_named : name_of y ≡ name = same ∙ ap name_of (sym x_is) ∙ h.1 in
          let closed' : Changes (λ s. put_back_at s y) mid after name = subst
          (λ (n : List ℕ). Changes (λ s. put_back_at s y) mid after n) y_named closed in
          let mid_is : mid name ≡ lent = changed_at lent_from before mid name opened
          ∙ ap lent_from is in
          record {
            object = subst (λ (s : NameEntry X). IsExchanged s (after name) x y) (sym is) (
              x_is,
              changed_at (λ s. put_back_at s y) mid after name closed'
                  ∙ ap (λ s. put_back_at s y) mid_is,
            );
            others = λ n other. same_at (λ s. put_back_at s y) mid after name n closed' other
                ∙ same_at lent_from before mid name n opened other;
          }

  -- what the object went through is what what stands under its name went through
  pub acts : (R : X → X → Type 0) (before after : List ℕ → NameEntry X) (name : List ℕ) (x y : X)
      → Exchanges before after name x y → R x y → Acts R (before name) (after name)
  acts R before after name x y exchanged fact = go (before name) exchanged.object
    where
      go : (stood : NameEntry X) → IsExchanged stood (after name) x y → Acts R stood (after name)
      go untold h = h
      go missing h = absurd h
      go lent h = absurd h
      go (there z) h = (y, h.1, subst (λ (o : X). R o y) (sym h.0) fact)

-- no name asked for
pub Asks-none : (names : Option (List (List ℕ))) → Asks names names []
Asks-none None = refl
Asks-none (Some names) = inr (ap Some (sym (append-nil names)))

-- some names asked for, and then others
pub Asks-append : (before mid after : Option (List (List ℕ))) (first next : List (List ℕ))
    → Asks before mid first → Asks mid after next → Asks before after (first ++ next)
Asks-append None mid after first next one two =
    subst (λ (m : Option (List (List ℕ))). Asks m after next) one two
Asks-append (Some names) mid after first next (inl none) two =
    inl (subst (λ (m : Option (List (List ℕ))). Asks m after next) none two)
Asks-append (Some names) mid after first next (inr told) two =
    go (subst (λ (m : Option (List (List ℕ))). Asks m after next) told two)
  where
    go : Asks (Some (names ++ first)) after next → Asks (Some names) after (first ++ next)
    go (inl none) = inl none
    go (inr more) = inr (more ∙ ap Some (append_assoc names first next))

-- a source was opened, used and closed again: what that did to the outside
pub record ExchangesIn (before after : OutsideTold) (name : List ℕ)
    (x y : SourceTold) : Type 0 where
  pub source : Exchanges before.sources after.sources name x y
  pub sinks : after.sinks ≡ before.sinks
  pub read_names : Asks before.read_names after.read_names (name ∷ [])
  pub written_names : after.written_names ≡ before.written_names
  pub faults : after.faults ≡ counted (nat_lt 0 y.faults) before.faults

pub exchanges_in : (before mid after : OutsideTold) (name : List ℕ) (x y : SourceTold)
    → OpensIn before mid name (Some x) → y.name ≡ x.name → ClosesIn mid after y
    → ExchangesIn before after name x y
exchanges_in before mid after name x y opened same closed = record {
  source = exchanges (λ s. s.name) (λ s. s.faults) before.sources mid.sources after.sources name x y
      opened.source opened.sources same closed.sources;
  sinks = closed.sinks ∙ opened.sinks;
  read_names = subst (λ (n : Option (List (List ℕ))). Asks before.read_names n (name ∷ []))
      (sym closed.read_names) opened.read_names;
  written_names = closed.written_names ∙ opened.written_names;
  faults = rw (← opened.faults) closed.faults;
}

-- the same of a sink
pub record ExchangesOut (before after : OutsideTold) (name : List ℕ) (x y : SinkTold) : Type 0 where
  pub sink : Exchanges before.sinks after.sinks name x y
  pub sources : after.sources ≡ before.sources
  pub written_names : Asks before.written_names after.written_names (name ∷ [])
  pub read_names : after.read_names ≡ before.read_names
  pub faults : after.faults ≡ counted (nat_lt 0 y.faults) before.faults

pub exchanges_out : (before mid after : OutsideTold) (name : List ℕ) (x y : SinkTold)
    → OpensOut before mid name (Some x) → y.name ≡ x.name → ClosesOut mid after y
    → ExchangesOut before after name x y
exchanges_out before mid after name x y opened same closed = record {
  sink = exchanges (λ s. s.name) (λ s. s.faults) before.sinks mid.sinks after.sinks name x y
      opened.sink opened.sinks same closed.sinks;
  sources = closed.sources ∙ opened.sources;
  written_names = subst (λ (n : Option (List (List ℕ))). Asks before.written_names n (name ∷ []))
      (sym closed.written_names) opened.written_names;
  read_names = closed.read_names ∙ opened.read_names;
  faults = rw (← opened.faults) closed.faults;
}
