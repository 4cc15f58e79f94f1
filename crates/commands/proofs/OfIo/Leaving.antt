-- What a call leaves of an outside, one part of it after another.
use Rattle.std.proofs.Common.{◌≡◌, ◌⊎◌, ℕ, zero, suc, zero-add, suc-add, Bool, true, false, cond}
use Rattle.std.proofs.Common.{◌<◌}
use Rattle.std.proofs.Common.{◌||◌, List, [], ◌∷◌, ◌++◌, take, length, ◌+◌}
use Rattle.std.proofs.Common.{Option, Some, None, refl, sym, ◌∙◌, ap, subst, inl, inr, arith}
use Rattle.std.proofs.Common.{append_assoc}
use Rattle.std.specs.Prelude.{bytes_eq}
use Rattle.std.proofs.lemmas.List.Folds.{list_any-append}
use Rattle.std.proofs.lemmas.List.{append-nil}
use Rattle.std.proofs.Math.Seq.{take-append-add}
use Rattle.outside.specs.Faults.{next_count}
use Rattle.outside.specs.Names.Outside.{NameEntry, untold, missing, lent, there, OutsideTold, Asks}
use Rattle.outside.specs.Names.Outside.{Acts}
use Rattle.commands.specs.Io.OutsideUse.{is_among, SomeOf, EachOf, StandsAgain, FailedAt, FaultyAt}
use Rattle.commands.specs.Io.OutsideUse.{CleanAt, Keeps, times, AtMost, IsTextRead, IsWritten}
use Rattle.commands.specs.Io.OutsideUse.{source_faults, sink_faults, AsksFront, raised, Grows, Rises}
use Rattle.commands.specs.Io.OutsideUse.{HasReason, HasFaulty}
use Rattle.commands.specs.Io.OutsideUse.{IsClean, IsCounted, Uses}

pub raised-more : (more few count : ℕ) → raised more (raised few count) ≡ raised (more + few) count
raised-more zero few count = rw zero-add refl
raised-more (suc more) few count = rw suc-add (ap next_count (raised-more more few count))

pub Grows-then : (b m a : ℕ) → Grows b m → Grows m a → Grows b a
Grows-then b m a first then =
    (then.0 + first.0, then.1 ∙ ap (raised then.0) first.1 ∙ raised-more then.0 first.0 b)

pub Rises-after : (b m a : ℕ) → Grows b m → Rises m a → Rises b a
Rises-after b m a first then = (
  then.0 + first.0,
  then.1
      ∙ ap next_count (ap (raised then.0) first.1 ∙ raised-more then.0 first.0 b),
)

pub Rises-before : (b m a : ℕ) → Rises b m → Grows m a → Rises b a
Rises-before b m a first then = (
  then.0 + first.0,
  then.1 ∙ ap (raised then.0) first.1 ∙ raised-more then.0 (suc first.0) b
      ∙ ap (λ n. raised n b)
      (let e : then.0 + suc first.0 ≡ suc (then.0 + first.0) = omega arith in e),
)

pub raised-positive : (more count : ℕ) → 0 < count → 0 < raised more count
raised-positive zero count positive = positive
raised-positive (suc more) count positive = grind arith

pub Grows-positive : (before now : ℕ) → Grows before now → 0 < before → 0 < now
Grows-positive before now grown positive =
    subst (λ n. 0 < n) (sym grown.1) (raised-positive grown.0 before positive)

pub Rises-positive : (before now : ℕ) → Rises before now → 0 < now
Rises-positive before now risen = subst (λ n. 0 < n) (sym risen.1) (grind arith)

pub Rises-grows : (before now : ℕ) → Rises before now → Grows before now
Rises-grows before now risen = (suc risen.0, risen.1)

pub Grows-same : (before now : ℕ) → now ≡ before → Grows before now
Grows-same before now same = (0, same)

pub or-false : (f g : Bool) → (f || g) ≡ false → (f ≡ false) × (g ≡ false)
or-false false g h = (refl, h)
or-false true g h = absurd cc

pub or-true : (f g : Bool) → (f || g) ≡ true → (f ≡ true) ⊎ (g ≡ true)
or-true false g h = inr h
or-true true g h = inl refl

pub SomeOf-map : (names : List (List ℕ)) (P Q : List ℕ → Type 0)
    → ((name : List ℕ) → P name → Q name)
    → SomeOf names P → SomeOf names Q
SomeOf-map [] P Q f h = h
SomeOf-map (name ∷ names) P Q f (inl h) = inl (f name h)
SomeOf-map (name ∷ names) P Q f (inr h) = inr (SomeOf-map names P Q f h)

pub EachOf-map : (names : List (List ℕ)) (P Q : List ℕ → Type 0)
    → ((name : List ℕ) → P name → Q name)
    → EachOf names P → EachOf names Q
EachOf-map [] P Q f h = tt
EachOf-map (name ∷ names) P Q f h = (f name h.0, EachOf-map names P Q f h.1)

module _ {X : Type 0} (faults : X → ℕ) where
  pub StandsAgain-refl : (failed : Bool) (s : NameEntry X) → StandsAgain faults failed s s
  StandsAgain-refl failed untold = refl
  StandsAgain-refl failed missing = refl
  StandsAgain-refl failed lent = refl
  StandsAgain-refl failed (there x) = (x, refl, (0, refl), λ none. refl)

  pub StandsAgain-then : (f g : Bool) (b m a : NameEntry X) → StandsAgain faults f b m
      → StandsAgain faults g m a
      → StandsAgain faults (f || g) b a
  StandsAgain-then f g untold m a first second = subst (λ s. StandsAgain faults g s a) first second
  StandsAgain-then f g missing m a first second = subst (λ s. StandsAgain faults g s a) first second
  StandsAgain-then f g lent m a first second = subst (λ s. StandsAgain faults g s a) first second
  StandsAgain-then f g (there x) m a first second =
      let then : StandsAgain faults g (there first.0) a = subst (λ s. StandsAgain faults g s a)
      first.1 second in (
        then.0,
        then.1,
        Grows-then _ _ _ first.2 then.2,
        λ none. then.3 (or-false f g none).1 ∙ first.3 (or-false f g none).0,
      )

  pub FailedAt-before : (f : Bool) (b m a : NameEntry X) → StandsAgain faults f b m
      → FailedAt faults m a → FailedAt faults b a
  FailedAt-before f untold m a first second = tt
  FailedAt-before f missing m a first second = tt
  FailedAt-before f lent m a first second = tt
  FailedAt-before f (there x) m a first second =
      let then : FailedAt faults (there first.0) a = subst (λ s. FailedAt faults s a)
      first.1 second in
      (then.0, then.1, Rises-after (faults x) (faults first.0) (faults then.0) first.2 then.2)

  pub FailedAt-after : (f : Bool) (b m a : NameEntry X) → FailedAt faults b m
      → StandsAgain faults f m a → FailedAt faults b a
  FailedAt-after f untold m a first second = tt
  FailedAt-after f missing m a first second = tt
  FailedAt-after f lent m a first second = tt
  FailedAt-after f (there x) m a first second =
      let then : StandsAgain faults f (there first.0) a = subst (λ s. StandsAgain faults f s a)
      first.1 second in
      (then.0, then.1, Rises-before (faults x) (faults first.0) (faults then.0) first.2 then.2)

  pub FaultyAt-before : (f : Bool) (b m a : NameEntry X) → StandsAgain faults f b m
      → FaultyAt faults m a → FaultyAt faults b a
  FaultyAt-before f untold m a first second = tt
  FaultyAt-before f missing m a first second = tt
  FaultyAt-before f lent m a first second = tt
  FaultyAt-before f (there x) m a first second = subst (λ s. FaultyAt faults s a) first.1 second

  pub FaultyAt-after : (f : Bool) (b m a : NameEntry X) → FaultyAt faults b m
      → StandsAgain faults f m a → FaultyAt faults b a
  FaultyAt-after f untold m a first second = tt
  FaultyAt-after f missing m a first second = tt
  FaultyAt-after f lent m a first second = tt
  FaultyAt-after f (there x) m a first second =
      let then : StandsAgain faults f (there first.0) a = subst (λ s. StandsAgain faults f s a)
      first.1 second in
      (then.0, then.1, Grows-positive (faults first.0) (faults then.0) then.2 first.2)

  pub CleanAt-after : (b m : NameEntry X) → StandsAgain faults false b m → CleanAt faults b
      → CleanAt faults m
  CleanAt-after untold m first clean = subst (λ s. CleanAt faults s) (sym first) tt
  CleanAt-after missing m first clean = subst (λ s. CleanAt faults s) (sym first) tt
  CleanAt-after lent m first clean = subst (λ s. CleanAt faults s) (sym first) tt
  CleanAt-after (there x) m first clean =
      subst (λ s. CleanAt faults s) (sym first.1) (first.3 refl ∙ clean)

module _ {X : Type 0} (step : X → X → Type 0) where
  AtMost-none : (n : ℕ) (x : X) → AtMost step n x x
  AtMost-none zero x = refl
  AtMost-none (suc n) x = inl refl

  AtMost-up : (n : ℕ) (x y : X) → AtMost step n x y → AtMost step (suc n) x y
  AtMost-up zero x y same = inl same
  AtMost-up (suc n) x y (inl same) = inl same
  AtMost-up (suc n) x y (inr some) = inr (some.0, some.1, AtMost-up n some.0 y some.2)

  AtMost-later : (n k : ℕ) (x y : X) → AtMost step k x y → AtMost step (n + k) x y
  AtMost-later zero k x y then = rw zero-add then
  AtMost-later (suc n) k x y then = rw suc-add (AtMost-up (n + k) x y (AtMost-later n k x y then))

  AtMost-then : (n k : ℕ) (x m y : X) → AtMost step n x m → AtMost step k m y
      → AtMost step (n + k) x y
  AtMost-then zero k x m y same then = rw zero-add (subst (λ z. AtMost step k z y) same then)
  AtMost-then (suc n) k x m y (inl same) then =
      AtMost-later (suc n) k x y (subst (λ z. AtMost step k z y) same then)
  AtMost-then (suc n) k x m y (inr some) then =
      rw suc-add (inr (some.0, some.1, AtMost-then n k some.0 m y some.2 then))

  pub Acts-none : (n : ℕ) (s : NameEntry X) → Acts (AtMost step n) s s
  Acts-none n untold = refl
  Acts-none n missing = refl
  Acts-none n lent = refl
  Acts-none n (there x) = (x, refl, AtMost-none n x)

  pub Acts-then : (n k : ℕ) (b m a : NameEntry X) → Acts (AtMost step n) b m
      → Acts (AtMost step k) m a → Acts (AtMost step (n + k)) b a
  Acts-then n k untold m a first second = subst (λ s. Acts (AtMost step k) s a) first second
  Acts-then n k missing m a first second = subst (λ s. Acts (AtMost step k) s a) first second
  Acts-then n k lent m a first second = subst (λ s. Acts (AtMost step k) s a) first second
  Acts-then n k (there x) m a first second =
      let then : Acts (AtMost step k) (there first.0) a = subst (λ s. Acts (AtMost step k) s a)
      first.1 second in
      (then.0, then.1, AtMost-then n k x first.0 then.0 first.2 then.2)

times-append : (first second : List (List ℕ)) (name : List ℕ)
    → times (first ++ second) name ≡ times first name + times second name
times-append [] second name = sym (zero-add (times second name))
times-append (n ∷ first) second name = here (bytes_eq name n) (times-append first second name)
  where
    here : (same : Bool) → times (first ++ second) name ≡ times first name + times second name
        → cond same (suc (times (first ++ second) name)) (times (first ++ second) name)
        ≡ cond same (suc (times first name)) (times first name) + times second name
    here true rest = ap suc rest ∙ sym (suc-add (times first name) (times second name))
    here false rest = rest

-- names that are named more often
pub Acts-wider : {X : Type 0} (step : X → X → Type 0) (first second : List (List ℕ))
    (name : List ℕ) (b a : NameEntry X) → Acts (AtMost step (times first name)) b a
    → Acts (AtMost step (times (first ++ second) name)) b a
Acts-wider step first second name b a acts =
    subst (λ n. Acts (AtMost step n) b a) (sym (times-append first second name))
    (Acts-then step (times first name) (times second name) b a a acts
    (Acts-none step (times second name) a))

-- whether a name is among these or those
pub is_among-append : (first second : List (List ℕ)) (name : List ℕ)
    → is_among (first ++ second) name ≡ (is_among first name || is_among second name)
is_among-append first second name = list_any-append (bytes_eq name) first second

module _ (f g : Bool) (first second : List (List ℕ)) where
  pub Keeps-then : {X : Type 0} (faults : X → ℕ) (step : X → X → Type 0)
      (p q r : List ℕ → NameEntry X)
      → Keeps faults step f first p q → Keeps faults step g second q r
      → Keeps faults step (f || g) (first ++ second) p r
  Keeps-then faults step p q r kept then = record {
    others = λ name absent.
        let parts = or-false (is_among first name) (is_among second name)
        (sym (is_among-append first second name) ∙ absent) in
        then.others name parts.1 ∙ kept.others name parts.0;
    again = λ name. StandsAgain-then faults f g (p name) (q name) (r name) (kept.again name)
        (then.again name);
    acts = λ name.
        subst (λ n. Acts (AtMost step n) (p name) (r name)) (sym (times-append first second name))
        (Acts-then step (times first name) (times second name) (p name) (q name) (r name)
        (kept.acts name) (then.acts name));
  }

pub SomeOf-left : (first second : List (List ℕ)) (P : List ℕ → Type 0) → SomeOf first P
    → SomeOf (first ++ second) P
SomeOf-left [] second P h = absurd h
SomeOf-left (name ∷ first) second P (inl h) = inl h
SomeOf-left (name ∷ first) second P (inr h) = inr (SomeOf-left first second P h)

pub SomeOf-right : (first second : List (List ℕ)) (P : List ℕ → Type 0) → SomeOf second P
    → SomeOf (first ++ second) P
SomeOf-right [] second P h = h
SomeOf-right (name ∷ first) second P h = inr (SomeOf-right first second P h)

pub EachOf-parts : (first second : List (List ℕ)) (P : List ℕ → Type 0)
    → EachOf (first ++ second) P → EachOf first P × EachOf second P
EachOf-parts [] second P h = (tt, h)
EachOf-parts (name ∷ first) second P h =
    let parts = EachOf-parts first second P h.1 in ((h.0, parts.0), parts.1)

-- names that were asked for, and then some of others
pub AsksFront-then : (before mid after : Option (List (List ℕ))) (first second : List (List ℕ))
    → Asks before mid first → AsksFront mid after second → AsksFront before after (first ++ second)
AsksFront-then None mid after first second asked then =
    (0, subst (λ m. Asks m after (take then.0 second)) asked then.1)
AsksFront-then (Some names) mid after first second (inl none) then =
    (0, inl (subst (λ m. Asks m after (take then.0 second)) none then.1))
AsksFront-then (Some names) mid after first second (inr some) then =
    (length first + then.0, here (subst (λ m. Asks m after (take then.0 second)) some then.1))
  where
    here : Asks (Some (names ++ first)) after (take then.0 second)
        → Asks (Some names) after (take (length first + then.0) (first ++ second))
    here (inl none) = inl none
    here (inr more) = inr (more ∙ ap Some (append_assoc names first (take then.0 second)
        ∙ ap (λ (l : List (List ℕ)). names ++ l) (sym (take-append-add first second then.0))))

pub Asks-append : (before mid after : Option (List (List ℕ))) (first second : List (List ℕ))
    → Asks before mid first → Asks mid after second → Asks before after (first ++ second)
Asks-append None mid after first second asked then = subst (λ m. Asks m after second) asked then
Asks-append (Some names) mid after first second (inl none) then =
    inl (subst (λ m. Asks m after second) none then)
Asks-append (Some names) mid after first second (inr some) then =
    here (subst (λ m. Asks m after second) some then)
  where
    here : Asks (Some (names ++ first)) after second → Asks (Some names) after (first ++ second)
    here (inl none) = inl none
    here (inr more) = inr (more ∙ ap Some (append_assoc names first second))

pub Asks-none : (before : Option (List (List ℕ))) → Asks before before []
Asks-none None = refl
Asks-none (Some names) = inr (ap Some (sym (append-nil names)))

module _ (f g : Bool) (first second outs others : List (List ℕ)) (b m a : OutsideTold)
    (used : Uses first outs f b m) (then : Uses second others g m a) where
  reason_first : HasReason first outs b m → HasReason (first ++ second) (outs ++ others) b a
  reason_first (inl some) = inl (SomeOf-left first second _ (SomeOf-map first _ _
      (λ name h. FailedAt-after source_faults g (b.sources name) (m.sources name)
      (a.sources name) h (then.sources.again name)) some))
  reason_first (inr some) = inr (SomeOf-left outs others _ (SomeOf-map outs _ _
      (λ name h. FailedAt-after sink_faults g (b.sinks name) (m.sinks name)
      (a.sinks name) h (then.sinks.again name)) some))

  reason_second : HasReason second others m a → HasReason (first ++ second) (outs ++ others) b a
  reason_second (inl some) = inl (SomeOf-right first second _ (SomeOf-map second _ _
      (λ name h. FailedAt-before source_faults f (b.sources name) (m.sources name)
      (a.sources name) (used.sources.again name) h) some))
  reason_second (inr some) = inr (SomeOf-right outs others _ (SomeOf-map others _ _
      (λ name h. FailedAt-before sink_faults f (b.sinks name) (m.sinks name)
      (a.sinks name) (used.sinks.again name) h) some))

  faulty_first : HasFaulty first outs b m → HasFaulty (first ++ second) (outs ++ others) b a
  faulty_first (inl some) = inl (SomeOf-left first second _ (SomeOf-map first _ _
      (λ name h. FaultyAt-after source_faults g (b.sources name) (m.sources name)
      (a.sources name) h (then.sources.again name)) some))
  faulty_first (inr some) = inr (SomeOf-left outs others _ (SomeOf-map outs _ _
      (λ name h. FaultyAt-after sink_faults g (b.sinks name) (m.sinks name)
      (a.sinks name) h (then.sinks.again name)) some))

  faulty_second : HasFaulty second others m a → HasFaulty (first ++ second) (outs ++ others) b a
  faulty_second (inl some) = inl (SomeOf-right first second _ (SomeOf-map second _ _
      (λ name h. FaultyAt-before source_faults f (b.sources name) (m.sources name)
      (a.sources name) (used.sources.again name) h) some))
  faulty_second (inr some) = inr (SomeOf-right outs others _ (SomeOf-map others _ _
      (λ name h. FaultyAt-before sink_faults f (b.sinks name) (m.sinks name)
      (a.sinks name) (used.sinks.again name) h) some))

  -- a part that didn't fail leaves what is clean clean
  clean_second : (f ≡ false) → IsClean second others b → IsClean second others m
  clean_second none clean = (
    EachOf-map second _ _
        (λ name h. CleanAt-after source_faults (b.sources name) (m.sources name)
        (subst (λ (t : Bool). StandsAgain source_faults t (b.sources name) (m.sources name)) none
        (used.sources.again name)) h) clean.0,
    EachOf-map others _ _
        (λ name h. CleanAt-after sink_faults (b.sinks name) (m.sinks name)
        (subst (λ (t : Bool). StandsAgain sink_faults t (b.sinks name) (m.sinks name)) none
        (used.sinks.again name)) h) clean.1,
  )

  IsCounted-then : IsCounted (first ++ second) (outs ++ others) (f || g) b a
  IsCounted-then = record {
    cause = λ failed. rises (or-true f g failed);
    reason = λ failed. reasons (or-true f g failed);
    kept = keeps used.counted.kept then.counted.kept;
    exact = λ clean none. exact clean (or-false f g none);
  }
    where
      low : Grows b.faults m.faults
      low = elim used.counted.kept
          [ inl same ↦ Grows-same _ _ same | inr rose ↦ Rises-grows _ _ rose.0 ]

      low_then : Grows m.faults a.faults
      low_then = elim then.counted.kept
          [ inl same ↦ Grows-same _ _ same | inr rose ↦ Rises-grows _ _ rose.0 ]

      rises : ((f ≡ true) ⊎ (g ≡ true)) → Rises b.faults a.faults
      rises (inl failed) =
          Rises-before b.faults m.faults a.faults (used.counted.cause failed) low_then
      rises (inr failed) = Rises-after b.faults m.faults a.faults low (then.counted.cause failed)

      reasons : ((f ≡ true) ⊎ (g ≡ true)) → HasReason (first ++ second) (outs ++ others) b a
      reasons (inl failed) = reason_first (used.counted.reason failed)
      reasons (inr failed) = reason_second (then.counted.reason failed)

      keeps : ((m.faults ≡ b.faults) ⊎ (Rises b.faults m.faults × HasFaulty first outs b m))
          → ((a.faults ≡ m.faults) ⊎ (Rises m.faults a.faults × HasFaulty second others m a))
          → (a.faults ≡ b.faults)
          ⊎ (Rises b.faults a.faults × HasFaulty (first ++ second) (outs ++ others) b a)
      keeps (inl same) (inl again) = inl (again ∙ same)
      keeps (inr rose) then_kept =
          inr (Rises-before b.faults m.faults a.faults rose.0 low_then, faulty_first rose.1)
      keeps (inl same) (inr rose) =
          inr (Rises-after b.faults m.faults a.faults low rose.0, faulty_second rose.1)

      exact : IsClean (first ++ second) (outs ++ others) b → (f ≡ false) × (g ≡ false)
          → a.faults ≡ b.faults
      exact clean none =
          let read = EachOf-parts first second _ clean.0 in
          let written = EachOf-parts outs others _ clean.1 in
          then.counted.exact (clean_second none.0 (read.1, written.1)) none.1
          ∙ used.counted.exact (read.0, written.0) none.0

  -- one part of a call, and then the rest of it
  pub Uses-then : Asks b.read_names m.read_names first
      → Asks b.written_names m.written_names outs
      → Uses (first ++ second) (outs ++ others) (f || g) b a
  Uses-then read written = record {
    counted = IsCounted-then;
    sources =
        Keeps-then f g first second source_faults IsTextRead b.sources m.sources a.sources
        used.sources then.sources;
    sinks =
        Keeps-then f g outs others sink_faults IsWritten b.sinks m.sinks a.sinks
        used.sinks then.sinks;
    read = AsksFront-then b.read_names m.read_names a.read_names first second read then.read;
    written =
        AsksFront-then b.written_names m.written_names a.written_names outs others written
        then.written;
    network = then.network ∙ used.network;
  }

-- the same of a part that opens no sink
pub Uses-read : (f g : Bool) (first second outputs : List (List ℕ)) (b m a : OutsideTold)
    → Uses first [] f b m → Asks b.read_names m.read_names first
    → m.written_names ≡ b.written_names → Uses second outputs g m a
    → Uses (first ++ second) outputs (f || g) b a
Uses-read f g first second outputs b m a used asked written then =
    Uses-then f g first second [] outputs b m a used then asked
    (subst (λ w. Asks b.written_names w []) (sym written) (Asks-none b.written_names))
