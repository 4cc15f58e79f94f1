-- An object that was opened, used and closed again.
use Rattle.std.proofs.Common.{◌≡◌, ◌⊎◌, ℕ, zero, suc, Bool, true, false, ◌||◌, ◌<◌, cond, List, []}
use Rattle.std.proofs.Common.{◌∷◌, Some, None}
use Rattle.std.proofs.Common.{refl, sym, ◌∙◌, ap, subst, inl, inr}
use Rattle.std.specs.Prelude.{bytes_eq}
use Rattle.std.proofs.lemmas.Slice.Eq.{bytes_eq-Decides}
use Rattle.outside.specs.Faults.{counted}
use Rattle.outside.specs.Names.Outside.{NameEntry, untold, missing, lent, there, HandsOutObject}
use Rattle.outside.specs.Names.Outside.{Changes}
use Rattle.outside.specs.Names.Outside.{lent_from, put_back_at, Acts}
use Rattle.commands.specs.Io.OutsideUse.{is_among, StandsAgain, Keeps, FailedAt, FaultyAt, CleanAt}
use Rattle.commands.specs.Io.OutsideUse.{AtMost, times}
use Rattle.commands.proofs.OfIo.Leaving.{StandsAgain-refl, Acts-none, Rises-positive}

pub same_name : (name : List ℕ) → bytes_eq name name ≡ true
same_name name = (bytes_eq-Decides name name).1 refl

pub name_is : (m n : List ℕ) → bytes_eq m n ≡ true → m ≡ n
name_is m n h = (bytes_eq-Decides m n).0 h

-- of one name alone
pub not_among : (name n : List ℕ) → is_among (name ∷ []) n ≡ false → bytes_eq n name ≡ false
not_among name n h = here (bytes_eq n name) h
  where
    here : (b : Bool) → (b || false) ≡ false → b ≡ false
    here true h = absurd cc
    here false h = refl

-- nothing changed
pub Keeps-alike : {X : Type 0} (faults : X → ℕ) (step : X → X → Type 0) (failed : Bool)
    (names : List (List ℕ)) (before after : List ℕ → NameEntry X)
    → ((name : List ℕ) → after name ≡ before name) → Keeps faults step failed names before after
Keeps-alike faults step failed names before after same = record {
  others = λ name absent. same name;
  again = λ name. subst (λ s. StandsAgain faults failed (before name) s) (sym (same name))
      (StandsAgain-refl faults failed (before name));
  acts = λ name. subst (λ s. Acts (AtMost step (times names name)) (before name) s)
      (sym (same name)) (Acts-none step (times names name) (before name));
}

module _ {X : Type 0} (name_of : X → List ℕ) (faults_of : X → ℕ) (name : List ℕ)
    (before mid after : List ℕ → NameEntry X) where
  -- nothing was told under the name, or one object stood there and another stands there now
  abbrev pub IsExchanged : X → X → Type 0
  IsExchanged x y =
      ((before name ≡ untold) × (faults_of x ≡ 0) × ((n : List ℕ) → after n ≡ before n))
      ⊎ ((before name ≡ there x) × (after name ≡ there y)
      × ((n : List ℕ) → bytes_eq n name ≡ false → after n ≡ before n))

  pub is_exchanged : (x y : X) → HandsOutObject name_of faults_of before name (before name) (Some x)
      → Changes lent_from before mid name → name_of y ≡ name_of x
      → Changes (λ standing. put_back_at standing y) mid after (name_of y) → IsExchanged x y
  is_exchanged x y hands opens named closes = here (before name) refl hands
    where
      other_mid : (n : List ℕ) → bytes_eq n name ≡ false → mid n ≡ before n
      other_mid n differs = opens n ∙ ap (λ b. cond b (lent_from (before n)) (before n)) differs

      same_mid : mid name ≡ lent_from (before name)
      same_mid = opens name
          ∙ ap (λ b. cond b (lent_from (before name)) (before name)) (same_name name)

      untold_mid : (n : List ℕ) (b : Bool) → bytes_eq n name ≡ b → before name ≡ untold
          → mid n ≡ before n
      untold_mid n false at stood = other_mid n at
      untold_mid n true at stood =
          let e : n ≡ name = name_is n name at in
          subst (λ m. mid m ≡ before m) (sym e) (same_mid ∙ ap lent_from stood ∙ sym stood)

      untold_after : (n : List ℕ) (b : Bool) → bytes_eq n (name_of y) ≡ b
          → before (name_of y) ≡ untold → mid n ≡ before n → after n ≡ mid n
      untold_after n false at stood kept = closes n
          ∙ ap (λ b. cond b (put_back_at (mid n) y) (mid n)) at
      untold_after n true at stood kept =
          let e : n ≡ name_of y = name_is n (name_of y) at in
          let was : mid n ≡ untold = kept ∙ ap before e ∙ stood in
          closes n ∙ ap (λ b. cond b (put_back_at (mid n) y) (mid n)) at
          ∙ ap (λ s. put_back_at s y) was ∙ sym was

      here : (s : NameEntry X) → before name ≡ s → HandsOutObject name_of faults_of before name s (Some x)
          → IsExchanged x y
      here untold stood hands =
          inl (
            stood,
            hands.0,
            λ n. let kept : mid n ≡ before n = untold_mid n (bytes_eq n name) refl stood in
                untold_after n (bytes_eq n (name_of y)) refl (ap before named ∙ hands.1) kept
                ∙ kept,
          )
      here missing stood hands = absurd cc
      here lent stood hands = absurd cc
      here (there z) stood hands =
          let x-is : there z ≡ there x = ap there (sym (let e : x ≡ z = cc in e)) in
          let y-name : name_of y ≡ name = named ∙ (let e : x ≡ z = cc in ap name_of e) ∙ hands.1 in
          let closed : Changes (λ standing. put_back_at standing y) mid after name =
          subst (λ n. Changes (λ standing. put_back_at standing y) mid after n) y-name closes in
          let lent_then : mid name ≡ lent = same_mid ∙ ap lent_from stood in
          inr (
            stood ∙ x-is,
            closed name ∙ ap (λ b. cond b (put_back_at (mid name) y) (mid name)) (same_name name)
                ∙ ap (λ s. put_back_at s y) lent_then,
            λ n differs. closed n ∙ ap (λ b. cond b (put_back_at (mid n) y) (mid n)) differs
                ∙ other_mid n differs,
          )

  module _ (x y : X) (failed : Bool) (counts : faults_of y ≡ counted failed (faults_of x))
      (exchanged : IsExchanged x y) where
    pub Keeps-exchanged : (step : X → X → Type 0) → step x y
        → Keeps faults_of step failed (name ∷ []) before after
    Keeps-exchanged step steps = here exchanged
      where
        grows : (f : Bool) → faults_of y ≡ counted f (faults_of x)
            → StandsAgain faults_of f (there x) (there y)
        grows true h = (y, refl, (1, h), λ none. absurd cc)
        grows false h = (y, refl, (0, h), λ none. h)

        again : (n : List ℕ) (b : Bool) → bytes_eq n name ≡ b → before name ≡ there x
            → after name ≡ there y
            → ((m : List ℕ) → bytes_eq m name ≡ false → after m ≡ before m)
            → StandsAgain faults_of failed (before n) (after n)
        again n false at stood stands others =
            subst (λ s. StandsAgain faults_of failed (before n) s) (sym (others n at))
            (StandsAgain-refl faults_of failed (before n))
        again n true at stood stands others =
            let e : n ≡ name = name_is n name at in
            subst (λ m. StandsAgain faults_of failed (before m) (after m)) (sym e)
            (subst (λ s. StandsAgain faults_of failed s (after name)) (sym stood)
            (subst (λ s. StandsAgain faults_of failed (there x) s) (sym stands)
            (grows failed counts)))

        acts : (n : List ℕ) (b : Bool) → bytes_eq n name ≡ b → before name ≡ there x
            → after name ≡ there y
            → ((m : List ℕ) → bytes_eq m name ≡ false → after m ≡ before m)
            → Acts (AtMost step (cond b (suc zero) zero)) (before n) (after n)
        acts n false at stood stands others =
            subst (λ s. Acts (AtMost step zero) (before n) s) (sym (others n at))
            (Acts-none step zero (before n))
        acts n true at stood stands others =
            let e : n ≡ name = name_is n name at in
            subst (λ m. Acts (AtMost step (suc zero)) (before m) (after m)) (sym e)
            (subst (λ s. Acts (AtMost step (suc zero)) s (after name)) (sym stood)
            (y, stands, inr (y, steps, refl)))

        here : IsExchanged x y → Keeps faults_of step failed (name ∷ []) before after
        here (inl nothing) =
            Keeps-alike faults_of step failed (name ∷ []) before after nothing.2
        here (inr stood) = record {
          others = λ n absent. stood.2 n (not_among name n absent);
          again = λ n. again n (bytes_eq n name) refl stood.0 stood.1 stood.2;
          acts = λ n. acts n (bytes_eq n name) refl stood.0 stood.1 stood.2;
        }

    pub FailedAt-exchanged : failed ≡ true → FailedAt faults_of (before name) (after name)
    FailedAt-exchanged is = here exchanged
      where
        here : IsExchanged x y → FailedAt faults_of (before name) (after name)
        here (inl nothing) = subst (λ s. FailedAt faults_of s (after name)) (sym nothing.0) tt
        here (inr stood) = subst (λ s. FailedAt faults_of s (after name)) (sym stood.0)
            (y, stood.1, (0, counts ∙ ap (λ b. counted b (faults_of x)) is))

    pub FaultyAt-exchanged : 0 < faults_of y → FaultyAt faults_of (before name) (after name)
    FaultyAt-exchanged faulty = here exchanged
      where
        here : IsExchanged x y → FaultyAt faults_of (before name) (after name)
        here (inl nothing) = subst (λ s. FaultyAt faults_of s (after name)) (sym nothing.0) tt
        here (inr stood) =
            subst (λ s. FaultyAt faults_of s (after name)) (sym stood.0) (y, stood.1, faulty)

    pub faultless_exchanged : CleanAt faults_of (before name) → failed ≡ false → faults_of y ≡ 0
    faultless_exchanged clean none = counts ∙ ap (λ b. counted b (faults_of x)) none
        ∙ here exchanged
      where
        here : IsExchanged x y → faults_of x ≡ 0
        here (inl nothing) = nothing.1
        here (inr stood) = subst (λ s. CleanAt faults_of s) stood.0 clean

    pub faulty_exchanged : failed ≡ true → 0 < faults_of y
    faulty_exchanged is =
        Rises-positive (faults_of x) (faults_of y)
        (0, counts ∙ ap (λ b. counted b (faults_of x)) is)

  -- nothing was handed out: nothing stood there, or nothing is told
  pub nothing_opened : HandsOutObject name_of faults_of before name (before name) None
      → Changes lent_from before mid name
      → ((n : List ℕ) → mid n ≡ before n) × FailedAt faults_of (before name) (mid name)
      × FaultyAt faults_of (before name) (mid name)
  nothing_opened hands opens = here (before name) refl hands
    where
      kept : lent_from (before name) ≡ before name → (n : List ℕ) (b : Bool) → bytes_eq n name ≡ b
          → mid n ≡ before n
      kept same n false at = opens n ∙ ap (λ b. cond b (lent_from (before n)) (before n)) at
      kept same n true at =
          let e : n ≡ name = name_is n name at in
          opens n ∙ ap (λ b. cond b (lent_from (before n)) (before n)) at
          ∙ subst (λ m. lent_from (before m) ≡ before m) (sym e) same

      here : (s : NameEntry X) → before name ≡ s → HandsOutObject name_of faults_of before name s None
          → ((n : List ℕ) → mid n ≡ before n) × FailedAt faults_of (before name) (mid name)
          × FaultyAt faults_of (before name) (mid name)
      here untold stood hands = (
        λ n. kept (ap lent_from stood ∙ sym stood) n (bytes_eq n name) refl,
        subst (λ s. FailedAt faults_of s (mid name)) (sym stood) tt,
        subst (λ s. FaultyAt faults_of s (mid name)) (sym stood) tt,
      )
      here missing stood hands = (
        λ n. kept (ap lent_from stood ∙ sym stood) n (bytes_eq n name) refl,
        subst (λ s. FailedAt faults_of s (mid name)) (sym stood) tt,
        subst (λ s. FaultyAt faults_of s (mid name)) (sym stood) tt,
      )
      here lent stood hands = (
        λ n. kept (ap lent_from stood ∙ sym stood) n (bytes_eq n name) refl,
        subst (λ s. FailedAt faults_of s (mid name)) (sym stood) tt,
        subst (λ s. FaultyAt faults_of s (mid name)) (sym stood) tt,
      )
      here (there z) stood hands = absurd cc
