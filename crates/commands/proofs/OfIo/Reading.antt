-- An input that was opened, read and closed again.
use Rattle.std.proofs.Common.{◌≡◌, ◌⊎◌, ℕ, zero, suc, Bool, true, ◌<◌, ◌≤◌, List, []}
use Rattle.std.proofs.Common.{◌∷◌, ◌++◌, length, Option, Some, None}
use Rattle.std.proofs.Common.{refl, sym, ◌∙◌, ap, subst, inl, inr, arith, length-append}
use Rattle.std.specs.Prelude.{Result, Ok, Err, OnOk, nat_lt}
use Rattle.std.proofs.lemmas.Bool.Decides.{nat_tests}
use Rattle.std.proofs.lemmas.List.{append-nil}
use Rattle.outside.specs.declared.text.TextEnd.TheVariants.{Failed, Long}
use Rattle.outside.specs.Faults.{counted, next_count}
use Rattle.outside.specs.Octets.{TakesOctets}
use Rattle.outside.specs.Source.{SourceTold}
use Rattle.outside.specs.Text.{TextResult, IsTextOf, ReadsText, is_failed_text}
use Rattle.outside.specs.Names.Outside.{NameEntry, untold as untold_name, missing as missing_name}
use Rattle.outside.specs.Names.Outside.{lent}
use Rattle.outside.specs.Names.Outside.{there, OutsideTold, Asks, Acts, OpensIn, ClosesIn}
use Rattle.outside.specs.Names.Outside.{HandsOutObject}
use Rattle.commands.specs.declared.io.input.InputEnd.TheVariants.{Outside}
use Rattle.commands.specs.Io.OutsideUse.{IsLimit, SomeOf, Keeps, Rises, source_faults}
use Rattle.commands.specs.Io.OutsideUse.{sink_faults, FailedAt, FaultyAt, IsTextRead, IsWritten}
use Rattle.commands.specs.Io.Saying.{untold, told, told_by, text_of, emptied}
use Rattle.commands.specs.Io.Inputs.{input_of, IsInput, is_lost, IsReadTo, OpensInput, ReadsInput}
use Rattle.commands.proofs.OfIo.Leaving.{Asks-none}
use Rattle.commands.proofs.OfIo.Exchanging.{IsExchanged, is_exchanged, Keeps-alike, Keeps-exchanged}
use Rattle.commands.proofs.OfIo.Exchanging.{FailedAt-exchanged, FaultyAt-exchanged}
use Rattle.commands.proofs.OfIo.Exchanging.{faultless_exchanged, faulty_exchanged, nothing_opened}

is_lost-input_of : (result : TextResult) → is_lost (input_of result) ≡ is_failed_text result
is_lost-input_of (Ok (Ok text)) = refl
is_lost-input_of (Ok (Err Failed)) = refl
is_lost-input_of (Ok (Err Long)) = refl
is_lost-input_of (Err out_of_memory) = refl

-- what is read where nothing was told
untold_taken : (limit : ℕ) (result : TextResult) (rest : Option (List ℕ)) (octets : List ℕ)
    → IsTextOf octets rest limit result → IsInput limit (input_of result) untold
untold_taken limit (Ok (Ok read)) rest octets text =
    subst (λ (l : List ℕ). length l ≤ limit) text.0 text.1
untold_taken limit (Ok (Err Failed)) rest octets text = tt
untold_taken limit (Ok (Err Long)) rest octets text = tt
untold_taken limit (Err out_of_memory) rest octets text = tt

-- what is read is what was told to be left
input_taken : (limit : ℕ) (result : TextResult) (left rest : Option (List ℕ)) (octets : List ℕ)
    → TakesOctets left rest octets
    → IsTextOf octets rest limit result → IsInput limit (input_of result) (told_by left)
input_taken limit result None rest octets took text = untold_taken limit result rest octets text
input_taken limit result (Some all) None octets took text = absurd cc
input_taken limit (Ok (Ok read)) (Some all) (Some more) octets took text =
    let whole : all ≡ octets = (let e : all ≡ octets ++ more = cc in e)
    ∙ ap (λ (l : List ℕ). octets ++ l) text.2 ∙ append-nil octets in
    (whole ∙ text.0, subst (λ (l : List ℕ). length l ≤ limit) (sym whole) text.1)
input_taken limit (Ok (Err Failed)) (Some all) (Some more) octets took text = tt
input_taken limit (Ok (Err Long)) (Some all) (Some more) octets took text =
    let whole : all ≡ octets ++ more = cc in
    subst (λ (l : List ℕ). limit < length l) (sym whole)
    (rw length-append (omega (arith, text)))
input_taken limit (Err out_of_memory) (Some all) (Some more) octets took text = tt

-- nothing is left of a text that was read
rest_spent : (limit : ℕ) (result : TextResult) (left rest : Option (List ℕ)) (octets : List ℕ)
    → TakesOctets left rest octets
    → IsTextOf octets rest limit result
    → OnOk (input_of result) (told_by rest ≡ emptied (told_by left))
rest_spent limit (Ok (Ok read)) None None octets took text = refl
rest_spent limit (Ok (Ok read)) None (Some more) octets took text = absurd cc
rest_spent limit (Ok (Ok read)) (Some all) None octets took text = absurd cc
rest_spent limit (Ok (Ok read)) (Some all) (Some more) octets took text = ap told text.2
rest_spent limit (Ok (Err Failed)) left rest octets took text = tt
rest_spent limit (Ok (Err Long)) left rest octets took text = tt
rest_spent limit (Err out_of_memory) left rest octets took text = tt

OnOk-same : {T E : Type 0} (result : Result T E) {X : Type 0} (x y : X) → x ≡ y
    → OnOk result (x ≡ y)
OnOk-same (Ok value) x y same = same
OnOk-same (Err error) x y same = tt

OnOk-map : {T E : Type 0} (result : Result T E) {P Q : Type 0} → (P → Q) → OnOk result P
    → OnOk result Q
OnOk-map (Ok value) f h = f h
OnOk-map (Err error) f h = tt

pub lt-test : (n : ℕ) → 0 < n → nat_lt 0 n ≡ true
lt-test n h = grind (arith, nat_tests)

-- sinks that are as before
pub Keeps-same : {X : Type 0} (faults : X → ℕ) (step : X → X → Type 0) (failed : Bool)
    (names : List (List ℕ)) (before after : List ℕ → NameEntry X)
    → after ≡ before → Keeps faults step failed names before after
Keeps-same faults step failed names before after same =
    Keeps-alike faults step failed names before after (λ name. ap (λ s. s name) same)

module _ (b m a : OutsideTold) (name : List ℕ) (limit : ℕ) where
  source_name : SourceTold → List ℕ
  source_name source = source.name

  -- one that is there
  pub ReadsInput-from : IsLimit limit → (s t : SourceTold) (result : TextResult) (octets : List ℕ)
      → OpensIn b m name (Some s)
      → ReadsText s t limit result octets → ClosesIn m a t
      → ReadsInput b a name limit (input_of result)
  ReadsInput-from lawful s t result octets opens reads closes = record {
    text = text exchanged;
    spent = spent exchanged;
    read = read exchanged;
    opens = subst (λ f. OpensInput b a name f) (sym (is_lost-input_of result)) opened;
  }
    where
      failed : Bool
      failed = is_failed_text result

      exchanged : IsExchanged (λ source. source.name)
          source_faults name b.sources m.sources a.sources s t
      exchanged =
          is_exchanged (λ source. source.name)
          source_faults name b.sources m.sources a.sources s t opens.source opens.sources
          reads.name closes.sources

      text : IsExchanged (λ source. source.name)
          source_faults name b.sources m.sources a.sources s t
          → IsInput limit (input_of result) (text_of (b.sources name))
      text (inl nothing) =
          subst (λ s. IsInput limit (input_of result) (text_of s)) (sym nothing.0)
          (untold_taken limit result t.left octets reads.text)
      text (inr stood) = subst (λ s. IsInput limit (input_of result) (text_of s)) (sym stood.0)
          (input_taken limit result s.left t.left octets reads.took reads.text)

      spent : IsExchanged (λ source. source.name)
          source_faults name b.sources m.sources a.sources s t
          → OnOk (input_of result) (text_of (a.sources name) ≡ emptied (text_of (b.sources name)))
      spent (inl nothing) = OnOk-same (input_of result) _ _
          (ap text_of (nothing.2 name ∙ nothing.0) ∙ ap (λ s. emptied (text_of s)) (sym nothing.0))
      spent (inr stood) = OnOk-map (input_of result)
          (λ same. ap text_of stood.1 ∙ same ∙ ap (λ s. emptied (text_of s)) (sym stood.0))
          (rest_spent limit result s.left t.left octets reads.took reads.text)

      read : IsExchanged (λ source. source.name)
          source_faults name b.sources m.sources a.sources s t
          → Acts (IsReadTo limit (input_of result)) (b.sources name) (a.sources name)
      read (inl nothing) =
          subst (λ s. Acts (IsReadTo limit (input_of result)) s (a.sources name)) (sym nothing.0)
          (nothing.2 name ∙ nothing.0)
      read (inr stood) =
          subst (λ s. Acts (IsReadTo limit (input_of result)) s (a.sources name)) (sym stood.0)
          (t, stood.1, (result, refl, (octets, reads)))

      opened_count : m.faults ≡ b.faults
      opened_count = opens.faults

      rises : 0 < t.faults → Rises b.faults a.faults
      rises faulty = (
        0,
        closes.faults ∙ ap (λ x. counted x m.faults) (lt-test t.faults faulty)
            ∙ ap next_count opened_count,
      )

      stays : t.faults ≡ 0 → a.faults ≡ b.faults
      stays none = closes.faults ∙ ap (λ n. counted (nat_lt 0 n) m.faults) none ∙ opened_count

      keeps : (n : ℕ) → t.faults ≡ n
          → (a.faults ≡ b.faults)
          ⊎ (Rises b.faults a.faults
          × (SomeOf (name ∷ [])
          (λ name. FaultyAt source_faults (b.sources name) (a.sources name)) ⊎ ⊥))
      keeps zero none = inl (stays none)
      keeps (suc n) some =
          let faulty : 0 < t.faults = omega (arith, some) in
          inr (
            rises faulty,
            inl
                (inl (FaultyAt-exchanged (λ source. source.name)
                source_faults name b.sources m.sources a.sources s t failed reads.faults
                exchanged faulty)),
          )

      opened : OpensInput b a name failed
      opened = record {
        uses = record {
          counted = record {
            cause = λ is. rises
                (faulty_exchanged (λ source. source.name)
                source_faults name b.sources m.sources a.sources s t failed reads.faults
                exchanged is);
            reason =
                λ is. inl
                (inl (FailedAt-exchanged (λ source. source.name)
                source_faults name b.sources m.sources a.sources s t failed reads.faults
                exchanged is));
            kept = keeps t.faults refl;
            exact = λ clean none. stays
                (faultless_exchanged (λ source. source.name)
                source_faults name b.sources m.sources a.sources s t failed reads.faults
                exchanged clean.0.0 none);
          };
          sources =
              Keeps-exchanged (λ source. source.name)
              source_faults name b.sources m.sources a.sources s t failed reads.faults
              exchanged IsTextRead (limit, lawful, (result, (octets, reads)));
          sinks = Keeps-same sink_faults IsWritten failed [] b.sinks a.sinks
              (closes.sinks ∙ opens.sinks);
          read = (
            1,
            subst (λ names. Asks b.read_names names (name ∷ [])) (sym closes.read_names)
                opens.read_names,
          );
          written = (
            0,
            subst (λ names. Asks b.written_names names [])
                (sym (closes.written_names ∙ opens.written_names)) (Asks-none b.written_names),
          );
          network = closes.network ∙ opens.network;
        };
        asked = subst (λ names. Asks b.read_names names (name ∷ [])) (sym closes.read_names)
            opens.read_names;
        sinks = closes.sinks ∙ opens.sinks;
        written = closes.written_names ∙ opens.written_names;
      }

  -- one that isn't there
  pub ReadsInput-unopened : OpensIn b m name None → ReadsInput b m name limit (Err Outside)
  ReadsInput-unopened opens = record {
    text = text (b.sources name) opens.source;
    spent = tt;
    read = read (b.sources name) refl opens.source;
    opens = record {
      uses = record {
        counted = record {
          cause = λ is. (0, opens.faults);
          reason = λ is. inl (inl nothing.1);
          kept = inr ((0, opens.faults), inl (inl nothing.2));
          exact = λ clean none. absurd cc;
        };
        sources = Keeps-alike source_faults IsTextRead true (name ∷ []) b.sources m.sources
            nothing.0;
        sinks = Keeps-same sink_faults IsWritten true [] b.sinks m.sinks opens.sinks;
        read = (1, opens.read_names);
        written = (
          0,
          subst (λ names. Asks b.written_names names []) (sym opens.written_names)
              (Asks-none b.written_names),
        );
        network = opens.network;
      };
      asked = opens.read_names;
      sinks = opens.sinks;
      written = opens.written_names;
    };
  }
    where
      nothing : ((n : List ℕ) → m.sources n ≡ b.sources n)
          × FailedAt source_faults (b.sources name) (m.sources name)
          × FaultyAt source_faults (b.sources name) (m.sources name)
      nothing =
          nothing_opened (λ source. source.name)
          source_faults name b.sources m.sources m.sources opens.source opens.sources

      read : (s : NameEntry SourceTold) → b.sources name ≡ s
          → HandsOutObject (λ source. source.name) source_faults b.sources name s None
          → Acts (IsReadTo limit (Err Outside)) s (m.sources name)
      read untold_name at hands = nothing.0 name ∙ at
      read missing_name at hands = nothing.0 name ∙ at
      read lent at hands = nothing.0 name ∙ at
      read (there object) at hands = absurd cc

      text : (s : NameEntry SourceTold)
          → HandsOutObject (λ source. source.name) source_faults b.sources name s None
          → IsInput limit (Err Outside) (text_of s)
      text untold_name hands = tt
      text missing_name hands = refl
      text lent hands = refl
      text (there object) hands = absurd cc
