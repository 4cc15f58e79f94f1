-- Standard output, opened, told something, and closed again.
use Rattle.std.proofs.Common.{◌≡◌, ◌⊎◌, ℕ, zero, suc, Bool, true, false, ◌<◌, List, [], ◌∷◌, ◌++◌}
use Rattle.std.proofs.Common.{take}
use Rattle.std.proofs.Common.{Some, None}
use Rattle.std.proofs.Common.{refl, sym, ◌∙◌, ap, subst, inl, inr, arith, append_assoc}
use Rattle.std.specs.Prelude.{IsTrue, nat_lt, codes, decimal}
use Rattle.outside.specs.Faults.{counted, next_count}
use Rattle.outside.specs.Octets.{Adds}
use Rattle.outside.specs.Sink.{SinkTold}
use Rattle.outside.specs.Names.Outside.{OutsideTold, Asks}
use Rattle.outside.specs.Names.Outside.{OpensOut, ClosesOut}
use Rattle.commands.specs.declared.io.status.Status.{Status}
use Rattle.commands.specs.declared.io.status.Status.TheVariants.{Done, Usage, Input, Outside, Full}
use Rattle.commands.specs.declared.io.status.Status.TheVariants.{Differs, Memory, Peer}
use Rattle.commands.specs.Io.Statuses.{is_outside, is_whole, is_of_command, OnWhole}
use Rattle.commands.specs.Io.OutsideUse.{SomeOf, Rises, Uses, source_faults, sink_faults, FailedAt}
use Rattle.commands.specs.Io.OutsideUse.{FaultyAt, IsTextRead, IsWritten}
use Rattle.commands.specs.declared.io.input.Refusal.{Refusal}
use Rattle.commands.specs.declared.io.input.Refusal.TheVariants.{Long, BadLine, BadKey}
use Rattle.commands.specs.Io.Saying.{Said, names_in, duty_to_say, refusal_text, full_text}
use Rattle.commands.specs.Io.Runs.{output_name, taken_of, Took, EachFile, IsSaid, MatchesWords}
use Rattle.commands.specs.Io.Runs.{IsSinkThere, outputs_of, IsRun, TellsSaid, TellsOut}
use Rattle.commands.proofs.OfIo.Leaving.{Asks-none}
use Rattle.commands.proofs.OfIo.Exchanging.{IsExchanged, is_exchanged, Keeps-alike, Keeps-exchanged}
use Rattle.commands.proofs.OfIo.Exchanging.{FailedAt-exchanged, FaultyAt-exchanged}
use Rattle.commands.proofs.OfIo.Exchanging.{faultless_exchanged, faulty_exchanged, nothing_opened}
use Rattle.commands.proofs.OfIo.Reading.{lt-test, Keeps-same}
use Rattle.commands.proofs.OfIo.Running.{OnWhole-all, OnWhole-map, complete_of, Took-untold, Adds-none}

-- the line that refuses an input, behind the input's name
abbrev pub refusal_rest : Refusal → List ℕ
refusal_rest Long = codes " long" ++ 10 ∷ []
refusal_rest (BadLine line) = (codes " line " ++ decimal line) ++ 10 ∷ []
refusal_rest BadKey = codes " key" ++ 10 ∷ []

-- the texts that a line is written of
pub refusal_parts : (input : List ℕ) (refusal : Refusal)
    → refusal_text input refusal ≡ (codes "input " ++ input) ++ refusal_rest refusal
refusal_parts input Long = append_assoc (codes "input " ++ input) (codes " long") (10 ∷ [])
refusal_parts input (BadLine line) =
    append_assoc (codes "input " ++ input ++ codes " line ") (decimal line) (10 ∷ [])
    ∙ append_assoc (codes "input " ++ input) (codes " line ") (decimal line ++ 10 ∷ [])
refusal_parts input BadKey = append_assoc (codes "input " ++ input) (codes " key") (10 ∷ [])

pub full_parts : (weight limit : ℕ) → full_text weight limit
    ≡ ((codes "full " ++ decimal weight) ++ codes " ") ++ (decimal limit ++ 10 ∷ [])
full_parts weight limit =
    append_assoc ((codes "full " ++ decimal weight) ++ codes " ") (decimal limit) (10 ∷ [])

-- what telling leaves of the sink
Tells-answered : (said : Said) (k l : SinkTold) (status : Status) → TellsSaid said k l status
    → OnWhole status (said.status ≡ status)
Tells-answered said k l Done tells = tells.0
Tells-answered said k l Usage tells = tells.0
Tells-answered said k l Input tells = tells.0
Tells-answered said k l Full tells = tells.0
Tells-answered said k l Differs tells = tells.0
Tells-answered said k l Peer tells = tells.0
Tells-answered said k l Outside tells = tt
Tells-answered said k l Memory tells = tt

Tells-took : (said : Said) (k l : SinkTold) (status : Status) → TellsSaid said k l status
    → Took status k.taken l.taken said.text
Tells-took said k l Done tells = tells.1.taken
Tells-took said k l Usage tells = tells.1.taken
Tells-took said k l Input tells = tells.1.taken
Tells-took said k l Full tells = tells.1.taken
Tells-took said k l Differs tells = tells.1.taken
Tells-took said k l Peer tells = tells.1.taken
Tells-took said k l Outside tells = (tells.0, tells.1.taken)
Tells-took said k l Memory tells = (tells.0, tells.1.taken)

Tells-faults : (said : Said) (k l : SinkTold) (status : Status) → TellsSaid said k l status
    → l.faults ≡ counted (is_outside status) k.faults
Tells-faults said k l Done tells = tells.1.faults
Tells-faults said k l Usage tells = tells.1.faults
Tells-faults said k l Input tells = tells.1.faults
Tells-faults said k l Full tells = tells.1.faults
Tells-faults said k l Differs tells = tells.1.faults
Tells-faults said k l Peer tells = tells.1.faults
Tells-faults said k l Outside tells = tells.1.faults
Tells-faults said k l Memory tells = tells.1.faults

Tells-name : (said : Said) (k l : SinkTold) (status : Status) → TellsSaid said k l status
    → l.name ≡ k.name
Tells-name said k l Done tells = tells.1.name
Tells-name said k l Usage tells = tells.1.name
Tells-name said k l Input tells = tells.1.name
Tells-name said k l Full tells = tells.1.name
Tells-name said k l Differs tells = tells.1.name
Tells-name said k l Peer tells = tells.1.name
Tells-name said k l Outside tells = tells.1.name
Tells-name said k l Memory tells = tells.1.name

Tells-written : (said : Said) (k l : SinkTold) (status : Status) → TellsSaid said k l status
    → IsWritten k l
Tells-written said k l Done tells = (said.text, false, tells.1)
Tells-written said k l Usage tells = (said.text, false, tells.1)
Tells-written said k l Input tells = (said.text, false, tells.1)
Tells-written said k l Full tells = (said.text, false, tells.1)
Tells-written said k l Differs tells = (said.text, false, tells.1)
Tells-written said k l Peer tells = (said.text, false, tells.1)
Tells-written said k l Outside tells = (take tells.0 said.text, true, tells.1)
Tells-written said k l Memory tells = (take tells.0 said.text, false, tells.1)

-- a whole status, or a fault outside in its place, answers the words that it is for
pub answers_words : (answer status : Status) → IsTrue (is_whole answer)
    → (status ≡ answer) ⊎ (status ≡ Outside)
    → MatchesWords (is_of_command answer) status
answers_words Done status whole (inl same) = λ usage. absurd cc
answers_words Done status whole (inr lost) = λ usage. absurd cc
answers_words Usage status whole either = either
answers_words Input status whole (inl same) = λ usage. absurd cc
answers_words Input status whole (inr lost) = λ usage. absurd cc
answers_words Full status whole (inl same) = λ usage. absurd cc
answers_words Full status whole (inr lost) = λ usage. absurd cc
answers_words Differs status whole (inl same) = λ usage. absurd cc
answers_words Peer status whole (inl same) = λ usage. absurd cc
answers_words Differs status whole (inr lost) = λ usage. absurd cc
answers_words Peer status whole (inr lost) = λ usage. absurd cc
answers_words Outside status whole either = absurd cc
answers_words Memory status whole either = absurd cc

module _ (name : List ℕ) (b m a : OutsideTold) (text : List ℕ) where
  -- a sink is there, and is told a text that is said
  pub TellsOut-told : (said_now : Said) (k l : SinkTold) (status : Status) → said_now.text ≡ text
      → OpensOut b m name (Some k) → TellsSaid said_now k l status → ClosesOut m a l
      → TellsOut name text b a status
  TellsOut-told said_now k l status text_is opens tells closes = record {
    took = subst (λ t. Took status (taken_of (b.sinks name)) (taken_of (a.sinks name)) t) text_is
        (took exchanged);
    there = there exchanged;
    uses = uses;
    asked = asked;
    unread = closes.read_names ∙ opens.read_names;
  }
    where
      exchanged : IsExchanged (λ sink. sink.name)
          sink_faults name b.sinks m.sinks a.sinks k l
      exchanged =
          is_exchanged (λ sink. sink.name)
          sink_faults name b.sinks m.sinks a.sinks k l opens.sink opens.sinks
          (Tells-name said_now k l status tells) closes.sinks

      took : IsExchanged (λ sink. sink.name) sink_faults name b.sinks m.sinks a.sinks k l
          → Took status (taken_of (b.sinks name)) (taken_of (a.sinks name)) said_now.text
      took (inl nothing) =
          subst (λ s. Took status (taken_of (b.sinks name)) (taken_of s) said_now.text)
          (sym (nothing.2 name))
          (subst (λ s. Took status (taken_of s) (taken_of s) said_now.text) (sym nothing.0)
          (Took-untold status said_now.text))
      took (inr stood) =
          subst (λ s. Took status (taken_of s) (taken_of (a.sinks name)) said_now.text)
          (sym stood.0)
          (subst (λ s. Took status k.taken (taken_of s) said_now.text) (sym stood.1)
          (Tells-took said_now k l status tells))

      there : IsExchanged (λ sink. sink.name) sink_faults name b.sinks m.sinks a.sinks k l
          → OnWhole status (IsSinkThere (b.sinks name))
      there (inl nothing) = OnWhole-all status (subst (λ s. IsSinkThere s) (sym nothing.0) tt)
      there (inr stood) = OnWhole-all status (subst (λ s. IsSinkThere s) (sym stood.0) tt)

      asked : Asks b.written_names a.written_names (name ∷ [])
      asked = subst (λ names. Asks b.written_names names (name ∷ []))
          (sym closes.written_names) opens.written_names

      rises : 0 < l.faults → Rises b.faults a.faults
      rises faulty = (
        0,
        closes.faults ∙ ap (λ x. counted x m.faults) (lt-test l.faults faulty)
            ∙ ap next_count opens.faults,
      )

      stays : l.faults ≡ 0 → a.faults ≡ b.faults
      stays none = closes.faults ∙ ap (λ n. counted (nat_lt 0 n) m.faults) none ∙ opens.faults

      keeps : (n : ℕ) → l.faults ≡ n
          → (a.faults ≡ b.faults)
          ⊎ (Rises b.faults a.faults
          × (⊥ ⊎ SomeOf (name ∷ [])
          (λ name. FaultyAt sink_faults (b.sinks name) (a.sinks name))))
      keeps zero none = inl (stays none)
      keeps (suc n) some =
          let faulty : 0 < l.faults = omega (arith, some) in
          inr (
            rises faulty,
            inr
                (inl (FaultyAt-exchanged (λ sink. sink.name)
                sink_faults name b.sinks m.sinks a.sinks k l (is_outside status)
                (Tells-faults said_now k l status tells) exchanged faulty)),
          )

      uses : Uses [] (name ∷ []) (is_outside status) b a
      uses = record {
        counted = record {
          cause = λ is. rises
              (faulty_exchanged (λ sink. sink.name)
              sink_faults name b.sinks m.sinks a.sinks k l (is_outside status)
              (Tells-faults said_now k l status tells) exchanged is);
          reason =
              λ is. inr
              (inl (FailedAt-exchanged (λ sink. sink.name)
              sink_faults name b.sinks m.sinks a.sinks k l (is_outside status)
              (Tells-faults said_now k l status tells) exchanged is));
          kept = keeps l.faults refl;
          exact = λ clean none. stays
              (faultless_exchanged (λ sink. sink.name)
              sink_faults name b.sinks m.sinks a.sinks k l (is_outside status)
              (Tells-faults said_now k l status tells) exchanged clean.1.0 none);
        };
        sources =
            Keeps-same source_faults IsTextRead (is_outside status) [] b.sources a.sources
            (closes.sources ∙ opens.sources);
        sinks = Keeps-exchanged (λ sink. sink.name)
            sink_faults name b.sinks m.sinks a.sinks k l (is_outside status)
            (Tells-faults said_now k l status tells) exchanged IsWritten
            (Tells-written said_now k l status tells);
        read = (
          0,
          subst (λ names. Asks b.read_names names [])
              (sym (closes.read_names ∙ opens.read_names)) (Asks-none b.read_names),
        );
        written = (1, asked);
        network = closes.network ∙ opens.network;
      }

  -- it isn't there
  pub TellsOut-untold : OpensOut b m name None → TellsOut name text b m Outside
  TellsOut-untold opens = record {
    took = (
      0,
      subst (λ t. Adds (taken_of (b.sinks name)) t []) (sym (ap taken_of (nothing.0 name)))
          (Adds-none (taken_of (b.sinks name))),
    );
    there = tt;
    uses = record {
      counted = record {
        cause = λ is. (0, opens.faults);
        reason = λ is. inr (inl nothing.1);
        kept = inr ((0, opens.faults), inr (inl nothing.2));
        exact = λ clean none. absurd cc;
      };
      sources = Keeps-same source_faults IsTextRead true [] b.sources m.sources opens.sources;
      sinks = Keeps-alike sink_faults IsWritten true (name ∷ []) b.sinks m.sinks nothing.0;
      read = (
        0,
        subst (λ names. Asks b.read_names names []) (sym opens.read_names)
            (Asks-none b.read_names),
      );
      written = (1, opens.written_names);
      network = opens.network;
    };
    asked = opens.written_names;
    unread = opens.read_names;
  }
    where
      nothing : ((n : List ℕ) → m.sinks n ≡ b.sinks n)
          × FailedAt sink_faults (b.sinks name) (m.sinks name)
          × FaultyAt sink_faults (b.sinks name) (m.sinks name)
      nothing =
          nothing_opened (λ sink. sink.name)
          sink_faults name b.sinks m.sinks m.sinks opens.sink opens.sinks

-- a run that opens no input and writes no file
module _ (b a : OutsideTold) (is_command : Bool) (said_now : Said) (alone : said_now.files ≡ [])
    (status : Status) (told_out : TellsOut output_name said_now.text b a status)
    (answered : OnWhole status (said_now.status ≡ status)) where
  outputs_alone : outputs_of (duty_to_say is_command said_now) ≡ output_name ∷ []
  outputs_alone = ap (λ (files : List (List ℕ × List ℕ)). output_name ∷ names_in files) alone

  pub IsRun-told : MatchesWords is_command status
      → IsRun (duty_to_say is_command said_now) b a status
  IsRun-told words = record {
    words = words;
    said = said;
    output = OnWhole-map status (λ there. (
      there,
      subst (λ files. EachFile files (λ name octets. IsSinkThere (b.sinks name))) (sym alone) tt,
    )) told_out.there;
    uses = uses;
    opened =
        OnWhole-all status
        (subst (λ names. Asks b.read_names names []) (sym told_out.unread)
        (Asks-none b.read_names));
    printed = OnWhole-all status
        (subst (λ files. Asks b.written_names a.written_names (output_name ∷ names_in files))
        (sym alone) told_out.asked);
    filed = inl told_out.uses.written;
    complete = complete_of (duty_to_say is_command said_now) b a status said uses;
  }
    where
      said : IsSaid status b.sinks a.sinks said_now
      said = record {
        answered = answered;
        output = told_out.took;
        files =
            subst (λ files. EachFile files
            (λ name octets. Took status (taken_of (b.sinks name)) (taken_of (a.sinks name))
            octets)) (sym alone) tt;
      }

      uses : Uses [] (outputs_of (duty_to_say is_command said_now)) (is_outside status) b a
      uses = subst (λ (names : List (List ℕ)). Uses [] names (is_outside status) b a)
          (sym outputs_alone) told_out.uses

module _ (b m a : OutsideTold) (is_command : Bool) (said_now : Said) (alone : said_now.files ≡ [])
  where
    -- standard output is there
    pub IsRun-printed : (k l : SinkTold) (status : Status) → OpensOut b m output_name (Some k)
        → TellsSaid said_now k l status
        → ClosesOut m a l → MatchesWords is_command status
        → IsRun (duty_to_say is_command said_now) b a status
    IsRun-printed k l status opens tells closes words =
        IsRun-told b a is_command said_now alone status
        (TellsOut-told output_name b m a said_now.text said_now k l status refl opens tells closes)
        (Tells-answered said_now k l status tells) words

    -- it isn't there
    pub IsRun-unprinted : OpensOut b m output_name None
        → IsRun (duty_to_say is_command said_now) b m Outside
    IsRun-unprinted opens =
        IsRun-told b m is_command said_now alone Outside
        (TellsOut-untold output_name b m m said_now.text opens) tt (lost is_command)
      where
        lost : (is_command : Bool) → MatchesWords is_command Outside
        lost false = inr refl
        lost true = λ same. absurd cc
