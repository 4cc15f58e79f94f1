-- A run that writes a file once all is said.
use Rattle.std.proofs.Common.{◌≡◌, ℕ, Bool, true, false, List, [], ◌∷◌, length, Option}
use Rattle.std.proofs.Common.{refl, sym, subst, inl, inr}
use Rattle.std.proofs.Math.Seq.{take-length}
use Rattle.outside.specs.Octets.{Adds}
use Rattle.outside.specs.Names.Outside.{OutsideTold, Asks}
use Rattle.commands.specs.declared.io.status.Status.{Status}
use Rattle.commands.specs.declared.io.status.Status.TheVariants.{Done, Usage, Input, Outside, Full}
use Rattle.commands.specs.declared.io.status.Status.TheVariants.{Differs, Memory, Peer}
use Rattle.commands.specs.Io.Statuses.{is_outside, is_whole, OnWhole}
use Rattle.commands.specs.Io.OutsideUse.{is_among, Uses}
use Rattle.commands.specs.Io.Saying.{Said, names_in, with_file, duty_to_say}
use Rattle.commands.specs.Io.Runs.{output_name, taken_of, Took, IsSaid, MatchesWords, IsSinkThere}
use Rattle.commands.specs.Io.Runs.{IsRun, WritesFile, status_behind}
use Rattle.commands.proofs.OfIo.Leaving.{Asks-append, Asks-none, Uses-then}
use Rattle.commands.proofs.OfIo.Running.{OnWhole-all, complete_of, Adds-none, Uses-wider}

-- a fact of a status with which all is whole
on_whole : (status : Status) {P : Type 0} → is_whole status ≡ true → OnWhole status P → P
on_whole Done whole fact = fact
on_whole Usage whole fact = fact
on_whole Input whole fact = fact
on_whole Full whole fact = fact
on_whole Differs whole fact = fact
on_whole Peer whole fact = fact
on_whole Outside whole fact = absurd cc
on_whole Memory whole fact = absurd cc

-- all of the octets were taken
all_took : (status : Status) (before after : Option (List ℕ)) (octets : List ℕ)
    → is_whole status ≡ true → Took status before after octets → Adds before after octets
all_took Done before after octets whole took = took
all_took Usage before after octets whole took = took
all_took Input before after octets whole took = took
all_took Full before after octets whole took = took
all_took Differs before after octets whole took = took
all_took Peer before after octets whole took = took
all_took Outside before after octets whole took = absurd cc
all_took Memory before after octets whole took = absurd cc

took_all : (status : Status) (before after : Option (List ℕ)) (octets : List ℕ)
    → Adds before after octets → Took status before after octets
took_all Done before after octets adds = adds
took_all Usage before after octets adds = adds
took_all Input before after octets adds = adds
took_all Full before after octets adds = adds
took_all Differs before after octets adds = adds
took_all Peer before after octets adds = adds
took_all Outside before after octets adds =
    (length octets, subst (λ o. Adds before after o) (sym (take-length octets)) adds)
took_all Memory before after octets adds =
    (length octets, subst (λ o. Adds before after o) (sym (take-length octets)) adds)

whole_inside : (status : Status) → is_whole status ≡ true → is_outside status ≡ false
whole_inside Done whole = refl
whole_inside Usage whole = refl
whole_inside Input whole = refl
whole_inside Full whole = refl
whole_inside Differs whole = refl
whole_inside Peer whole = refl
whole_inside Outside whole = absurd cc
whole_inside Memory whole = absurd cc

module _ (b : OutsideTold) (said : Said) (alone : said.files ≡ []) (name octets : List ℕ)
    (apart : is_among (output_name ∷ []) name ≡ false)
    (elsewhere : is_among (name ∷ []) output_name ≡ false) where
  outputs_before : (a : OutsideTold) (failed : Bool)
      → Uses [] (output_name ∷ names_in said.files) failed b a
      → Uses [] (output_name ∷ []) failed b a
  outputs_before a failed uses =
      subst (λ (files : List (List ℕ × List ℕ)). Uses [] (output_name ∷ names_in files) failed b a)
      alone uses

  module _ (m a : OutsideTold) (status written : Status) (whole : is_whole status ≡ true)
      (run : IsRun (duty_to_say true said) b m status) (files : WritesFile name octets m a written)
    where
      same_output : a.sinks output_name ≡ m.sinks output_name
      same_output = files.tells.uses.sinks.others output_name elsewhere

      same_file : m.sinks name ≡ b.sinks name
      same_file = (outputs_before m (is_outside status) run.uses).sinks.others name apart

      output_took : Adds (taken_of (b.sinks output_name)) (taken_of (a.sinks output_name)) said.text
      output_took = subst (λ s. Adds (taken_of (b.sinks output_name)) (taken_of s) said.text)
          (sym same_output)
          (all_took status (taken_of (b.sinks output_name)) (taken_of (m.sinks output_name)) said.text
          whole run.said.output)

      file_took : Took written (taken_of (b.sinks name)) (taken_of (a.sinks name)) octets
      file_took = subst (λ s. Took written (taken_of s) (taken_of (a.sinks name)) octets) same_file
          files.tells.took

      file_there : OnWhole written (IsSinkThere (b.sinks name))
      file_there = subst (λ s. OnWhole written (IsSinkThere s)) same_file files.tells.there

      asked : Asks b.written_names m.written_names (output_name ∷ [])
      asked = subst (λ (f : List (List ℕ × List ℕ)). Asks b.written_names m.written_names
          (output_name ∷ names_in f)) alone (on_whole status whole run.printed)

      read : Asks b.read_names m.read_names []
      read = on_whole status whole run.opened

      uses : Uses [] (output_name ∷ name ∷ []) (is_outside written) b a
      uses = Uses-then false (is_outside written) [] [] (output_name ∷ []) (name ∷ []) b m a
          (subst (λ (failed : Bool). Uses [] (output_name ∷ []) failed b m)
          (whole_inside status whole) (outputs_before m (is_outside status) run.uses))
          files.tells.uses read asked

      -- the run by the status behind the file
      run_by : (behind : Status) → is_outside behind ≡ is_outside written
          → MatchesWords true behind → OnWhole behind (said.status ≡ behind)
          → Took behind (taken_of (b.sinks name)) (taken_of (a.sinks name)) octets
          → OnWhole behind (IsSinkThere (b.sinks name))
          → IsRun (duty_to_say true (with_file name octets said)) b a behind
      run_by behind failed words answered took there =
          let told : IsSaid behind b.sinks a.sinks (with_file name octets said) = record {
            answered = answered;
            output = took_all behind (taken_of (b.sinks output_name))
                (taken_of (a.sinks output_name)) said.text output_took;
            files = (took, tt);
          } in
          let used : Uses [] (output_name ∷ name ∷ []) (is_outside behind) b a =
          subst (λ (f : Bool). Uses [] (output_name ∷ name ∷ []) f b a) (sym failed) uses in
          record {
            words = words;
            said = told;
            output = outputs_there behind there;
            uses = used;
            opened = OnWhole-all behind
                (Asks-append b.read_names m.read_names a.read_names [] [] read
                (subst (λ names. Asks m.read_names names []) (sym files.tells.unread)
                (Asks-none m.read_names)));
            printed = OnWhole-all behind
                (Asks-append b.written_names m.written_names a.written_names (output_name ∷ [])
                (name ∷ []) asked files.tells.asked);
            filed = inr output_took;
            complete = complete_of (duty_to_say true (with_file name octets said)) b a behind told
                used;
          }
        where
          there_both : IsSinkThere (b.sinks name)
              → IsSinkThere (b.sinks output_name) × (IsSinkThere (b.sinks name) × Unit {0})
          there_both file = ((on_whole status whole run.output).0, (file, tt))

          outputs_there : (s : Status) → OnWhole s (IsSinkThere (b.sinks name)) → OnWhole s
              (IsSinkThere (b.sinks output_name) × (IsSinkThere (b.sinks name) × Unit {0}))
          outputs_there Done file = there_both file
          outputs_there Usage file = there_both file
          outputs_there Input file = there_both file
          outputs_there Full file = there_both file
          outputs_there Differs file = there_both file
          outputs_there Peer file = there_both file
          outputs_there Outside file = tt
          outputs_there Memory file = tt

  -- a file was written behind a run whose output is whole
  pub IsRun-filed : (m a : OutsideTold) (status written : Status) → is_whole status ≡ true
      → IsRun (duty_to_say true said) b m status → WritesFile name octets m a written
      → IsRun (duty_to_say true (with_file name octets said)) b a (status_behind status written)
  IsRun-filed m a status Done whole run files =
      run_by m a status Done whole run files status (whole_inside status whole) run.words
      run.said.answered
      (took_all status (taken_of (b.sinks name)) (taken_of (a.sinks name)) octets
      (file_took m a status Done whole run files))
      (OnWhole-all status (file_there m a status Done whole run files))
  IsRun-filed m a status Outside whole run files =
      run_by m a status Outside whole run files Outside refl (λ same. absurd cc) tt
      (file_took m a status Outside whole run files) tt
  IsRun-filed m a status Memory whole run files =
      run_by m a status Memory whole run files Memory refl (λ same. absurd cc) tt
      (file_took m a status Memory whole run files) tt
  IsRun-filed m a status Usage whole run files = absurd files.ends
  IsRun-filed m a status Input whole run files = absurd files.ends
  IsRun-filed m a status Full whole run files = absurd files.ends
  IsRun-filed m a status Differs whole run files = absurd files.ends
  IsRun-filed m a status Peer whole run files = absurd files.ends

  -- none was written behind one whose output isn't whole
  unfiled : (a : OutsideTold) (status : Status) → IsRun (duty_to_say true said) b a status
      → ((P : Type 0) → OnWhole status P)
      → (Adds (taken_of (b.sinks name)) (taken_of (a.sinks name)) []
      → Took status (taken_of (b.sinks name)) (taken_of (a.sinks name)) octets)
      → IsRun (duty_to_say true (with_file name octets said)) b a status
  unfiled a status run cut nothing =
      let same : a.sinks name ≡ b.sinks name =
      (outputs_before a (is_outside status) run.uses).sinks.others name apart in
      let told : IsSaid status b.sinks a.sinks (with_file name octets said) = record {
        answered = cut _;
        output = run.said.output;
        files = (
          nothing (subst (λ s. Adds (taken_of (b.sinks name)) (taken_of s) []) (sym same)
              (Adds-none (taken_of (b.sinks name)))),
          tt,
        );
      } in
      let used : Uses [] (output_name ∷ name ∷ []) (is_outside status) b a =
      Uses-wider [] [] (output_name ∷ []) (name ∷ []) (is_outside status) b a
      (outputs_before a (is_outside status) run.uses) in
      record {
        words = run.words;
        said = told;
        output = cut _;
        uses = used;
        opened = cut _;
        printed = cut _;
        filed = inl (outputs_before a (is_outside status) run.uses).written;
        complete = complete_of (duty_to_say true (with_file name octets said)) b a status told used;
      }

  pub IsRun-unfiled : (a : OutsideTold) (status : Status) → is_whole status ≡ false
      → IsRun (duty_to_say true said) b a status
      → IsRun (duty_to_say true (with_file name octets said)) b a status
  IsRun-unfiled a Outside cut run = unfiled a Outside run (λ P. tt) (λ none. (0, none))
  IsRun-unfiled a Memory cut run = unfiled a Memory run (λ P. tt) (λ none. (0, none))
  IsRun-unfiled a Done cut run = absurd cc
  IsRun-unfiled a Usage cut run = absurd cc
  IsRun-unfiled a Input cut run = absurd cc
  IsRun-unfiled a Full cut run = absurd cc
  IsRun-unfiled a Differs cut run = absurd cc
  IsRun-unfiled a Peer cut run = absurd cc
