-- Each step of a script that is read may be played.
use Rattle.std.proofs.Common.{◌≡◌, ℕ, ℤ, ◌<◌, Bool, true, false, List, [], ◌∷◌, length, map}
use Rattle.std.proofs.Common.{Option, Some, None, Result, Ok, Err, codes, refl, sym, subst}
use Rattle.std.specs.Prelude.{IfOk, MatchResult, if◌then◌else◌, is_some, option_and_then, nat_le}
use Rattle.std.specs.List.{All}
use Rattle.std.specs.Str.{bytes_eq}
use Rattle.std.proofs.lemmas.Option.{option_and_then_some, same_Some}
use Rattle.std.proofs.lemmas.List.Quantifiers.{position-Some}
use Rattle.std.proofs.lemmas.List.Elements.{All-cons, All-nil}
use Rattle.std.proofs.lemmas.Bool.{leb-true}
use Rattle.std.proofs.lemmas.Slice.Eq.{bytes_eq-Decides}
use Rattle.plain_text.specs.Numbers.{if_passes, number_in, number_up_to}
use Rattle.plain_text.specs.Words.{words_in}
use Rattle.bilateral.specs.Words.Devices.{short_in}
use Rattle.bilateral.specs.declared.rows.DeviceRow.{DeviceRow}
use Rattle.bilateral.specs.declared.rows.Table.{Table}
use Rattle.bilateral.specs.Rows.{CentreRows, table_of, device_of, place_of_peer, place_of_device}
use Rattle.bilateral.specs.Rows.{place_of_control, no_device, no_table}
use Rattle.tase_views.specs.declared.call.CallKind.{CallKind}
use Rattle.texts.specs.Journal.CallIn.{call_in}
use Rattle.tase_conn.specs.Map.Asked.{is_odd}
use Rattle.centre_client.specs.declared.fault.ScriptFault.{ScriptFault}
use Rattle.centre_client.specs.declared.fault.ScriptWhy.{ScriptWhy}
use Rattle.centre_client.specs.declared.fault.ScriptWhy.TheVariants.{Word, Unknown}
use Rattle.centre_client.specs.declared.fault.ScriptWhy.TheVariants.{Selectable, Long}
use Rattle.centre_client.specs.declared.script.Script.{Script}
use Rattle.centre_client.specs.declared.script.Step.{Step}
use Rattle.centre_client.specs.declared.script.StepKind.{StepKind}
use Rattle.centre_client.specs.declared.script.StepKind.TheVariants as kinds
use Rattle.centre_client.specs.declared.steps.TheConstants.{WAIT_LIMIT}
use Rattle.centre_client.specs.NumberedLines.{NumberedLine}
use Rattle.centre_client.specs.StepLines.{controlled_device, writes_guarded, is_long, unless_why}
use Rattle.centre_client.specs.StepLines.{call_step, operate_with, operate_step, wait_of, wait_step}
use Rattle.centre_client.specs.StepLines.{step_of_words, step_of_spaced, step_in, IsStep}
use Rattle.centre_client.specs.StepLines.{key_behind_use, or_why, peer_with}
use Rattle.centre_client.specs.Scripts.{at_line, peer_at, step_at}
use Rattle.centre_client.specs.Scripts.{SpellsScript, HasScriptFault, IsScript}

abbrev a_step : StepKind → Result StepKind ScriptWhy
a_step kind = Ok kind

call-plays : (rows : CentreRows) (peer : ℕ) (said : Option CallKind) (kind : StepKind)
    → call_step rows peer said ≡ Ok kind → IsStep rows peer kind
call-plays rows peer None kind is = absurd cc
call-plays rows peer (Some call) kind is =
    one (is_odd call) (writes_guarded rows peer call) (is_long call) refl refl refl is
  where
    one : (odd guarded long : Bool) → is_odd call ≡ odd → writes_guarded rows peer call ≡ guarded
        → is_long call ≡ long
        → unless_why (if odd then Some Word
        else (if guarded then Some Selectable else (if long then Some Long else None)))
        (kinds.Call call) ≡ Ok kind
        → IsStep rows peer kind
    one true guarded long odd_is guarded_is long_is is = absurd cc
    one false true long odd_is guarded_is long_is is = absurd cc
    one false false true odd_is guarded_is long_is is = absurd cc
    one false false false odd_is guarded_is long_is is =
        let same : kinds.Call call ≡ kind = cc in
        subst (IsStep rows peer) same (odd_is, guarded_is, long_is)

kept : {A : Type 0} (b : Bool) (x y : A) → (if b then Some x else None) ≡ Some y
    → (x ≡ y) × (b ≡ true)
kept true x y is = (same_Some x y is, refl)
kept false x y is = absurd cc

controlled-there : (rows : CentreRows) (peer : ℕ) (name : List ℕ) (device : ℕ)
    → controlled_device rows peer name ≡ Some device
    → (device < length rows.devices)
    × (is_some (place_of_control (table_of rows peer) device) ≡ true)
    × (controlled_device rows peer (device_of rows device).name ≡ Some device)
controlled-there rows peer name device is =
    option_and_then_some
    (if_passes (λ d. is_some (place_of_control (table_of rows peer) d)))
    (place_of_device rows name) device is (λ d at passes.
    let p = kept (is_some (place_of_control (table_of rows peer) d)) d device passes in
    let found = position-Some (λ (row : DeviceRow). bytes_eq row.name name) rows.devices d
    no_device at in
    let named : (device_of rows d).name ≡ name =
    (bytes_eq-Decides (device_of rows d).name name).0 found.1 in (
      subst (λ (x : ℕ). x < length rows.devices) p.0 found.0,
      subst (λ (x : ℕ). is_some (place_of_control (table_of rows peer) x) ≡ true) p.0 p.1,
      subst (λ (l : List ℕ). controlled_device rows peer l ≡ Some device)
          (sym (subst (λ (x : ℕ). (device_of rows x).name ≡ name) p.0 named)) is,
    ))

operate-plays : (rows : CentreRows) (peer : ℕ) (words : List (List ℕ)) (kind : StepKind)
    → operate_step rows peer words ≡ Ok kind → IsStep rows peer kind
operate-plays rows peer [] kind is = absurd cc
operate-plays rows peer (name ∷ []) kind is = absurd cc
operate-plays rows peer (name ∷ value ∷ next ∷ more) kind is = absurd cc
operate-plays rows peer (name ∷ value ∷ []) kind is =
    one (controlled_device rows peer name) refl (short_in value) is
  where
    one : (device : Option ℕ) → controlled_device rows peer name ≡ device
        → (value : Option ℤ) → operate_with device value ≡ Ok kind → IsStep rows peer kind
    one None at None is = absurd cc
    one None at (Some v) is = absurd cc
    one (Some d) at None is = absurd cc
    one (Some d) at (Some v) is =
        let same : kinds.Operate d v ≡ kind = cc in
        subst (IsStep rows peer) same (controlled-there rows peer name d at)

wait-plays : (rows : CentreRows) (peer : ℕ) (words : List (List ℕ)) (kind : StepKind)
    → wait_step words ≡ Ok kind → IsStep rows peer kind
wait-plays rows peer [] kind is = absurd cc
wait-plays rows peer (word ∷ next ∷ more) kind is = absurd cc
wait-plays rows peer (word ∷ []) kind is = one (number_up_to WAIT_LIMIT word) refl is
  where
    within : (n : ℕ) → number_up_to WAIT_LIMIT word ≡ Some n → nat_le n WAIT_LIMIT ≡ true
    within n at =
        option_and_then_some (if_passes (λ m. nat_le m WAIT_LIMIT)) (number_in word) n at
        (λ m read passes. let p = kept (nat_le m WAIT_LIMIT) m n passes in
        subst (λ (x : ℕ). nat_le x WAIT_LIMIT ≡ true) p.0 p.1)

    two : (n : ℕ) → nat_le n WAIT_LIMIT ≡ true → (b : Bool) → nat_le 1 n ≡ b
        → (if b then Ok (kinds.Wait n) else Err Word) ≡ Ok kind → IsStep rows peer kind
    two n most false least is = absurd cc
    two n most true least is =
        let same : kinds.Wait n ≡ kind = cc in
        subst (IsStep rows peer) same (leb-true 1 n least, leb-true n WAIT_LIMIT most)

    one : (reports : Option ℕ) → number_up_to WAIT_LIMIT word ≡ reports
        → wait_of reports ≡ Ok kind → IsStep rows peer kind
    one None at is = absurd cc
    one (Some n) at is = two n (within n at) (nat_le 1 n) refl is

words-play : (rows : CentreRows) (peer : ℕ) (words : List (List ℕ)) (kind : StepKind)
    → step_of_words rows peer words ≡ Ok kind → IsStep rows peer kind
words-play rows peer [] kind is = absurd cc
words-play rows peer (verb ∷ words) kind is =
    one (bytes_eq verb (codes "call")) (bytes_eq verb (codes "operate"))
    (bytes_eq verb (codes "wait")) is
  where
    one : (call operate wait : Bool)
        → (if call then call_step rows peer (call_in words)
        else (if operate then operate_step rows peer words
        else (if wait then wait_step words else Err Word))) ≡ Ok kind
        → IsStep rows peer kind
    one true operate wait is = call-plays rows peer (call_in words) kind is
    one false true wait is = operate-plays rows peer words kind is
    one false false true is = wait-plays rows peer words kind is
    one false false false is = absurd cc

step-plays : (rows : CentreRows) (peer : ℕ) (line : List ℕ) (kind : StepKind)
    → step_in rows peer line ≡ Ok kind → IsStep rows peer kind
step-plays rows peer line kind is = one (words_in line) is
  where
    one : (words : Option (List (List ℕ))) → step_of_spaced rows peer words ≡ Ok kind
        → IsStep rows peer kind
    one None is = absurd cc
    one (Some words) is = words-play rows peer words kind is

line-plays : (rows : CentreRows) (peer : ℕ) (line : NumberedLine) (step : Step)
    → step_at rows peer line ≡ Ok step → IsStep rows peer step.kind
line-plays rows peer line step is = one (step_in rows peer line.text) refl is
  where
    one : (r : Result StepKind ScriptWhy) → step_in rows peer line.text ≡ r
        → at_line line.number (λ kind. record { line = line.number; kind = kind }) r ≡ Ok step
        → IsStep rows peer step.kind
    one (Err why) at is = absurd cc
    one (Ok kind) at is =
        let same : record { line = line.number; kind = kind } ≡ step = cc in
        subst (λ (s : Step). IsStep rows peer s.kind) same
        (step-plays rows peer line.text kind at)

lines-play : (rows : CentreRows) (peer : ℕ) (texts : List NumberedLine) (steps : List Step)
    → map (step_at rows peer) texts ≡ map Ok steps
    → All (λ step. IsStep rows peer step.kind) steps
lines-play rows peer [] [] is = All-nil (λ step. IsStep rows peer step.kind)
lines-play rows peer [] (step ∷ steps) is = absurd cc
lines-play rows peer (line ∷ texts) [] is = absurd cc
lines-play rows peer (line ∷ texts) (step ∷ steps) is =
    let head : step_at rows peer line ≡ Ok step = cc in
    let tail : map (step_at rows peer) texts ≡ map Ok steps = cc in
    All-cons (λ step. IsStep rows peer step.kind) step steps
    (line-plays rows peer line step head) (lines-play rows peer texts steps tail)

peer-there : (rows : CentreRows) (line : NumberedLine) (peer : ℕ)
    → peer_at rows line ≡ Ok peer → peer < length rows.tables
peer-there rows line peer is = one (option_and_then key_behind_use (words_in line.text)) is
  where
    place : (key : List ℕ) (o : Option ℕ) → place_of_peer rows key ≡ o
        → at_line line.number (λ (p : ℕ). p) (or_why Unknown o) ≡ Ok peer
        → peer < length rows.tables
    place key None at is = absurd cc
    place key (Some p) at is =
        let same : p ≡ peer = cc in
        subst (λ (x : ℕ). x < length rows.tables) same
        (position-Some (λ (table : Table). bytes_eq table.key key) rows.tables p no_table at).0

    one : (key : Option (List ℕ))
        → at_line line.number (λ (p : ℕ). p) (peer_with rows key) ≡ Ok peer
        → peer < length rows.tables
    one None is = absurd cc
    one (Some key) is = place key (place_of_peer rows key) refl is

-- the script that a text spells may be played
pub plays : (rows : CentreRows) (text : List ℕ) (script : Script) → SpellsScript rows text script
    → IsScript rows script
plays rows text script s = record {
  peer = peer-there rows s.first script.peer s.peer;
  steps = lines-play rows script.peer s.more script.steps s.steps;
}

pub lawful-in : {E : Type 0} (rows : CentreRows) (text : List ℕ)
    (result : Result (Result Script ScriptFault) E)
    → IfOk result (λ read. MatchResult read (SpellsScript rows text) (HasScriptFault rows text))
    → IfOk result (λ read. IfOk read (IsScript rows))
lawful-in rows text (Ok (Ok script)) found = plays rows text script found
lawful-in rows text (Ok (Err fault)) found = tt
lawful-in rows text (Err e) found = tt
