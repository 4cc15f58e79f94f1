-- Scripts worked out by hand.
use Rattle.std.proofs.Common.{◌≡◌, ℕ, List, [], ◌∷◌, ◌++◌, true, false, Some, Ok, Err, pos}
use Rattle.std.proofs.Common.{negsuc, codes, refl}
use Rattle.ber_values.specs.Writing.{length_octets, integer_octets}
use Rattle.mms_data.specs.Datum.{integer}
use Rattle.mms_data.specs.declared.object_name.Scope.TheVariants.{Domain}
use Rattle.mms_services.specs.PduOctets.{pdu_octets, invoke_octets, request_octets}
use Rattle.sbo_device.specs.declared.kind.CommandKind.TheVariants.{Command}
use Rattle.bilateral.specs.Rows.{CentreRows, no_table}
use Rattle.tase_views.specs.declared.call.CallKind.TheVariants.{Identify, Write}
use Rattle.centre_client.specs.declared.fault.ScriptWhy.TheVariants as whys
use Rattle.centre_client.specs.declared.script.StepKind.TheVariants.{Call, Operate, Wait}
use Rattle.centre_client.specs.StepLines.{call_step, writes_guarded}
use Rattle.centre_client.specs.Scripts.{script_in}

-- peer A controls a device that is selected, and peer B a direct one too
abbrev rows : CentreRows
rows = record {
  points = [];
  devices =
      record {
        name = codes "BRK1";
        kind = Command;
        direct = false;
        checkback = pos 77;
        span = 30000;
      }
      ∷ record { name = codes "CAP1"; kind = Command; direct = true; checkback = pos 0; span = 0 }
      ∷ [];
  tables =
      record no_table {
        key = codes "A";
        domain = codes "DOMA";
        controls = record { device = 0; tag = true } ∷ [];
      }
      ∷ record no_table {
        key = codes "B";
        domain = codes "DOMB";
        controls = record { device = 0; tag = false } ∷ record { device = 1; tag = false } ∷ [];
      }
      ∷ [];
  variants = [] ∷ [] ∷ [];
}

-- lines, each with its LF
abbrev text : List (List ℕ) → List ℕ
text [] = []
text (line ∷ more) = line ++ 10 ∷ text more

-- a remark and an empty line are skipped and counted, and several spaces part words
all_steps : script_in rows (text (codes "# a run" ∷ codes "use  B" ∷ [] ∷ codes "call identify"
    ∷ codes "operate CAP1 1" ∷ codes "operate BRK1  -2" ∷ codes "wait 1" ∷ []))
    ≡ Ok (record {
      peer = 1;
      steps = record { line = 4; kind = Call Identify }
          ∷ record { line = 5; kind = Operate 1 (pos 1) }
          ∷ record { line = 6; kind = Operate 0 (negsuc 1) }
          ∷ record { line = 7; kind = Wait 1 } ∷ [];
    })
unfolding pdu_octets invoke_octets request_octets integer_octets length_octets
all_steps = refl

-- a peer's key alone is a script without steps
no_step : script_in rows (codes "use A") ≡ Ok (record { peer = 0; steps = [] })
no_step = refl

-- CAP1 isn't in the table of A
unknown_device : script_in rows (text (codes "use A" ∷ codes "operate CAP1 1" ∷ []))
    ≡ Err (record { line = 2; why = whys.Unknown })
unknown_device = refl

unknown_peer : script_in rows (codes "use C") ≡ Err (record { line = 1; why = whys.Unknown })
unknown_peer = refl

-- the first bad line is told, and not a later one
first_of_two : script_in rows (text (codes "use A" ∷ codes "wait 0" ∷ codes "wait" ∷ []))
    ≡ Err (record { line = 2; why = whys.Word })
first_of_two = refl

-- no line says anything: the line after the last one is missed
silent : script_in rows (text (codes "# nothing" ∷ [] ∷ []))
    ≡ Err (record { line = 3; why = whys.Start })
silent = refl

nothing : script_in rows [] ≡ Err (record { line = 1; why = whys.Start })
nothing = refl

-- a step before the key, and a second key
no_key : script_in rows (text (codes "wait 1" ∷ codes "use A" ∷ []))
    ≡ Err (record { line = 1; why = whys.Start })
no_key = refl

two_keys : script_in rows (text (codes "use A" ∷ codes "use A" ∷ []))
    ≡ Err (record { line = 2; why = whys.Word })
two_keys = refl

-- a device of A's table is operated without a selection, in the domain of the table; in another
-- domain the name is no variable of it
selectable : call_step rows 0 (Some (Write (record {
  scope = Domain (codes "DOMA");
  item = codes "BRK1";
} ∷ []) (integer (pos 1) ∷ []))) ≡ Err whys.Selectable
selectable = refl

other_domain : writes_guarded rows 0 (Write (record {
  scope = Domain (codes "DOMB");
  item = codes "BRK1";
} ∷ []) (integer (pos 1) ∷ [])) ≡ false
other_domain = refl
