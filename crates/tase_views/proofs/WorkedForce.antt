-- A peer with two tables, of which another comes into force: names and data sets computed on worked
-- views, apart from all code.
use Rattle.std.proofs.Common.{◌≡◌, ℕ, List, [], ◌∷◌, None, false, pos, refl}
use Rattle.std.specs.Prelude.{codes}
use Rattle.std.specs.Fmt.{digits}
use Rattle.tase_points.specs.declared.kind.Kind.TheVariants.{State, Discrete, Real}
use Rattle.tase_points.specs.declared.layout.Component.TheVariants.{Value, Cov}
use Rattle.mms_data.specs.Datum.{integer, unsigned, real, text, structure, data_of}
use Rattle.mms_data.specs.declared.outcome.Outcome.{Outcome}
use Rattle.mms_data.specs.declared.outcome.Outcome.TheVariants.{Good, Fail}
use Rattle.mms_data.specs.declared.object_name.Scope.TheVariants.{Domain}
use Rattle.mms_data.specs.ObjectName.{ObjectName}
use Rattle.tase_views.specs.declared.call.CallKind.{CallKind}
use Rattle.tase_views.specs.declared.call.CallKind.TheVariants.{Read, MembersOf, NameList}
use Rattle.tase_views.specs.declared.reply.ReplyKind.{ReplyKind}
use Rattle.tase_views.specs.declared.reply.ReplyKind.TheVariants.{Results, MembersAre, Error}
use Rattle.tase_views.specs.declared.reply.ReplyKind.TheVariants.{NamesAre}
use Rattle.tase_views.specs.Moves.{opens, closes, defines}
use Rattle.tase_views.specs.OwnTables.{OwnTables}
use Rattle.tase_views.specs.View.{View, own, chose, force}
use Rattle.tase_views.specs.Answers.{reply_to}

-- the first names a point of DOMA, the second two points of DOMX
abbrev tables : OwnTables
tables =
    record {
      tables =
          record {
            domain = codes "DOMA";
            id = codes "TBLA";
            points = record {
              name = codes "LOAD1";
              kind = Discrete;
              vmd = false;
              layout = Value ∷ Cov ∷ [];
            } ∷ [];
            devices = [];
            slots = 1;
            sets = 64;
          }
          ∷ record {
            domain = codes "DOMX";
            id = codes "TBLX";
            points = record { name = codes "BUS1"; kind = State; vmd = false; layout = Value ∷ [] }
                ∷ record { name = codes "FREQ1"; kind = Real; vmd = false; layout = Value ∷ [] }
                ∷ [];
            devices = [];
            slots = 1;
            sets = 64;
          } ∷ [];
    }

abbrev in_a : List ℕ → ObjectName
in_a item = record { scope = Domain (codes "DOMA"); item = item }

abbrev in_x : List ℕ → ObjectName
in_x item = record { scope = Domain (codes "DOMX"); item = item }

abbrev told : View → CallKind → ReplyKind
told view call = reply_to tables view 1 call

abbrev three_names : CallKind
three_names =
    Read (in_a (codes "LOAD1") ∷ in_x (codes "FREQ1")
    ∷ in_x (codes "Bilateral_Table_ID") ∷ []) false

abbrev members : CallKind
members = MembersOf (in_a (codes "S"))

abbrev no_value : Outcome
no_value = Good (structure (data_of (integer (pos 0) ∷ unsigned 0 ∷ [])))

-- two associations are open, and one has defined a data set
abbrev begun : View
begun =
    own 0 (defines (in_a (codes "S")) (in_a (codes "LOAD1") ∷ [])) ∷ own 1 opens ∷ own 0 opens ∷ []

first_is_in_force : told begun three_names ≡ Results None (no_value ∷ Fail 10 ∷ Fail 10 ∷ [])
unfolding digits
first_is_in_force = refl

set_is_there : told begun members ≡ MembersAre (in_a (codes "LOAD1") ∷ [])
unfolding digits
set_is_there = refl

-- the other table waits until both are closed
abbrev waiting : View
waiting = own 0 closes ∷ chose 1 ∷ begun

still_in_force : told waiting three_names ≡ Results None (no_value ∷ Fail 10 ∷ Fail 10 ∷ [])
unfolding digits
still_in_force = refl

set_is_still_there : told waiting members ≡ MembersAre (in_a (codes "LOAD1") ∷ [])
unfolding digits
set_is_still_there = refl

-- then it comes into force, and the data sets are gone
abbrev opened_again : View
opened_again = own 2 opens ∷ own 1 closes ∷ waiting

second_is_in_force :
    told opened_again three_names
    ≡ Results None (Fail 10 ∷ Good (real (0 ∷ 0 ∷ 0 ∷ 0 ∷ [])) ∷ Good (text (codes "TBLX")) ∷ [])
unfolding digits
second_is_in_force = refl

sets_are_gone : told opened_again (NameList (pos 2) (Domain (codes "DOMX")) None)
    ≡ NamesAre [] false
unfolding digits
sets_are_gone = refl

no_set_of_the_first : told opened_again members ≡ Error 7 2
unfolding digits
no_set_of_the_first = refl

-- with no association open a choice counts at once; the data set doesn't come back
abbrev first_again : View
first_again = own 3 opens ∷ chose 0 ∷ own 2 closes ∷ opened_again

first_is_again_in_force :
    told first_again three_names ≡ Results None (no_value ∷ Fail 10 ∷ Fail 10 ∷ [])
unfolding digits
first_is_again_in_force = refl

set_does_not_come_back : told first_again members ≡ Error 7 2
unfolding digits
set_does_not_come_back = refl

-- of several choices the last one counts: the same table stays in force, and its data sets
abbrev chosen_back : View
chosen_back = own 2 opens ∷ own 1 closes ∷ own 0 closes ∷ chose 0 ∷ chose 1 ∷ begun

same_force : force chosen_back ≡ 0
same_force = refl

set_stays : told chosen_back members ≡ MembersAre (in_a (codes "LOAD1") ∷ [])
unfolding digits
set_stays = refl
