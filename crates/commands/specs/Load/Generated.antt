-- The texts of the load run.
use Rattle.std.specs.Prelude.{ℕ, zero, suc, ◌+◌, ◌*◌, ◌%◌, ◌==◌, List, [], ◌∷◌, ◌++◌}
use Rattle.std.specs.Prelude.{codes, decimal, if◌then◌else◌}
use Rattle.commands.specs.declared.load.tables.TheConstants.{POINTS, PEERS, SEEN}
use Rattle.commands.specs.declared.load.scenario.TheConstants.{MEMBERS, CHANGED}

-- what is written for each number below another, from 0 on
unfoldable pub each_below : (ℕ → List ℕ) → ℕ → List ℕ
each_below text zero = []
each_below text (suc n) = each_below text n ++ text n

-- ---- the tables: the points P0 to P1999, and the peers K0 to K63, each with one transfer set

-- `point Pm discrete`
abbrev pub load_point : ℕ → List ℕ
load_point m = codes "point P" ++ decimal m ++ codes " discrete" ++ 10 ∷ []

-- `peer Kk 1.1.998.t Dk Tk`, where t is k + 1
abbrev pub peer_head : ℕ → List ℕ
peer_head k =
    codes "peer K" ++ decimal k ++ codes " 1.1.998." ++ decimal (k + 1) ++ codes " D" ++ decimal k
    ++ codes " T" ++ decimal k ++ 10 ∷ []

-- the number of the point at a place of the table of peer k
abbrev pub seen_point : ℕ → ℕ → ℕ
seen_point k j = (31 * k + j) % POINTS

-- `see Pm domain value`
abbrev pub sight_line : ℕ → List ℕ
sight_line m = codes "see P" ++ decimal m ++ codes " domain value" ++ 10 ∷ []

abbrev pub load_sight : ℕ → ℕ → List ℕ
load_sight k j = sight_line (seen_point k j)

-- `slots 1`, and the other limits as they are where nothing is said
abbrev pub load_limits : List ℕ
load_limits =
    codes "slots 1" ++ 10 ∷ codes "sets 64" ++ 10 ∷ codes "pending 1048576" ++ 10 ∷ []

-- peer k and its table
abbrev pub load_peer : ℕ → List ℕ
load_peer k = peer_head k ++ load_limits ++ each_below (load_sight k) SEEN

abbrev pub load_tables : List ℕ
load_tables = each_below load_point POINTS ++ each_below load_peer PEERS

-- ---- the scenario: peer k opens an association at seat k + 1

-- `open w Kk`, where w is k + 1 here and below
abbrev pub load_open : ℕ → List ℕ
load_open k = codes "open " ++ decimal (k + 1) ++ codes " K" ++ decimal k ++ 10 ∷ []

-- `say w define Dk/DS` and the names of the first points of its table
abbrev pub define_head : ℕ → List ℕ
define_head k = codes "say " ++ decimal (k + 1) ++ codes " define D" ++ decimal k ++ codes "/DS"

abbrev pub member_name : ℕ → ℕ → List ℕ
member_name k m = codes " D" ++ decimal k ++ codes "/P" ++ decimal m

abbrev pub load_member : ℕ → ℕ → List ℕ
load_member k j = member_name k (seen_point k j)

abbrev pub load_define : ℕ → List ℕ
load_define k = define_head k ++ each_below (load_member k) MEMBERS ++ 10 ∷ []

-- `say w read Dk/Next_DSTransfer_Set`
abbrev pub load_next_set : ℕ → List ℕ
load_next_set k =
    codes "say " ++ decimal (k + 1) ++ codes " read D" ++ decimal k ++ codes "/Next_DSTransfer_Set"
    ++ 10 ∷ []

-- what stands in a wish behind the name of the data set: a report every ten seconds, or one of the
-- members that changed
abbrev pub wish_behind_set : ℕ → List ℕ
wish_behind_set k = if k % 2 == 0 then codes "},i0,i10,i0,i0,i0,b5.80,F,F,F,F,T,i0}"
    else codes "},i0,i0,i0,i0,i0,b5.20,F,F,T,F,T,i0}"

-- `say w write Dk/DSTrans1=` and the wish
abbrev pub enable_line : ℕ → List ℕ → List ℕ
enable_line k wish =
    codes "say " ++ decimal (k + 1) ++ codes " write D" ++ decimal k ++ codes "/DSTrans1={{i1,vD"
    ++ decimal k ++ codes ",vDS" ++ wish ++ 10 ∷ []

abbrev pub load_enable : ℕ → List ℕ
load_enable k = enable_line k (wish_behind_set k)

abbrev pub load_opening : ℕ → List ℕ
load_opening k = load_open k ++ load_define k ++ load_next_set k ++ load_enable k

-- ---- its rounds, each by the number of those before it

-- `update Pm dr 00 r 0`
abbrev pub update_line : ℕ → ℕ → List ℕ
update_line m r =
    codes "update P" ++ decimal m ++ codes " d" ++ decimal r ++ codes " 00 " ++ decimal r
    ++ codes " 0" ++ 10 ∷ []

-- the points go round, so that each gets its next value when all others have theirs
abbrev pub load_update : ℕ → ℕ → List ℕ
load_update before i = update_line ((CHANGED * before + i) % POINTS) (before + 1)

-- `tick`, a second later in each round
abbrev pub load_tick : ℕ → List ℕ
load_tick before = codes "tick " ++ decimal (1000 * (before + 1)) ++ 10 ∷ []

-- `take w`
abbrev pub load_take : ℕ → List ℕ
load_take k = codes "take " ++ decimal (k + 1) ++ 10 ∷ []

abbrev pub load_round : ℕ → List ℕ
load_round before =
    each_below (load_update before) CHANGED ++ load_tick before ++ each_below load_take PEERS

-- with so many rounds
abbrev pub load_scenario : ℕ → List ℕ
load_scenario rounds = each_below load_opening PEERS ++ each_below load_round rounds
