-- The texts of the load run and its tally, computed on worked rows apart from all code.
use Rattle.std.proofs.Common.{◌≡◌, ◌++◌, List, [], ◌∷◌, ℕ, refl}
use Rattle.std.specs.Prelude.{codes}
use Rattle.std.specs.Fmt.{digits}
use Rattle.commands.specs.Load.Generated.{each_below, load_point, peer_head, load_sight, load_open}
use Rattle.commands.specs.Load.Generated.{define_head, load_member, load_next_set, load_enable}
use Rattle.commands.specs.Load.Generated.{load_update, load_tick, load_take}
use Rattle.commands.specs.Load.Summaries.{summary_text}

-- a line and its end
line : List ℕ → List ℕ
line text = text ++ 10 ∷ []

points-written : each_below load_point 2
    ≡ line (codes "point P0 discrete") ++ line (codes "point P1 discrete")
unfolding digits line each_below
points-written = refl

peer-written : peer_head 63 ≡ line (codes "peer K63 1.1.998.64 D63 T63")
unfolding digits line
peer-written = refl

sight-written : load_sight 63 249 ≡ line (codes "see P202 domain value")
unfolding digits line
sight-written = refl

open-written : load_open 9 ≡ line (codes "open 10 K9")
unfolding digits line
open-written = refl

define-written : define_head 63 ++ load_member 63 46 ++ load_member 63 47
    ≡ codes "say 64 define D63/DS D63/P1999 D63/P0"
unfolding digits
define-written = refl

next_set-written : load_next_set 0 ≡ line (codes "say 1 read D0/Next_DSTransfer_Set")
unfolding digits line
next_set-written = refl

periodic-written : load_enable 2
    ≡ line (codes "say 3 write D2/DSTrans1={{i1,vD2,vDS},i0,i10,i0,i0,i0,b5.80,F,F,F,F,T,i0}")
unfolding digits line
periodic-written = refl

by_change-written : load_enable 63
    ≡ line (codes "say 64 write D63/DSTrans1={{i1,vD63,vDS},i0,i0,i0,i0,i0,b5.20,F,F,T,F,T,i0}")
unfolding digits line
by_change-written = refl

-- the first point of the round behind fifty others, the first one again
update-written : load_update 0 39 ++ load_update 50 0
    ≡ line (codes "update P39 d1 00 1 0") ++ line (codes "update P0 d51 00 51 0")
unfolding digits line
update-written = refl

tick-written : load_tick 1999 ++ load_take 63
    ≡ line (codes "tick 2000000") ++ line (codes "take 64")
unfolding digits line
tick-written = refl

-- two replies and two reports with three outcomes
shown : List ℕ
shown = line (codes "reply 1 done") ++ line (codes "report 2 set DOMA/S1 i1 !10")
    ++ line (codes "reply 1 left") ++ line (codes "report 3 vars DOMA/LOAD1={i5,u3}")

told : summary_text 7 shown
    ≡ line (codes "entries 7") ++ line (codes "replies 2") ++ line (codes "reports 2")
    ++ line (codes "results 3") ++ line (codes "sum 6800")
unfolding digits line shown
told = refl
