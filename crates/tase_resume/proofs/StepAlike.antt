-- Two views that are alike are alike behind one seen move more, and behind any.
use Rattle.std.proofs.Common.{ℕ, [], ◌∷◌, ◌++◌, map}
use Rattle.tase_views.specs.OwnTables.{OwnTables, table_in}
use Rattle.tase_views.specs.View.{Seen, View}
use Rattle.std.proofs.Common.{get_or}
use Rattle.tase_resume.specs.Recounted.{Gap}
use Rattle.tase_resume.proofs.RaisedHolds.{Offsets}
use Rattle.tase_resume.proofs.Like.{raised, IsLike}
use Rattle.tase_resume.proofs.SeenAlike.{count_seen, choice_seen, force_seen, moment_seen}
use Rattle.tase_resume.proofs.SeenAlike.{last_seen, changes_seen, tag_seen, state_seen}
use Rattle.tase_resume.proofs.SetsAlike.{held_alike, sets_seen}
use Rattle.tase_resume.proofs.SlotsAlike.{slots_seen}
use Rattle.tase_resume.proofs.Selectable.{AreSelectable}

module _ (tables : OwnTables) (offs : Offsets) (gap : Gap) (from : ℕ)
    (selects : AreSelectable tables) where
  pub like_behind : (move : Seen) (v w : View) → IsLike tables offs gap from v w
      → IsLike tables offs gap from (raised offs move ∷ v) (move ∷ w)
  like_behind move v w like =
      let table = held_alike tables offs gap from v w like in
      record {
        count = count_seen offs move v w like.count;
        choice = choice_seen offs move v w like.choice;
        table = force_seen offs move v w like.count like.choice like.table;
        moment = moment_seen offs move v w like.moment;
        last = λ kind name. last_seen offs move v w kind name (like.last kind name);
        gaps = λ n k d within.
            let p = get_or (table_in tables n).points k d in
            changes_seen offs move v w p.kind p.name (gap p.name) (like.last p.kind p.name)
            (like.gaps n k d within);
        tag = λ name named. tag_seen tables offs v w name move like.moment table
            (like.tag name named);
        state = λ name point named. state_seen tables offs v w name point move like.moment table
            (like.state name point named);
        sets = sets_seen tables offs gap from v w like move;
        slots = slots_seen tables offs gap from v w like move;
      }

  pub like_behind_all : (moves v w : View) → IsLike tables offs gap from v w
      → IsLike tables offs gap from (map (raised offs) moves ++ v) (moves ++ w)
  like_behind_all [] v w like = like
  like_behind_all (move ∷ moves) v w like =
      like_behind move (map (raised offs) moves ++ v) (moves ++ w) (like_behind_all moves v w like)
