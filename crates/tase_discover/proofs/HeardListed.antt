-- A listing of a node that answers by the table against which it is held, message by message.
use Rattle.std.proofs.Common.{◌≡◌, ℕ, zero, suc, ◌++◌, List, Option, Some, refl, ap, ◌∙◌}
use Rattle.tase_views.specs.declared.reply.ReplyKind.{ReplyKind}
use Rattle.tase_views.specs.OwnTables.{OwnTable}
use Rattle.tase_conn.specs.Map.Replied.{pdu_of_reply, reply_in, answered_number}
use Rattle.asking_end.specs.Askers.{asker_steps, asker_start}
use Rattle.asking_end.specs.Exchanges.{Admission, admitted, answers_heard, AsksSoOften}
use Rattle.asking_end.specs.Exchanges.{agenda_behind, shown_behind, number_at}
use Rattle.asking_end.proofs.Exchanged.{finishes_by}
use Rattle.tase_discover.specs.Listings.{reply_heeded, reply_shown, is_same}
use Rattle.tase_discover.specs.Listers.{TableListing, listing_of}
use Rattle.tase_discover.specs.Acts.{listing_acts}
use Rattle.tase_discover.specs.SelfListings.{heard_after, ListsItself}
use Rattle.tase_discover.specs.HeardListings.{FinishesAlike}

module _ (table : OwnTable) (replies : ℕ → ReplyKind) where
  listing_behind : (n : ℕ) → agenda_behind listing_acts (listing_of table) replies n
      ≡ record { table = table; seen = (heard_after table replies n).seen }
  listing_behind zero = refl
  listing_behind (suc n) =
      ap (λ (l : TableListing). (listing_acts.replied (number_at n) (replies n) l).0)
      (listing_behind n)

  lines_behind : (n : ℕ) → shown_behind listing_acts (listing_of table) replies n
      ≡ (heard_after table replies n).shown
  lines_behind zero = refl
  lines_behind (suc n) =
      ap (λ (l : TableListing). shown_behind listing_acts (listing_of table) replies n
      ++ reply_shown l.table l.seen (replies n)) (listing_behind n)
      ∙ ap (λ (lines : List ℕ). lines
      ++ reply_shown table (heard_after table replies n).seen (replies n)) (lines_behind n)

  asks_so_often : (lists : ListsItself table replies)
      → AsksSoOften listing_acts (listing_of table) replies lists.count
  asks_so_often lists = record {
    begins = refl;
    asks = λ k within.
        ap (λ (l : TableListing). (reply_heeded l.table l.seen (replies k)).next)
        (listing_behind k) ∙ lists.asks k within;
    concludes =
        ap (λ (l : TableListing). (reply_heeded l.table l.seen (replies lists.count)).next)
        (listing_behind lists.count) ∙ lists.concludes;
  }

  pub finishes_alike : ((invoke : ℕ) (reply : ReplyKind)
      → reply_in (pdu_of_reply invoke reply) ≡ Some reply)
      → ((invoke : ℕ) (reply : ReplyKind)
      → answered_number (pdu_of_reply invoke reply) ≡ Some invoke)
      → (title : Option (List ℕ)) (a : Admission) → ListsItself table replies
      → FinishesAlike table replies title a
  finishes_alike reply_again number_again title a lists =
      let finishes = finishes_by listing_acts (listing_of table) replies title a reply_again
      number_again lists.count (asks_so_often lists) in
      record {
        count = lists.count;
        step = asker_steps listing_acts (admitted a (answers_heard replies 0 lists.count))
            (asker_start listing_acts title (listing_of table));
        finishes = finishes;
        shown = finishes.shown ∙ lines_behind (suc lists.count) ∙ lists.shown;
        same =
            ap (λ (l : TableListing). is_same table l.seen)
            (finishes.stands ∙ listing_behind (suc lists.count)) ∙ lists.same;
      }
