-- The outcomes of steps.
use Rattle.std.proofs.Common.{◌≡◌, ℕ, false, List, [], ◌∷◌, ◌++◌, reverse, Option, Some, None}
use Rattle.std.proofs.Common.{is_some, refl, sym, subst, arith}
use Rattle.std.proofs.lemmas.Bool.{true≢false}
use Rattle.std.proofs.lemmas.List.{reverse-append}
use Rattle.sbo_device.specs.declared.key.Key.{Key}
use Rattle.sbo_device.specs.declared.order.Order.{Order}
use Rattle.bilateral.specs.Rows.{CentreRows}
use Rattle.tase_views.specs.declared.call.CallKind.{CallKind}
use Rattle.tase_views.specs.declared.event.EventKind.{EventKind}
use Rattle.tase_views.specs.declared.event.EventKind.TheVariants.{Open, Request, Take, TakeOrders}
use Rattle.tase_views.specs.declared.event.EventKind.TheVariants.{Tick, Update}
use Rattle.tase_views.specs.declared.reply.ReplyKind.{ReplyKind}
use Rattle.tase_views.specs.declared.reply.ReportKind.{ReportKind}
use Rattle.tase_views.specs.declared.reply.Answer.TheVariants.{Opened, Reply, Reports, Orders}
use Rattle.tase_views.specs.Setup.{Setup}
use Rattle.tase_views.specs.History.{Past, association_in, next_key}
use Rattle.tase_views.specs.OwnTables.{own_tables}
use Rattle.tase_views.specs.View.{moves_in, view_of}
use Rattle.tase_views.specs.Orders.{orders_left}
use Rattle.tase_views.specs.Answers.{reply_to}
use Rattle.tase_views.specs.Reports.{reports_pending}
use Rattle.tase_views.specs.Outcomes.{IsAnswer}
use Rattle.node_core.specs.Feeds.Concerned.{HasFewLooks}

pub reverse_push : {X : Type 0} (xs : List X) (x : X) → reverse (xs ++ x ∷ []) ≡ x ∷ reverse xs
reverse_push xs x = reverse-append xs (x ∷ [])

pub none_there : (found : Option Key) → is_some found ≡ false → found ≡ None
none_there None e = refl
none_there (Some key) e = absurd (true≢false e)

-- the answer to an open
pub IsAnswer-open : (setup : Setup) (past : Past) (who peer : ℕ) (event : EventKind) (key : Key)
    → event ≡ Open peer → key ≡ next_key past peer
    → IsAnswer setup past who event (Opened key)
IsAnswer-open setup past who peer event key opens key_is = rw (opens, key_is) refl

-- the answers to what an association asks
pub IsAnswer-take : (setup : Setup) (past : Past) (who : ℕ) (event : EventKind) (key : Key)
    (reports : List ReportKind) → event ≡ Take → association_in past who ≡ Some key
    → reports ≡ reports_pending (own_tables setup.centre key.peer)
    (view_of setup.centre key.peer past) key.ordinal
    → IsAnswer setup past who event (Reports reports)
IsAnswer-take setup past who event key reports is there reports_is =
    rw (is, there, reports_is) refl

pub IsAnswer-orders : (setup : Setup) (past : Past) (who : ℕ) (event : EventKind)
    (orders : List Order) → event ≡ TakeOrders
    → orders ≡ orders_left setup.centre (own_tables setup.centre) (moves_in past)
    → IsAnswer setup past who event (Orders orders)
IsAnswer-orders setup past who event orders is orders_is = rw (is, orders_is) refl

pub IsAnswer-request : (setup : Setup) (past : Past) (who : ℕ) (event : EventKind)
    (call : CallKind) (key : Key) (reply : ReplyKind) → event ≡ Request call
    → association_in past who ≡ Some key
    → reply ≡ reply_to (own_tables setup.centre key.peer) (view_of setup.centre key.peer past)
    key.ordinal call
    → IsAnswer setup past who event (Reply reply)
IsAnswer-request setup past who event call key reply is there reply_is =
    rw (is, there, reply_is) refl

-- an event takes few looks by whatever it is
pub few_by : (rows : CentreRows) (past : Past) (event other : EventKind) (old new : ℕ)
    → event ≡ other → HasFewLooks rows past other old new → HasFewLooks rows past event old new
few_by rows past event other old new is few =
    subst (λ (e : EventKind). HasFewLooks rows past e old new) (sym is) few

-- one that takes none takes few
pub few_same : (rows : CentreRows) (past : Past) (event : EventKind) (looks : ℕ)
    → HasFewLooks rows past event looks looks
few_same rows past (Tick to) looks = omega arith
few_same rows past (Update point value) looks = omega arith
few_same rows past event looks = tt
