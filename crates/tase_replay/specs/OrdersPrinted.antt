-- What a printed text shows of the plant's orders, and that these are the orders that it has taken.
use Rattle.std.specs.Prelude.{◌≡◌, ℕ, List, ◌++◌, map, reverse, codes}
use Rattle.std.specs.List.{filter_map}
use Rattle.std.specs.Str.Lines.{lines}
use Rattle.bilateral.specs.Rows.{CentreRows}
use Rattle.tase_views.specs.declared.event.Entry.{Entry}
use Rattle.tase_views.specs.Setup.{Setup}
use Rattle.tase_views.specs.History.{Past}
use Rattle.tase_views.specs.OwnTables.{own_tables}
use Rattle.tase_views.specs.View.{moves_in}
use Rattle.tase_views.specs.Orders.{orders_taken}
use Rattle.tase_replay.specs.Play.{TakenLine, order_words, entries_in, steps_in, printed_in}
use Rattle.tase_replay.specs.PrintedLines.{behind_front}

-- the words behind `order ` in each line of a text that begins so, in order
abbrev pub orders_shown : List ℕ → List (List ℕ)
orders_shown text = filter_map (behind_front (codes "order ")) (lines text)

-- the words of all orders that the plant has taken over a history
abbrev pub words_taken : CentreRows → Past → List (List ℕ)
words_taken rows past =
    map (order_words rows) (orders_taken rows (own_tables rows) (moves_in past))

-- with the lines that were taken behind a history the plant has taken the orders that it had taken
-- over the history, and behind them those that the text of the lines shows
abbrev pub AreOrdersPrinted : Setup → List Entry → List TakenLine → Type 0
AreOrdersPrinted setup history taken =
    words_taken setup.centre (reverse (history ++ entries_in (steps_in taken)))
    ≡ words_taken setup.centre (reverse history) ++ orders_shown (printed_in (steps_in taken))
