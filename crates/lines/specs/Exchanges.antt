-- The plain exchanges that the code's exchanges stand for. Assumes nothing.
--   exchange_of x      the same, with its line as a list
--   idle_line          a closed one, with nothing in its line
--   open_exchange      one that is open, with nothing in its line
--   closed x           the same, closed
--   exchanges_of s     the exchanges of a table, by number
--   changed_at f e l   the list with its exchange e changed by f
use Rattle.std.specs.Prelude.{ℕ, List, [], map, slice_index_or, slice_set}
use Rattle.fixed.specs.FixedVecs.{elements}
use Rattle.plain.specs.Lookups.{closed_exchange}
use Rattle.plain.specs.States.{Exchange}
use Rattle.plain.specs.declared.records.ExchangeState.TheVariants.{Closed, Open}
use Rattle.plain.specs.declared.records.Holds.TheVariants.{Items}
use Rattle.lines.specs.Rings.{line_of}
use Rattle.lines.specs.declared.exchange.ExchangeLine.{ExchangeLine}
use Rattle.lines.specs.declared.exchanges.Exchanges.{Exchanges}

abbrev pub exchange_of : ExchangeLine → Exchange
exchange_of x = record { state = x.state; holds = x.holds; line = line_of x.line }

abbrev pub idle_line : ExchangeLine
idle_line = record { state = Closed; holds = Items; line = record { head = 0; len = 0; at = [] } }

abbrev pub open_exchange : Exchange
open_exchange = record { state = Open; holds = Items; line = [] }

abbrev pub closed : Exchange → Exchange
closed x = record { state = Closed; holds = x.holds; line = x.line }

abbrev pub exchanges_of : Exchanges → List Exchange
exchanges_of s = map exchange_of (elements s.lines)

abbrev pub changed_at : (Exchange → Exchange) → ℕ → List Exchange → List Exchange
changed_at f e l = slice_set l e (f (slice_index_or l e closed_exchange))
