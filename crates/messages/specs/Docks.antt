-- The dock message in bytes: event, zero, dock in two bytes, bicycle in four. Assumes nothing.
--   dock_form m      the eight bytes of m
--   dock_reading bs  the dock message that the bytes stand for, or none
--   EventRead        what `DockEvent::try_from` answers
--   Made             what `DockMessage::new` answers
use Rattle.std.specs.Prelude.{◌≡◌, ℕ, ◌^◌, ◌<◌, ◌≤◌, cond, List, ◌∷◌, ◌++◌, drop, Some, None, Ok, Err, Option, Result, ◌==◌, slice_index}
use Rattle.std.proofs.Math.Decide.{dec_le, dec_lt}
use Rattle.messages.specs.Bytes.{le2, le4, of_le2, of_le4}
use Rattle.messages.specs.Readings.{if_form}
use Rattle.messages.specs.declared.dock.DockEvent.{DockEvent}
use Rattle.messages.specs.declared.dock.DockEvent.TheVariants.{Hire, Return, Fault, Report}
use Rattle.messages.specs.declared.dock.DockMessage.{DockMessage}
use Rattle.messages.specs.declared.dock.event.UnknownEvent.{UnknownEvent}

abbrev pub event_byte : DockEvent → ℕ
event_byte Hire = 1
event_byte Return = 2
event_byte Fault = 3
event_byte Report = 4

abbrev pub event_of : ℕ → Option DockEvent
event_of b =
    cond (b == 1) (Some Hire) (cond (b == 2) (Some Return) (cond (b == 3) (Some Fault) (cond (b == 4) (Some Report) None)))

-- the byte's event, or the byte where it has none
abbrev pub EventRead : ℕ → Result DockEvent UnknownEvent → Type 0
EventRead b (Ok e) = event_of b ≡ Some e
EventRead b (Err unknown) = (event_of b ≡ None) × (unknown.0 ≡ b)

abbrev pub dock_form : DockMessage → List ℕ
dock_form m = event_byte m.event ∷ 0 ∷ le2 m.dock ++ le4 m.bicycle

-- the message with these fields, or none where the dock is out of range
abbrev pub Made : DockEvent → ℕ → ℕ → Option DockMessage → Type 0
Made e d b None = 1 ≤ d → 500 < d
Made e d b (Some m) = (m.event ≡ e) × (m.dock ≡ d) × (m.bicycle ≡ b)

-- the same, as a function
abbrev pub in_range : DockEvent → (d b : ℕ) → Dec (1 ≤ d) → Dec (d ≤ 500) → Dec (b < 2 ^ 32) → Option DockMessage
in_range e d b (yes first) (yes last) (yes fits) =
    Some (record { event = e; dock = d; bicycle = b; first_dock = first; last_dock = last; bicycle_fits = fits })
in_range e d b (yes first) (yes last) (no _) = None
in_range e d b (yes first) (no _) fits = None
in_range e d b (no _) last fits = None

abbrev pub dock_message : Option DockEvent → ℕ → ℕ → Option DockMessage
dock_message None d b = None
dock_message (Some e) d b = in_range e d b (dec_le 1 d) (dec_le d 500) (dec_lt b (2 ^ 32))

-- the message with the fields that the bytes hold
abbrev pub dock_in : List ℕ → Option DockMessage
dock_in bs = dock_message (event_of (slice_index bs 0)) (of_le2 (drop 2 bs)) (of_le4 (drop 4 bs))

abbrev pub dock_reading : List ℕ → Option DockMessage
dock_reading bs = if_form dock_form bs (dock_in bs)
