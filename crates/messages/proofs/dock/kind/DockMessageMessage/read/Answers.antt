-- The message made of the bytes' fields has them as its form, so it is what they read as.
use Rattle.std.proofs.Common.{rules}
use Rattle.std.specs.Prelude.{slice_index}
use Rattle.messages.specs.DocksLemmas.{dock_found, event_read}
use Rattle.messages.proofs.dock.kind.DockMessageMessage.read.Goals as goal

pub returns : goal.returns
returns c =
    let event = event_read (slice_index c.args.bytes.now 0) c.try_from.result c.in_ok-event.event c.try_from.ensures (search rules) in
    dock_found c.args.bytes.now c.in_ok-event.event c.new.result c.told-bytes c.fits-bytes (search rules) event
    (simp (c.from_le_bytes-dock.ensures, c.from_le_bytes-bicycle.ensures) at c.new.ensures)
