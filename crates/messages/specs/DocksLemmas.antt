-- The laws of the dock message's form. Assumes nothing.
use Rattle.std.specs.Prelude.{◌≡◌, ℕ, ◌+◌, ◌*◌, ◌^◌, ◌<◌, true, List, ◌∷◌, ◌++◌, length, Some, None, Ok, Err, Option, Result, slice_index, slice_index_or, refl}
use Rattle.std.specs.Result.{result_ok}
use Rattle.std.proofs.Common.{sym, ap, ◌∙◌, arith, rules}
use Rattle.std.proofs.Math.Bridge.{le_prop}
use Rattle.std.proofs.Math.Decide.{dec_le, dec_lt}
use Rattle.std.proofs.lemmas.Bool.Decides.{nat_tests}
use Rattle.messages.specs.Bytes.{AllBytes, le2, le4}
use Rattle.messages.specs.Docks.{EventRead, Made, event_byte, event_of, dock_form, dock_in, dock_message, dock_reading}
use Rattle.messages.specs.declared.dock.DockEvent.{DockEvent}
use Rattle.messages.specs.declared.dock.DockEvent.TheVariants.{Hire, Return, Fault, Report}
use Rattle.messages.specs.declared.dock.DockMessage.{DockMessage}
use Rattle.messages.specs.declared.dock.event.UnknownEvent.{UnknownEvent}
use Rattle.messages.specs.BytesLemmas.{of_le2-le2, of_le4-le4, laid_out}
use Rattle.messages.specs.ReadingsLemmas.{decided, if_form_only, if_form_reads, if_form_none}

pub event_of_byte : (e : DockEvent) → event_of (event_byte e) ≡ Some e
event_of_byte Hire = refl
event_of_byte Return = refl
event_of_byte Fault = refl
event_of_byte Report = refl

pub byte_of_event : (b : ℕ) (e : DockEvent) → event_of b ≡ Some e → event_byte e ≡ b
byte_of_event b Hire h = grind (arith, nat_tests)
byte_of_event b Return h = grind (arith, nat_tests)
byte_of_event b Fault h = grind (arith, nat_tests)
byte_of_event b Report h = grind (arith, nat_tests)

-- an event that was read is the byte's
pub event_read : (b : ℕ) (r : Result DockEvent UnknownEvent) (e : DockEvent) → EventRead b r → result_ok r ≡ Some e → event_of b ≡ Some e
event_read b (Ok x) e is same = is ∙ same
event_read b (Err unknown) e none same = absurd (let z : ◌≡◌ {A = ℕ} 0 1 = cc in omega arith)

pub dock_message_is : (m : DockMessage) → dock_message (Some m.event) m.dock m.bicycle ≡ Some m
dock_message_is m =
    rw (decided le_prop m.first_dock (dec_le 1 m.dock), decided le_prop m.last_dock (dec_le m.dock 500), decided le_prop m.bicycle_fits (dec_lt m.bicycle (2 ^ 32)))

pub dock_eight : (m : DockMessage) → length (dock_form m) ≡ 8
dock_eight m = refl

pub dock_bytes : (m : DockMessage) → AllBytes (dock_form m) ≡ true
dock_bytes m = go m.event
  where
    go : (e : DockEvent) → AllBytes (event_byte e ∷ 0 ∷ le2 m.dock ++ le4 m.bicycle) ≡ true
    go Hire = search rules
    go Return = search rules
    go Fault = search rules
    go Report = search rules

pub dock_only : (bs : List ℕ) (m : DockMessage) → dock_reading bs ≡ Some m → dock_form m ≡ bs
dock_only bs m h = if_form_only dock_form bs (dock_in bs) m h

pub dock_reads : (m : DockMessage) → dock_reading (dock_form m) ≡ Some m
dock_reads m =
    let e = event_of_byte m.event in
    let d = of_le2-le2 m.dock (omega arith) in
    let b = of_le4-le4 m.bicycle m.bicycle_fits in
    if_form_reads dock_form (dock_in (dock_form m)) m (rw (e, d, b) (dock_message_is m))

-- what was made of the fields of eight bytes is what they read as
pub dock_found : (bs : List ℕ) (e : DockEvent) (r : Option DockMessage) → length bs ≡ 8 → ((k : ℕ) → slice_index bs k < 256)
    → slice_index bs 1 ≡ 0 → event_of (slice_index bs 0) ≡ Some e
    → Made e (slice_index bs 2 + slice_index bs 3 * 256) (slice_index bs 4 + slice_index bs 5 * 256 + slice_index bs 6 * 65536 + slice_index bs 7 * 16777216) r
    → r ≡ dock_reading bs
dock_found bs e None eight fit zero event none = sym (if_form_none dock_form bs (dock_in bs) (λ m is. let d = ap (λ xs. slice_index xs 2 + slice_index xs 3 * 256) is in absurd (omega arith)))
dock_found bs e (Some m) eight fit zero event (same_event, dock, bicycle) =
    let first : event_byte m.event ≡ slice_index_or bs 0 0 = ap event_byte same_event ∙ byte_of_event (slice_index bs 0) e event in
    let form = laid_out bs (event_byte m.event) m.dock m.bicycle eight fit first zero dock bicycle in
    sym (ap dock_reading (sym form) ∙ dock_reads m)
