-- A call as it is made: which one, with its numbers, its name and its message as the bytes that were brought. Assumes nothing.
--   Call                     the 18 calls
--   code_in c, record_of c   its code, and its record with zeros in the fields that it does not use
--   is k c, among ks c       the call has this code, or one of these
--   call_of r                the call of a record, none where the code is not 1 to 18
use Rattle.std.specs.Prelude.{ℕ, Bool, false, ◌||◌, List, [], ◌∷◌, Some, None, Option, ◌==◌}
use Rattle.calls.specs.Calls.{fields, zeros}
use Rattle.calls.specs.Codes.{code_number, code_of}
use Rattle.calls.specs.declared.code.CallCode.{CallCode}
use Rattle.calls.specs.declared.code.CallCode.TheVariants as code
use Rattle.calls.specs.declared.record.CallRecord.{CallRecord}

pub data Call : Type 0 where
  Start : (task priority : ℕ) → Call
  Open : (exchange : ℕ) → Call
  Close : (exchange : ℕ) → Call
  Register : (exchange : ℕ) (name : List ℕ) → Call
  Strike : (name : List ℕ) → Call
  Post : (exchange : ℕ) (message : List ℕ) → Call
  Tick : Call
  Send : (exchange : ℕ) (message : List ℕ) → Call
  Wait : (exchange : ℕ) → Call
  Check : (exchange : ℕ) → Call
  Request : (reply : ℕ) (name message : List ℕ) → Call
  Respond : (block status : ℕ) → Call
  Move : (block exchange : ℕ) → Call
  Alarm : (exchange ticks : ℕ) (message : List ℕ) → Call
  Cancel : (block : ℕ) → Call
  Priority : (priority : ℕ) → Call
  End : Call
  Tray : Call

abbrev pub code_in : Call → CallCode
code_in (Start t p) = code.Start
code_in (Open e) = code.Open
code_in (Close e) = code.Close
code_in (Register e name) = code.Register
code_in (Strike name) = code.Strike
code_in (Post e message) = code.Post
code_in Tick = code.Tick
code_in (Send e message) = code.Send
code_in (Wait e) = code.Wait
code_in (Check e) = code.Check
code_in (Request e name message) = code.Request
code_in (Respond b status) = code.Respond
code_in (Move b e) = code.Move
code_in (Alarm e ticks message) = code.Alarm
code_in (Cancel b) = code.Cancel
code_in (Priority p) = code.Priority
code_in End = code.End
code_in Tray = code.Tray

abbrev pub record_of : Call → CallRecord
record_of (Start t p) = fields 1 t p 0 zeros zeros
record_of (Open e) = fields 2 e 0 0 zeros zeros
record_of (Close e) = fields 3 e 0 0 zeros zeros
record_of (Register e name) = fields 4 e 0 0 name zeros
record_of (Strike name) = fields 5 0 0 0 name zeros
record_of (Post e message) = fields 6 e 0 0 zeros message
record_of Tick = fields 7 0 0 0 zeros zeros
record_of (Send e message) = fields 8 e 0 0 zeros message
record_of (Wait e) = fields 9 e 0 0 zeros zeros
record_of (Check e) = fields 10 e 0 0 zeros zeros
record_of (Request e name message) = fields 11 e 0 0 name message
record_of (Respond b status) = fields 12 b 0 status zeros zeros
record_of (Move b e) = fields 13 b e 0 zeros zeros
record_of (Alarm e ticks message) = fields 14 e 0 ticks zeros message
record_of (Cancel b) = fields 15 b 0 0 zeros zeros
record_of (Priority p) = fields 16 p 0 0 zeros zeros
record_of End = fields 17 0 0 0 zeros zeros
record_of Tray = fields 18 0 0 0 zeros zeros

abbrev pub is : CallCode → Call → Bool
is k c = code_number k == code_number (code_in c)

abbrev pub among : List CallCode → Call → Bool
among [] c = false
among (k ∷ ks) c = is k c || among ks c

abbrev pub coded : CallCode → CallRecord → Call
coded code.Start r = Start r.n1 r.n2
coded code.Open r = Open r.n1
coded code.Close r = Close r.n1
coded code.Register r = Register r.n1 r.name
coded code.Strike r = Strike r.name
coded code.Post r = Post r.n1 r.message
coded code.Tick r = Tick
coded code.Send r = Send r.n1 r.message
coded code.Wait r = Wait r.n1
coded code.Check r = Check r.n1
coded code.Request r = Request r.n1 r.name r.message
coded code.Respond r = Respond r.n1 r.n3
coded code.Move r = Move r.n1 r.n2
coded code.Alarm r = Alarm r.n1 r.n3 r.message
coded code.Cancel r = Cancel r.n1
coded code.Priority r = Priority r.n1
coded code.End r = End
coded code.Tray r = Tray

abbrev pub coded_if : Option CallCode → CallRecord → Option Call
coded_if None r = None
coded_if (Some c) r = Some (coded c r)

abbrev pub call_of : CallRecord → Option Call
call_of r = coded_if (code_of r.code) r
