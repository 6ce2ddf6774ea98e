-- The words that codes and refusals are printed as, as bytes of text. Assumes nothing.
--   code_word           the call's name
--   unknown_code_words  the number, and that it is no code
--   refusal_words       of each refusal; a row's fault prints what its refusal prints
use Rattle.std.specs.Prelude.{ℕ, List, ◌++◌, codes, decimal}
use Rattle.calls.specs.declared.code.CallCode.{CallCode}
use Rattle.calls.specs.declared.code.CallCode.TheVariants as code
use Rattle.calls.specs.declared.code.UnknownCode.{UnknownCode}
use Rattle.calls.specs.declared.refusal.Refusal.{Refusal}
use Rattle.calls.specs.declared.refusal.Refusal.TheVariants as refusal

abbrev pub code_word : CallCode → List ℕ
code_word code.Start = codes "Start"
code_word code.Open = codes "Open"
code_word code.Close = codes "Close"
code_word code.Register = codes "Register"
code_word code.Strike = codes "Strike"
code_word code.Post = codes "Post"
code_word code.Tick = codes "Tick"
code_word code.Send = codes "Send"
code_word code.Wait = codes "Wait"
code_word code.Check = codes "Check"
code_word code.Request = codes "Request"
code_word code.Respond = codes "Respond"
code_word code.Move = codes "Move"
code_word code.Alarm = codes "Alarm"
code_word code.Cancel = codes "Cancel"
code_word code.Priority = codes "Priority"
code_word code.End = codes "End"
code_word code.Tray = codes "Tray"

abbrev pub unknown_code_words : UnknownCode → List ℕ
unknown_code_words e = decimal e.0 ++ codes " is no call's code"

abbrev pub refusal_words : Refusal → List ℕ
refusal_words refusal.DraftSize = codes "the draft's size would leave its limits"
refusal_words refusal.TableLength = codes "a table is not as long as the station's size"
refusal_words refusal.BatchShape = codes "the batch does not have its shape"
refusal_words refusal.ShortBuffer = codes "the buffer is too short"
refusal_words refusal.UnknownCode = codes "the code is no call's"
refusal_words refusal.UnusedField = codes "a field that the call does not use is not zero"
refusal_words refusal.BadName = codes "the name is not a service name"
refusal_words refusal.BadMessage = codes "the message is not one of the station's kind"
refusal_words refusal.NoneRunning = codes "no task runs"
refusal_words refusal.OutOfRange = codes "a number is out of its range"
refusal_words refusal.AlreadyThere = codes "the task, exchange or name is there already"
refusal_words refusal.ExchangeClosed = codes "the exchange is closed"
refusal_words refusal.UnknownName = codes "the name is not registered"
refusal_words refusal.ExchangeBound = codes "something is bound to the exchange"
refusal_words refusal.RegisterFull = codes "the register is full"
refusal_words refusal.NoFreeBlock = codes "no block is free"
refusal_words refusal.NoItem = codes "the exchange has no item"
refusal_words refusal.NotHeld = codes "the request is not in hand, or the alarm does not run"
refusal_words refusal.RequestInHand = codes "the task has a request in hand"
