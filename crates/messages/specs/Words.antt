-- Messages in words, as bytes of text. Assumes nothing.
use Rattle.std.specs.Prelude.{ℕ, cond, List, ◌++◌, codes, decimal, ◌==◌}
use Rattle.messages.specs.declared.dock.DockEvent.{DockEvent}
use Rattle.messages.specs.declared.dock.DockEvent.TheVariants.{Hire, Return, Fault, Report}
use Rattle.messages.specs.declared.dock.DockMessage.{DockMessage}
use Rattle.messages.specs.declared.form.Cancellation.{Cancellation}
use Rattle.messages.specs.declared.form.Form.{Form}
use Rattle.messages.specs.declared.form.Form.TheVariants as form
use Rattle.messages.specs.declared.form.Tariff.{Tariff}

abbrev pub event_word : DockEvent → List ℕ
event_word Hire = codes "hire"
event_word Return = codes "return"
event_word Fault = codes "fault"
event_word Report = codes "report"

abbrev pub bicycle_words : ℕ → List ℕ
bicycle_words b = cond (b == 0) (codes " no bicycle") (codes " bicycle " ++ decimal b)

abbrev pub dock_words : DockMessage → List ℕ
dock_words m = event_word m.event ++ (codes " dock " ++ (decimal m.dock ++ bicycle_words m.bicycle))

abbrev pub tariff_words : Tariff → List ℕ
tariff_words t = codes "tariff " ++ (decimal t.table ++ (codes " day " ++ decimal t.day))

abbrev pub cancellation_words : Cancellation → List ℕ
cancellation_words c = codes "cancellation " ++ (decimal c.cents ++ (codes " cents hire " ++ decimal c.hire))

abbrev pub form_words : Form → List ℕ
form_words (form.Tariff t) = tariff_words t
form_words (form.Cancellation c) = cancellation_words c
