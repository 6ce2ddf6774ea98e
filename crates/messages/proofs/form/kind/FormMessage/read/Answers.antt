-- What was found in the bytes has them as its form, so it is what they read as.
use Rattle.std.proofs.Common.{rules}
use Rattle.messages.specs.declared.form.Form.TheVariants as form
use Rattle.messages.specs.BytesLemmas.{laid_out}
use Rattle.messages.specs.FormsLemmas.{form_found}
use Rattle.messages.proofs.form.kind.FormMessage.read.Goals as goal

pub returns-in_ok-new-in-1 : goal.returns-in_ok-new-in-1
returns-in_ok-new-in-1 c =
    let t = c.in_ok-new-in-1.field-0 in
    let made = c.in_ok-new-in-1.ensures in
    form_found c.args.bytes.now (form.Tariff t)
    (laid_out _ 1 t.table t.day c.told-bytes c.fits-bytes (search rules) (search rules) (search rules) (search rules))

pub returns-in-2 : goal.returns-in-2
returns-in-2 c =
    form_found c.args.bytes.now _
    (laid_out _ 2 _ _ c.told-bytes c.fits-bytes (search rules) (search rules) c.from_le_bytes-short.ensures c.from_le_bytes-long.ensures)
