-- The laws of the form's bytes. Assumes nothing.
use Rattle.std.specs.Prelude.{◌≡◌, ℕ, ◌^◌, true, List, length, Some, refl}
use Rattle.std.proofs.Common.{sym, ap, ◌∙◌, arith, rules}
use Rattle.std.proofs.Math.Bridge.{le_prop}
use Rattle.std.proofs.Math.Decide.{dec_le, dec_lt}
use Rattle.messages.specs.Bytes.{AllBytes}
use Rattle.messages.specs.Forms.{form_bytes, form_in, form_of, form_reading}
use Rattle.messages.specs.declared.form.Cancellation.{Cancellation}
use Rattle.messages.specs.declared.form.Form.{Form}
use Rattle.messages.specs.declared.form.Form.TheVariants as form
use Rattle.messages.specs.declared.form.Tariff.{Tariff}
use Rattle.messages.specs.BytesLemmas.{of_le2-le2, of_le4-le4}
use Rattle.messages.specs.ReadingsLemmas.{decided, if_form_only, if_form_reads}

tariff_is : (t : Tariff) → form_of 1 t.table t.day ≡ Some (form.Tariff t)
tariff_is t =
    rw (decided le_prop t.first_table (dec_le 1 t.table), decided le_prop t.last_table (dec_le t.table 9999), decided le_prop t.day_fits (dec_lt t.day (2 ^ 32)))

cancellation_is : (c : Cancellation) → form_of 2 c.cents c.hire ≡ Some (form.Cancellation c)
cancellation_is c =
    rw (decided le_prop c.cents_fit (dec_lt c.cents (2 ^ 16)), decided le_prop c.hire_fits (dec_lt c.hire (2 ^ 32)))

pub form_reads : (f : Form) → form_reading (form_bytes f) ≡ Some f
form_reads (form.Tariff t) =
    let short = of_le2-le2 t.table (omega arith) in
    let long = of_le4-le4 t.day t.day_fits in
    if_form_reads form_bytes (form_in (form_bytes (form.Tariff t))) (form.Tariff t) (rw (short, long) (tariff_is t))
form_reads (form.Cancellation c) =
    let short = of_le2-le2 c.cents c.cents_fit in
    let long = of_le4-le4 c.hire c.hire_fits in
    if_form_reads form_bytes (form_in (form_bytes (form.Cancellation c))) (form.Cancellation c) (rw (short, long) (cancellation_is c))

pub form_eight : (f : Form) → length (form_bytes f) ≡ 8
form_eight (form.Tariff t) = refl
form_eight (form.Cancellation c) = refl

pub form_all_bytes : (f : Form) → AllBytes (form_bytes f) ≡ true
form_all_bytes (form.Tariff t) = search rules
form_all_bytes (form.Cancellation c) = search rules

pub form_only : (bs : List ℕ) (f : Form) → form_reading bs ≡ Some f → form_bytes f ≡ bs
form_only bs f h = if_form_only form_bytes bs (form_in bs) f h

-- a form whose bytes these are is what they read as
pub form_found : (bs : List ℕ) (f : Form) → form_bytes f ≡ bs → Some f ≡ form_reading bs
form_found bs f is = sym (ap form_reading (sym is) ∙ form_reads f)
