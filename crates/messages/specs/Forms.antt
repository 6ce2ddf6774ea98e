-- The form in bytes: 1, zero, table in two bytes, day in four; or 2, zero, cents in two, hire in four. Assumes nothing.
--   form_bytes f     the eight bytes of f
--   form_reading bs  the form that the bytes stand for, or none
use Rattle.std.specs.Prelude.{◌≡◌, ℕ, ◌^◌, ◌<◌, ◌≤◌, cond, List, ◌∷◌, ◌++◌, drop, Some, None, Option, ◌==◌, slice_index}
use Rattle.std.proofs.Math.Decide.{dec_le, dec_lt}
use Rattle.messages.specs.Bytes.{le2, le4, of_le2, of_le4}
use Rattle.messages.specs.Readings.{if_form}
use Rattle.messages.specs.declared.form.Form.{Form}
use Rattle.messages.specs.declared.form.Form.TheVariants as form
use Rattle.messages.specs.declared.form.Tariff.{Tariff}

abbrev pub form_bytes : Form → List ℕ
form_bytes (form.Tariff t) = 1 ∷ 0 ∷ le2 t.table ++ le4 t.day
form_bytes (form.Cancellation c) = 2 ∷ 0 ∷ le2 c.cents ++ le4 c.hire

-- the tariff table with these fields, or none where the table is out of range
abbrev pub TariffMade : ℕ → ℕ → Option Tariff → Type 0
TariffMade n d None = 1 ≤ n → 9999 < n
TariffMade n d (Some t) = (t.table ≡ n) × (t.day ≡ d)

-- the same, as functions
abbrev pub tariff_in : (n d : ℕ) → Dec (1 ≤ n) → Dec (n ≤ 9999) → Dec (d < 2 ^ 32) → Option Form
tariff_in n d (yes first) (yes last) (yes fits) =
    Some (form.Tariff (record { table = n; day = d; first_table = first; last_table = last; day_fits = fits }))
tariff_in n d (yes first) (yes last) (no _) = None
tariff_in n d (yes first) (no _) fits = None
tariff_in n d (no _) last fits = None

abbrev pub cancellation_in : (c h : ℕ) → Dec (c < 2 ^ 16) → Dec (h < 2 ^ 32) → Option Form
cancellation_in c h (yes cents) (yes hire) =
    Some (form.Cancellation (record { cents = c; hire = h; cents_fit = cents; hire_fits = hire }))
cancellation_in c h (yes cents) (no _) = None
cancellation_in c h (no _) hire = None

-- the form of sort 1 or 2 with these fields, where they are in range
abbrev pub form_of : ℕ → ℕ → ℕ → Option Form
form_of sort n m =
    cond (sort == 1) (tariff_in n m (dec_le 1 n) (dec_le n 9999) (dec_lt m (2 ^ 32)))
    (cond (sort == 2) (cancellation_in n m (dec_lt n (2 ^ 16)) (dec_lt m (2 ^ 32))) None)

-- the form with the fields that the bytes hold
abbrev pub form_in : List ℕ → Option Form
form_in bs = form_of (slice_index bs 0) (of_le2 (drop 2 bs)) (of_le4 (drop 4 bs))

abbrev pub form_reading : List ℕ → Option Form
form_reading bs = if_form form_bytes bs (form_in bs)
