-- A row without fault is the record of one call. Assumes nothing.
use Rattle.std.proofs.Common.{◌≡◌, ℕ, List, Some, None, Option, sym, refl, ap, ◌∙◌, arith}
use Rattle.calls.specs.Calls.{kept}
use Rattle.calls.specs.Codes.{code_of}
use Rattle.calls.specs.Faults.{fault_under}
use Rattle.calls.specs.declared.code.CallCode.{CallCode}
use Rattle.calls.specs.declared.code.CallCode.TheVariants as code
use Rattle.calls.specs.declared.record.CallRecord.{CallRecord}
use Rattle.calls.proofs.Kept.{kept_all}
use Rattle.plain.specs.Calls.{Call, call_of, coded, coded_if, record_of}
use Rattle.rules.specs.Rowing.{RowsAreCalls}

record_kept : (k : CallCode) (r : CallRecord) → record_of (coded k r) ≡ kept k r
record_kept code.Start r = refl
record_kept code.Open r = refl
record_kept code.Close r = refl
record_kept code.Register r = refl
record_kept code.Strike r = refl
record_kept code.Post r = refl
record_kept code.Tick r = refl
record_kept code.Send r = refl
record_kept code.Wait r = refl
record_kept code.Check r = refl
record_kept code.Request r = refl
record_kept code.Respond r = refl
record_kept code.Move r = refl
record_kept code.Alarm r = refl
record_kept code.Cancel r = refl
record_kept code.Priority r = refl
record_kept code.End r = refl
record_kept code.Tray r = refl

pub rows_are_calls : {M : Type 0} (reading : List ℕ → Option M) → RowsAreCalls reading
rows_are_calls reading r long none = go (code_of r.code) refl
  where
    go : (o : Option CallCode) → code_of r.code ≡ o → (c : Call) × (call_of r ≡ Some c) × (record_of c ≡ r)
    go None e =
        let f = ap (fault_under reading r) (sym e) ∙ none in
        let z : ◌≡◌ {A = ℕ} 0 1 = cc in absurd (omega arith)
    go (Some k) e =
        (coded k r, ap (λ o. coded_if o r) e, record_kept k r ∙ kept_all reading r k long.0 long.1 e none)
