-- One row: a record comes back from its bytes, and a row's bytes from its record. Assumes nothing.
use Rattle.std.proofs.Common.{◌≡◌, ℕ, ◌<◌, ◌≤◌, List, [], ◌∷◌, ◌++◌, length, get_or, take, drop, sym, ap, ◌∙◌, arith, take-add}
use Rattle.std.proofs.lemmas.List.{take_at, drop_at, append_assoc, length-append}
use Rattle.messages.specs.BytesLemmas.{of_le2-le2, of_le4-le4, le2-of_le2, le4-of_le4}
use Rattle.calls.specs.Calls.{fields}
use Rattle.calls.specs.declared.record.CallRecord.{CallRecord}
use Rattle.batches.specs.Layout.{record_in, row_bytes}
use Rattle.batches.specs.Writing.{Fit}

pub record_of_row : (r : CallRecord) (rest : List ℕ) → Fit r → record_in r.code (row_bytes r ++ rest) ≡ r
record_of_row r rest fit =
    let a = of_le2-le2 r.n1 fit.n1 in
    let b = of_le2-le2 r.n2 fit.n2 in
    let c = of_le4-le4 r.n3 fit.n3 in
    let text = append_assoc r.name r.message rest in
    let name : take 8 (r.name ++ r.message ++ rest) ≡ r.name = ap (take 8) text ∙ take_at r.name (r.message ++ rest) 8 fit.texts.0 in
    let message : take 8 (drop 8 (r.name ++ r.message ++ rest)) ≡ r.message =
    ap (λ l. take 8 (drop 8 l)) text ∙ (ap (take 8) (drop_at r.name (r.message ++ rest) 8 fit.texts.0) ∙ take_at r.message rest 8 fit.texts.1) in
    same_fields r.code a b c name message
  where
    same_fields : (k : ℕ) {a a' b b' c c' : ℕ} {n n' m m' : List ℕ} → a ≡ a' → b ≡ b' → c ≡ c' → n ≡ n' → m ≡ m' → fields k a b c n m ≡ fields k a' b' c' n' m'
    same_fields k p q s t u = cc

pub row_length : (r : CallRecord) → Fit r → length (row_bytes r) ≡ 24
row_length r fit = omega (arith, length-append r.name r.message, fit.texts.0, fit.texts.1)

-- the bytes of eight numbers and two texts, as they lie in a row
pub row_of_record : (c : ℕ) (row : List ℕ) → 24 ≤ length row → ((k : ℕ) → get_or row k 0 < 256) → row_bytes (record_in c row) ≡ take 24 row
row_of_record c (b0 ∷ b1 ∷ b2 ∷ b3 ∷ b4 ∷ b5 ∷ b6 ∷ b7 ∷ rest) long fit =
    let one = le2-of_le2 b0 b1 (fit 0) (fit 1) in
    let two = le2-of_le2 b2 b3 (fit 2) (fit 3) in
    let four = le4-of_le4 b4 b5 b6 b7 (fit 4) (fit 5) (fit 6) (fit 7) in
    let texts : take 8 rest ++ take 8 (drop 8 rest) ≡ take 16 rest = sym (take-add 8 8 rest) in
    cc
row_of_record c [] long fit = absurd (omega arith)
row_of_record c (b0 ∷ []) long fit = absurd (omega arith)
row_of_record c (b0 ∷ b1 ∷ []) long fit = absurd (omega arith)
row_of_record c (b0 ∷ b1 ∷ b2 ∷ []) long fit = absurd (omega arith)
row_of_record c (b0 ∷ b1 ∷ b2 ∷ b3 ∷ []) long fit = absurd (omega arith)
row_of_record c (b0 ∷ b1 ∷ b2 ∷ b3 ∷ b4 ∷ []) long fit = absurd (omega arith)
row_of_record c (b0 ∷ b1 ∷ b2 ∷ b3 ∷ b4 ∷ b5 ∷ []) long fit = absurd (omega arith)
row_of_record c (b0 ∷ b1 ∷ b2 ∷ b3 ∷ b4 ∷ b5 ∷ b6 ∷ []) long fit = absurd (omega arith)
