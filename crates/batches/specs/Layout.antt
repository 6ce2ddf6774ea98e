-- A batch in bytes: the number of calls in two bytes, the row width 24 in two, a code for each call, then a row for each.
-- Assumes nothing.
--   row_bytes r         the 24 bytes of a record's row
--   written rs          the batch of these records
--   shaped b            the batch is whole: header, width 24, at most 1,024 calls, and as long as its count says
--   batch_records b     the records that the batch holds, in order
--   rows_from b n k     those from row k on, where it holds n
--   Sole b              b is what its records are written as, and the only whole batch that holds them
use Rattle.std.specs.Prelude.{◌≡◌, ℕ, ◌+◌, ◌-◌, ◌*◌, Bool, true, ◌&&◌, List, [], ◌∷◌, ◌++◌, map, length, take, drop, ◌==◌, nat_le}
use Rattle.std.specs.List.{flat_map}
use Rattle.messages.specs.Bytes.{AllBytes, le2, le4, of_le2, of_le4}
use Rattle.calls.specs.Calls.{fields}
use Rattle.calls.specs.declared.record.CallRecord.{CallRecord}

abbrev pub code_byte : CallRecord → ℕ
code_byte r = r.code

abbrev pub row_bytes : CallRecord → List ℕ
row_bytes r = le2 r.n1 ++ (le2 r.n2 ++ (le4 r.n3 ++ (r.name ++ r.message)))

abbrev pub written : List CallRecord → List ℕ
written rs = le2 (length rs) ++ (le2 24 ++ (map code_byte rs ++ flat_map row_bytes rs))

abbrev pub batch_length : ℕ → ℕ
batch_length n = 4 + 25 * n

abbrev pub count_in : List ℕ → ℕ
count_in b = of_le2 b

abbrev pub width_in : List ℕ → ℕ
width_in b = of_le2 (drop 2 b)

abbrev pub shaped : List ℕ → Bool
shaped b = nat_le 4 (length b) && (width_in b == 24 && (nat_le (count_in b) 1024 && length b == batch_length (count_in b)))

-- the record of a code and of the row in front of these bytes
abbrev pub record_in : ℕ → List ℕ → CallRecord
record_in c row = fields c (of_le2 row) (of_le2 (drop 2 row)) (of_le4 (drop 4 row)) (take 8 (drop 8 row)) (take 8 (drop 16 row))

-- the records of these codes, whose rows stand in front of these bytes
abbrev pub records_in : List ℕ → List ℕ → List CallRecord
records_in [] rows = []
records_in (c ∷ cs) rows = record_in c rows ∷ records_in cs (drop 24 rows)

abbrev pub rows_from : List ℕ → ℕ → ℕ → List CallRecord
rows_from b n k = records_in (take (n - k) (drop (4 + k) b)) (drop (4 + n + 24 * k) b)

abbrev pub batch_records : List ℕ → List CallRecord
batch_records b = rows_from b (count_in b) 0

abbrev pub Sole : List ℕ → Type 0
Sole b =
    (written (batch_records b) ≡ b)
    × ((other : List ℕ) → AllBytes other ≡ true → shaped other ≡ true → batch_records other ≡ batch_records b → other ≡ b)
