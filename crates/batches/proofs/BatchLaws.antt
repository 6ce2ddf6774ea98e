-- Whole batches: what was written reads back as its records, and what reads is written to the same bytes. Assumes nothing.
use Rattle.std.proofs.Common.{◌≡◌, ℕ, zero, suc, ◌+◌, ◌-◌, ◌*◌, ◌<◌, ◌≤◌, true, eqb, ltb, leb, List, [], ◌∷◌, ◌++◌, map, length, get_or, take, drop, sym, refl, ap, ◌∙◌, subst, arith, lit<, ltb-true, eq-eqb, eqb-true, le-leb, leb-true}
use Rattle.std.specs.List.{flat_map, AllByRecursion}
use Rattle.std.proofs.lemmas.List.{drop_at, drop-drop, drop_more, get_or-drop, length-append, length-drop, length-map, length-take-le, take-append-drop, take_at}
use Rattle.messages.specs.Bytes.{AllBytes, le2}
use Rattle.messages.specs.BytesLemmas.{and_both, and_left, and_right, of_le2-le2, le2-of_le2}
use Rattle.calls.specs.declared.record.CallRecord.{CallRecord}
use Rattle.batches.specs.Layout.{Sole, batch_records, code_byte, count_in, record_in, records_in, row_bytes, rows_from, shaped, width_in, written}
use Rattle.batches.specs.Writing.{Fit}
use Rattle.batches.proofs.RowLaws.{record_of_row, row_length, row_of_record}

length-records : (cs rows : List ℕ) → length (records_in cs rows) ≡ length cs
length-records [] rows = refl
length-records (c ∷ cs) rows = ap suc (length-records cs (drop 24 rows))

codes_of_records : (cs rows : List ℕ) → map code_byte (records_in cs rows) ≡ cs
codes_of_records [] rows = refl
codes_of_records (c ∷ cs) rows = ap (λ l. c ∷ l) (codes_of_records cs (drop 24 rows))

rows_of_records : (cs rows : List ℕ) → length rows ≡ 24 * length cs → ((k : ℕ) → get_or rows k 0 < 256) → flat_map row_bytes (records_in cs rows) ≡ rows
rows_of_records [] [] long fit = refl
rows_of_records [] (b ∷ bs) long fit = absurd (omega arith)
rows_of_records (c ∷ cs) rows long fit =
    let here = row_of_record c rows (omega arith) fit in
    let rest = rows_of_records cs (drop 24 rows) (omega (arith, length-drop 24 rows)) (λ k. rw (get_or-drop 24 rows k 0) (fit (24 + k))) in
    ap (λ l. l ++ flat_map row_bytes (records_in cs (drop 24 rows))) here ∙ (ap (λ l. take 24 rows ++ l) rest ∙ take-append-drop 24 rows)

records_of_rows : (rs : List CallRecord) → AllByRecursion Fit rs → records_in (map code_byte rs) (flat_map row_bytes rs) ≡ rs
records_of_rows [] fit = refl
records_of_rows (r ∷ rs) (here, rest) =
    let one = record_of_row r (flat_map row_bytes rs) here in
    let after : drop 24 (row_bytes r ++ flat_map row_bytes rs) ≡ flat_map row_bytes rs = drop_at (row_bytes r) (flat_map row_bytes rs) 24 (row_length r here) in
    let more = ap (records_in (map code_byte rs)) after ∙ records_of_rows rs rest in
    cc

pub length-rows : (rs : List CallRecord) → AllByRecursion Fit rs → length (flat_map row_bytes rs) ≡ 24 * length rs
length-rows [] fit = refl
length-rows (r ∷ rs) (here, rest) =
    let tail = length-rows rs rest in
    let one = row_length r here in
    let both = length-append (row_bytes r) (flat_map row_bytes rs) in
    omega arith

-- the records from one row on are that row's and those after it
pub rows_from_step : (b : List ℕ) (n k : ℕ) → k < n → 4 + n ≤ length b
    → rows_from b n k ≡ record_in (get_or b (4 + k) 0) (drop (4 + n + 24 * k) b) ∷ rows_from b n (k + 1)
rows_from_step b n k h long =
    let codes : take (n - k) (drop (4 + k) b) ≡ get_or b (4 + k) 0 ∷ take (n - (k + 1)) (drop (4 + (k + 1)) b) =
    ap (λ m. take m (drop (4 + k) b)) (omega_sub n k h)
    ∙ (ap (take (suc (n - (k + 1)))) (drop_more b (4 + k) 0 (omega arith))
    ∙ ap (λ m. get_or b (4 + k) 0 ∷ take (n - (k + 1)) (drop m b)) (omega_add k)) in
    let rows : drop 24 (drop (4 + n + 24 * k) b) ≡ drop (4 + n + 24 * (k + 1)) b = drop-drop 24 (4 + n + 24 * k) b ∙ ap (λ m. drop m b) (omega_rows n k) in
    ap (λ cs. records_in cs (drop (4 + n + 24 * k) b)) codes
    ∙ ap (λ l. record_in (get_or b (4 + k) 0) (drop (4 + n + 24 * k) b) ∷ records_in (take (n - (k + 1)) (drop (4 + (k + 1)) b)) l) rows
  where
    omega_sub : (n k : ℕ) → k < n → n - k ≡ suc (n - (k + 1))
    omega_sub n k h = omega arith

    omega_add : (k : ℕ) → 4 + k + 1 ≡ 4 + (k + 1)
    omega_add k = omega arith

    omega_rows : (n k : ℕ) → 4 + n + 24 * k + 24 ≡ 4 + n + 24 * (k + 1)
    omega_rows n k = omega arith

pub rows_from_all : (b : List ℕ) (n k : ℕ) → n ≤ k → rows_from b n k ≡ []
rows_from_all b n k h = ap (λ m. records_in (take m (drop (4 + k) b)) (drop (4 + n + 24 * k) b)) (let z : n - k ≡ 0 = omega arith in z)

-- all the records, by the bytes after the header
from_start : (b0 b1 b2 b3 : ℕ) (rest : List ℕ) (n : ℕ) → rows_from (b0 ∷ b1 ∷ b2 ∷ b3 ∷ rest) n 0 ≡ records_in (take n rest) (drop n rest)
from_start b0 b1 b2 b3 rest n =
    let few : n - 0 ≡ n = omega arith in
    let at : 4 + n + 0 ≡ 4 + n = omega arith in
    ap (λ m. records_in (take m rest) (drop (4 + n + 0) (b0 ∷ b1 ∷ b2 ∷ b3 ∷ rest))) few
    ∙ ap (records_in (take n rest)) (ap (λ m. drop m (b0 ∷ b1 ∷ b2 ∷ b3 ∷ rest)) at ∙ sym (drop-drop n 4 (b0 ∷ b1 ∷ b2 ∷ b3 ∷ rest)))

-- what `shaped` tells
pub record Whole (b : List ℕ) : Type 0 where
  pub header : 4 ≤ length b
  pub width : width_in b ≡ 24
  pub few : count_in b ≤ 1024
  pub long : length b ≡ 4 + 25 * count_in b

pub whole : (b : List ℕ) → shaped b ≡ true → Whole b
whole b h =
    let tail = and_right (leb 4 (length b)) _ h in
    let last = and_right (eqb (width_in b) 24) _ tail in
    record {
      header = leb-true _ _ (and_left (leb 4 (length b)) _ h);
      width = eqb-true _ _ (and_left (eqb (width_in b) 24) _ tail);
      few = leb-true _ _ (and_left (leb (count_in b) 1024) _ last);
      long = eqb-true _ _ (and_right (leb (count_in b) 1024) _ last);
    }

pub shaped_whole : (b : List ℕ) → Whole b → shaped b ≡ true
shaped_whole b w =
    and_both _ _ (le-leb _ _ w.header) (and_both _ _ (eq-eqb _ _ w.width) (and_both _ _ (le-leb _ _ w.few) (eq-eqb _ _ w.long)))

pub rewrites : (b : List ℕ) → shaped b ≡ true → ((k : ℕ) → get_or b k 0 < 256) → written (batch_records b) ≡ b
rewrites [] sh fit = absurd (omega (arith, (whole [] sh).header))
rewrites (b0 ∷ []) sh fit = absurd (omega (arith, (whole (b0 ∷ []) sh).header))
rewrites (b0 ∷ b1 ∷ []) sh fit = absurd (omega (arith, (whole (b0 ∷ b1 ∷ []) sh).header))
rewrites (b0 ∷ b1 ∷ b2 ∷ []) sh fit = absurd (omega (arith, (whole (b0 ∷ b1 ∷ b2 ∷ []) sh).header))
rewrites (b0 ∷ b1 ∷ b2 ∷ b3 ∷ rest) sh fit =
    let w = whole (b0 ∷ b1 ∷ b2 ∷ b3 ∷ rest) sh in
    let n = b0 + b1 * 256 in
    let cs = take n rest in
    let rows = drop n rest in
    let long : length rest ≡ 25 * n = omega (arith, w.long) in
    let codes : length cs ≡ n = length-take-le n rest (omega arith) in
    let rows_long : length rows ≡ 24 * length cs = omega (arith, length-drop n rest) in
    let rows_fit : (k : ℕ) → get_or rows k 0 < 256 = λ k. rw (get_or-drop n rest k 0) (subst (λ (x : ℕ). x < 256) (sym (get_or-drop 4 (b0 ∷ b1 ∷ b2 ∷ b3 ∷ rest) (n + k) 0)) (fit (4 + (n + k)))) in
    let is = from_start b0 b1 b2 b3 rest n in
    let count : le2 (length (records_in cs rows)) ≡ b0 ∷ b1 ∷ [] = ap le2 (length-records cs rows ∙ codes) ∙ le2-of_le2 b0 b1 (fit 0) (fit 1) in
    let two : 24 ≡ b2 = omega (arith, w.width, fit 2, fit 3) in
    let three : 0 ≡ b3 = omega (arith, w.width, fit 2, fit 3) in
    let body = codes_of_records cs rows in
    let tail = rows_of_records cs rows rows_long rows_fit in
    let joins = take-append-drop n rest in
    ap written is ∙ glue count two three body tail joins
  where
    glue : {b0 b1 b2 b3 : ℕ} {h cs rows ms js rest : List ℕ} → h ≡ b0 ∷ b1 ∷ [] → 24 ≡ b2 → 0 ≡ b3 → ms ≡ cs → js ≡ rows → cs ++ rows ≡ rest
        → h ++ (24 ∷ 0 ∷ (ms ++ js)) ≡ b0 ∷ b1 ∷ b2 ∷ b3 ∷ rest
    glue {ms = ms} {js = js} p q r s t u = let front = ap (λ l. l ++ (24 ∷ 0 ∷ (ms ++ js))) p in cc

pub reads_back : (rs : List CallRecord) → AllByRecursion Fit rs → length rs ≤ 1024 → (shaped (written rs) ≡ true) × (batch_records (written rs) ≡ rs)
reads_back rs fit few =
    let n = length rs in
    let count : count_in (written rs) ≡ n = of_le2-le2 n (omega arith) in
    let codes : length (map code_byte rs) ≡ n = length-map rs code_byte in
    let rows = length-rows rs fit in
    let both = length-append (map code_byte rs) (flat_map row_bytes rs) in (
      shaped_whole (written rs) (record { header = omega arith; width = refl; few = omega arith; long = omega arith }),
      ap (λ m. rows_from (written rs) m 0) count
          ∙ (from_start _ _ _ _ (map code_byte rs ++ flat_map row_bytes rs) n
          ∙ (ap (λ cs. records_in cs (drop n (map code_byte rs ++ flat_map row_bytes rs))) (take_at (map code_byte rs) (flat_map row_bytes rs) n codes)
          ∙ (ap (records_in (map code_byte rs)) (drop_at (map code_byte rs) (flat_map row_bytes rs) n codes)
          ∙ records_of_rows rs fit))),
    )

bytes_fit : (b : List ℕ) → AllBytes b ≡ true → (k : ℕ) → get_or b k 0 < 256
bytes_fit [] all k = lit< tt
bytes_fit (b ∷ bs) all zero = ltb-true b 256 (and_left (ltb b 256) (AllBytes bs) all)
bytes_fit (b ∷ bs) all (suc k) = bytes_fit bs (and_right (ltb b 256) (AllBytes bs) all) k

-- a whole batch is the only one for its records
pub sole : (b : List ℕ) → shaped b ≡ true → ((k : ℕ) → get_or b k 0 < 256) → Sole b
sole b sh fit =
    let here = rewrites b sh fit in
    (here, λ other all whole' same. sym (rewrites other whole' (bytes_fit other all)) ∙ (ap written same ∙ here))

-- a whole batch holds as many records as its header counts
pub length-batch_records : (b : List ℕ) → shaped b ≡ true → length (batch_records b) ≡ count_in b
length-batch_records [] sh = absurd (omega (arith, (whole [] sh).header))
length-batch_records (b0 ∷ []) sh = absurd (omega (arith, (whole (b0 ∷ []) sh).header))
length-batch_records (b0 ∷ b1 ∷ []) sh = absurd (omega (arith, (whole (b0 ∷ b1 ∷ []) sh).header))
length-batch_records (b0 ∷ b1 ∷ b2 ∷ []) sh = absurd (omega (arith, (whole (b0 ∷ b1 ∷ b2 ∷ []) sh).header))
length-batch_records (b0 ∷ b1 ∷ b2 ∷ b3 ∷ rest) sh =
    let n = b0 + b1 * 256 in
    let w = whole (b0 ∷ b1 ∷ b2 ∷ b3 ∷ rest) sh in
    ap length (from_start b0 b1 b2 b3 rest n) ∙ (length-records (take n rest) (drop n rest) ∙ length-take-le n rest (omega (arith, w.long)))
