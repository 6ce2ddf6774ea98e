-- What a reader finds, by the bytes of its batch. Assumes nothing.
use Rattle.std.proofs.Common.{◌≡◌, ℕ, ◌+◌, ◌*◌, ◌<◌, ◌≤◌, true, cond, [], ◌∷◌, length, get_or, drop, Some, None, Option, sym, ap, ◌∙◌, arith, eq-eqb}
use Rattle.std.proofs.lemmas.List.{get_or-drop, length-drop}
use Rattle.std.proofs.Math.Nat.{ℕ_set}
use Rattle.calls.specs.Records.{row_record}
use Rattle.calls.specs.declared.record.Row.{Row}
use Rattle.batches.specs.Layout.{batch_records, rows_from, shaped, width_in}
use Rattle.batches.specs.Readers.{Found, Parsed, left}
use Rattle.batches.specs.declared.reader.Reader.{Reader}
use Rattle.batches.proofs.BatchLaws.{rows_from_step, shaped_whole}

-- a batch that passed the reader's tests is whole, and a reader at its first row has all of its records before it
pub accepted : (r : Reader) → 4 ≤ length r.batch.now
    → r.count ≡ get_or r.batch.now 0 0 + get_or r.batch.now 1 0 * 256
    → get_or r.batch.now 2 0 + get_or r.batch.now 3 0 * 256 ≡ 24
    → r.count ≤ 1024 → r.row ≡ 0
    → (shaped r.batch.now ≡ true) × (left r ≡ batch_records r.batch.now)
accepted r header count width few first =
    let long = r.as_long in
    let b = r.batch.now in
    let w : width_in b ≡ 24 = ap (λ n. n + get_or (drop 2 b) 1 0 * 256) (get_or-drop 2 b 0 0) ∙ (ap (λ n. get_or b 2 0 + n * 256) (get_or-drop 2 b 1 0) ∙ width) in (
      shaped_whole b (record { header = header; width = w; few = omega arith; long = omega arith }),
      ap (λ t. cond t (rows_from b r.count r.row) []) (eq-eqb _ _ long) ∙ (ap (λ k. rows_from b r.count k) first ∙ ap (λ n. rows_from b n 0) count),
    )

-- the row parsed from where it lies is the one at its index
pub found_row : (r : Reader) (k : ℕ) (o : Option Row) → k < r.count
    → Parsed (get_or r.batch.now (4 + k) 0) (drop (4 + r.count + 24 * k) r.batch.now) o → Found r k o
found_row r k None within short = absurd (let long = r.as_long in omega (arith, length-drop (4 + r.count + 24 * k) r.batch.now))
found_row r k (Some row) within is =
    let b = r.batch.now in
    let here = eq-eqb (length b) (4 + 25 * r.count) r.as_long in
    ap (λ t. cond t (rows_from b r.count k) []) here
    ∙ (rows_from_step b r.count k within (omega arith)
    ∙ (ap (λ w. w ∷ rows_from b r.count (k + 1)) (sym is)
    ∙ ap (λ t. row_record row ∷ cond t (rows_from b r.count (k + 1)) []) (sym here)))

-- readers of one batch at one row are the same, whatever shows that the batch is as long as its count says
pub same_reader : (r : Reader) (k : ℕ) (p q : length r.batch.now ≡ 4 + 25 * r.count)
    → ◌≡◌ {A = Reader} (record { batch = r.batch; count = r.count; row = k; as_long = p }) (record { batch = r.batch; count = r.count; row = k; as_long = q })
same_reader r k p q =
    ap (λ (long : length r.batch.now ≡ 4 + 25 * r.count). record { batch = r.batch; count = r.count; row = k; as_long = long }) (ℕ_set _ _ p q)
