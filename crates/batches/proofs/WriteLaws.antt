-- One code, or one row, more in the buffer. Assumes nothing.
use Rattle.std.proofs.Common.{◌≡◌, ℕ, ◌+◌, ◌-◌, ◌*◌, ◌<◌, ◌≤◌, Bool, true, false, cond, List, [], ◌∷◌, ◌++◌, map, length, get_or, take, drop, set, Some, None, Ok, Option, sym, refl, ap, ◌∙◌, subst, arith, le-leb}
use borrow.Rule.Slice.PartMut.{put_mid}
use Rattle.std.specs.List.{flat_map, AllByRecursion}
use Rattle.std.proofs.lemmas.List.{append_assoc, append-nil, at_drop_more, drop_all, drop_at, drop-drop, length-drop, flat_map_more, length-append, length-map, map_more, take_all, take_at, take_more, take_more_set}
use Rattle.std.proofs.lemmas.Slice.{take-put_mid}
use Rattle.calls.specs.Faults.{fault}
use Rattle.calls.specs.declared.record.CallRecord.{CallRecord}
use Rattle.calls.specs.declared.refusal.RowFault.{RowFault}
use Rattle.batches.specs.Layout.{Sole, batch_length, batch_records, code_byte, row_bytes, shaped, written}
use Rattle.batches.specs.Verdicts.{at_row, first_fault, verdict, write_verdict}
use Rattle.batches.specs.Writing.{Fit, ReadsBack, Wrote}
use Rattle.batches.specs.declared.refused.BatchRefusal.TheVariants.{Shape}
use Rattle.batches.proofs.BatchLaws.{length-batch_records, length-rows, reads_back, whole}

pub codes_more : (rs : List CallRecord) (out : List ℕ) (k : ℕ) (d : CallRecord) → k < length rs → length out ≡ length rs
    → take k out ≡ map code_byte (take k rs) → take (k + 1) (set out k (code_byte (get_or rs k d))) ≡ map code_byte (take (k + 1) rs)
codes_more rs out k d within long so_far =
    take_more_set out k (code_byte (get_or rs k d)) (omega arith)
    ∙ (ap (λ l. l ++ (code_byte (get_or rs k d) ∷ [])) so_far ∙ sym (map_more code_byte rs k d within))

pub codes_all : (rs : List CallRecord) (out : List ℕ) (k : ℕ) → length rs ≤ k → length out ≡ length rs
    → take k out ≡ map code_byte (take k rs) → out ≡ map code_byte rs
codes_all rs out k end long so_far = sym (take_all k out (omega arith)) ∙ (so_far ∙ ap (map code_byte) (take_all k rs end))

pub rows_more : (rs : List CallRecord) (out row : List ℕ) (k : ℕ) (d : CallRecord) → k < length rs → length out ≡ 24 * length rs
    → take (24 * k) out ≡ flat_map row_bytes (take k rs) → row ≡ row_bytes (get_or rs k d) → length row ≡ 24
    → take (24 * (k + 1)) (put_mid (24 * k) (24 * k + 24 - 24 * k) out row) ≡ flat_map row_bytes (take (k + 1) rs)
rows_more rs out row k d within long so_far is size =
    take-put_mid (24 * k) (24 * k + 24 - 24 * k) out row (24 * (k + 1)) (omega arith) (omega arith)
    ∙ (ap (λ l. l ++ row) so_far
    ∙ (ap (λ l. flat_map row_bytes (take k rs) ++ l) is
    ∙ (flat_map_more row_bytes [] (take k rs) (get_or rs k d)
    ∙ ap (flat_map row_bytes) (sym (take_more rs k d within)))))

pub rows_all : (rs : List CallRecord) (out : List ℕ) (k : ℕ) → length rs ≤ k → length out ≡ 24 * length rs
    → take (24 * k) out ≡ flat_map row_bytes (take k rs) → out ≡ flat_map row_bytes rs
rows_all rs out k end long so_far = sym (take_all (24 * k) out (omega arith)) ∙ (so_far ∙ ap (flat_map row_bytes) (take_all k rs end))

pub rows_fit : (rs : List CallRecord) (k : ℕ) → length rs ≤ k → AllByRecursion Fit (take k rs) → AllByRecursion Fit rs
rows_fit rs k end fit = subst (λ (l : List CallRecord). AllByRecursion Fit l) (take_all k rs end) fit

-- three parts put one after the other over bytes that they fill
pub filled : (xs a b c : List ℕ) (p q u v : ℕ) → length a ≡ p → p + length b ≡ q → u ≡ length b → v ≡ length c → length xs ≡ q + length c
    → put_mid q v (put_mid p u (put_mid 0 p xs a) b) c ≡ a ++ (b ++ c)
filled xs a b c p q u v is_p is_q is_u is_v all =
    let rest = drop p xs in
    let second : put_mid p u (a ++ rest) b ≡ (a ++ b) ++ drop u rest =
    ap (λ l. l ++ (b ++ drop u (drop p (a ++ rest)))) (take_at a rest p is_p)
    ∙ (ap (λ l. a ++ (b ++ drop u l)) (drop_at a rest p is_p) ∙ sym (append_assoc a b (drop u rest))) in
    let both : length (a ++ b) ≡ q = length-append a b ∙ (omega arith) in
    let none : drop v (drop u rest) ≡ [] = drop-drop v u rest ∙ drop_all (u + v) rest (omega (arith, length-drop p xs)) in
    ap (λ l. put_mid q v l c) second
    ∙ (ap (λ l. l ++ (c ++ drop v (drop q ((a ++ b) ++ drop u rest)))) (take_at (a ++ b) (drop u rest) q both)
    ∙ (ap (λ l. (a ++ b) ++ (c ++ drop v l)) (drop_at (a ++ b) (drop u rest) q both)
    ∙ (ap (λ l. (a ++ b) ++ (c ++ l)) none
    ∙ (append_assoc a b (c ++ []) ∙ ap (λ l. a ++ (b ++ l)) (append-nil c)))))

-- one record more is judged
pub fault_more : (f : CallRecord → Option RowFault) (rs : List CallRecord) (k : ℕ) (d : CallRecord) → k < length rs
    → first_fault f 0 rs ≡ first_fault f k (drop k rs)
    → first_fault f 0 rs ≡ at_row k (f (get_or rs k d)) (first_fault f (k + 1) (drop (k + 1) rs))
fault_more f rs k d within so_far = so_far ∙ at_drop_more (first_fault f k) rs k d within

length-written : (rs : List CallRecord) → AllByRecursion Fit rs → length (written rs) ≡ 4 + 25 * length rs
length-written rs fit =
    let codes = length-map rs code_byte in
    let rows = length-rows rs fit in
    omega (arith, length-append (map code_byte rs) (flat_map row_bytes rs))

-- what the writer leaves where it accepts
module _ {M : Type 0} (reading : List ℕ → Option M) (rs : List CallRecord) (fit : AllByRecursion Fit rs) (few : length rs ≤ 1024) (good : first_fault (fault reading) 0 rs ≡ None) where
  pub accepted : (room : ℕ) → batch_length (length rs) ≤ room → write_verdict reading rs room ≡ None
  accepted room enough = rw (le-leb (length rs) 1024 few, le-leb (batch_length (length rs)) room enough) good

  pub reads_as : (b : List ℕ) → b ≡ written rs → ReadsBack reading rs b
  reads_as b is =
      let back = reads_back rs fit few in
      let whole : shaped b ≡ true = ap shaped is ∙ back.0 in
      let all : batch_records b ≡ rs = ap batch_records is ∙ back.1 in
      (ap (λ t. cond t (first_fault (fault reading) 0 (batch_records b)) (Some Shape)) whole ∙ (ap (first_fault (fault reading) 0) all ∙ good), all)

  pub front : (n : ℕ) (rest : List ℕ) → n ≡ 4 + 25 * length rs → take n (written rs ++ rest) ≡ written rs
  front n rest is = take_at (written rs) rest n (length-written rs fit ∙ sym is)

-- what an accepted batch tells
module _ {M : Type 0} (reading : List ℕ → Option M) (b : List ℕ) (none : verdict reading b ≡ None) where
  pub accepted_shaped : shaped b ≡ true
  accepted_shaped = go (shaped b) none
    where
      go : (t : Bool) → cond t (first_fault (fault reading) 0 (batch_records b)) (Some Shape) ≡ None → t ≡ true
      go true h = refl
      go false h = absurd (let z : ◌≡◌ {A = ℕ} 0 1 = cc in omega arith)

  pub accepted_rows : first_fault (fault reading) 0 (batch_records b) ≡ None
  accepted_rows = sym (ap (λ t. cond t (first_fault (fault reading) 0 (batch_records b)) (Some Shape)) accepted_shaped) ∙ none

  -- its records are accepted for a buffer of its length, and fill it with its bytes
  pub rewritten : (out after : List ℕ) (n : ℕ) → Sole b → length out ≡ length b → Wrote (batch_records b) out (Ok n) after → (n ≡ length b) × (after ≡ b)
  rewritten out after n only room (is_n, is_after) =
      let w = whole b accepted_shaped in
      let count = length-batch_records b accepted_shaped in
      let long : n ≡ length b = omega (arith, w.long) in
      (long, is_after ∙ (ap (λ l. l ++ drop n out) only.0 ∙ (ap (λ l. b ++ l) (drop_all n out (omega arith)) ∙ append-nil b)))

  pub rewrites_accepted : (room : ℕ) → room ≡ length b → write_verdict reading (batch_records b) room ≡ None
  rewrites_accepted room is =
      let w = whole b accepted_shaped in
      let count = length-batch_records b accepted_shaped in
      let few : length (batch_records b) ≤ 1024 = omega (arith, w.few) in
      let enough : batch_length (length (batch_records b)) ≤ room = omega (arith, w.long) in
      rw (le-leb (length (batch_records b)) 1024 few, le-leb (batch_length (length (batch_records b))) room enough) accepted_rows

-- no record of a list without a first fault has one
pub all_good : (f : CallRecord → Option RowFault) (k : ℕ) (rs : List CallRecord) → first_fault f k rs ≡ None → AllByRecursion (λ r. f r ≡ None) rs
all_good f k [] h = tt
all_good f k (r ∷ rs) h = go (f r) refl h (λ i. all_good f (k + 1) rs i)
  where
    go : (o : Option RowFault) → f r ≡ o → at_row k o (first_fault f (k + 1) rs) ≡ None → (first_fault f (k + 1) rs ≡ None → AllByRecursion (λ x. f x ≡ None) rs) → (f r ≡ None) × AllByRecursion (λ x. f x ≡ None) rs
    go None e i later = (e, later i)
    go (Some x) e i later = absurd (let z : ◌≡◌ {A = ℕ} 0 1 = cc in omega arith)
