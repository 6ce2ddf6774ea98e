-- What marks tell of their count, and what one changed mark does to it. Assumes nothing.
use Rattle.std.specs.Prelude.{◌≡◌, ℕ, ◌+◌, ◌<◌, ◌≤◌, Bool, true, false, cond, ◌⊎◌, List, length, replicate, slice_set, refl}
use Rattle.std.proofs.Common.{sym, ap, ◌∙◌, inl, inr, arith}
use Rattle.std.proofs.lemmas.List.{ext_get_or, get_or_past, get_or-replicate, length-replicate}
use Rattle.std.proofs.lemmas.List.Folds.{sum_by-replicate}
use Rattle.std.proofs.lemmas.List.Sums.{sum_by-set, get_or-le-sum_by}
use Rattle.std.proofs.lemmas.Bool.{both_ways, cases_Bool, cases_lt}
use Rattle.pool.specs.Marks.{free_count, marked}

abbrev weight : Bool → ℕ
weight m = cond m 1 0

-- a free number is below the size
pub marked_below : (ms : List Bool) (n : ℕ) → marked ms n ≡ true → n < length ms
marked_below ms n h = go (cases_lt n (length ms))
  where
    go : (n < length ms) ⊎ (length ms ≤ n) → n < length ms
    go (inl below) = below
    go (inr past) = absurd (both_ways (marked ms n) (get_or_past ms n false past) h)

pub count_taken : (ms : List Bool) (n : ℕ) → marked ms n ≡ true → free_count (slice_set ms n false) + 1 ≡ free_count ms
count_taken ms n h =
    let step = sum_by-set weight ms n false false (marked_below ms n h) in
    let one : weight (marked ms n) ≡ 1 = ap weight h in
    omega arith

pub count_given : (ms : List Bool) (n : ℕ) → n < length ms → marked ms n ≡ false → free_count (slice_set ms n true) ≡ free_count ms + 1
count_given ms n below h =
    let step = sum_by-set weight ms n true false below in
    let none : weight (marked ms n) ≡ 0 = ap weight h in
    omega arith

-- none is free where the count is 0
pub count_none : (ms : List Bool) → free_count ms ≡ 0 → (n : ℕ) → marked ms n ≡ false
count_none ms zero-count n = go (cases_Bool (marked ms n))
  where
    go : (marked ms n ≡ true) ⊎ (marked ms n ≡ false) → marked ms n ≡ false
    go (inr h) = h
    go (inl h) =
        let one : weight (marked ms n) ≡ 1 = ap weight h in
        absurd (omega (arith, get_or-le-sum_by weight ms n false (marked_below ms n h)))

-- marks that are all alike
pub all_same : (ms : List Bool) (size : ℕ) (v : Bool) → length ms ≡ size → ((n : ℕ) → n < size → marked ms n ≡ v) → ms ≡ replicate size v
all_same ms size v long each =
    ext_get_or false ms (replicate size v) (long ∙ sym (length-replicate size v))
    (λ n below. let within : n < size = omega arith in each n within ∙ sym (get_or-replicate size n v false within))

-- the count is 0 where none is free
pub none_count : (ms : List Bool) → ((n : ℕ) → marked ms n ≡ false) → free_count ms ≡ 0
none_count ms none =
    let same = ap free_count (all_same ms (length ms) false refl (λ n h. none n)) in
    omega (arith, sum_by-replicate weight (length ms) false)

pub count_all : (n : ℕ) → free_count (replicate n true) ≡ n
count_all n = omega (arith, sum_by-replicate weight n true)
