-- Lists of numbers under a changed mark. Assumes nothing.
use Rattle.std.specs.Prelude.{◌≡◌, ℕ, zero, suc, ◌+◌, ◌<◌, Bool, true, false, not, ◌≢◌, List, [], ◌∷◌, ◌==◌, slice_set, refl}
use Rattle.std.proofs.Common.{ap, ◌∙◌, arith}
use Rattle.std.specs.List.{range_with_len}
use Rattle.std.proofs.lemmas.List.{get_or-set_other}
use Rattle.std.proofs.lemmas.Bool.{and_from, and_parts, both_ways, eqb-false, ne_eqb, not_from_false, or_from, or_parts}
use Rattle.pool.specs.Marks.{marked}
use Rattle.pool.specs.Numbers.{all_free, distinct, has}

-- a number that does not stand in a list is not its first, and not in the rest
pub not_first : (m : ℕ) (ms : List ℕ) (n : ℕ) → has (m ∷ ms) n ≡ false → m ≢ n
not_first m ms n h = eqb-false m n (or_parts (m == n) (has ms n) h).0

pub not_later : (m : ℕ) (ms : List ℕ) (n : ℕ) → has (m ∷ ms) n ≡ false → has ms n ≡ false
not_later m ms n h = (or_parts (m == n) (has ms n) h).1

-- another number's mark does not matter
pub all_free_set : (ms : List Bool) (ns : List ℕ) (n : ℕ) (v : Bool) → has ns n ≡ false → all_free ms ns ≡ true → all_free (slice_set ms n v) ns ≡ true
all_free_set ms [] n v out free = refl
all_free_set ms (m ∷ ns) n v out free =
    let parts = and_parts (marked ms m) (all_free ms ns) free in
    and_from (marked (slice_set ms n v) m) (all_free (slice_set ms n v) ns)
    (get_or-set_other ms n m v false (not_first m ns n out) ∙ parts.0)
    (all_free_set ms ns n v (not_later m ns n out) parts.1)

-- a number that is not free stands in no list of free numbers
pub not_free_out : (ms : List Bool) (ns : List ℕ) (n : ℕ) → all_free ms ns ≡ true → marked ms n ≡ false → has ns n ≡ false
not_free_out ms [] n free taken = refl
not_free_out ms (m ∷ ns) n free taken =
    let parts = and_parts (marked ms m) (all_free ms ns) free in
    or_from (m == n) (has ns n)
    (ne_eqb m n (λ e. both_ways (marked ms m) (ap (marked ms) e ∙ taken) parts.0))
    (not_free_out ms ns n parts.1 taken)

pub counting_out : (a k n : ℕ) → n < a → has (range_with_len a k) n ≡ false
counting_out a zero n h = refl
counting_out a (suc k) n h =
    or_from (a == n) (has (range_with_len (a + 1) k) n) (ne_eqb a n (λ e. omega arith)) (counting_out (a + 1) k n (omega arith))

pub counting_distinct : (a k : ℕ) → distinct (range_with_len a k) ≡ true
counting_distinct a zero = refl
counting_distinct a (suc k) =
    and_from (not (has (range_with_len (a + 1) k) a)) (distinct (range_with_len (a + 1) k))
    (not_from_false _ (counting_out (a + 1) k a (omega arith))) (counting_distinct (a + 1) k)
