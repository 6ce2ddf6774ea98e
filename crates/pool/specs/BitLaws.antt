-- The bits of a word: flipped, the lowest that is set, and the low ones all set. Assumes nothing.
use Rattle.std.specs.Prelude.{◌≡◌, ℕ, zero, suc, ◌+◌, ◌-◌, ◌*◌, ◌/◌, ◌%◌, ◌^◌, ◌<◌, ◌≤◌, false, not, ◌≢◌, ◌⊎◌, ◌==◌, bit_and, bit_xor, nat_eq, nat_lt, refl}
use Rattle.std.proofs.Common.{sym, ap, ◌∙◌, inl, inr, arith}
use Rattle.std.specs.Int.{trailing_zeros, w64}
use Rattle.std.proofs.lemmas.Nat.{one_shl, pow_pos}
use Rattle.std.proofs.lemmas.Nat.Bits.{and_pow, bit_at-lt, bit_at-pow_other, bit_at-pow_same, bit_at-trailing_zeros, bit_at-zero, bit_at_ones, bit_at_ones_above, bit_at_xor}
use Rattle.std.proofs.lemmas.Bool.{cases_lt, eq-eqb, le-ltb, lt-ltb, ne_eqb}
use Rattle.std.proofs.lemmas.Bool.Decides.{nat_tests}
use Rattle.pool.specs.Words.{LowestBit, bit}

pub bit_of_zero : (j : ℕ) → bit 0 j ≡ false
bit_of_zero j = ap (λ d. nat_eq d 1) (bit_at-zero j)

-- ---- one bit told, and flipped

tell_digit : (d p : ℕ) → d < 2 → 0 < p → (d * p == 0) ≡ not (d == 1)
tell_digit zero p h some = eq-eqb (0 * p) 0 (omega arith)
tell_digit (suc zero) p h some = ne_eqb (1 * p) 0 (λ e. omega arith)
tell_digit (suc (suc d)) p h some = absurd (omega arith)

pub masked : (w j : ℕ) → (bit_and w (2 ^ j) == 0) ≡ not (bit w j)
masked w j = ap (λ x. nat_eq x 0) (and_pow w j) ∙ tell_digit (w / 2 ^ j % 2) (2 ^ j) (bit_at-lt w j) (pow_pos j)

flip_digit : (d : ℕ) → d < 2 → ((d + 1) % 2 == 1) ≡ not (d == 1)
flip_digit zero h = refl
flip_digit (suc zero) h = refl
flip_digit (suc (suc d)) h = absurd (omega arith)

pub flip_same : (w j : ℕ) → bit (bit_xor w (2 ^ j)) j ≡ not (bit w j)
flip_same w j =
    let digit = w / 2 ^ j % 2 in
    ap (λ d. nat_eq d 1) (bit_at_xor w (2 ^ j) j ∙ ap (λ d. (digit + d) % 2) (bit_at-pow_same j)) ∙ flip_digit digit (bit_at-lt w j)

pub flip_other : (w j i : ℕ) → i ≢ j → bit (bit_xor w (2 ^ j)) i ≡ bit w i
flip_other w j i ne =
    let digit = w / 2 ^ i % 2 in
    ap (λ d. nat_eq d 1) (bit_at_xor w (2 ^ j) i ∙ (ap (λ d. (digit + d) % 2) (bit_at-pow_other j i ne) ∙ omega arith))

-- ---- the lowest bit that is set

pub lowest_set : (w : ℕ) → 0 < w → w < 2 ^ 64 → (trailing_zeros w64 w < 64) × LowestBit w (trailing_zeros w64 w)
lowest_set w some fits =
    let (below, one, zeros) = bit_at-trailing_zeros w64 w some fits in
    (below, (ap (λ d. nat_eq d 1) one, λ i h. ap (λ d. nat_eq d 1) (zeros i h)))

-- ---- the lowest m bits set

bit_of_ones : (m j : ℕ) → bit (2 ^ m - 1) j ≡ nat_lt j m
bit_of_ones m j = go (cases_lt j m)
  where
    go : (j < m) ⊎ (m ≤ j) → bit (2 ^ m - 1) j ≡ nat_lt j m
    go (inl h) = ap (λ d. nat_eq d 1) (bit_at_ones m j h) ∙ sym (lt-ltb j m h)
    go (inr h) = ap (λ d. nat_eq d 1) (bit_at_ones_above m j h) ∙ sym (le-ltb j m h)

-- the word of the numbers from a on that are below s, where those are fewer than 64,
pub some_below : (a s w j : ℕ) → s - a < 64 → w ≡ (1 * 2 ^ (s - a)) % 2 ^ 64 → bit (w - 1) j ≡ nat_lt (a + j) s
some_below a s w j few is = ap (λ x. bit (x - 1) j) (is ∙ one_shl (s - a) 64 few) ∙ (bit_of_ones (s - a) j ∙ moved)
  where
    moved : nat_lt j (s - a) ≡ nat_lt (a + j) s
    moved = grind (arith, nat_tests)

-- and where all 64 are
pub all_below : (a s j : ℕ) → 64 ≤ s - a → j < 64 → bit (2 ^ 64 - 1) j ≡ nat_lt (a + j) s
all_below a s j many h = bit_of_ones 64 j ∙ (lt-ltb j 64 h ∙ sym (lt-ltb (a + j) s (omega arith)))
