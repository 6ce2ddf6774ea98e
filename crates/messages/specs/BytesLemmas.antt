-- Bytes and numbers as bytes: what `same_bytes` tells, and that a number comes back from its bytes. Assumes nothing.
use Rattle.std.specs.Prelude.{◌≡◌, ℕ, ◌+◌, ◌*◌, ◌/◌, ◌%◌, ◌<◌, Bool, true, false, ◌&&◌, List, [], ◌∷◌, ◌++◌, length, ◌==◌, slice_index, refl}
use Rattle.std.proofs.Common.{sym, ap, ◌∙◌, mod-eq_of_lt, zero-add, arith, eqb-true, eq-eqb, lit<}
use Rattle.std.proofs.Math.Nat.{add-mul-div_right, add-mul-mod_self_right, div-div-eq-div-mul, div-eq_of_lt}
use Rattle.messages.specs.Bytes.{same_bytes, le2, le4, of_le2, of_le4}

pub and_left : (a b : Bool) → (a && b) ≡ true → a ≡ true
and_left true b h = refl
and_left false b h = h

pub and_right : (a b : Bool) → (a && b) ≡ true → b ≡ true
and_right true b h = h
and_right false b h = absurd (let z : ◌≡◌ {A = ℕ} 0 1 = cc in omega arith)

pub and_both : (a b : Bool) → a ≡ true → b ≡ true → (a && b) ≡ true
and_both true b p q = q
and_both false b p q = p

pub same_bytes_is : (bs cs : List ℕ) → same_bytes bs cs ≡ true → bs ≡ cs
same_bytes_is [] [] h = refl
same_bytes_is [] (c ∷ cs) h = absurd (let z : ◌≡◌ {A = ℕ} 0 1 = cc in omega arith)
same_bytes_is (b ∷ bs) [] h = absurd (let z : ◌≡◌ {A = ℕ} 0 1 = cc in omega arith)
same_bytes_is (b ∷ bs) (c ∷ cs) h =
    let head = eqb-true b c (and_left (b == c) (same_bytes bs cs) h) in
    let tail = same_bytes_is bs cs (and_right (b == c) (same_bytes bs cs) h) in
    cc

pub same_bytes_refl : (bs : List ℕ) → same_bytes bs bs ≡ true
same_bytes_refl [] = refl
same_bytes_refl (b ∷ bs) = and_both (b == b) (same_bytes bs bs) (eq-eqb b b refl) (same_bytes_refl bs)

-- a list of eight, by its elements
pub eight_elements : (bs : List ℕ) → length bs ≡ 8
    → bs ≡ slice_index bs 0 ∷ slice_index bs 1 ∷ slice_index bs 2 ∷ slice_index bs 3 ∷ slice_index bs 4 ∷ slice_index bs 5 ∷ slice_index bs 6 ∷ slice_index bs 7 ∷ []
eight_elements (a ∷ b ∷ c ∷ d ∷ e ∷ f ∷ g ∷ h ∷ []) p = refl
eight_elements [] p = absurd (omega arith)
eight_elements (a ∷ []) p = absurd (omega arith)
eight_elements (a ∷ b ∷ []) p = absurd (omega arith)
eight_elements (a ∷ b ∷ c ∷ []) p = absurd (omega arith)
eight_elements (a ∷ b ∷ c ∷ d ∷ []) p = absurd (omega arith)
eight_elements (a ∷ b ∷ c ∷ d ∷ e ∷ []) p = absurd (omega arith)
eight_elements (a ∷ b ∷ c ∷ d ∷ e ∷ f ∷ []) p = absurd (omega arith)
eight_elements (a ∷ b ∷ c ∷ d ∷ e ∷ f ∷ g ∷ []) p = absurd (omega arith)
eight_elements (a ∷ b ∷ c ∷ d ∷ e ∷ f ∷ g ∷ h ∷ i ∷ is) p = absurd (omega arith)

-- a number of two bytes, or four, comes back from its bytes
pub of_le2-le2 : (n : ℕ) → n < 65536 → of_le2 (le2 n) ≡ n
of_le2-le2 n fits = omega arith

pub of_le4-le4 : (n : ℕ) → n < 4294967296 → of_le4 (le4 n) ≡ n
of_le4-le4 n fits =
    let two = div-div-eq-div-mul n 256 256 in
    let three = div-div-eq-div-mul n 65536 256 in
    summed n (n / 256) (n / 65536) (n / 16777216) (omega arith) (omega (arith, two)) (omega (arith, three)) fits
  where
    summed : (n p q r : ℕ) → p ≡ n / 256 → q ≡ p / 256 → r ≡ q / 256 → n < 4294967296
        → n % 256 + p % 256 * 256 + q % 256 * 65536 + r % 256 * 16777216 ≡ n
    summed n p q r is_p is_q is_r fits = omega arith

-- the lowest byte of a number, and the rest of it
low_byte : (a n : ℕ) → a < 256 → (a + n * 256) % 256 ≡ a
low_byte a n fa = add-mul-mod_self_right a n 256 ∙ mod-eq_of_lt fa

rest_byte : (a n : ℕ) → a < 256 → (a + n * 256) / 256 ≡ n
rest_byte a n fa = add-mul-div_right a n (lit< tt) ∙ (ap (λ q. q + n) (div-eq_of_lt fa) ∙ zero-add n)

-- bytes come back from the number that they stand for
pub le2-of_le2 : (a b : ℕ) → a < 256 → b < 256 → le2 (a + b * 256) ≡ a ∷ b ∷ []
le2-of_le2 a b fa fb =
    let low = low_byte a b fa in
    let high : (a + b * 256) / 256 % 256 ≡ b = ap (λ q. q % 256) (rest_byte a b fa) ∙ mod-eq_of_lt fb in
    cc

pub le4-of_le4 : (a b c d : ℕ) → a < 256 → b < 256 → c < 256 → d < 256
    → le4 (a + b * 256 + c * 65536 + d * 16777216) ≡ a ∷ b ∷ c ∷ d ∷ []
le4-of_le4 a b c d fa fb fc fd = steps (a + b * 256 + c * 65536 + d * 16777216) (omega arith)
  where
    steps : (n : ℕ) → n ≡ a + (b + (c + d * 256) * 256) * 256 → le4 n ≡ a ∷ b ∷ c ∷ d ∷ []
    steps n e =
        let one : n / 256 ≡ b + (c + d * 256) * 256 = ap (λ m. m / 256) e ∙ rest_byte a (b + (c + d * 256) * 256) fa in
        let two : n / 65536 ≡ c + d * 256 = sym (div-div-eq-div-mul n 256 256) ∙ (ap (λ m. m / 256) one ∙ rest_byte b (c + d * 256) fb) in
        let three : n / 16777216 ≡ d = sym (div-div-eq-div-mul n 65536 256) ∙ (ap (λ m. m / 256) two ∙ rest_byte c d fc) in
        let b0 : n % 256 ≡ a = ap (λ m. m % 256) e ∙ low_byte a (b + (c + d * 256) * 256) fa in
        let b1 : n / 256 % 256 ≡ b = ap (λ m. m % 256) one ∙ low_byte b (c + d * 256) fb in
        let b2 : n / 65536 % 256 ≡ c = ap (λ m. m % 256) two ∙ low_byte c d fc in
        let b3 : n / 16777216 % 256 ≡ d = ap (λ m. m % 256) three ∙ mod-eq_of_lt fd in
        cc

-- the layout that both kinds share: a sort, zero, a number of two bytes and one of four
pub laid_out : (bs : List ℕ) (sort n m : ℕ) → length bs ≡ 8 → ((k : ℕ) → slice_index bs k < 256)
    → sort ≡ slice_index bs 0 → slice_index bs 1 ≡ 0
    → n ≡ slice_index bs 2 + slice_index bs 3 * 256
    → m ≡ slice_index bs 4 + slice_index bs 5 * 256 + slice_index bs 6 * 65536 + slice_index bs 7 * 16777216
    → sort ∷ 0 ∷ le2 n ++ le4 m ≡ bs
laid_out bs sort n m eight fit is_sort zero is_n is_m =
    let es = eight_elements bs eight in
    let two = ap le2 is_n ∙ le2-of_le2 (slice_index bs 2) (slice_index bs 3) (fit 2) (fit 3) in
    let four = ap le4 is_m ∙ le4-of_le4 (slice_index bs 4) (slice_index bs 5) (slice_index bs 6) (slice_index bs 7) (fit 4) (fit 5) (fit 6) (fit 7) in
    cc
