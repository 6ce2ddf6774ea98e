-- Eight bytes are the same exactly if the numbers that they stand for are. Assumes nothing.
use Rattle.std.proofs.Common.{◌≡◌, ℕ, suc, ◌+◌, ◌*◌, ◌<◌, ◌&&◌, eqb, List, [], ◌∷◌, length, get_or, sym, refl, ap, ◌∙◌, ap₂, arith}
use Rattle.std.proofs.lemmas.Bool.Decides.{nat_tests}
use Rattle.messages.specs.Bytes.{same_bytes}
use Rattle.messages.specs.BytesLemmas.{eight_elements}

-- the number of bytes, the least significant first
abbrev number : List ℕ → ℕ
number [] = 0
number (b ∷ bs) = b + 256 * number bs

one_byte : (a b m n : ℕ) → a < 256 → b < 256 → eqb (a + 256 * m) (b + 256 * n) ≡ (eqb a b && eqb m n)
one_byte a b m n p q = grind (arith, nat_tests)

number_same : (as' bs : List ℕ) → length as' ≡ length bs → ((i : ℕ) → get_or as' i 0 < 256) → ((i : ℕ) → get_or bs i 0 < 256)
    → eqb (number as') (number bs) ≡ same_bytes as' bs
number_same [] [] long p q = refl
number_same [] (b ∷ bs) long p q = absurd (omega arith)
number_same (a ∷ as') [] long p q = absurd (omega arith)
number_same (a ∷ as') (b ∷ bs) long p q =
    one_byte a b (number as') (number bs) (p 0) (q 0)
    ∙ ap (λ t. eqb a b && t) (number_same as' bs (omega arith) (λ i. p (suc i)) (λ i. q (suc i)))

abbrev pub SumOf : List ℕ → ℕ → Type 0
SumOf bs n =
    n ≡ get_or bs 0 0 + get_or bs 1 0 * 256 + get_or bs 2 0 * 65536 + get_or bs 3 0 * 16777216 + get_or bs 4 0 * 4294967296 + get_or bs 5 0 * 1099511627776 + get_or bs 6 0 * 281474976710656 + get_or bs 7 0 * 72057594037927936

sum_number : (bs : List ℕ) (n : ℕ) → length bs ≡ 8 → SumOf bs n → n ≡ number bs
sum_number bs n long is =
    nested n (get_or bs 0 0) (get_or bs 1 0) (get_or bs 2 0) (get_or bs 3 0) (get_or bs 4 0) (get_or bs 5 0) (get_or bs 6 0) (get_or bs 7 0) is
    ∙ ap number (sym (eight_elements bs long))
  where
    nested : (n a b c d e f g h : ℕ)
        → n ≡ a + b * 256 + c * 65536 + d * 16777216 + e * 4294967296 + f * 1099511627776 + g * 281474976710656 + h * 72057594037927936
        → n ≡ number (a ∷ b ∷ c ∷ d ∷ e ∷ f ∷ g ∷ h ∷ [])
    nested n a b c d e f g h is = omega arith

pub same_eight : (as' bs : List ℕ) (m n : ℕ) → length as' ≡ 8 → length bs ≡ 8 → ((i : ℕ) → get_or as' i 0 < 256) → ((i : ℕ) → get_or bs i 0 < 256)
    → SumOf as' m → SumOf bs n → eqb m n ≡ same_bytes as' bs
same_eight as' bs m n long_a long_b fit_a fit_b is_m is_n =
    ap₂ eqb (sum_number as' m long_a is_m) (sum_number bs n long_b is_n) ∙ number_same as' bs (long_a ∙ sym long_b) fit_a fit_b
