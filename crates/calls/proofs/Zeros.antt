-- Eight bytes are all zero exactly if the number that they stand for is. Assumes nothing.
use Rattle.std.proofs.Common.{◌≡◌, ℕ, ◌+◌, ◌*◌, eqb, List, [], ◌∷◌, length, get_or, sym, ap, ◌∙◌, arith}
use Rattle.std.proofs.lemmas.Bool.Decides.{nat_tests}
use Rattle.messages.specs.BytesLemmas.{eight_elements}
use Rattle.calls.specs.Faults.{all_zero}

eight : (a b c d e f g h : ℕ)
    → eqb (a + b * 256 + c * 65536 + d * 16777216 + e * 4294967296 + f * 1099511627776 + g * 281474976710656 + h * 72057594037927936) 0
    ≡ all_zero (a ∷ b ∷ c ∷ d ∷ e ∷ f ∷ g ∷ h ∷ [])
eight a b c d e f g h = grind (arith, nat_tests)

pub zero_bytes : (bs : List ℕ) (n : ℕ) → length bs ≡ 8
    → n ≡ get_or bs 0 0 + get_or bs 1 0 * 256 + get_or bs 2 0 * 65536 + get_or bs 3 0 * 16777216 + get_or bs 4 0 * 4294967296 + get_or bs 5 0 * 1099511627776 + get_or bs 6 0 * 281474976710656 + get_or bs 7 0 * 72057594037927936
    → eqb n 0 ≡ all_zero bs
zero_bytes bs n long is =
    ap (λ m. eqb m 0) is
    ∙ (eight (get_or bs 0 0) (get_or bs 1 0) (get_or bs 2 0) (get_or bs 3 0) (get_or bs 4 0) (get_or bs 5 0) (get_or bs 6 0) (get_or bs 7 0)
    ∙ ap all_zero (sym (eight_elements bs long)))
