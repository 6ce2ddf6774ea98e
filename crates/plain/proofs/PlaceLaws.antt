-- A place of a table after a write. Assumes nothing.
use Rattle.std.proofs.Common.{◌≡◌, ℕ, zero, suc, ◌<◌, List, [], ◌∷◌, length, set, Some, refl, ap, arith}
use Rattle.std.specs.List.{slice_get}

pub nth-set_same : {A : Type 0} (xs : List A) (i : ℕ) (y : A) → i < length xs → slice_get (set xs i y) i ≡ Some y
nth-set_same [] i y below = absurd (omega arith)
nth-set_same (x ∷ xs) zero y below = refl
nth-set_same (x ∷ xs) (suc i) y below = nth-set_same xs i y (omega arith)

pub nth-set_other : {A : Type 0} (xs : List A) (i k : ℕ) (y : A) → (k ≡ i → ⊥) → slice_get (set xs i y) k ≡ slice_get xs k
nth-set_other [] i k y other = refl
nth-set_other (x ∷ xs) zero zero y other = absurd (other refl)
nth-set_other (x ∷ xs) zero (suc k) y other = refl
nth-set_other (x ∷ xs) (suc i) zero y other = refl
nth-set_other (x ∷ xs) (suc i) (suc k) y other = nth-set_other xs i k y (λ e. other (ap suc e))
