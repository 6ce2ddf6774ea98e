-- Sums over all numbers below a bound. Assumes nothing.
--   upto n f      f 0 + .. + f (n - 1)
use Rattle.std.proofs.Common.{◌≡◌, ℕ, zero, suc, ◌+◌, ◌<◌, ◌≤◌, eqb, ltb, List, [], ◌∷◌, length, get_or, sum_by, count_by, sym, refl, ⊎_elim, arith}
use Rattle.std.proofs.lemmas.List.Sums.{sum_by-cons}
use Rattle.std.proofs.lemmas.Bool.{cases_eq, cases_lt, eq-eqb, le-ltb, lt-ltb, ne_eqb}
use Rattle.plain.specs.Openings.{one_if}
use Rattle.books.proofs.Counting.{one_if_false, one_if_le, one_if_same, one_if_true}

unfoldable pub upto : ℕ → (ℕ → ℕ) → ℕ
upto zero f = 0
upto (suc n) f = f n + upto n f

pub upto_none : (n : ℕ) → upto n (λ b. 0) ≡ 0
unfolding upto
upto_none zero = refl
upto_none (suc n) = let later = upto_none n in omega arith

pub upto_add : (n : ℕ) (f g : ℕ → ℕ) → upto n (λ b. f b + g b) ≡ upto n f + upto n g
unfolding upto
upto_add zero f g = refl
upto_add (suc n) f g = let later = upto_add n f g in omega arith

pub upto_same : (n : ℕ) (f g : ℕ → ℕ) → ((b : ℕ) → b < n → f b ≡ g b) → upto n f ≡ upto n g
unfolding upto
upto_same zero f g h = refl
upto_same (suc n) f g h = let here = h n (omega arith) in let later = upto_same n f g (λ b lt. h b (omega arith)) in omega arith

pub upto_ones : (n : ℕ) → upto n (λ b. 1) ≡ n
unfolding upto
upto_ones zero = refl
upto_ones (suc n) = let later = upto_ones n in omega arith

-- from the front
upto_front : (n : ℕ) (f : ℕ → ℕ) → upto (suc n) f ≡ f 0 + upto n (λ b. f (suc b))
unfolding upto
upto_front zero f = refl
upto_front (suc n) f = let later = upto_front n f in omega arith

-- over the places of a list
pub upto_places : {A : Type 0} (g : A → ℕ) (xs : List A) (d : A) → upto (length xs) (λ i. g (get_or xs i d)) ≡ sum_by g xs
unfolding upto
upto_places g [] d = refl
upto_places g (x ∷ xs) d =
    let front = upto_front (length xs) (λ i. g (get_or (x ∷ xs) i d)) in
    let later = upto_places g xs d in
    let cons = sum_by-cons g x xs in
    omega arith

-- one number below the bound counts once
upto_one : (n k : ℕ) → upto n (λ b. one_if (eqb b k)) ≡ one_if (ltb k n)
unfolding upto
upto_one zero k = sym (one_if_false (ltb k 0) (le-ltb k 0 (omega arith)))
upto_one (suc n) k = go (upto_one n k)
  where
    go : upto n (λ b. one_if (eqb b k)) ≡ one_if (ltb k n) → one_if (eqb n k) + upto n (λ b. one_if (eqb b k)) ≡ one_if (ltb k (suc n))
    go later = ⊎_elim
        (λ (e : n ≡ k).
        let a = one_if_true (eqb n k) (eq-eqb n k e) in
        let b = one_if_false (ltb k n) (le-ltb k n (omega arith)) in
        let c = one_if_true (ltb k (suc n)) (lt-ltb k (suc n) (omega arith)) in omega arith)
        (λ (d : n ≡ k → ⊥).
        let a = one_if_false (eqb n k) (ne_eqb n k d) in
        ⊎_elim
        (λ (p : k < n).
        let b = one_if_true (ltb k n) (lt-ltb k n p) in
        let c = one_if_true (ltb k (suc n)) (lt-ltb k (suc n) (omega arith)) in omega arith)
        (λ (p : n ≤ k).
        let q : n < k = ⊎_elim (λ (r : n < k). r) (λ (r : k ≤ n). absurd (d (omega arith))) (cases_lt n k) in
        let b = one_if_false (ltb k n) (le-ltb k n p) in
        let c = one_if_false (ltb k (suc n)) (le-ltb k (suc n) (omega arith)) in omega arith)
        (cases_lt k n))
        (cases_eq n k)

-- how often a key is met in a list
abbrev pub met : {A : Type 0} → (A → ℕ) → List A → ℕ → ℕ
met key l b = count_by (λ a. eqb b (key a)) l

-- where every key is below the bound, all of them make the length
pub upto_met : {A : Type 0} (key : A → ℕ) (n : ℕ) (l : List A) → ((b : ℕ) → met key l b ≤ one_if (ltb b n)) → upto n (met key l) ≡ length l
upto_met key n [] h = upto_none n
upto_met key n (x ∷ l) h =
    let cons : (b : ℕ) → met key (x ∷ l) b ≡ one_if (eqb b (key x)) + met key l b = λ b. sum_by-cons (λ a. one_if (eqb b (key a))) x l in
    let later = upto_met key n l (λ b. let c = cons b in let k = h b in omega arith) in
    let split = upto_same n (met key (x ∷ l)) (λ b. one_if (eqb b (key x)) + met key l b) (λ b lt. cons b) in
    let sum = upto_add n (λ b. one_if (eqb b (key x))) (met key l) in
    let one = upto_one n (key x) in
    let here = cons (key x) in
    let same = one_if_same (key x) in
    let most = h (key x) in
    let top = one_if_le (ltb (key x) n) in
    omega arith

-- the same over the lines of several lists
pub upto_lines : {X : Type 0} (f : X → List ℕ) (n : ℕ) (xs : List X)
    → ((b : ℕ) → sum_by (λ x. met (λ k. k) (f x) b) xs ≤ one_if (ltb b n))
    → upto n (λ b. sum_by (λ x. met (λ k. k) (f x) b) xs) ≡ sum_by (λ x. length (f x)) xs
upto_lines f n [] h = upto_none n
upto_lines f n (x ∷ xs) h =
    let cons : (b : ℕ) → sum_by (λ y. met (λ k. k) (f y) b) (x ∷ xs) ≡ met (λ k. k) (f x) b + sum_by (λ y. met (λ k. k) (f y) b) xs =
    λ b. sum_by-cons (λ y. met (λ k. k) (f y) b) x xs in
    let here = upto_met (λ k. k) n (f x) (λ b. let c = cons b in let k = h b in omega arith) in
    let later = upto_lines f n xs (λ b. let c = cons b in let k = h b in omega arith) in
    let split = upto_same n (λ b. sum_by (λ y. met (λ k. k) (f y) b) (x ∷ xs)) (λ b. met (λ k. k) (f x) b + sum_by (λ y. met (λ k. k) (f y) b) xs) (λ b lt. cons b) in
    let sum = upto_add n (met (λ k. k) (f x)) (λ b. sum_by (λ y. met (λ k. k) (f y) b) xs) in
    let all = sum_by-cons (λ y. length (f y)) x xs in
    omega arith
