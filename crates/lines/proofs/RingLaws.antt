-- A ring: its length, its first, one more at the end, one less in front. Assumes nothing.
use Rattle.std.proofs.Common.{◌≡◌, ℕ, zero, suc, ◌+◌, ◌-◌, ◌%◌, ◌<◌, ◌≤◌, ltb, ◌≢◌, List, [], ◌∷◌, ◌++◌, length, get_or, set, Some, sym, refl, ap, ◌∙◌, ap₂, add-one, arith}
use Rattle.std.proofs.lemmas.List.{get_or-set_other, get_or-set_same}
use Rattle.std.proofs.lemmas.Bool.{cond-false, cond-true, le-ltb, lt-ltb}
use Rattle.plain.specs.Lookups.{first_of}
use Rattle.plain.specs.Moves.{behind_first, joins}
use Rattle.lines.specs.Rings.{ring}

pub length-ring : (at : List ℕ) (h n : ℕ) → length (ring at h n) ≡ n
length-ring at h zero = refl
length-ring at h (suc n) = ap suc (length-ring at (suc h) n)

-- a place and the same one round further
ring_round : (at : List ℕ) (h k n : ℕ) → h % 256 ≡ k % 256 → ring at h n ≡ ring at k n
ring_round at h k zero same = refl
ring_round at h k (suc n) same =
    ap₂ (λ x xs. x ∷ xs) (ap (λ i. get_or at i 0) same) (ring_round at (suc h) (suc k) n (omega arith))

ring_set_other : (at : List ℕ) (j x h n : ℕ) → ((i : ℕ) → i < n → (h + i) % 256 ≢ j) → ring (set at j x) h n ≡ ring at h n
ring_set_other at j x h zero apart = refl
ring_set_other at j x h (suc n) apart =
    ap₂ (λ y ys. y ∷ ys) (get_or-set_other at j (h % 256) x 0 (λ e. apart 0 (omega arith) (omega arith)))
    (ring_set_other at j x (suc h) n (λ i lt e. apart (suc i) (omega arith) (omega arith)))

ring_more : (at : List ℕ) (h n : ℕ) → ring at h (suc n) ≡ ring at h n ++ get_or at ((h + n) % 256) 0 ∷ []
ring_more at h zero = ap (λ i. get_or at i 0 ∷ []) (omega arith)
ring_more at h (suc n) =
    ap (λ ys. get_or at (h % 256) 0 ∷ ys) (ring_more at (suc h) n ∙ ap (λ i. ring at (suc h) n ++ get_or at i 0 ∷ []) (omega arith))

pub ring_push : (at : List ℕ) (h n x : ℕ) → length at ≡ 256 → n < 256 → ring (set at ((h + n) % 256) x) h (n + 1) ≡ joins x (ring at h n)
ring_push at h n x full room =
    let j = (h + n) % 256 in
    ap (ring (set at j x) h) (add-one n)
    ∙ (ring_more (set at j x) h n
    ∙ (ap₂ (λ ys y. ys ++ y ∷ []) (ring_set_other at j x h n (λ i lt e. absurd (omega arith))) (get_or-set_same at j x 0 (omega arith))
    ∙ sym (cond-true (ltb (length (ring at h n)) 256) (ring at h n ++ x ∷ []) (ring at h n)
    (lt-ltb (length (ring at h n)) 256 (let long = length-ring at h n in omega arith)))))

pub ring_full : (at : List ℕ) (h n x : ℕ) → 256 ≤ n → ring at h n ≡ joins x (ring at h n)
ring_full at h n x full =
    sym (cond-false (ltb (length (ring at h n)) 256) (ring at h n ++ x ∷ []) (ring at h n)
    (le-ltb (length (ring at h n)) 256 (let long = length-ring at h n in omega arith)))

pub ring_first : (at : List ℕ) (h n : ℕ) → h < 256 → (n ≡ 0 → ⊥) → first_of (ring at h n) ≡ Some (get_or at h 0)
ring_first at h zero low some = absurd (some refl)
ring_first at h (suc n) low some = ap (λ k. Some (get_or at k 0)) (omega arith)

pub ring_rest : (at : List ℕ) (h n : ℕ) → (n ≡ 0 → ⊥) → ring at ((h + 1) % 256) (n - 1) ≡ behind_first (ring at h n)
ring_rest at h zero some = absurd (some refl)
ring_rest at h (suc n) some =
    ap (ring at ((h + 1) % 256)) (omega arith) ∙ ring_round at ((h + 1) % 256) (suc h) n (omega arith)

pub ruleset rings = (length-ring, ring_push, ring_first, ring_rest)
