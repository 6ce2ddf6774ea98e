-- The front of a table, of which n places are in use: an element of it written over, put in and taken out. Assumes nothing.
use Rattle.std.proofs.Common.{◌≡◌, ℕ, ◌+◌, ◌-◌, ◌<◌, ◌≤◌, List, [], ◌∷◌, ◌++◌, length, min, take, drop, set, ◌⊎◌, inl, inr, insert, remove, sym, ap, ap₂, ◌∙◌, add-one, arith}
use borrow.Rule.Slice.PartMut.{mid_of, post_of, put_mid}
use Rattle.std.proofs.lemmas.List.{append_assoc, drop-drop, drop_all, drop_at, drop-append-le, length-append, length-drop, length-take-le, length-set, take-set-le, take-take, take_all, take_at, take_more_set, take-replicate}
use Rattle.std.proofs.Math.Seq.{take-set-lt}
use Rattle.std.proofs.lemmas.Bool.{cases_lt}
use Rattle.std.proofs.lemmas.Slice.{between_is, take-put_mid}

-- the last of a part moved before its others
last_first : {X : Type 0} (front : List X) (x : X)
    → drop (length (front ++ x ∷ []) - 1) (front ++ x ∷ []) ++ take (length (front ++ x ∷ []) - 1) (front ++ x ∷ []) ≡ x ∷ front
last_first front x =
    let long : length front ≡ length (front ++ x ∷ []) - 1 = let k = length-append front (x ∷ []) in omega arith in
    ap₂ (λ us vs. us ++ vs) (drop_at front (x ∷ []) _ long) (take_at front (x ∷ []) _ long)

-- past the end is at the end
insert_within : {X : Type 0} (n at i : ℕ) (xs : List X) (x : X) → length xs ≡ n → at ≡ min i n → insert xs at x ≡ insert xs i x
insert_within n at i xs x long is = go (cases_lt i n)
  where
    go : (i < n) ⊎ (n ≤ i) → insert xs at x ≡ insert xs i x
    go (inl low) = ap (λ k. insert xs k x) (let same : at ≡ i = omega arith in same)
    go (inr past) =
        ap₂ (λ us vs. us ++ x ∷ vs) (take_all at xs (omega arith) ∙ sym (take_all i xs (omega arith)))
        (drop_all at xs (omega arith) ∙ sym (drop_all i xs (omega arith)))

-- x written behind the front, and the part from `at` on turned to the right by one
put_in : {X : Type 0} (n at : ℕ) (xs ys : List X) (x : X)
    → ys ≡ drop (length (mid_of at (n + 1 - at) (set xs n x)) - 1) (mid_of at (n + 1 - at) (set xs n x))
    ++ take (length (mid_of at (n + 1 - at) (set xs n x)) - 1) (mid_of at (n + 1 - at) (set xs n x))
    → n < length xs → at ≤ n → take (n + 1) (put_mid at (n + 1 - at) (set xs n x) ys) ≡ insert (take n xs) at x
put_in n at xs ys x is room within =
    let front = take n xs in
    let long : length front ≡ n = length-take-le n xs (omega arith) in
    let part : mid_of at (n + 1 - at) (set xs n x) ≡ drop at front ++ x ∷ [] =
    between_is (set xs n x) at (n + 1) ∙ ap (drop at) (take_more_set xs n x room) ∙ drop-append-le at front (x ∷ []) (omega arith) in
    let turned : ys ≡ x ∷ drop at front = is ∙ ap (λ l. drop (length l - 1) l ++ take (length l - 1) l) part ∙ last_first (drop at front) x in
    ap (λ zs. take (n + 1) (put_mid at (n + 1 - at) (set xs n x) zs)) turned
    ∙ take-put_mid at (n + 1 - at) (set xs n x) (x ∷ drop at front) (n + 1) (let k = length-drop at front in omega arith)
    (let k = length-set xs n x in omega arith)
    ∙ ap (λ us. us ++ x ∷ drop at front) (take-set-le at xs n x within ∙ sym (take-take at n xs within))

-- the same, where `at` is i or, past the end, the end
pub put_in_within : {X : Type 0} (n at i : ℕ) (xs ys : List X) (x : X)
    → ys ≡ drop (length (mid_of at (n + 1 - at) (set xs n x)) - 1) (mid_of at (n + 1 - at) (set xs n x))
    ++ take (length (mid_of at (n + 1 - at) (set xs n x)) - 1) (mid_of at (n + 1 - at) (set xs n x))
    → n < length xs → at ≡ min i n → take (n + 1) (put_mid at (n + 1 - at) (set xs n x) ys) ≡ insert (take n xs) i x
put_in_within n at i xs ys x is room which =
    put_in n at xs ys x is room (omega arith) ∙ insert_within n at i (take n xs) x (length-take-le n xs (omega arith)) which

-- the part from `at` on, with its first behind the others
pub taken_out : {X : Type 0} (n at : ℕ) (xs ys : List X) → ys ≡ drop 1 (mid_of at (n - at) xs) ++ take 1 (mid_of at (n - at) xs)
    → n ≤ length xs → at < n → take (n - 1) (put_mid at (n - at) xs ys) ≡ remove (take n xs) at
taken_out n at xs ys is long low =
    let l = mid_of at (n - at) xs in
    let a = length-take-le at xs (omega arith) in
    let b = length-append (take at xs) (drop 1 l) in
    let c = length-drop 1 l in
    let d = length-take-le (n - at) (drop at xs) (let e = length-drop at xs in omega arith) in
    ap (λ zs. take (n - 1) (put_mid at (n - at) xs zs)) is
    ∙ (ap (λ zs. take (n - 1) (take at xs ++ zs)) (append_assoc (drop 1 l) (take 1 l) (post_of at (n - at) xs))
    ∙ (ap (take (n - 1)) (sym (append_assoc (take at xs) (drop 1 l) (take 1 l ++ post_of at (n - at) xs)))
    ∙ (take_at (take at xs ++ drop 1 l) (take 1 l ++ post_of at (n - at) xs) (n - 1) (omega arith)
    ∙ ap₂ (λ us vs. us ++ vs) (sym (take-take at n xs (omega arith)))
    (ap (drop 1) (between_is xs at n) ∙ (drop-drop 1 at (take n xs) ∙ ap (λ i. drop i (take n xs)) (add-one at))))))

-- the front of a list whose elements are all alike
pub ruleset filling = (take-replicate)

-- the front of a list, one of its elements written over
pub ruleset writing = (take-set-lt)
