-- A sorted line: the questions, and one more. Assumes nothing.
use Rattle.std.proofs.Common.{◌≡◌, ℕ, zero, suc, ◌+◌, ◌<◌, ◌≤◌, Bool, true, false, cond, ◌||◌, eqb, leb, List, [], ◌∷◌, length, get_or, sym, refl, ap, ◌∙◌, ap₂, one-add, arith}
use Rattle.std.proofs.lemmas.Bool.{leb-true, le-leb, lt-ltb}
use Rattle.std.proofs.lemmas.Bool.Decides.{nat_tests}
use Rattle.std.proofs.lemmas.List.Sums.{prefix_len_is}
use Rattle.std.specs.List.{insert, list_any}
use Rattle.std.specs.List.Sorted.{IsPartitionedBy, IsPartitionPoint}
use Rattle.fixed.specs.FixedVecs.{with_room}
use Rattle.ready.specs.Order.{pair, behind, joined, listed, sound}
use Rattle.ready.specs.Sorting.{ahead, goes_before}
use Rattle.ready.specs.declared.task.ReadyTask.{ReadyTask}
use Rattle.ready.specs.LineLaws.{length-behind, may_join_yes, sound_behind, sound_parts, sound_rest}
use Rattle.ready.specs.MarkLaws.{few}

-- ---- what is asked of the line

eqb_comm : (a b : ℕ) → eqb a b ≡ eqb b a
eqb_comm a b = grind (arith, nat_tests)

pub list_any-task : (t : ℕ) (xs : List ReadyTask) → list_any (λ x. eqb x.task t) xs ≡ listed t xs
list_any-task t [] = refl
list_any-task t (x ∷ xs) = ap₂ (λ a b. a || b) (eqb_comm x.task t) (list_any-task t xs)

-- the smaller numbers stand in front
sound_first : (x : ReadyTask) (xs : List ReadyTask) (p j : ℕ) (d : ReadyTask) → sound (x ∷ xs) ≡ true → j < length xs
    → goes_before p (get_or xs j d) ≡ true → goes_before p x ≡ true
sound_first x [] p j d h lt e = absurd (omega arith)
sound_first x (y ∷ ys) p zero d h lt e =
    let up = leb-true x.priority y.priority (sound_parts x (y ∷ ys) h).3 in
    let le = leb-true y.priority p e in
    le-leb x.priority p (omega arith)
sound_first x (y ∷ ys) p (suc j) d h lt e =
    let later = sound_first y ys p j d (sound_rest x (y ∷ ys) h) (omega arith) e in
    let up = leb-true x.priority y.priority (sound_parts x (y ∷ ys) h).3 in
    let le = leb-true y.priority p later in
    le-leb x.priority p (omega arith)

pub sound_parted : (p : ℕ) (xs : List ReadyTask) → sound xs ≡ true → IsPartitionedBy (goes_before p) xs
sound_parted p [] h i j d le lt e = absurd (omega arith)
sound_parted p (x ∷ xs) h zero zero d le lt e = e
sound_parted p (x ∷ xs) h zero (suc j) d le lt e = sound_first x xs p j d h (omega arith) e
sound_parted p (x ∷ xs) h (suc i) zero d le lt e = absurd (omega arith)
sound_parted p (x ∷ xs) h (suc i) (suc j) d le lt e = sound_parted p xs (sound_rest x xs h) i j d (omega arith) (omega arith) e

-- where those that run before it end is how many they are
pub ahead_from_point : (p : ℕ) (xs : List ReadyTask) (i : ℕ) → i ≤ length xs
    → IsPartitionPoint (λ x. goes_before p x ≡ true) (λ x. goes_before p x ≡ false) xs i → i ≡ ahead p xs
ahead_from_point p xs i le point =
    sym (prefix_len_is (goes_before p) xs i (pair 0 0) le (λ k lt. point.0 k (pair 0 0) (omega arith) lt) (λ lt. point.1 i (pair 0 0) (omega arith) lt))

-- ---- one more

-- behind those that run before it is where a pair belongs
pub behind_ahead : (t p : ℕ) (xs : List ReadyTask) → behind t p xs ≡ insert xs (ahead p xs) (pair t p)
behind_ahead t p [] = refl
behind_ahead t p (x ∷ xs) = go (leb x.priority p) (behind_ahead t p xs)
  where
    go : (b : Bool) → behind t p xs ≡ insert xs (ahead p xs) (pair t p)
        → cond b (x ∷ behind t p xs) (pair t p ∷ x ∷ xs) ≡ insert (x ∷ xs) (cond b (1 + ahead p xs) 0) (pair t p)
    go true later = ap (λ ys. x ∷ ys) later ∙ ap (λ m. insert (x ∷ xs) m (pair t p)) (sym (one-add (ahead p xs)))
    go false later = refl

-- a pair that may join, at its place in what was seen of the line: the line after, which is sound
pub joins : (t p at : ℕ) (l seen after : List ReadyTask) → sound l ≡ true → t < 64 → p < 32 → seen ≡ l → false ≡ listed t seen → at ≡ ahead p seen
    → after ≡ with_room 64 l (insert l at (pair t p)) → (after ≡ joined t p l) × (sound after ≡ true)
joins t p at l seen after ordered t_fits p_fits same not_seen place is =
    (line ∙ sym (ap (λ b. cond b (behind t p l) l) (may_join_yes t p l t_fits p_fits new)), ap sound line ∙ still)
  where
    new : listed t l ≡ false
    new = sym (not_seen ∙ ap (listed t) same)

    still : sound (behind t p l) ≡ true
    still = sound_behind t p l (lt-ltb t 64 t_fits) (lt-ltb p 32 p_fits) new ordered

    -- where one may join, there is a place left
    room : length l < 64
    room = omega (arith, few (behind t p l) still, length-behind t p l)

    line : after ≡ behind t p l
    line =
        is ∙ (ap₂ (λ b n. cond b (insert l n (pair t p)) l) (lt-ltb (length l) 64 room) (place ∙ ap (ahead p) same)
        ∙ sym (behind_ahead t p l))
