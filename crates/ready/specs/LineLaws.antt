-- The line of ready tasks: what stays sound, and what stands in it. Assumes nothing.
use Rattle.std.specs.Prelude.{◌≡◌, ℕ, suc, ◌<◌, Bool, true, false, cond, not, ◌&&◌, ◌||◌, List, [], ◌∷◌, ◌++◌, length, ◌==◌, nat_le, nat_lt, refl}
use Rattle.std.proofs.Common.{sym, ap, ◌∙◌, arith}
use Rattle.std.proofs.lemmas.Bool.{and_parts, and_from, not-true, not_from_false, or_parts, or_from, eqb-true, ne_eqb, eqb-false, leb-false, le-leb, lt-ltb, ltb-true, false≢true}
use Rattle.ready.specs.Order.{pair, listed, from, sound, behind, may_join}
use Rattle.ready.specs.declared.task.ReadyTask.{ReadyTask}

pub sound_parts : (x : ReadyTask) (xs : List ReadyTask) → sound (x ∷ xs) ≡ true
    → (nat_lt x.task 64 ≡ true) × (nat_lt x.priority 32 ≡ true) × (listed x.task xs ≡ false) × (from x.priority xs ≡ true) × (sound xs ≡ true)
sound_parts x xs h =
    let a = and_parts (nat_lt x.task 64 && nat_lt x.priority 32) ((not (listed x.task xs) && from x.priority xs) && sound xs) h in
    let b = and_parts (nat_lt x.task 64) (nat_lt x.priority 32) a.0 in
    let c = and_parts (not (listed x.task xs) && from x.priority xs) (sound xs) a.1 in
    let d = and_parts (not (listed x.task xs)) (from x.priority xs) c.0 in
    (b.0, b.1, not-true (listed x.task xs) d.0, d.1, c.1)

pub sound_made : (x : ReadyTask) (xs : List ReadyTask) → nat_lt x.task 64 ≡ true → nat_lt x.priority 32 ≡ true
    → listed x.task xs ≡ false → from x.priority xs ≡ true → sound xs ≡ true → sound (x ∷ xs) ≡ true
sound_made x xs a b c d e =
    and_from (nat_lt x.task 64 && nat_lt x.priority 32) ((not (listed x.task xs) && from x.priority xs) && sound xs)
    (and_from (nat_lt x.task 64) (nat_lt x.priority 32) a b)
    (and_from (not (listed x.task xs) && from x.priority xs) (sound xs)
    (and_from (not (listed x.task xs)) (from x.priority xs) (not_from_false (listed x.task xs) c) d) e)

pub sound_rest : (x : ReadyTask) (xs : List ReadyTask) → sound (x ∷ xs) ≡ true → sound xs ≡ true
sound_rest x xs h = (sound_parts x xs h).4

-- who stands in the line is the one that joined, and who stood there
pub listed-behind : (u t p : ℕ) (xs : List ReadyTask) → listed u (behind t p xs) ≡ (u == t || listed u xs)
listed-behind u t p [] = refl
listed-behind u t p (x ∷ xs) = go (nat_le x.priority p) (listed-behind u t p xs)
  where
    swap : (a b c : Bool) → (a || (b || c)) ≡ (b || (a || c))
    swap true true c = refl
    swap true false c = refl
    swap false b c = refl

    go : (b : Bool) → listed u (behind t p xs) ≡ (u == t || listed u xs)
        → listed u (cond b (x ∷ behind t p xs) (pair t p ∷ x ∷ xs)) ≡ (u == t || (u == x.task || listed u xs))
    go true later = ap (λ d. u == x.task || d) later ∙ swap (u == x.task) (u == t) (listed u xs)
    go false later = refl

from_behind : (q t p : ℕ) (xs : List ReadyTask) → nat_le q p ≡ true → from q xs ≡ true → from q (behind t p xs) ≡ true
from_behind q t p [] le h = le
from_behind q t p (x ∷ xs) le h = go (nat_le x.priority p)
  where
    go : (b : Bool) → from q (cond b (x ∷ behind t p xs) (pair t p ∷ x ∷ xs)) ≡ true
    go true = h
    go false = le

other_task : (u t : ℕ) → (t == u) ≡ false → (u == t) ≡ false
other_task u t h = ne_eqb u t (λ e. eqb-false t u h (sym e))

pub sound_behind : (t p : ℕ) (xs : List ReadyTask) → nat_lt t 64 ≡ true → nat_lt p 32 ≡ true → listed t xs ≡ false → sound xs ≡ true
    → sound (behind t p xs) ≡ true
sound_behind t p [] a b none h = sound_made (pair t p) [] a b refl refl refl
sound_behind t p (x ∷ xs) a b none h = go (nat_le x.priority p) refl (sound_behind t p xs a b parts.1 was.4)
  where
    parts : ((t == x.task) ≡ false) × (listed t xs ≡ false)
    parts = or_parts (t == x.task) (listed t xs) none

    was : (nat_lt x.task 64 ≡ true) × (nat_lt x.priority 32 ≡ true) × (listed x.task xs ≡ false) × (from x.priority xs ≡ true) × (sound xs ≡ true)
    was = sound_parts x xs h

    go : (b : Bool) → nat_le x.priority p ≡ b → sound (behind t p xs) ≡ true → sound (cond b (x ∷ behind t p xs) (pair t p ∷ x ∷ xs)) ≡ true
    go true e later =
        sound_made x (behind t p xs) was.0 was.1 (listed-behind x.task t p xs ∙ or_from (x.task == t) (listed x.task xs) (other_task x.task t parts.0) was.2)
        (from_behind x.priority t p xs e was.3) later
    go false e later =
        let over = leb-false x.priority p e in
        sound_made (pair t p) (x ∷ xs) a b none (le-leb p x.priority (omega arith)) h

pub may_join_yes : (t p : ℕ) (xs : List ReadyTask) → t < 64 → p < 32 → listed t xs ≡ false → may_join t p xs ≡ true
may_join_yes t p xs a b new =
    and_from (nat_lt t 64) (nat_lt p 32 && not (listed t xs)) (lt-ltb t 64 a)
    (and_from (nat_lt p 32) (not (listed t xs)) (lt-ltb p 32 b) (not_from_false (listed t xs) new))

pub length-behind : (t p : ℕ) (xs : List ReadyTask) → length (behind t p xs) ≡ suc (length xs)
length-behind t p [] = refl
length-behind t p (x ∷ xs) = go (nat_le x.priority p) (length-behind t p xs)
  where
    go : (b : Bool) → length (behind t p xs) ≡ suc (length xs) → length (cond b (x ∷ behind t p xs) (pair t p ∷ x ∷ xs)) ≡ suc (suc (length xs))
    go true later = ap suc later
    go false later = refl

-- a task that stands in the line is in range
pub listed_below : (u : ℕ) (xs : List ReadyTask) → sound xs ≡ true → listed u xs ≡ true → u < 64
listed_below u [] h there = absurd (false≢true there)
listed_below u (x ∷ xs) h there = go (u == x.task) refl there (λ k. listed_below u xs was.4 k)
  where
    was : (nat_lt x.task 64 ≡ true) × (nat_lt x.priority 32 ≡ true) × (listed x.task xs ≡ false) × (from x.priority xs ≡ true) × (sound xs ≡ true)
    was = sound_parts x xs h

    go : (b : Bool) → (u == x.task) ≡ b → (b || listed u xs) ≡ true → (listed u xs ≡ true → u < 64) → u < 64
    go true e k later = let same = eqb-true u x.task e in let below = ltb-true x.task 64 was.0 in omega arith
    go false e k later = later k

-- ---- two lines one behind the other

pub listed_append : (u : ℕ) (xs ys : List ReadyTask) → listed u (xs ++ ys) ≡ (listed u xs || listed u ys)
listed_append u [] ys = refl
listed_append u (x ∷ xs) ys = go (u == x.task) (listed_append u xs ys)
  where
    go : (b : Bool) → listed u (xs ++ ys) ≡ (listed u xs || listed u ys) → (b || listed u (xs ++ ys)) ≡ ((b || listed u xs) || listed u ys)
    go true e = refl
    go false e = e

pub not_listed_parts : (u : ℕ) (xs ys : List ReadyTask) → listed u (xs ++ ys) ≡ false → (listed u xs ≡ false) × (listed u ys ≡ false)
not_listed_parts u xs ys h = or_parts (listed u xs) (listed u ys) (sym (listed_append u xs ys) ∙ h)

pub sound_left : (xs ys : List ReadyTask) → sound (xs ++ ys) ≡ true → sound xs ≡ true
sound_left [] ys h = refl
sound_left (x ∷ xs) ys h =
    let was = sound_parts x (xs ++ ys) h in
    sound_made x xs was.0 was.1 (not_listed_parts x.task xs ys was.2).0 (front xs was.3) (sound_left xs ys was.4)
  where
    front : (zs : List ReadyTask) → from x.priority (zs ++ ys) ≡ true → from x.priority zs ≡ true
    front [] k = refl
    front (z ∷ zs) k = k

pub sound_right : (xs ys : List ReadyTask) → sound (xs ++ ys) ≡ true → sound ys ≡ true
sound_right [] ys h = h
sound_right (x ∷ xs) ys h = sound_right xs ys (sound_parts x (xs ++ ys) h).4

-- a task that stands in one of them does not stand in the other
pub apart : (u : ℕ) (xs ys : List ReadyTask) → sound (xs ++ ys) ≡ true → listed u xs ≡ true → listed u ys ≡ false
apart u [] ys h there = absurd (false≢true there)
apart u (x ∷ xs) ys h there = go (u == x.task) refl there (λ k. apart u xs ys was.4 k)
  where
    was : (nat_lt x.task 64 ≡ true) × (nat_lt x.priority 32 ≡ true) × (listed x.task (xs ++ ys) ≡ false) × (from x.priority (xs ++ ys) ≡ true) × (sound (xs ++ ys) ≡ true)
    was = sound_parts x (xs ++ ys) h

    go : (b : Bool) → (u == x.task) ≡ b → (b || listed u xs) ≡ true → (listed u xs ≡ true → listed u ys ≡ false) → listed u ys ≡ false
    go true e k later = ap (λ v. listed v ys) (eqb-true u x.task e) ∙ (not_listed_parts x.task xs ys was.2).1
    go false e k later = later k

pub apart_right : (u : ℕ) (xs ys : List ReadyTask) → sound (xs ++ ys) ≡ true → listed u ys ≡ true → listed u xs ≡ false
apart_right u xs ys h there = go (listed u xs) refl
  where
    go : (b : Bool) → listed u xs ≡ b → b ≡ false
    go true e = sym there ∙ apart u xs ys h e
    go false e = refl
