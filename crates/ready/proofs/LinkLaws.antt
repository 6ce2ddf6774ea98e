-- Lines that are linked through a table: one task more at a line's end, and one less at the front of the best. Assumes nothing.
use Rattle.std.proofs.Common.{◌≡◌, ℕ, zero, suc, ◌+◌, ◌<◌, ◌≤◌, Bool, true, false, cond, eqb, List, [], ◌∷◌, ◌++◌, length, get_or, map, set, sym, refl, ap, ◌∙◌, ap₂, arith}
use Rattle.std.proofs.Math.ListN.{get_or-map}
use Rattle.std.proofs.lemmas.List.{get_or-set_same, get_or-set_other, length-append, length-map}
use Rattle.std.proofs.lemmas.Bool.{eqb-true, eqb-false, eq-eqb, le-leb, lt-leb, or_parts, or_left, or_right, both_ways}
use Rattle.ready.specs.Links.{walk, pairs, flat, last_of, ends}
use Rattle.ready.specs.Order.{pair, listed, sound, behind}
use Rattle.ready.specs.Tables.{empty, tasks_of}
use Rattle.ready.specs.declared.lines.table.Chain.{Chain}
use Rattle.ready.specs.declared.task.ReadyTask.{ReadyTask}
use Rattle.ready.specs.LineLaws.{sound_parts, listed_append, not_listed_parts, sound_left, sound_right, apart, apart_right}

-- ---- the lines one behind the other

later_first : (t p k : ℕ) (ls : List (List ℕ)) → p < k → behind t p (flat k ls) ≡ pair t p ∷ flat k ls
later_first t p k [] h = refl
later_first t p k ([] ∷ ls) h = later_first t p (k + 1) ls (omega arith)
later_first t p k ((u ∷ us) ∷ ls) h =
    ap (λ b. cond b (pair u k ∷ behind t p (pairs k us ++ flat (k + 1) ls)) (pair t p ∷ flat k ((u ∷ us) ∷ ls))) (lt-leb k p h)

passes : (t p k : ℕ) (us : List ℕ) (xs : List ReadyTask) → k ≤ p → behind t p (pairs k us ++ xs) ≡ pairs k us ++ behind t p xs
passes t p k [] xs h = refl
passes t p k (u ∷ us) xs h =
    ap (λ b. cond b (pair u k ∷ behind t p (pairs k us ++ xs)) (pair t p ∷ pair u k ∷ (pairs k us ++ xs))) (le-leb k p h)
    ∙ ap (λ ys. pair u k ∷ ys) (passes t p k us xs h)

pairs_push : (k t : ℕ) (us : List ℕ) (xs : List ReadyTask) → pairs k (us ++ (t ∷ [])) ++ xs ≡ pairs k us ++ (pair t k ∷ xs)
pairs_push k t [] xs = refl
pairs_push k t (u ∷ us) xs = ap (λ ys. pair u k ∷ ys) (pairs_push k t us xs)

-- one more at the end of line p is one more behind all of the same or a smaller number
pub flat_join : (t p k q : ℕ) (ls : List (List ℕ)) → p < length ls → q ≡ k + p
    → flat k (set ls p (get_or ls p [] ++ (t ∷ []))) ≡ behind t q (flat k ls)
flat_join t p k q [] h e = absurd (omega arith)
flat_join t zero k q (l ∷ ls) h e =
    let same : k ≡ q = omega arith in
    pairs_push k t l (flat (k + 1) ls) ∙ (ap (λ n. pairs k l ++ (pair t n ∷ flat (k + 1) ls)) same
    ∙ (ap (λ ys. pairs k l ++ ys) (sym (later_first t q (k + 1) ls (omega arith))) ∙ sym (passes t q k l (flat (k + 1) ls) (omega arith))))
flat_join t (suc p) k q (l ∷ ls) h e =
    ap (λ ys. pairs k l ++ ys) (flat_join t p (k + 1) q ls (omega arith) (omega arith)) ∙ sym (passes t q k l (flat (k + 1) ls) (omega arith))

-- ---- the tables and the lines

pub lines_at : (next : List ℕ) (cs : List Chain) (p : ℕ) → get_or (map (tasks_of next) cs) p [] ≡ tasks_of next (get_or cs p empty)
lines_at next cs p = get_or-map (tasks_of next) cs p empty

pub length-lines : (next : List ℕ) (cs : List Chain) → length (map (tasks_of next) cs) ≡ length cs
length-lines next cs = length-map cs (tasks_of next)

pub length-walk : (next : List ℕ) (n f : ℕ) → length (walk next n f) ≡ n
length-walk next zero f = refl
length-walk next (suc n) f = ap suc (length-walk next n (get_or next f 0))

-- where no line has a task, none stands in all of them
pub no_line : (next : List ℕ) (k : ℕ) (cs : List Chain) → ((i : ℕ) → i < length cs → (get_or cs i empty).len ≡ 0) → flat k (map (tasks_of next) cs) ≡ []
no_line next k [] none = refl
no_line next k (c ∷ cs) none =
    ap (λ n. pairs k (walk next n c.first) ++ flat (k + 1) (map (tasks_of next) cs)) (none 0 (omega arith))
    ∙ no_line next (k + 1) cs (λ i lt. none (suc i) (omega arith))

-- ---- a link that no line reads is free to change

walk_frame : (next : List ℕ) (r t k n f : ℕ) → listed r (pairs k (walk next n f)) ≡ false → walk (set next r t) n f ≡ walk next n f
walk_frame next r t k zero f h = refl
walk_frame next r t k (suc n) f h =
    let parts = or_parts (eqb r f) (listed r (pairs k (walk next n (get_or next f 0)))) h in
    let same : get_or (set next r t) f 0 ≡ get_or next f 0 = get_or-set_other next r f t 0 (λ e. eqb-false r f parts.0 (sym e)) in
    ap (λ u. f ∷ walk (set next r t) n u) same ∙ ap (λ us. f ∷ us) (walk_frame next r t k n (get_or next f 0) parts.1)

lines_frame : (next : List ℕ) (r t k : ℕ) (cs : List Chain) → listed r (flat k (map (tasks_of next) cs)) ≡ false
    → map (tasks_of (set next r t)) cs ≡ map (tasks_of next) cs
lines_frame next r t k [] h = refl
lines_frame next r t k (c ∷ cs) h =
    let parts = not_listed_parts r (pairs k (tasks_of next c)) (flat (k + 1) (map (tasks_of next) cs)) h in
    ap₂ (λ l ls. l ∷ ls) (walk_frame next r t k c.len c.first parts.0) (lines_frame next r t (k + 1) cs parts.1)

-- ---- one more behind a line's last

last_listed : (k r : ℕ) (ts : List ℕ) → 0 < length ts → ends ts r ≡ true → listed r (pairs k ts) ≡ true
last_listed k r [] some h = absurd (omega arith)
last_listed k r (t ∷ []) some h = or_left (eqb r t) false (eq-eqb r t (sym (eqb-true t r h)))
last_listed k r (t ∷ u ∷ us) some h = or_right (eqb r t) (listed r (pairs k (u ∷ us))) (last_listed k r (u ∷ us) (omega arith) h)

pub at_listed : (r k p : ℕ) (ls : List (List ℕ)) → 0 < length (get_or ls p []) → ends (get_or ls p []) r ≡ true → listed r (flat k ls) ≡ true
at_listed r k p [] some last = absurd (omega arith)
at_listed r k zero (l ∷ ls) some last =
    listed_append r (pairs k l) (flat (k + 1) ls) ∙ or_left (listed r (pairs k l)) _ (last_listed k r l some last)
at_listed r k (suc p) (l ∷ ls) some last =
    listed_append r (pairs k l) (flat (k + 1) ls) ∙ or_right (listed r (pairs k l)) _ (at_listed r (k + 1) p ls some last)

walk_more : (next : List ℕ) (r t k n f : ℕ) → r < length next → sound (pairs k (walk next (suc n) f)) ≡ true
    → ends (walk next (suc n) f) r ≡ true → walk (set next r t) (suc (suc n)) f ≡ walk next (suc n) f ++ (t ∷ [])
walk_more next r t k zero f h s e =
    let same = eqb-true f r e in
    ap (λ u. f ∷ u ∷ []) (ap (λ u. get_or (set next r t) u 0) same ∙ get_or-set_same next r t 0 h)
walk_more next r t k (suc n) f h s e =
    let was = sound_parts (pair f k) (pairs k (walk next (suc n) (get_or next f 0))) s in
    let there = last_listed k r (walk next (suc n) (get_or next f 0)) (omega arith) e in
    let other : f ≡ r → ⊥ = λ same. both_ways _ was.2 (ap (λ u. listed u (pairs k (walk next (suc n) (get_or next f 0)))) same ∙ there) in
    let kept : get_or (set next r t) f 0 ≡ get_or next f 0 = get_or-set_other next r f t 0 other in
    ap (λ u. f ∷ walk (set next r t) (suc (suc n)) u) kept ∙ ap (λ us. f ∷ us) (walk_more next r t k n (get_or next f 0) h was.4 e)

walk_longer : (next : List ℕ) (r t k n m f g : ℕ) → 0 < n → m ≡ n + 1 → g ≡ f → r < length next → sound (pairs k (walk next n f)) ≡ true
    → ends (walk next n f) r ≡ true → walk (set next r t) m g ≡ walk next n f ++ (t ∷ [])
walk_longer next r t k zero m f g some count same h s last = absurd (omega arith)
walk_longer next r t k (suc n) m f g some count same h s last =
    let more : m ≡ suc (suc n) = omega arith in
    ap₂ (λ a b. walk (set next r t) a b) more same ∙ walk_more next r t k n f h s last

pub lines_follow : (next : List ℕ) (r t k p : ℕ) (cs : List Chain) (c : Chain) → r < length next → sound (flat k (map (tasks_of next) cs)) ≡ true
    → 0 < (get_or cs p empty).len → c.len ≡ (get_or cs p empty).len + 1 → c.first ≡ (get_or cs p empty).first
    → ends (tasks_of next (get_or cs p empty)) r ≡ true
    → map (tasks_of (set next r t)) (set cs p c) ≡ set (map (tasks_of next) cs) p (tasks_of next (get_or cs p empty) ++ (t ∷ []))
lines_follow next r t k p [] c h s some count same last = absurd (omega arith)
lines_follow next r t k zero (b ∷ cs) c h s some count same last =
    let long = length-walk next b.len b.first in
    let there = last_listed k r (tasks_of next b) (omega arith) last in
    let off = apart r (pairs k (tasks_of next b)) (flat (k + 1) (map (tasks_of next) cs)) s there in
    ap₂ (λ l ls. l ∷ ls)
    (walk_longer next r t k b.len c.len b.first c.first some count same h (sound_left (pairs k (tasks_of next b)) (flat (k + 1) (map (tasks_of next) cs)) s) last)
    (lines_frame next r t (k + 1) cs off)
lines_follow next r t k (suc p) (b ∷ cs) c h s some count same last =
    let at = lines_at next cs p in
    let long = length-walk next (get_or cs p empty).len (get_or cs p empty).first in
    let there = at_listed r (k + 1) p (map (tasks_of next) cs) (omega (arith, ap length at)) (ap (λ l. ends l r) at ∙ last) in
    let off = apart_right r (pairs k (tasks_of next b)) (flat (k + 1) (map (tasks_of next) cs)) s there in
    ap₂ (λ l ls. l ∷ ls) (walk_frame next r t k b.len b.first off)
    (lines_follow next r t (k + 1) p cs c h (sound_right (pairs k (tasks_of next b)) (flat (k + 1) (map (tasks_of next) cs)) s) some count same last)

-- ---- the first of the best line

pub pulled : (next : List ℕ) (k p q : ℕ) (cs : List Chain) (c : Chain) → p < length cs → ((i : ℕ) → i < p → (get_or cs i empty).len ≡ 0)
    → (get_or cs p empty).len ≡ suc c.len → c.first ≡ get_or next (get_or cs p empty).first 0 → q ≡ k + p
    → flat k (map (tasks_of next) cs) ≡ pair (get_or cs p empty).first q ∷ flat k (map (tasks_of next) (set cs p c))
pulled next k p q [] c h none count first is = absurd (omega arith)
pulled next k zero q (b ∷ cs) c h none count first is =
    let same : k ≡ q = omega arith in
    ap (λ n. pairs k (walk next n b.first) ++ flat (k + 1) (map (tasks_of next) cs)) count
    ∙ ap₂ (λ m f. pair b.first m ∷ (pairs k (walk next c.len f) ++ flat (k + 1) (map (tasks_of next) cs))) same (sym first)
pulled next k (suc p) q (b ∷ cs) c h none count first is =
    let off : b.len ≡ 0 = none 0 (omega arith) in
    ap (λ n. pairs k (walk next n b.first) ++ flat (k + 1) (map (tasks_of next) cs)) off
    ∙ (pulled next (k + 1) p q cs c (omega arith) (λ i lt. none (suc i) (omega arith)) count first (omega arith)
    ∙ ap (λ n. pair (get_or cs p empty).first q ∷ (pairs k (walk next n b.first) ++ flat (k + 1) (map (tasks_of next) (set cs p c)))) (sym off))

-- ---- the marks of the last

pub ends_rest : (t r : ℕ) (ts : List ℕ) → ends (t ∷ ts) r ≡ true → ends ts r ≡ true
ends_rest t r [] h = refl
ends_rest t r (u ∷ us) h = h

last_push : (t u : ℕ) (us : List ℕ) → last_of u (us ++ (t ∷ [])) ≡ t
last_push t u [] = refl
last_push t u (v ∷ us) = last_push t v us

pub ends_push : (t : ℕ) (us : List ℕ) → ends (us ++ (t ∷ [])) t ≡ true
ends_push t [] = eq-eqb t t refl
ends_push t (u ∷ us) = eq-eqb (last_of u (us ++ (t ∷ []))) t (last_push t u us)

-- one line changes, and its last is noted
pub ends_set : (next after : List ℕ) (cs : List Chain) (p : ℕ) (c : Chain) (l : List ℕ) → p < length cs
    → map (tasks_of after) (set cs p c) ≡ set (map (tasks_of next) cs) p l
    → ((q : ℕ) → ends (tasks_of next (get_or cs q empty)) (get_or cs q empty).last ≡ true) → ends l c.last ≡ true
    → (q : ℕ) → ends (tasks_of after (get_or (set cs p c) q empty)) (get_or (set cs p c) q empty).last ≡ true
ends_set next after cs p c l h is all here q =
    ap (λ ts. ends ts (get_or (set cs p c) q empty).last) (sym (lines_at after (set cs p c) q) ∙ ap (λ ls. get_or ls q []) is) ∙ go (eqb q p) refl
  where
    long : length (map (tasks_of next) cs) ≡ length cs
    long = length-lines next cs

    go : (b : Bool) → eqb q p ≡ b → ends (get_or (set (map (tasks_of next) cs) p l) q []) (get_or (set cs p c) q empty).last ≡ true
    go true e =
        let same = eqb-true q p e in
        ap (λ n. ends (get_or (set (map (tasks_of next) cs) p l) n []) (get_or (set cs p c) n empty).last) same
        ∙ (ap₂ (λ ts b. ends ts b.last) (get_or-set_same (map (tasks_of next) cs) p l [] (omega (arith, long))) (get_or-set_same cs p c empty h) ∙ here)
    go false e =
        let other = eqb-false q p e in
        ap₂ (λ ts b. ends ts b.last) (get_or-set_other (map (tasks_of next) cs) p q l [] other ∙ lines_at next cs q) (get_or-set_other cs p q c empty other)
        ∙ all q

length_pairs : (k : ℕ) (l : List ℕ) → length (pairs k l) ≡ length l
length_pairs k [] = refl
length_pairs k (t ∷ ts) = ap suc (length_pairs k ts)

-- no line is longer than all of them
pub line_le : (k p : ℕ) (ls : List (List ℕ)) → length (get_or ls p []) ≤ length (flat k ls)
line_le k p [] = omega arith
line_le k zero (l ∷ ls) = let n = length-append (pairs k l) (flat (k + 1) ls) in let m = length_pairs k l in omega arith
line_le k (suc p) (l ∷ ls) = let n = length-append (pairs k l) (flat (k + 1) ls) in let later = line_le (k + 1) p ls in omega arith
