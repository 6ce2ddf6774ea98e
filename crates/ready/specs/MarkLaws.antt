-- One mark for each task that stands in the line. So no line is longer than there are tasks. Assumes nothing.
use Rattle.std.specs.Prelude.{◌≡◌, ℕ, zero, suc, ◌+◌, ◌<◌, ◌≤◌, Bool, true, false, cond, ◌||◌, List, [], ◌∷◌, length, get_or, replicate, ◌==◌, slice_index_or, slice_set, refl}
use Rattle.std.proofs.Common.{sym, ap, ◌∙◌, arith}
use Rattle.std.proofs.lemmas.List.{length-set, get_or-replicate, get_or-set_same, get_or-set_other}
use Rattle.std.proofs.lemmas.Bool.{eqb-true, eqb-false, false≢true, ltb-true}
use Rattle.ready.specs.Order.{listed, sound}
use Rattle.ready.specs.declared.task.ReadyTask.{ReadyTask}
use Rattle.ready.specs.LineLaws.{sound_parts}

unfoldable unmarked : List Bool
unmarked = replicate 64 false

-- for each task below 64, whether it stands in the line
abbrev marks_of : List ReadyTask → List Bool
marks_of [] = unmarked
marks_of (x ∷ xs) = slice_set (marks_of xs) x.task true

-- how many marks are set
abbrev trues : List Bool → ℕ
trues [] = 0
trues (b ∷ bs) = cond b 1 0 + trues bs

trues_le : (bs : List Bool) → trues bs ≤ length bs
trues_le [] = omega arith
trues_le (true ∷ bs) = omega (arith, trues_le bs)
trues_le (false ∷ bs) = omega (arith, trues_le bs)

trues_set : (bs : List Bool) (i : ℕ) → i < length bs → slice_index_or bs i false ≡ false → trues (slice_set bs i true) ≡ suc (trues bs)
trues_set [] i h was = absurd (omega arith)
trues_set (true ∷ bs) zero h was = absurd (false≢true (sym was))
trues_set (false ∷ bs) zero h was = omega arith
trues_set (b ∷ bs) (suc i) h was = let later = trues_set bs i (omega arith) was in omega arith

trues_none : (n : ℕ) → trues (replicate n false) ≡ 0
trues_none zero = refl
trues_none (suc n) = let later = trues_none n in omega arith

length-marks : (xs : List ReadyTask) → length (marks_of xs) ≡ 64
unfolding unmarked
length-marks [] = refl
length-marks (x ∷ xs) = length-set (marks_of xs) x.task true ∙ length-marks xs

none_marked : (t : ℕ) → t < 64 → slice_index_or unmarked t false ≡ false
unfolding unmarked
none_marked t h = get_or-replicate 64 t false false h

marked : (xs : List ReadyTask) (t : ℕ) → t < 64 → slice_index_or (marks_of xs) t false ≡ listed t xs
marked [] t h = none_marked t h
marked (x ∷ xs) t h = go (t == x.task) refl (marked xs t h)
  where
    go : (b : Bool) → (t == x.task) ≡ b → slice_index_or (marks_of xs) t false ≡ listed t xs → slice_index_or (slice_set (marks_of xs) x.task true) t false ≡ (b || listed t xs)
    go true e later =
        let same = eqb-true t x.task e in
        let long = length-marks xs in
        ap (λ u. get_or (slice_set (marks_of xs) x.task true) u false) same ∙ get_or-set_same (marks_of xs) x.task true false (omega arith)
    go false e later = get_or-set_other (marks_of xs) x.task t true false (eqb-false t x.task e) ∙ later

trues_marks : (xs : List ReadyTask) → sound xs ≡ true → trues (marks_of xs) ≡ length xs
unfolding unmarked
trues_marks [] h = trues_none 64
trues_marks (x ∷ xs) h =
    let was = sound_parts x xs h in
    let below = ltb-true x.task 64 was.0 in
    let long = length-marks xs in
    let off = marked xs x.task below ∙ was.2 in
    trues_set (marks_of xs) x.task (omega arith) off ∙ ap suc (trues_marks xs was.4)

pub few : (xs : List ReadyTask) → sound xs ≡ true → length xs ≤ 64
few xs h = let n = trues_marks xs h in let le = trues_le (marks_of xs) in let long = length-marks xs in omega arith
