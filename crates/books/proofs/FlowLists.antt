-- Lists of those who wait: who is gone, how many stand in a line, and how full a line can be. Assumes nothing.
use Rattle.std.proofs.Common.{◌≡◌, ℕ, zero, suc, ◌+◌, ◌<◌, ◌≤◌, Bool, true, false, cond, ◌||◌, eqb, ltb, List, [], ◌∷◌, ◌++◌, length, get_or, set, Some, sym, refl, ap, ◌∙◌, subst, arith}
use Rattle.std.proofs.lemmas.Bool.{eqb-true, eqb-false, eq-eqb, ltb-true, or_left, or_right, false≢true}
use Rattle.std.proofs.lemmas.List.{get_or-set_same, get_or-set_other}
use Rattle.std.proofs.ByRecursion.{All-weaker}
use Rattle.std.proofs.lemmas.List.Sums.{sum_by-cons}
use Rattle.std.specs.List.{slice_get, AllByRecursion}
use Rattle.plain.specs.Lookups.{contains, items, occurrences}
use Rattle.plain.specs.Openings.{one_if}
use Rattle.plain.specs.States.{Exchange}
use Rattle.books.specs.Deeds.{gone}
use Rattle.books.specs.Laws.{waiting_in}
use Rattle.books.proofs.Counting.{one_if_le, one_if_positive, items_le_all}
use Rattle.books.proofs.Capacity.{room}
use Rattle.books.proofs.Invariants.{exchange_in}

-- ---- a table after a write

-- to show something of an entry, show it of the one written and of the others
pub at_set : {X : Type 0} (xs : List X) (i : ℕ) (y d : X) (j : ℕ) → i < length xs → (P : ℕ → Bool → X → Type 0)
    → P i true y → ((j ≡ i → ⊥) → P j false (get_or xs j d)) → P j (eqb j i) (get_or (set xs i y) j d)
at_set xs i y d j below P here there = go (eqb j i) refl
  where
    go : (b : Bool) → eqb j i ≡ b → P j b (get_or (set xs i y) j d)
    go true e =
        subst (λ (k : ℕ). P k true (get_or (set xs i y) k d)) (sym (eqb-true j i e))
        (subst (λ x. P i true x) (sym (get_or-set_same xs i y d below)) here)
    go false e =
        let other = eqb-false j i e in
        subst (λ x. P j false x) (sym (get_or-set_other xs i j y d other)) (there other)

pub nth-there : {X : Type 0} (xs : List X) (i : ℕ) → i < length xs → (x : X) × (slice_get xs i ≡ Some x)
nth-there [] i below = absurd (omega arith)
nth-there (x ∷ xs) zero below = (x, refl)
nth-there (x ∷ xs) (suc i) below = nth-there xs i (omega arith)

-- ---- who is gone

pub all_contained : (l : List ℕ) → AllByRecursion (λ t. contains t l ≡ true) l
all_contained [] = tt
all_contained (x ∷ l) = (
  or_left (eqb x x) (contains x l) (eq-eqb x x refl),
  All-weaker (λ t. contains t l ≡ true) (λ t. contains t (x ∷ l) ≡ true) (λ t k. or_right (eqb t x) (contains t l) k) l (all_contained l),
)

contained_front : (t : ℕ) (l k : List ℕ) → contains t l ≡ true → contains t (l ++ k) ≡ true
contained_front t [] k h = absurd (false≢true h)
contained_front t (x ∷ l) k h = go (eqb t x) h (λ e. contained_front t l k e)
  where
    go : (b : Bool) → (b || contains t l) ≡ true → (contains t l ≡ true → contains t (l ++ k) ≡ true) → (b || contains t (l ++ k)) ≡ true
    go true e later = refl
    go false e later = later e

-- those in front are gone, those behind stay
pub gone_front : (d l m : List ℕ) → AllByRecursion (λ t. contains t m ≡ false) d → AllByRecursion (λ t. contains t m ≡ true) l → gone (d ++ l) m ≡ d
gone_front [] [] m out stay = refl
gone_front [] (x ∷ l) m out stay = rw stay.0 (gone_front [] l m tt stay.1)
gone_front (x ∷ d) l m out stay = rw out.0 (ap (λ z. x ∷ z) (gone_front d l m out.1 stay))

-- nobody is gone where all that waited wait, with others behind them
pub gone_none : (l k : List ℕ) → gone l (l ++ k) ≡ []
gone_none l k =
    gone_front [] l (l ++ k) tt
    (All-weaker (λ t. contains t l ≡ true) (λ t. contains t (l ++ k) ≡ true) (λ t h. contained_front t l k h) l (all_contained l))

pub none_contained : (t : ℕ) (l : List ℕ) → occurrences t l ≡ 0 → contains t l ≡ false
none_contained t [] h = refl
none_contained t (x ∷ l) h = go (eqb t x) (sym (sum_by-cons (λ z. cond (eqb t z) 1 0) x l) ∙ h) (λ k. none_contained t l k)
  where
    go : (b : Bool) → cond b 1 0 + occurrences t l ≡ 0 → (occurrences t l ≡ 0 → contains t l ≡ false) → (b || contains t l) ≡ false
    go true e later = absurd (omega arith)
    go false e later = later (omega arith)

-- ---- how many stand in a line

-- ---- how full a line can be

-- where each block waits at most once and b is on its way, no line is full
pub line_room : (n : ℕ) (xs : List Exchange) (w : ℕ → ℕ) → ((b : ℕ) → waiting_in b xs + w b ≤ one_if (ltb b n)) → (e b : ℕ) → 0 < w b
    → length (items (exchange_in xs e)) < n
line_room n xs w h e b there =
    let k = h b in let top = one_if_le (ltb b n) in let i = items_le_all b xs e in
    room (items (exchange_in xs e)) n b (λ c. let k = h c in let i = items_le_all c xs e in omega arith)
    (ltb-true b n (one_if_positive (ltb b n) (omega arith))) (omega arith)
