-- Counting: tests as numbers, and how often a number stands in a line or in all lines. Assumes nothing.
use Rattle.std.proofs.Common.{◌≡◌, ℕ, suc, ◌+◌, ◌<◌, ◌≤◌, Bool, true, false, eqb, List, [], ◌∷◌, ◌++◌, length, sum_by, refl, ap, ◌∙◌, inl, inr, arith}
use Rattle.std.proofs.lemmas.List.{get_or_past}
use Rattle.std.proofs.lemmas.List.Sums.{get_or-le-sum_by, sum_by-cons, sum_by_push}
use Rattle.std.proofs.lemmas.Bool.{cases_lt, eq-eqb}
use Rattle.plain.specs.Lookups.{closed_exchange, items, occurrences, waiting}
use Rattle.plain.specs.Openings.{one_if}
use Rattle.plain.specs.States.{Exchange}
use Rattle.books.specs.Laws.{tasks_waiting_in, waiting_in}
use Rattle.books.proofs.Invariants.{exchange_in}

-- ---- tests as numbers

pub one_if_true : (b : Bool) → b ≡ true → one_if b ≡ 1
one_if_true b e = ap one_if e

pub one_if_false : (b : Bool) → b ≡ false → one_if b ≡ 0
one_if_false b e = ap one_if e

pub one_if_le : (b : Bool) → one_if b ≤ 1
one_if_le true = omega arith
one_if_le false = omega arith

pub one_if_positive : (b : Bool) → 0 < one_if b → b ≡ true
one_if_positive true h = refl
one_if_positive false h = absurd (omega arith)

pub one_if_zero : (b : Bool) → one_if b ≡ 0 → b ≡ false
one_if_zero true h = absurd (omega arith)
one_if_zero false h = refl

pub one_if_same : (t : ℕ) → one_if (eqb t t) ≡ 1
one_if_same t = ap one_if (eq-eqb t t refl)

-- ---- one line

pub occurrences_cons : (t x : ℕ) (l : List ℕ) → occurrences t (x ∷ l) ≡ one_if (eqb t x) + occurrences t l
occurrences_cons t x l = sum_by-cons (λ z. one_if (eqb t z)) x l

pub occurrences_first : (t : ℕ) (l : List ℕ) → occurrences t (t ∷ l) ≡ suc (occurrences t l)
occurrences_first t l = let k = occurrences_cons t t l in let e = one_if_same t in omega arith

pub occurrences_push : (t : ℕ) (l : List ℕ) (x : ℕ) → occurrences t (l ++ x ∷ []) ≡ occurrences t l + one_if (eqb t x)
occurrences_push t l x = sum_by_push (λ z. one_if (eqb t z)) l x

-- ---- all lines

-- one line has no more than all of them; past the end there is a closed exchange
pub line_le_all : (f : Exchange → List ℕ) → f closed_exchange ≡ [] → (t : ℕ) (xs : List Exchange) (e : ℕ)
    → occurrences t (f (exchange_in xs e)) ≤ sum_by (λ x. occurrences t (f x)) xs
line_le_all f none t xs e =
    elim (cases_lt e (length xs)) [
      | inl below ↦ get_or-le-sum_by (λ x. occurrences t (f x)) xs e closed_exchange below
      | inr past ↦
          let k : occurrences t (f (exchange_in xs e)) ≡ 0 = ap (λ x. occurrences t (f x)) (get_or_past xs e closed_exchange past) ∙ ap (occurrences t) none in
          omega arith
    ]

pub waiting_le_all : (t : ℕ) (xs : List Exchange) (e : ℕ) → occurrences t (waiting (exchange_in xs e)) ≤ tasks_waiting_in t xs
waiting_le_all t xs e = line_le_all waiting refl t xs e

pub items_le_all : (b : ℕ) (xs : List Exchange) (e : ℕ) → occurrences b (items (exchange_in xs e)) ≤ waiting_in b xs
items_le_all b xs e = line_le_all items refl b xs e
