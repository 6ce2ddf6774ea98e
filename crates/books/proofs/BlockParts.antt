-- A list with one place changed, lines, and counts of them: what the moves of blocks rest on. Assumes nothing.
use Rattle.std.proofs.Common.{◌≡◌, ℕ, ◌+◌, ◌<◌, Bool, true, false, cond, not, ◌&&◌, eqb, ltb, leb, List, [], ◌∷◌, ◌++◌, length, get_or, set, is_some, Some, None, count_by, Option, sym, refl, ap, subst, ⊎_elim, arith}
use Rattle.std.proofs.lemmas.List.{get_or-set_other, get_or-set_same}
use Rattle.std.proofs.lemmas.List.Sums.{sum_by-cons, sum_by_push}
use Rattle.std.proofs.lemmas.Bool.{and_cases, both_ways, cases_eq, eq-eqb, eqb-true, false≢true, lt-ltb, ne_eqb, not-false}
use Rattle.std.specs.List.{AllByRecursion}
use Rattle.plain.specs.Lookups.{alarm_in, first_of, is_number, items, items_in, occurrences, tasks_in, tied_in, waiting}
use Rattle.plain.specs.Effects.{due, is_due, lowered, still_running, without_alarm, without_name}
use Rattle.plain.specs.Moves.{behind_first, joins, without_first}
use Rattle.plain.specs.Openings.{one_if}
use Rattle.plain.specs.Reasons.{positive}
use Rattle.plain.specs.States.{Exchange}
use Rattle.plain.specs.declared.records.AlarmRecord.{AlarmRecord}
use Rattle.plain.specs.declared.records.Binding.{Binding}
use Rattle.plain.specs.declared.records.Holds.{Holds}
use Rattle.plain.specs.declared.records.Holds.TheVariants.{Items, Tasks}
use Rattle.messages.specs.Bytes.{same_bytes}
use Rattle.books.specs.Laws.{alarms_in}
use Rattle.books.proofs.Counting.{one_if_true, one_if_false}

-- ---- one place changed

-- what holds of the new value and of every other place holds of every place
pub set_cases : {A : Type 0} (l : List A) (k : ℕ) (a d : A) → k < length l → (P : ℕ → A → Type 0) → P k a
    → ((b : ℕ) → (b ≡ k → ⊥) → P b (get_or l b d)) → (b : ℕ) → P b (get_or (set l k a) b d)
set_cases l k a d lt P here else b = ⊎_elim
    (λ (e : b ≡ k). subst (λ v. P v (get_or (set l k a) v d)) (sym e) (subst (P k) (sym (get_or-set_same l k a d lt)) here))
    (λ (ne : b ≡ k → ⊥). subst (P b) (sym (get_or-set_other l k b a d ne)) (else b ne))
    (cases_eq b k)

-- ---- one more of k on its way

abbrev pub More : (w' w : ℕ → ℕ) → ℕ → Type 0
More w' w k = (b : ℕ) → w' b ≡ w b + one_if (eqb b k)

pub more_here : (w' w : ℕ → ℕ) (k : ℕ) → More w' w k → w' k ≡ w k + 1
more_here w' w k m = let a = m k in let b = one_if_true (eqb k k) (eq-eqb k k refl) in omega arith

pub more_else : (w' w : ℕ → ℕ) (k b : ℕ) → More w' w k → (b ≡ k → ⊥) → w' b ≡ w b
more_else w' w k b m ne = let a = m b in let c = one_if_false (eqb b k) (ne_eqb b k ne) in omega arith

-- only k is on its way
abbrev pub only : ℕ → ℕ → ℕ
only k b = one_if (eqb b k)

-- ---- options

pub some_is : {A : Type 0} (o : Option A) (a : A) → o ≡ Some a → is_some o ≡ true
some_is o a e = ap is_some e

pub none_not_some : {A : Type 0} {B : Type 0} (o : Option A) (a : A) → o ≡ None → o ≡ Some a → B
none_not_some o a e f = let z : ◌≡◌ {A = ℕ} 0 1 = cc in absurd (omega arith)

pub is_number_some : (t : ℕ) (o : Option ℕ) → is_number t o ≡ true → o ≡ Some t
is_number_some t (Some k) e = ap Some (sym (eqb-true t k e))
is_number_some t None e = absurd (false≢true e)

-- ---- lines

pub items_behind_first : (x : Exchange) (k : ℕ) → first_of (items x) ≡ Some k → items x ≡ k ∷ items (without_first x)
items_behind_first x k e = go x.holds x.line e
  where
    go : (h : Holds) (l : List ℕ) → first_of (items_in h l) ≡ Some k → items_in h l ≡ k ∷ items_in h (behind_first l)
    go Items [] e = none_not_some None k refl e
    go Items (n ∷ l) e = cc
    go Tasks l e = none_not_some None k refl e

-- where a task waits there is no item, and none after it left
pub no_items : (x : Exchange) (t : ℕ) → first_of (waiting x) ≡ Some t → (items x ≡ []) × (items (without_first x) ≡ [])
no_items x t e = go x.holds x.line e
  where
    go : (h : Holds) (l : List ℕ) → first_of (tasks_in h l) ≡ Some t → (items_in h l ≡ []) × (items_in h (behind_first l) ≡ [])
    go Items l e = none_not_some None t refl e
    go Tasks l e = (refl, refl)

pub empty_line : (x : Exchange) → items x ≡ [] → waiting x ≡ [] → x.line ≡ []
empty_line x a b = go x.holds x.line a b
  where
    go : (h : Holds) (l : List ℕ) → items_in h l ≡ [] → tasks_in h l ≡ [] → l ≡ []
    go Items l a b = a
    go Tasks l a b = b

pub no_first : (l : List ℕ) → first_of l ≡ None → l ≡ []
no_first [] e = refl
no_first (n ∷ l) e = none_not_some (first_of (n ∷ l)) n e refl

pub occurrences_joins : (b k : ℕ) (l : List ℕ) → length l < 256 → occurrences b (joins k l) ≡ occurrences b l + one_if (eqb b k)
occurrences_joins b k l lt = go (ltb (length l) 256) (lt-ltb (length l) 256 lt)
  where
    go : (t : Bool) → t ≡ true → occurrences b (cond t (l ++ k ∷ []) l) ≡ occurrences b l + one_if (eqb b k)
    go true e = sum_by_push (λ y. cond (eqb b y) 1 0) l k
    go false e = absurd (false≢true e)

-- ---- alarms

pub alarms_in_cons : (b : ℕ) (a : AlarmRecord) (as' : List AlarmRecord) → alarms_in b (a ∷ as') ≡ one_if (eqb b a.block) + alarms_in b as'
alarms_in_cons b a as' = sum_by-cons (λ y. cond (eqb b y.block) 1 0) a as'

pub alarms_in_push : (b : ℕ) (as' : List AlarmRecord) (a : AlarmRecord) → alarms_in b (as' ++ a ∷ []) ≡ alarms_in b as' + one_if (eqb b a.block)
alarms_in_push b as' a = sum_by_push (λ y. cond (eqb b y.block) 1 0) as' a

-- a tick parts them into those that are due and those that still run
pub alarms_parted : (b : ℕ) (as' : List AlarmRecord) → alarms_in b (due as') + alarms_in b (still_running as') ≡ alarms_in b as'
alarms_parted b [] = refl
alarms_parted b (a ∷ as') = go (is_due a) (alarms_parted b as')
  where
    go : (t : Bool) → alarms_in b (due as') + alarms_in b (still_running as') ≡ alarms_in b as'
        → alarms_in b (cond t (a ∷ due as') (due as')) + alarms_in b (cond t (still_running as') (lowered a ∷ still_running as')) ≡ alarms_in b (a ∷ as')
    go true later = let c = alarms_in_cons b a (due as') in let d = alarms_in_cons b a as' in omega arith
    go false later = let c = alarms_in_cons b (lowered a) (still_running as') in let d = alarms_in_cons b a as' in omega arith

pub all_due : (P : ℕ → Type 0) (as' : List AlarmRecord) → AllByRecursion (λ a. P a.exchange) as' → AllByRecursion (λ a. P a.exchange) (due as')
all_due P [] all = tt
all_due P (a ∷ as') all = go (is_due a) (all_due P as' all.1)
  where
    go : (t : Bool) → AllByRecursion (λ a. P a.exchange) (due as') → AllByRecursion (λ a. P a.exchange) (cond t (a ∷ due as') (due as'))
    go true later = (all.0, later)
    go false later = later

pub all_still_running : (P : ℕ → Type 0) (as' : List AlarmRecord) → AllByRecursion (λ a. P a.exchange) as' → AllByRecursion (λ a. P a.exchange) (still_running as')
all_still_running P [] all = tt
all_still_running P (a ∷ as') all = go (is_due a) (all_still_running P as' all.1)
  where
    go : (t : Bool) → AllByRecursion (λ a. P a.exchange) (still_running as') → AllByRecursion (λ a. P a.exchange) (cond t (still_running as') (lowered a ∷ still_running as'))
    go true later = later
    go false later = (all.0, later)

-- where there is one, without_alarm takes one of that block away
pub alarms_without : (b k : ℕ) (as' : List AlarmRecord) → is_some (alarm_in k as') ≡ true
    → alarms_in b (without_alarm k as') + one_if (eqb b k) ≡ alarms_in b as'
alarms_without b k [] e = absurd (false≢true e)
alarms_without b k (a ∷ as') e = go (eqb k a.block) refl e (λ later. alarms_without b k as' later)
  where
    go : (t : Bool) → eqb k a.block ≡ t → is_some (cond t (Some a) (alarm_in k as')) ≡ true
        → (is_some (alarm_in k as') ≡ true → alarms_in b (without_alarm k as') + one_if (eqb b k) ≡ alarms_in b as')
        → alarms_in b (cond t as' (a ∷ without_alarm k as')) + one_if (eqb b k) ≡ alarms_in b (a ∷ as')
    go true s e later =
        let c = alarms_in_cons b a as' in
        let same : one_if (eqb b k) ≡ one_if (eqb b a.block) = ap (λ v. one_if (eqb b v)) (eqb-true k a.block s) in
        omega arith
    go false s e later =
        let c = alarms_in_cons b a as' in
        let d = alarms_in_cons b a (without_alarm k as') in
        let f = later e in omega arith

pub all_without_alarm : (P : ℕ → Type 0) (k : ℕ) (as' : List AlarmRecord) → AllByRecursion (λ a. P a.exchange) as' → AllByRecursion (λ a. P a.exchange) (without_alarm k as')
all_without_alarm P k [] all = tt
all_without_alarm P k (a ∷ as') all = go (eqb k a.block) (all_without_alarm P k as' all.1)
  where
    go : (t : Bool) → AllByRecursion (λ a. P a.exchange) (without_alarm k as') → AllByRecursion (λ a. P a.exchange) (cond t as' (a ∷ without_alarm k as'))
    go true later = all.1
    go false later = (all.0, later)

-- ---- names

pub all_without_name : (P : ℕ → Type 0) (n : List ℕ) (ns : List Binding) → AllByRecursion (λ b. P b.exchange) ns → AllByRecursion (λ b. P b.exchange) (without_name n ns)
all_without_name P n [] all = tt
all_without_name P n (b ∷ ns) all = go (same_bytes b.name n) (all_without_name P n ns all.1)
  where
    go : (t : Bool) → AllByRecursion (λ b. P b.exchange) (without_name n ns) → AllByRecursion (λ b. P b.exchange) (cond t ns (b ∷ without_name n ns))
    go true later = all.1
    go false later = (all.0, later)

-- what holds of the exchanges of all names holds of the one found
pub tied_has : (P : ℕ → Type 0) (n : List ℕ) (ns : List Binding) (e : ℕ) → AllByRecursion (λ b. P b.exchange) ns → tied_in n ns ≡ Some e → P e
tied_has P n [] e all f = none_not_some None e refl f
tied_has P n (b ∷ ns) e all f = go (same_bytes b.name n) f (λ later. tied_has P n ns e all.1 later)
  where
    go : (t : Bool) → cond t (Some b.exchange) (tied_in n ns) ≡ Some e → (tied_in n ns ≡ Some e → P e) → P e
    go true f later = let same : b.exchange ≡ e = cc in subst P same all.0
    go false f later = later f

-- ---- what is bound to no exchange

pub not_positive : (n : ℕ) → positive n ≡ false → n ≡ 0
not_positive n h = eqb-true n 0 (not-false (eqb n 0) h)

-- what holds elsewhere than at e holds of all, where none names e
pub all_elsewhere : {A : Type 0} (f : A → ℕ) (P Q : ℕ → Type 0) (e : ℕ) (l : List A) → count_by (λ a. eqb e (f a)) l ≡ 0
    → ((k : ℕ) → (k ≡ e → ⊥) → P k → Q k) → AllByRecursion (λ a. P (f a)) l → AllByRecursion (λ a. Q (f a)) l
all_elsewhere f P Q e [] none each all = tt
all_elsewhere f P Q e (a ∷ l) none each all =
    let c = sum_by-cons (λ y. cond (eqb e (f y)) 1 0) a l in (
      each (f a) (λ same. let d = one_if_true (eqb e (f a)) (eq-eqb e (f a) (sym same)) in omega arith) all.0,
      all_elsewhere f P Q e l (omega arith) each all.1,
    )

-- an exchange that a call names is open
pub named_open : (n e : ℕ) (b : Bool) → leb n e ≡ false → (not (leb n e) && not b) ≡ false → b ≡ true
named_open n e b below h = ⊎_elim
    (λ (a : not (leb n e) ≡ false). absurd (both_ways (leb n e) below (not-false (leb n e) a)))
    (λ (a : not b ≡ false). not-false b a)
    (and_cases (not (leb n e)) (not b) h)
