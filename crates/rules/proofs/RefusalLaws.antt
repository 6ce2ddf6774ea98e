-- Refusals: the first in a rising list is the least, and 16 goes with the free blocks. Assumes nothing.
use Rattle.std.proofs.Common.{◌≡◌, ℕ, zero, suc, ◌+◌, ◌≤◌, Bool, true, false, cond, not, ◌||◌, List, [], ◌∷◌, is_some, Some, None, Option, sym, refl, ap, ◌∙◌, arith}
use Rattle.std.proofs.lemmas.Bool.{and_parts, and_from, both_ways, false≢true, not_from_false, not-true, or_parts}
use Rattle.std.specs.List.{AllByRecursion}
use Rattle.calls.specs.Refusals.{refusal_number}
use Rattle.calls.specs.declared.refusal.Refusal.{Refusal}
use Rattle.calls.specs.declared.refusal.Refusal.TheVariants as refusal
use Rattle.pool.specs.Marks.{marked}
use Rattle.plain.specs.Calls.{Call}
use Rattle.plain.specs.Reasons.{all_refusals, any_free, first_holding, holds, needs_block, refusal_of}
use Rattle.plain.specs.States.{State}
use Rattle.rules.specs.Refusing.{BlockNeeded, LeastOf, NoneFree}

-- the numbers of these refusals are k, k + 1 and so on
Counting : ℕ → List Refusal → Type 0
Counting k [] = Unit {0}
Counting k (r ∷ rs) = (refusal_number r ≡ k) × Counting (k + 1) rs

from_k : (k : ℕ) (rs : List Refusal) → Counting k rs → AllByRecursion (λ q. k ≤ refusal_number q) rs
unfolding Counting
from_k k [] h = tt
from_k k (r ∷ rs) h = (let e = h.0 in omega arith, weaker rs (from_k (k + 1) rs h.1))
  where
    weaker : (qs : List Refusal) → AllByRecursion (λ q. k + 1 ≤ refusal_number q) qs → AllByRecursion (λ q. k ≤ refusal_number q) qs
    weaker [] a = tt
    weaker (q ∷ qs) a = (let b = a.0 in omega arith, weaker qs a.1)

-- what is known of the refusals in a list where the first that holds is this one
LeastIn : (Refusal → Bool) → List Refusal → Option Refusal → Type 0
LeastIn p rs None = AllByRecursion (λ q. p q ≡ false) rs
LeastIn p rs (Some r) = (p r ≡ true) × AllByRecursion (λ q. p q ≡ true → refusal_number r ≤ refusal_number q) rs

least_in : (p : Refusal → Bool) (k : ℕ) (rs : List Refusal) → Counting k rs → LeastIn p rs (first_holding p rs)
unfolding Counting LeastIn
least_in p k [] h = tt
least_in p k (r ∷ rs) h = go (p r) refl (least_in p (k + 1) rs h.1)
  where
    above : (qs : List Refusal) → AllByRecursion (λ q. k + 1 ≤ refusal_number q) qs → AllByRecursion (λ q. p q ≡ true → refusal_number r ≤ refusal_number q) qs
    above [] a = tt
    above (q ∷ qs) a = (λ _. let b = a.0 in let e = h.0 in omega arith, above qs a.1)

    not_this : p r ≡ false → (o : Option Refusal) → LeastIn p rs o → LeastIn p (r ∷ rs) o
    not_this e None a = (e, a)
    not_this e (Some q) a = (a.0, (λ t. absurd (both_ways (p r) e t), a.1))

    go : (b : Bool) → p r ≡ b → LeastIn p rs (first_holding p rs) → LeastIn p (r ∷ rs) (cond b (Some r) (first_holding p rs))
    go true e later = (e, (λ _. omega arith, above rs (from_k (k + 1) rs h.1)))
    go false e later = not_this e (first_holding p rs) later

counting_all : Counting 1 all_refusals
unfolding Counting
counting_all =
    (refl, (refl, (refl, (refl, (refl, (refl, (refl, (refl, (refl, (refl, (refl, (refl, (refl, (refl, (refl, (refl, (refl, (refl, (refl, tt)))))))))))))))))))

-- each refusal stands in the list
every : (P : Refusal → Type 0) → AllByRecursion P all_refusals → (r : Refusal) → P r
every P a refusal.DraftSize = a.0
every P a refusal.TableLength = a.1.0
every P a refusal.BatchShape = a.1.1.0
every P a refusal.ShortBuffer = a.1.1.1.0
every P a refusal.UnknownCode = a.1.1.1.1.0
every P a refusal.UnusedField = a.1.1.1.1.1.0
every P a refusal.BadName = a.1.1.1.1.1.1.0
every P a refusal.BadMessage = a.1.1.1.1.1.1.1.0
every P a refusal.NoneRunning = a.1.1.1.1.1.1.1.1.0
every P a refusal.OutOfRange = a.1.1.1.1.1.1.1.1.1.0
every P a refusal.AlreadyThere = a.1.1.1.1.1.1.1.1.1.1.0
every P a refusal.ExchangeClosed = a.1.1.1.1.1.1.1.1.1.1.1.0
every P a refusal.UnknownName = a.1.1.1.1.1.1.1.1.1.1.1.1.0
every P a refusal.ExchangeBound = a.1.1.1.1.1.1.1.1.1.1.1.1.1.0
every P a refusal.RegisterFull = a.1.1.1.1.1.1.1.1.1.1.1.1.1.1.0
every P a refusal.NoFreeBlock = a.1.1.1.1.1.1.1.1.1.1.1.1.1.1.1.0
every P a refusal.NoItem = a.1.1.1.1.1.1.1.1.1.1.1.1.1.1.1.1.0
every P a refusal.NotHeld = a.1.1.1.1.1.1.1.1.1.1.1.1.1.1.1.1.1.0
every P a refusal.RequestInHand = a.1.1.1.1.1.1.1.1.1.1.1.1.1.1.1.1.1.1.0

least_of : (p : Refusal → Bool) (o : Option Refusal) → LeastIn p all_refusals o → LeastOf p o
unfolding LeastIn
least_of p None a = every (λ r. p r ≡ false) a
least_of p (Some r) a = (a.0, every (λ q. p q ≡ true → refusal_number r ≤ refusal_number q) a.1)

pub least : {M : Type 0} (reading : List ℕ → Option M) (s : State M) (c : Call) → LeastOf (holds reading s c) (refusal_of reading s c)
least reading s c =
    least_of (holds reading s c) (refusal_of reading s c) (least_in (holds reading s c) 1 all_refusals counting_all)

-- ---- free blocks

none_marked : (ms : List Bool) → any_free ms ≡ false → (n : ℕ) → marked ms n ≡ false
none_marked [] e n = refl
none_marked (m ∷ ms) e zero = (or_parts m (any_free ms) e).0
none_marked (m ∷ ms) e (suc n) = none_marked ms (or_parts m (any_free ms) e).1 n

one_marked : (ms : List Bool) → any_free ms ≡ true → (n : ℕ) × (marked ms n ≡ true)
one_marked [] e = absurd (false≢true e)
one_marked (m ∷ ms) e = go m refl e (λ k. one_marked ms k)
  where
    go : (b : Bool) → m ≡ b → (b || any_free ms) ≡ true → (any_free ms ≡ true → (n : ℕ) × (marked ms n ≡ true)) → (n : ℕ) × (marked (m ∷ ms) n ≡ true)
    go true k h later = (0, k)
    go false k h later = (suc (later h).0, (later h).1)

not_any : (ms : List Bool) → ((n : ℕ) → marked ms n ≡ false) → any_free ms ≡ false
not_any ms none = go (any_free ms) refl
  where
    go : (b : Bool) → any_free ms ≡ b → b ≡ false
    go true e = let k = one_marked ms e in sym k.1 ∙ none k.0
    go false e = refl

module _ {M : Type 0} (reading : List ℕ → Option M) (s : State M) (c : Call) where
  lacks : holds reading s c refusal.NoFreeBlock ≡ true → (needs_block s c ≡ true) × NoneFree s
  lacks h =
      let a = and_parts (needs_block s c) (not (any_free s.free)) h in
      (a.0, none_marked s.free (not-true (any_free s.free) a.1))

  given : (o : Option Refusal) → LeastOf (holds reading s c) o → o ≡ Some refusal.NoFreeBlock → (needs_block s c ≡ true) × NoneFree s
  given None a e = let z : ◌≡◌ {A = ℕ} 0 1 = cc in absurd (omega arith)
  given (Some r) a e = lacks (sym (ap named e) ∙ a.0)
    where
      named : Option Refusal → Bool
      named None = true
      named (Some q) = holds reading s c q

  refused : (o : Option Refusal) → LeastOf (holds reading s c) o → needs_block s c ≡ true → NoneFree s → is_some o ≡ true
  refused (Some r) a n f = refl
  refused None a n f =
      absurd (both_ways (holds reading s c refusal.NoFreeBlock) (a refusal.NoFreeBlock)
      (and_from (needs_block s c) (not (any_free s.free)) n (not_from_false (any_free s.free) (not_any s.free f))))

  found : (o : Option Refusal) → LeastOf (holds reading s c) o → o ≡ None → needs_block s c ≡ true → (n : ℕ) × (marked s.free n ≡ true)
  found (Some r) a e n = let z : ◌≡◌ {A = ℕ} 0 1 = cc in absurd (omega arith)
  found None a e n = go (any_free s.free) refl
    where
      go : (b : Bool) → any_free s.free ≡ b → (k : ℕ) × (marked s.free k ≡ true)
      go true h = one_marked s.free h
      go false h =
          absurd (both_ways (holds reading s c refusal.NoFreeBlock) (a refusal.NoFreeBlock)
          (and_from (needs_block s c) (not (any_free s.free)) n (not_from_false (any_free s.free) h)))

  pub block_needed : BlockNeeded reading s c
  block_needed =
      record {
        sixteen = given (refusal_of reading s c) (least reading s c);
        refused = refused (refusal_of reading s c) (least reading s c);
        found = found (refusal_of reading s c) (least reading s c);
      }
