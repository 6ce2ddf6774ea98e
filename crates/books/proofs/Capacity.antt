-- No line is ever full: a line of numbers that occur at most once, below n, and one of them not at all, is shorter than n. Assumes nothing.
use Rattle.std.proofs.Common.{◌≡◌, ℕ, zero, suc, ◌+◌, ◌<◌, ◌≤◌, Bool, true, false, ltb, ◌⊎◌, List, [], length, sum_by, Option, refl, subst, ⊎_elim, arith}
use Rattle.std.proofs.lemmas.Bool.{cases_lt, lt-ltb, ltb-true}
use Rattle.plain.specs.Lookups.{closed_exchange, is_task, items, occurrences, waiting}
use Rattle.plain.specs.Openings.{one_if}
use Rattle.plain.specs.States.{Exchange}
use Rattle.plain.specs.declared.records.AlarmRecord.{AlarmRecord}
use Rattle.plain.specs.declared.records.BlockRecord.{BlockRecord}
use Rattle.plain.specs.declared.records.TaskRecord.{TaskRecord}
use Rattle.ready.specs.declared.task.ReadyTask.{ReadyTask}
use Rattle.books.specs.Laws.{alarms_in, ready_in}
use Rattle.books.specs.Deeds.{started}
use Rattle.books.specs.Runs.{History}
use Rattle.books.proofs.Counting.{one_if_true, one_if_le, one_if_positive, line_le_all, waiting_le_all, items_le_all}
use Rattle.books.proofs.Sums.{met, upto, upto_met}
use Rattle.books.proofs.Invariants.{Blocks, Tasks, exchange_in}

-- ---- a line of numbers

upto_le : (n : ℕ) (f : ℕ → ℕ) → ((b : ℕ) → f b ≤ 1) → upto n f ≤ n
unfolding upto
upto_le zero f h = omega arith
upto_le (suc n) f h = let a = upto_le n f h in let b = h n in omega arith

upto_lt : (n k : ℕ) (f : ℕ → ℕ) → ((b : ℕ) → f b ≤ 1) → k < n → f k ≡ 0 → upto n f < n
unfolding upto
upto_lt zero k f h lt none = absurd (omega arith)
upto_lt (suc n) k f h lt none = go (λ p. upto_lt n k f h p none) (cases_lt k n)
  where
    go : (k < n → upto n f < n) → (k < n) ⊎ (n ≤ k) → f n + upto n f < suc n
    go later = ⊎_elim
        (λ (p : k < n). let a = later p in let b = h n in omega arith)
        (λ (p : n ≤ k).
        let e : k ≡ n = omega arith in
        let z : f n ≡ 0 = subst (λ (v : ℕ). f v ≡ 0) e none in
        let a = upto_le n f h in omega arith)

-- a list whose keys occur at most once, below n, and k not at all
room_of : {A : Type 0} (key : A → ℕ) (l : List A) (n k : ℕ) → ((b : ℕ) → met key l b ≤ one_if (ltb b n)) → k < n → met key l k ≡ 0 → length l < n
room_of key l n k h lt none =
    let a = upto_met key n l h in
    let b = upto_lt n k (met key l) (λ b. let c = h b in let d = one_if_le (ltb b n) in omega arith) lt none in
    omega arith

pub room : (l : List ℕ) (n k : ℕ) → ((b : ℕ) → occurrences b l ≤ one_if (ltb b n)) → k < n → occurrences k l ≡ 0 → length l < n
room l n k h lt none = room_of (λ x. x) l n k h lt none

-- a block that is no alarm's finds room among the alarms
pub alarms_room : {n : ℕ} {xs : List Exchange} {as' : List AlarmRecord} {bs : List BlockRecord} {fr : List Bool} {w : ℕ → ℕ}
    → Blocks n xs as' bs fr w → (b : ℕ) → b < n → alarms_in b as' ≡ 0 → n ≤ 256 → length as' < 256
alarms_room {n} {xs} {as'} k b below none few =
    let a = room_of (λ (x : AlarmRecord). x.block) as' n b (λ c. let o = k.once c in omega arith) below none in
    omega arith

-- ---- lines of exchanges

-- a line of one kind, over all exchanges
pub line_room : (f : Exchange → List ℕ) (xs : List Exchange) (e n k : ℕ) → f closed_exchange ≡ []
    → ((b : ℕ) → sum_by (λ x. occurrences b (f x)) xs ≤ one_if (ltb b n)) → k < n → occurrences k (f (exchange_in xs e)) ≡ 0
    → length (f (exchange_in xs e)) < n
line_room f xs e n k nil most lt none =
    room (f (exchange_in xs e)) n k (λ b. let a = line_le_all f nil b xs e in let c = most b in omega arith) lt none

pub items_room : {n : ℕ} {xs : List Exchange} {as' : List AlarmRecord} {bs : List BlockRecord} {fr : List Bool} {w : ℕ → ℕ}
    → Blocks n xs as' bs fr w → (e b : ℕ) → 0 < w b → n ≤ 256 → length (items (exchange_in xs e)) < 256
items_room {n} {xs} {as'} {bs} {fr} {w} k e b way few =
    let here = k.once b in
    let most = one_if_le (ltb b n) in
    let below = ltb-true b n (one_if_positive (ltb b n) (omega arith)) in
    let line = items_le_all b xs e in
    let a = line_room items xs e n b refl (λ c. let o = k.once c in omega arith) below (omega arith) in
    omega arith

pub started_below : {M : Type 0} {h : History M} {n : ℕ} {ts : List TaskRecord} {xs : List Exchange} {l : List ReadyTask} {r : Option ReadyTask} {w : ℕ → ℕ}
    → Tasks h n ts xs l r w → (t : ℕ) → one_if (started h t) ≤ one_if (ltb t n)
started_below {M} {h} {n} k t = go (started h t) refl
  where
    go : (b : Bool) → started h t ≡ b → one_if b ≤ one_if (ltb t n)
    go true e = let a = one_if_true (ltb t n) (lt-ltb t n (k.small t e)) in omega arith
    go false e = omega arith

pub tasks_room : {M : Type 0} {h : History M} {n : ℕ} {ts : List TaskRecord} {xs : List Exchange} {l : List ReadyTask} {r : Option ReadyTask} {w : ℕ → ℕ}
    → Tasks h n ts xs l r w → (e t : ℕ) → one_if (is_task t r) + ready_in t l + w t ≡ 1 → n ≤ 64 → length (waiting (exchange_in xs e)) < 256
tasks_room {M} {h} {n} {ts} {xs} {l} {r} {w} k e t elsewhere few =
    let here = k.once t in
    let most = one_if_le (started h t) in
    let is = one_if_positive (started h t) (omega arith) in
    let below = k.small t is in
    let line = waiting_le_all t xs e in
    let a = line_room waiting xs e n t refl (λ c. let o = k.once c in let u = started_below k c in omega arith) below (omega arith) in
    omega arith
