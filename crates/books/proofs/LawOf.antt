-- The law of the books from the invariant. Assumes nothing.
use Rattle.std.proofs.Common.{◌≡◌, ℕ, zero, suc, ◌<◌, true, false, List, [], ◌∷◌, length, is_some, Some, None, Option, sym, refl, ap, ◌∙◌, arith}
use Rattle.std.proofs.lemmas.Bool.{false≢true, le-leb, leb-true, lt-ltb, not_from_true}
use Rattle.std.specs.List.{AllByRecursion}
use Rattle.ready.specs.Order.{as_good, better, from, sound}
use Rattle.ready.specs.Settling.{best_runs}
use Rattle.ready.specs.declared.task.ReadyTask.{ReadyTask}
use Rattle.ready.specs.LineLaws.{sound_parts}
use Rattle.plain.specs.Lookups.{owed_by}
use Rattle.plain.specs.Openings.{one_if}
use Rattle.plain.specs.States.{State}
use Rattle.plain.specs.declared.records.BlockRecord.{BlockRecord}
use Rattle.plain.specs.declared.records.Sizes.{Sizes}
use Rattle.books.specs.Deeds.{reply_asked, unanswered}
use Rattle.books.specs.Laws.{BestRuns, Books, Stands, alarms_in}
use Rattle.books.specs.Runs.{History, Opening, now_of}
use Rattle.books.proofs.BlockParts.{is_number_some}
use Rattle.books.proofs.Invariants.{Kept, holder_of, owed}

-- ---- the best runs

worse_behind : (p : ℕ) (l : List ReadyTask) → sound l ≡ true → from p l ≡ true → AllByRecursion (λ y. better y.priority p ≡ false) l
worse_behind p [] s f = tt
worse_behind p (y ∷ ys) s f =
    let q = sound_parts y ys s in
    (not_from_true (as_good p y.priority) f, worse_behind p ys q.4 (lower ys q.3))
  where
    lower : (zs : List ReadyTask) → from y.priority zs ≡ true → from p zs ≡ true
    lower [] g = refl
    lower (z ∷ zs) g =
        let a = leb-true p y.priority f in
        let b = leb-true y.priority z.priority g in
        le-leb p z.priority (omega arith)

best_of : (l : List ReadyTask) (r : Option ReadyTask) → sound l ≡ true → best_runs l r ≡ true → BestRuns l r
best_of [] None s b = refl
best_of (y ∷ ys) None s b = absurd (false≢true b)
best_of [] (Some x) s b = tt
best_of (y ∷ ys) (Some x) s b = worse_behind x.priority (y ∷ ys) s b

-- ---- blocks

owed_below : (bs : List BlockRecord) (b r : ℕ) → owed bs b ≡ Some r → b < length bs
owed_below [] b r e = let z : ◌≡◌ {A = ℕ} 0 1 = cc in absurd (omega arith)
owed_below (x ∷ bs) zero r e = omega arith
owed_below (x ∷ bs) (suc b) r e = let k = owed_below bs b r e in omega arith

there : {A : Type 0} (o : Option A) → is_some o ≡ true → (x : A) × (o ≡ Some x)
there None e = absurd (false≢true e)
there (Some x) e = (x, refl)

none_there : {A : Type 0} (o : Option A) → is_some o ≡ false → o ≡ None
none_there None e = refl
none_there (Some x) e = absurd (false≢true (sym e))

module _ {M : Type 0} (reading : List ℕ → Option M) (h : History M) (s : State M) (k : Kept reading h s) where
  -- an alarm's block carries no request
  not_alarm : (b r : ℕ) → owed s.blocks b ≡ Some r → alarms_in b s.alarms ≡ 0
  not_alarm b r e = go (alarms_in b s.alarms) refl
    where
      go : (n : ℕ) → alarms_in b s.alarms ≡ n → n ≡ 0
      go zero q = refl
      go (suc n) q =
          let a = k.blocks.alarm b (omega arith) in
          let f : owed s.blocks b ≡ None = ap owed_by a in
          let z : ◌≡◌ {A = ℕ} 0 1 = cc in absurd (omega arith)

  stands : (b : ℕ) → unanswered h b ≡ true → Stands reading s h b
  stands b u = go (there (owed s.blocks b) (sym (k.asks.stands b) ∙ u))
    where
      go : (r : ℕ) × (owed s.blocks b ≡ Some r) → Stands reading s h b
      go (r, e) =
          let free = ap one_if (k.blocks.used b r e) in
          let alarm = not_alarm b r e in
          let below : b < s.sizes.blocks = omega (arith, owed_below s.blocks b r e, k.shape.blocks) in
          let total = ap one_if (lt-ltb b s.sizes.blocks below) in
          let once = k.blocks.once b in
          let asked = k.asks.asked_for b r e in
          record { once = omega arith; to = e ∙ sym (ap reply_asked asked); is_asked = ap is_some asked }

pub books_of : {M : Type 0} (reading : List ℕ → Option M) (o : Opening M) (h : History M) → (now_of o h).sizes ≡ o.sizes
    → Kept reading h (now_of o h) → Books reading o h
books_of reading o h z k =
    record {
      one_place_per_block = λ b below.
          let n = ap (λ (d : Sizes). d.blocks) z in
          let lt : b < (now_of o h).sizes.blocks = omega arith in
          let total = ap one_if (lt-ltb b (now_of o h).sizes.blocks lt) in
          let once = k.blocks.once b in
          omega arith;
      hands = λ t b e.
          let f = is_number_some t (holder_of (now_of o h).blocks b) e in
          (k.held.held b t f, k.asks.stands b ∙ k.blocks.hand b t f);
      answered_at_most_once = k.asks.turns;
      stands = stands reading h (now_of o h) k;
      answered = λ b u. none_there (owed (now_of o h).blocks b) (sym (k.asks.stands b) ∙ u);
      in_order_and_complete = k.flow;
      closed_empty = k.opens.closed;
      names_open = k.opens.names;
      alarms_open = k.opens.alarms;
      replies_open = k.opens.replies;
      one_place_per_task = λ t. let once = k.tasks.once t in omega arith;
      best_task_runs = best_of (now_of o h).ready (now_of o h).running k.tasks.line k.best;
      ready_priorities = k.tasks.ready_priority;
      running_priority = k.tasks.running_priority;
    }
