-- The counts that closing leaves agree with the books. Assumes nothing.
use Rattle.std.proofs.Common.{◌≡◌, ℕ, zero, suc, ◌+◌, ◌≤◌, Bool, false, ltb, List, [], ◌∷◌, length, is_some, Some, None, sum_by, count_by, Option, refl, ap, ◌∙◌, arith}
use Rattle.std.proofs.lemmas.Bool.{lt-ltb}
use Rattle.pool.specs.Marks.{free_count, marked}
use Rattle.ready.specs.declared.task.ReadyTask.{ReadyTask}
use Rattle.plain.specs.Lookups.{idle_block, is_task, items, waiting}
use Rattle.plain.specs.Openings.{one_if}
use Rattle.plain.specs.States.{State}
use Rattle.plain.specs.declared.records.AlarmRecord.{AlarmRecord}
use Rattle.plain.specs.declared.records.BlockRecord.{BlockRecord}
use Rattle.plain.specs.declared.records.Sizes.{Sizes}
use Rattle.books.specs.Closings.{ClosingAgrees, number}
use Rattle.books.specs.Deeds.{started}
use Rattle.books.specs.Laws.{alarms_in, ready_in, tasks_waiting_in, waiting_in}
use Rattle.books.specs.Runs.{History, Opening, Run, now_of}
use Rattle.books.proofs.Capacity.{started_below}
use Rattle.books.proofs.Counting.{one_if_true}
use Rattle.books.proofs.Invariants.{Kept, holder_of}
use Rattle.books.proofs.Law.{run_kept, run_sizes}
use Rattle.books.proofs.Sums.{upto, upto_add, upto_lines, upto_met, upto_ones, upto_places, upto_same}

number_upto : (n : ℕ) (p : ℕ → Bool) → number n p ≡ upto n (λ t. one_if (p t))
unfolding upto
number_upto zero p = refl
number_upto (suc n) p = ap (λ k. one_if (p n) + k) (number_upto n p)

-- the running task as a list of one or none
abbrev as_list : Option ReadyTask → List ReadyTask
as_list None = []
as_list (Some x) = x ∷ []

runs_once : (r : Option ReadyTask) (t : ℕ) → one_if (is_task t r) ≡ ready_in t (as_list r)
runs_once None t = refl
runs_once (Some x) t = omega arith

how_many : (r : Option ReadyTask) → length (as_list r) ≡ one_if (is_some r)
how_many None = refl
how_many (Some x) = refl

module _ {M : Type 0} (reading : List ℕ → Option M) (h : History M) (s : State M) (k : Kept reading h s) where
  live_tasks : one_if (is_some s.running) + length s.ready + sum_by (λ x. length (waiting x)) s.exchanges ≡ number s.sizes.tasks (started h)
  live_tasks =
      let n = s.sizes.tasks in
      let bound : (t : ℕ) → ready_in t (as_list s.running) + ready_in t s.ready + tasks_waiting_in t s.exchanges ≤ one_if (ltb t n) =
      λ t. let a = k.tasks.once t in let b = started_below k.tasks t in let c = runs_once s.running t in omega arith in
      let running = upto_met (λ (x : ReadyTask). x.task) n (as_list s.running) (λ t. let a = bound t in omega arith) in
      let ready = upto_met (λ (x : ReadyTask). x.task) n s.ready (λ t. let a = bound t in omega arith) in
      let waits = upto_lines waiting n s.exchanges (λ t. let a = bound t in omega arith) in
      let all = upto_same n (λ t. one_if (started h t)) (λ t. ready_in t (as_list s.running) + ready_in t s.ready + tasks_waiting_in t s.exchanges)
      (λ t lt. let a = k.tasks.once t in let c = runs_once s.running t in omega arith) in
      let sum = upto_add n (λ t. ready_in t (as_list s.running) + ready_in t s.ready) (λ t. tasks_waiting_in t s.exchanges) in
      let sum2 = upto_add n (λ t. ready_in t (as_list s.running)) (λ t. ready_in t s.ready) in
      let one = how_many s.running in
      let num = number_upto n (started h) in
      omega arith

  all_blocks : free_count s.free + sum_by (λ x. length (items x)) s.exchanges + length s.alarms + count_by (λ r. is_some r.holder) s.blocks
      ≡ s.sizes.blocks
  all_blocks =
      let n = s.sizes.blocks in
      let bound : (b : ℕ) → waiting_in b s.exchanges + alarms_in b s.alarms ≤ one_if (ltb b n) = λ b. let a = k.blocks.once b in omega arith in
      let free = upto_places (λ m. one_if m) s.free false in
      let hands = upto_places (λ (r : BlockRecord). one_if (is_some r.holder)) s.blocks idle_block in
      let free_n = ap (λ l. upto l (λ b. one_if (marked s.free b))) k.shape.free in
      let hands_n = ap (λ l. upto l (λ b. one_if (is_some (holder_of s.blocks b)))) k.shape.blocks in
      let waits = upto_lines items n s.exchanges (λ b. let a = bound b in omega arith) in
      let alarms = upto_met (λ (a : AlarmRecord). a.block) n s.alarms (λ b. let a = bound b in omega arith) in
      let each = upto_same n (λ b. one_if (marked s.free b) + waiting_in b s.exchanges + alarms_in b s.alarms + one_if (is_some (holder_of s.blocks b))) (λ b. 1)
      (λ b lt. let a = k.blocks.once b in let c = one_if_true (ltb b n) (lt-ltb b n lt) in omega arith) in
      let sum = upto_add n (λ b. one_if (marked s.free b) + waiting_in b s.exchanges + alarms_in b s.alarms) (λ b. one_if (is_some (holder_of s.blocks b))) in
      let sum2 = upto_add n (λ b. one_if (marked s.free b) + waiting_in b s.exchanges) (λ b. alarms_in b s.alarms) in
      let sum3 = upto_add n (λ b. one_if (marked s.free b)) (λ b. waiting_in b s.exchanges) in
      let ones = upto_ones n in
      omega arith

pub closing_agrees : {M : Type 0} (reading : List ℕ → Option M) (o : Opening M) (h : History M) → Run reading o h → ClosingAgrees o h
closing_agrees reading o h r =
    let k = run_kept reading o h r in
    let z = run_sizes reading o h r in
    record {
      live = live_tasks reading h (now_of o h) k ∙ ap (λ (d : Sizes). number d.tasks (started h)) z;
      blocks = all_blocks reading h (now_of o h) k ∙ ap (λ (d : Sizes). d.blocks) z;
    }
