-- Parts that are as at an opening make the state of that opening. Assumes nothing.
use Rattle.std.proofs.Common.{◌≡◌, ℕ, ◌≤◌, min, Bool, true, ◌&&◌, leb, List, [], replicate, None, Option, arith}
use Rattle.std.proofs.lemmas.Bool.{and_parts, leb-true}
use Rattle.ready.specs.declared.task.ReadyTask.{ReadyTask}
use Rattle.plain.specs.Lookups.{closed_exchange, idle_block, no_task}
use Rattle.plain.specs.Openings.{fits, opened, sized, within}
use Rattle.plain.specs.States.{Exchange, State}
use Rattle.plain.specs.declared.records.AlarmRecord.{AlarmRecord}
use Rattle.plain.specs.declared.records.Binding.{Binding}
use Rattle.plain.specs.declared.records.BlockRecord.{BlockRecord}
use Rattle.plain.specs.declared.records.Sizes.{Sizes}
use Rattle.plain.specs.declared.records.TaskRecord.{TaskRecord}
use Rattle.tables.specs.Opened.{AsOpened}

within_parts : (most n : ℕ) → within most n ≡ true → (1 ≤ n) × (n ≤ most)
within_parts most n h = let a = and_parts (leb 1 n) (leb n most) h in (leb-true 1 n a.0, leb-true n most a.1)

at_most : (n most k : ℕ) → k ≡ min n most → n ≤ most → k ≡ n
at_most n most k is within = omega arith

parts : {M : Type 0} (t' e' b' : ℕ) (ms ts : List M) (t e b : ℕ) (running : Option ReadyTask) (ready : List ReadyTask) (tasks : List TaskRecord)
    (exchanges : List Exchange) (names : List Binding) (alarms : List AlarmRecord) (blocks : List BlockRecord) (free : List Bool)
    → t ≡ t' → e ≡ e' → b ≡ b' → running ≡ None → ready ≡ [] → tasks ≡ replicate t no_task → exchanges ≡ replicate e closed_exchange → names ≡ []
    → alarms ≡ [] → blocks ≡ replicate b idle_block → free ≡ replicate b' true
    → ◌≡◌ {A = State M} (record {
      sizes = sized t e b;
      running = running;
      ready = ready;
      tasks = tasks;
      exchanges = exchanges;
      names = names;
      alarms = alarms;
      blocks = blocks;
      free = free;
      messages = ms;
      trays = ts;
    }) (opened (sized t' e' b') ms ts)
parts t' e' b' ms ts t e b running ready tasks exchanges names alarms blocks free is_t is_e is_b is_running is_ready is_tasks is_exchanges is_names is_alarms is_blocks is_free = cc

pub as_opened : {M : Type 0} (d : Sizes) (s : State M) → AsOpened d s → fits d ≡ true → s ≡ opened d s.messages s.trays
as_opened d s h fit =
    let p = and_parts (within 64 d.tasks) (within 64 d.exchanges && within 256 d.blocks) fit in
    let q = and_parts (within 64 d.exchanges) (within 256 d.blocks) p.1 in
    let t = within_parts 64 d.tasks p.0 in
    let e = within_parts 64 d.exchanges q.0 in
    let b = within_parts 256 d.blocks q.1 in
    parts d.tasks d.exchanges d.blocks s.messages s.trays s.sizes.tasks s.sizes.exchanges s.sizes.blocks s.running s.ready s.tasks
    s.exchanges s.names s.alarms s.blocks s.free (at_most d.tasks 64 s.sizes.tasks h.task_count t.1)
    (at_most d.exchanges 64 s.sizes.exchanges h.exchange_count e.1) (at_most d.blocks 256 s.sizes.blocks h.block_count b.1) h.running
    h.ready h.tasks h.exchanges h.names h.alarms h.blocks (h.free b.0 b.1)
