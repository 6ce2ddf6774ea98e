-- A draft, opening it, and the four counts that closing leaves. Assumes nothing.
--   fresh                the draft with 1 of each
--   resized lo.. d       a draft with another size, or 1 and the draft unchanged
--   Fits d               every size is within its limits
--   opened d ms ts       the station as it opens, with the two tables that are brought
--   Counts, closing s    the counts
use Rattle.std.specs.Prelude.{ℕ, ◌+◌, Bool, true, cond, ◌&&◌, List, [], length, replicate, is_some, Some, None, sum_by, count_by, Option, nat_le}
use Rattle.calls.specs.declared.refusal.Refusal.{Refusal}
use Rattle.calls.specs.declared.refusal.Refusal.TheVariants as refusal
use Rattle.plain.specs.Lookups.{closed_exchange, idle_block, items, no_task, waiting}
use Rattle.plain.specs.States.{State}
use Rattle.plain.specs.declared.records.Sizes.{Sizes}

-- ---- drafts

abbrev pub sized : ℕ → ℕ → ℕ → Sizes
sized t e b = record { tasks = t; exchanges = e; blocks = b }

abbrev pub fresh : Sizes
fresh = sized 1 1 1

abbrev pub within : ℕ → ℕ → Bool
within most n = nat_le 1 n && nat_le n most

-- what a change of a draft gives: a refusal if any, and the draft after
abbrev pub Redrafted : Type 0
Redrafted = Option Refusal × Sizes

abbrev pub redrafted : Bool → Sizes → Sizes → Redrafted
redrafted fits changed d = cond fits (None, changed) (Some refusal.DraftSize, d)

abbrev pub with_task_count : ℕ → Sizes → Redrafted
with_task_count n d = redrafted (within 64 n) (sized n d.exchanges d.blocks) d

abbrev pub with_exchange_count : ℕ → Sizes → Redrafted
with_exchange_count n d = redrafted (within 64 n) (sized d.tasks n d.blocks) d

abbrev pub with_block_count : ℕ → Sizes → Redrafted
with_block_count n d = redrafted (within 256 n) (sized d.tasks d.exchanges n) d

abbrev pub fits : Sizes → Bool
fits d = within 64 d.tasks && (within 64 d.exchanges && within 256 d.blocks)

-- ---- opening

abbrev pub opened : {M : Type 0} → Sizes → List M → List M → State M
opened d ms ts =
    record {
      sizes = d;
      running = None;
      ready = [];
      tasks = replicate d.tasks no_task;
      exchanges = replicate d.exchanges closed_exchange;
      names = [];
      alarms = [];
      blocks = replicate d.blocks idle_block;
      free = replicate d.blocks true;
      messages = ms;
      trays = ts;
    }

-- ---- closing

pub record Counts : Type 0 where
  pub live_tasks : ℕ
  pub items_waiting : ℕ
  pub alarms_running : ℕ
  pub requests_in_hand : ℕ

abbrev pub one_if : Bool → ℕ
one_if b = cond b 1 0

abbrev pub closing : {M : Type 0} → State M → Counts
closing s =
    record {
      live_tasks = one_if (is_some s.running) + length s.ready + sum_by (λ x. length (waiting x)) s.exchanges;
      items_waiting = sum_by (λ x. length (items x)) s.exchanges;
      alarms_running = length s.alarms;
      requests_in_hand = count_by (λ r. is_some r.holder) s.blocks;
    }
