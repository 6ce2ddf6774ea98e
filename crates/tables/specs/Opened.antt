-- A station that opens, part by part. Assumes nothing.
--   AsOpened d s   each part is as at the opening with sizes d, as far as the limits let it
use Rattle.std.specs.Prelude.{◌≡◌, ◌≤◌, min, true, [], replicate, None}
use Rattle.plain.specs.Lookups.{closed_exchange, idle_block, no_task}
use Rattle.plain.specs.States.{State}
use Rattle.plain.specs.declared.records.Sizes.{Sizes}

pub record AsOpened {M : Type 0} (d : Sizes) (s : State M) : Type 0 where
  pub task_count : s.sizes.tasks ≡ min d.tasks 64
  pub exchange_count : s.sizes.exchanges ≡ min d.exchanges 64
  pub block_count : s.sizes.blocks ≡ min d.blocks 256
  pub running : s.running ≡ None
  pub ready : s.ready ≡ []
  pub tasks : s.tasks ≡ replicate s.sizes.tasks no_task
  pub exchanges : s.exchanges ≡ replicate s.sizes.exchanges closed_exchange
  pub names : s.names ≡ []
  pub alarms : s.alarms ≡ []
  pub blocks : s.blocks ≡ replicate s.sizes.blocks idle_block
  pub free : 1 ≤ d.blocks → d.blocks ≤ 256 → s.free ≡ replicate d.blocks true
