-- Every draft is within its limits. Assumes nothing.
--   Limited most n d r   what changing one size of the draft d to n gives: refused with 1 and unchanged exactly where n leaves its
--                        limits; and a draft within its limits stays so
use Rattle.std.specs.Prelude.{◌≡◌, ℕ, true, cond, Some, None}
use Rattle.calls.specs.declared.refusal.Refusal.TheVariants as refusal
use Rattle.plain.specs.Openings.{Redrafted, fits, fresh, sized, with_block_count, with_exchange_count, with_task_count, within}
use Rattle.plain.specs.declared.records.Sizes.{Sizes}

pub record Limited (most n : ℕ) (changed d : Sizes) (r : Redrafted) : Type 0 where
  pub answer : r ≡ cond (within most n) (None, changed) (Some refusal.DraftSize, d)
  pub stays : fits d ≡ true → fits r.1 ≡ true

pub record DraftsFit : Type 0 where
  pub first : (fresh ≡ sized 1 1 1) × (fits fresh ≡ true)
  pub tasks : (n : ℕ) (d : Sizes) → Limited 64 n (sized n d.exchanges d.blocks) d (with_task_count n d)
  pub exchanges : (n : ℕ) (d : Sizes) → Limited 64 n (sized d.tasks n d.blocks) d (with_exchange_count n d)
  pub blocks : (n : ℕ) (d : Sizes) → Limited 256 n (sized d.tasks d.exchanges n) d (with_block_count n d)
