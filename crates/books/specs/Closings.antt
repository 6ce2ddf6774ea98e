-- The counts that closing leaves agree with the books. Assumes nothing.
--   number n p        how many numbers below n pass the test
--   ClosingAgrees     the live tasks are those started and not ended since; and the free blocks, the items waiting, the alarms running
--                     and the requests in hand together are all blocks
use Rattle.std.specs.Prelude.{◌≡◌, ℕ, zero, suc, ◌+◌, Bool, List, Option}
use Rattle.pool.specs.Marks.{free_count}
use Rattle.plain.specs.Openings.{closing, one_if}
use Rattle.books.specs.Deeds.{started}
use Rattle.books.specs.Runs.{History, Opening, Run, now_of}

abbrev pub number : ℕ → (ℕ → Bool) → ℕ
number zero p = 0
number (suc n) p = one_if (p n) + number n p

pub record ClosingAgrees {M : Type 0} (o : Opening M) (h : History M) : Type 0 where
  pub live : (closing (now_of o h)).live_tasks ≡ number o.sizes.tasks (started h)
  pub blocks : free_count (now_of o h).free + (closing (now_of o h)).items_waiting + (closing (now_of o h)).alarms_running
      + (closing (now_of o h)).requests_in_hand ≡ o.sizes.blocks

abbrev pub ClosingsAgree : {M : Type 0} → (List ℕ → Option M) → Type 0
ClosingsAgree {M} reading = (o : Opening M) (h : History M) → Run reading o h → ClosingAgrees o h
