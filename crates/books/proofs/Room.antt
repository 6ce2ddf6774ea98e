-- No run meets the bounds that keep the rules total. Assumes nothing.
use Rattle.std.proofs.Common.{◌≡◌, ℕ, ◌<◌, ltb, List, Option, refl, ap, arith}
use Rattle.std.proofs.lemmas.Bool.{ltb-true}
use Rattle.ready.specs.LineLaws.{may_join_yes}
use Rattle.plain.specs.Lookups.{items, waiting}
use Rattle.plain.specs.declared.records.Sizes.{Sizes}
use Rattle.books.specs.Runs.{History, Opening, Run, now_of}
use Rattle.books.specs.Systems.{Roomy}
use Rattle.books.proofs.Counting.{one_if_positive}
use Rattle.books.proofs.Accepts.{open_below}
use Rattle.books.proofs.Capacity.{alarms_room, line_room, started_below}
use Rattle.books.proofs.Invariants.{Kept}
use Rattle.books.proofs.Law.{run_kept, run_sizes}

pub roomy : {M : Type 0} (reading : List ℕ → Option M) (o : Opening M) (h : History M) → Run reading o h → Roomy reading o h
roomy reading o h r =
    let s = now_of o h in
    let k : Kept reading h s = run_kept reading o h r in
    let nb : s.sizes.blocks ≡ o.sizes.blocks = ap (λ (z : Sizes). z.blocks) (run_sizes reading o h r) in
    let nt : s.sizes.tasks ≡ o.sizes.tasks = ap (λ (z : Sizes). z.tasks) (run_sizes reading o h r) in
    let ne : s.sizes.exchanges ≡ o.sizes.exchanges = ap (λ (z : Sizes). z.exchanges) (run_sizes reading o h r) in
    let few = k.shape.few_blocks in
    let few_tasks = k.shape.few_tasks in
    record {
      items_fit = λ e b below none.
          let lt : b < s.sizes.blocks = omega arith in
          let a = line_room items s.exchanges e s.sizes.blocks b refl (λ c. let u = k.blocks.once c in omega arith) lt none in
          omega arith;
      tasks_fit = λ e t is none.
          let a = line_room waiting s.exchanges e s.sizes.tasks t refl
          (λ c. let u = k.tasks.once c in let v = started_below k.tasks c in omega arith) (k.tasks.small t is) none in
          omega arith;
      alarms_fit = λ b below none. let lt : b < s.sizes.blocks = omega arith in alarms_room k.blocks b lt none few;
      may_join_ready = λ t is away.
          let lt = k.tasks.small t is in
          may_join_yes t _ s.ready (omega arith) (k.tasks.range t is) away;
      blocks_below = λ b found.
          let u = k.blocks.once b in
          let lt = ltb-true b s.sizes.blocks (one_if_positive (ltb b s.sizes.blocks) (omega arith)) in
          omega arith;
      tasks_below = λ t is. let lt = k.tasks.small t is in omega arith;
      exchanges_below = λ e is. let lt = open_below s.exchanges e is in let n = k.shape.exchanges in omega arith;
    }
