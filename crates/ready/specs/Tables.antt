-- The tables of the priority lines and the two steps on them. Assumes nothing.
--   empty            a line with no task
--   tasks_of next c  the tasks of a line
--   lines_of s       the tasks of each line
--   line_of s        the line of ready tasks that the tables hold
--   chain_at s p     what the tables have for line p
--   best_line s      the lowest line that is not empty, by its bit, or none
--   IsIdle s         no task in any line
--   IsWhole s        what the tables keep: a bit for each line that is not empty and for each task, the count, each line's last
--   CanPush x s      the numbers are in range, and one more fits the counts
--   pushed x s       the task put at the end of its line. The first is written where the line was empty, else the last one's link
--   CanPull p s      line p is not empty
--   pulled p s       the first of line p taken away. The bit is cleared where the line is empty then
use Rattle.std.specs.Prelude.{◌≡◌, ℕ, ◌+◌, ◌-◌, ◌^◌, ◌<◌, true, cond, List, length, map, min, replicate, Some, None, Option, ◌==◌, bit_or, bit_xor, slice_index, slice_index_or, slice_set}
use Rattle.std.specs.Int.{bit_at, trailing_zeros, w32}
use Rattle.ready.specs.Links.{ends, flat, walk}
use Rattle.ready.specs.Order.{listed, sound}
use Rattle.ready.specs.declared.lines.table.Chain.{Chain}
use Rattle.ready.specs.declared.lines.table.LineTable.{LineTable}
use Rattle.ready.specs.declared.task.ReadyTask.{ReadyTask}

abbrev pub empty : Chain
empty = record { first = 0; last = 0; len = 0 }

abbrev pub tasks_of : List ℕ → Chain → List ℕ
tasks_of next c = walk next c.len c.first

abbrev pub lines_of : LineTable → List (List ℕ)
lines_of s = map (tasks_of s.next) s.lines

abbrev pub line_of : LineTable → List ReadyTask
line_of s = flat 0 (lines_of s)

abbrev pub chain_at : LineTable → ℕ → Chain
chain_at s p = slice_index_or s.lines p empty

abbrev pub best_line : LineTable → Option ℕ
best_line s = cond (s.word == 0) None (Some (trailing_zeros w32 s.word))

abbrev pub IsIdle : LineTable → Type 0
IsIdle s = record { marks : s.marks ≡ 0; word : s.word ≡ 0; count : s.count ≡ 0; lines : s.lines ≡ replicate 32 empty }

pub record IsWhole (s : LineTable) : Type 0 where
  pub lines_marked : (q : ℕ) → bit_at s.word q ≡ min (chain_at s q).len 1
  pub tasks_marked : (t : ℕ) → t < 64 → (bit_at s.marks t == 1) ≡ listed t (line_of s)
  pub counted : s.count ≡ length (line_of s)
  pub in_order : sound (line_of s) ≡ true
  pub last_known : (q : ℕ) → ends (tasks_of s.next (chain_at s q)) (chain_at s q).last ≡ true

pub record CanPush (x : ReadyTask) (s : LineTable) : Type 0 where
  pub task_fits : x.task < 64
  pub priority_fits : x.priority < 32
  pub count_fits : s.count < 64
  pub len_fits : (chain_at s x.priority).len < 64
  pub last_fits : 0 < (chain_at s x.priority).len → (chain_at s x.priority).last < 64

abbrev pub pushed : ReadyTask → LineTable → LineTable
pushed x s =
    let c = chain_at s x.priority in
    record {
      marks = bit_or s.marks (2 ^ x.task);
      word = bit_or s.word (2 ^ x.priority);
      count = s.count + 1;
      lines = slice_set s.lines x.priority (record { first = cond (c.len == 0) x.task c.first; last = x.task; len = c.len + 1 });
      next = cond (c.len == 0) s.next (slice_set s.next c.last x.task);
    }

pub record CanPull (p : ℕ) (s : LineTable) : Type 0 where
  pub priority_fits : p < 32
  pub some : 0 < s.count
  pub some_here : 0 < (chain_at s p).len
  pub first_fits : (chain_at s p).first < 64

abbrev pub pulled : ℕ → LineTable → LineTable
pulled p s =
    let c = chain_at s p in
    record {
      marks = bit_xor s.marks (2 ^ c.first);
      word = cond (c.len - 1 == 0) (bit_xor s.word (2 ^ p)) s.word;
      count = s.count - 1;
      lines = slice_set s.lines p (record { first = slice_index s.next c.first; last = c.last; len = c.len - 1 });
      next = s.next;
    }
