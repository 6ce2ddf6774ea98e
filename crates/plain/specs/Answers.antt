-- What an answer tells: one definition for each case. Assumes nothing.
--   AnswerFields       the six values of an answer
--   answer_fields      of an answer, where r is the running task after the call
use Rattle.std.specs.Prelude.{ℕ, List, Option}
use Rattle.calls.specs.Calls.{zeros}
use Rattle.calls.specs.Refusals.{refusal_number}
use Rattle.ready.specs.declared.task.ReadyTask.{ReadyTask}
use Rattle.plain.specs.Moves.{no_number}
use Rattle.plain.specs.Reasons.{task_of}
use Rattle.plain.specs.declared.answer.Answer.{Answer}
use Rattle.plain.specs.declared.answer.Answer.TheVariants as answer
use Rattle.plain.specs.declared.records.Kind.{Kind}
use Rattle.plain.specs.declared.records.Kind.TheVariants as kind

pub record AnswerFields : Type 0 where
  -- the refusal's number, or 0
  pub refusal : ℕ
  -- the running task after the call, or 255
  pub running : ℕ
  -- a block, or 65,535
  pub number : ℕ
  -- 0 for none
  pub kind : ℕ
  pub status : ℕ
  -- eight bytes
  pub message : List ℕ

abbrev pub kind_number : Kind → ℕ
kind_number kind.Message = 1
kind_number kind.Request = 2
kind_number kind.Reply = 3
kind_number kind.Alarm = 4

module _ {M : Type 0} (form : M → List ℕ) where
  abbrev pub answer_fields : Option ReadyTask → Answer M → AnswerFields
  answer_fields r (answer.Refused why) =
      record { refusal = refusal_number why; running = task_of r; number = no_number; kind = 0; status = 0; message = zeros }
  answer_fields r answer.Done =
      record { refusal = 0; running = task_of r; number = no_number; kind = 0; status = 0; message = zeros }
  answer_fields r (answer.Block b) =
      record { refusal = 0; running = task_of r; number = b; kind = 0; status = 0; message = zeros }
  answer_fields r (answer.Took k) =
      record { refusal = 0; running = task_of r; number = no_number; kind = kind_number k; status = 0; message = zeros }
  answer_fields r (answer.Tray i m) =
      record { refusal = 0; running = task_of r; number = i.number; kind = kind_number i.kind; status = i.status; message = form m }
