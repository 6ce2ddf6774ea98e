-- Runs that are made from a list of calls, singly or in batches: the premises of the law can always be met. Assumes nothing.
--   lowest_free ms       the lowest number that is free
--   step_of s c          the step that call c makes at s, where the pool hands out the lowest free number
--   steps_from o h cs    the run h with the calls cs made after it, in their order
--   Submission           a call made singly, or the bytes of a batch
--   calls_made           the calls that submissions make: an accepted batch makes all its calls in order, a refused one none
--   Makes                every list of submissions makes a run, and its books agree
use Rattle.std.specs.Prelude.{ℕ, suc, Bool, cond, List, [], ◌∷◌, ◌++◌, Some, None, Option}
use Rattle.calls.specs.declared.record.CallRecord.{CallRecord}
use Rattle.batches.specs.Layout.{batch_records}
use Rattle.batches.specs.Verdicts.{Verdict, verdict}
use Rattle.plain.specs.Calls.{Call, call_of}
use Rattle.plain.specs.Outcomes.{outcome}
use Rattle.plain.specs.States.{State}
use Rattle.books.specs.Laws.{Books}
use Rattle.books.specs.Runs.{History, Opening, Run, Step, now_of}

-- 0 where none is free
abbrev pub lowest_free : List Bool → ℕ
lowest_free [] = 0
lowest_free (m ∷ ms) = cond m 0 (suc (lowest_free ms))

pub data Submission : Type 0 where
  Single : Call → Submission
  Batch : (bytes : List ℕ) → Submission

abbrev pub call_if : Option Call → List Call
call_if None = []
call_if (Some c) = c ∷ []

abbrev pub calls_of : List CallRecord → List Call
calls_of [] = []
calls_of (r ∷ rs) = call_if (call_of r) ++ calls_of rs

abbrev pub accepted_calls : Verdict → List ℕ → List Call
accepted_calls None bytes = calls_of (batch_records bytes)
accepted_calls (Some refused) bytes = []

module _ {M : Type 0} (reading : List ℕ → Option M) where
  abbrev pub step_of : State M → Call → Step M
  step_of s c =
      record {
        before = s;
        call = c;
        drawn = lowest_free s.free;
        answer = (outcome reading s c (lowest_free s.free)).answer;
        after = (outcome reading s c (lowest_free s.free)).after;
      }

  abbrev pub steps_from : Opening M → History M → List Call → History M
  steps_from o h [] = h
  steps_from o h (c ∷ cs) = steps_from o (step_of (now_of o h) c ∷ h) cs

  abbrev pub calls_of_one : Submission → List Call
  calls_of_one (Single c) = c ∷ []
  calls_of_one (Batch bytes) = accepted_calls (verdict reading bytes) bytes

  abbrev pub calls_made : List Submission → List Call
  calls_made [] = []
  calls_made (x ∷ xs) = calls_of_one x ++ calls_made xs

  abbrev pub Makes : Type 0
  Makes =
      (o : Opening M) (xs : List Submission)
      → Run reading o (steps_from o [] (calls_made xs)) × Books reading o (steps_from o [] (calls_made xs))
