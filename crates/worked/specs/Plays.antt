-- Runs from an opening, by their calls, and what is seen of them. Assumes nothing.
--   station t e b m    an opening of these sizes, with both tables full of the message m
--   plays o cs         the run of these calls, in their order, where the pool hands out the lowest free number
--   numbers h          the refusal number of each call, 0 where it was accepted
--   rows h             the answer of each call
--   row                an answer in six values, in the order of the answer page
use Rattle.std.specs.Prelude.{◌≡◌, ℕ, true, List, [], ◌∷◌, ◌++◌, replicate, Option}
use Rattle.calls.specs.Refusals.{refusal_number}
use Rattle.plain.specs.Answers.{AnswerFields, answer_fields}
use Rattle.plain.specs.Calls.{Call}
use Rattle.plain.specs.Openings.{fits, sized}
use Rattle.plain.specs.declared.answer.Answer.{Answer}
use Rattle.plain.specs.declared.answer.Answer.TheVariants as answer
use Rattle.books.specs.Making.{steps_from}
use Rattle.books.specs.Runs.{History, Opening}

abbrev pub station : {M : Type 0} → (t e b : ℕ) → fits (sized t e b) ≡ true → M → Opening M
station t e b f m = record { sizes = sized t e b; messages = replicate b m; trays = replicate t m; fitting = f }

abbrev pub plays : {M : Type 0} → (List ℕ → Option M) → Opening M → List Call → History M
plays reading o cs = steps_from reading o [] cs

abbrev pub refused_with : {M : Type 0} → Answer M → ℕ
refused_with (answer.Refused why) = refusal_number why
refused_with answer.Done = 0
refused_with (answer.Block b) = 0
refused_with (answer.Took k) = 0
refused_with (answer.Tray i m) = 0

abbrev pub numbers : {M : Type 0} → History M → List ℕ
numbers [] = []
numbers (st ∷ h) = numbers h ++ refused_with st.answer ∷ []

abbrev pub rows : {M : Type 0} → (M → List ℕ) → History M → List AnswerFields
rows form [] = []
rows form (st ∷ h) = rows form h ++ answer_fields form st.after.running st.answer ∷ []

abbrev pub row : ℕ → ℕ → ℕ → ℕ → ℕ → List ℕ → AnswerFields
row refusal running number kind status message =
    record { refusal = refusal; running = running; number = number; kind = kind; status = status; message = message }
