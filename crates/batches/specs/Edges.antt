-- The worked edges that concern batches. Assumes nothing.
--   an empty batch makes no call, and three bytes give 3; dock 500 is read, and 501 gives 8; a name with a blank inside gives 7
use Rattle.std.specs.Prelude.{◌≡◌, ℕ, false, List, [], ◌∷◌, length, Some, None, Option, MatchOption}
use Rattle.messages.specs.Docks.{dock_reading}
use Rattle.messages.specs.Names.{service_name}
use Rattle.messages.specs.declared.dock.DockEvent.TheVariants.{Return}
use Rattle.calls.specs.Calls.{fields, zeros}
use Rattle.calls.specs.Refusals.{refusal_number}
use Rattle.batches.specs.Layout.{batch_records, written}
use Rattle.batches.specs.Refused.{batch_refusal, batch_row}
use Rattle.batches.specs.Verdicts.{Verdict, verdict}

-- the number of a verdict, 0 where it accepts, and its row
abbrev pub number_of : Verdict → ℕ
number_of None = 0
number_of (Some e) = refusal_number (batch_refusal e)

abbrev pub row_of : Verdict → Option ℕ
row_of None = None
row_of (Some e) = batch_row e

-- the code of Post and of Strike
abbrev pub post_of : List ℕ → List ℕ
post_of message = written (fields 6 2 0 0 zeros message ∷ [])

abbrev pub strike_of : List ℕ → List ℕ
strike_of name = written (fields 5 0 0 0 name zeros ∷ [])

-- "BILL ING"
abbrev pub bill_ing : List ℕ
bill_ing = 66 ∷ 73 ∷ 76 ∷ 76 ∷ 32 ∷ 73 ∷ 78 ∷ 71 ∷ []

-- bicycle 300 is returned at dock 500, and at dock 501
abbrev pub at_500 : List ℕ
at_500 = 2 ∷ 0 ∷ 244 ∷ 1 ∷ 44 ∷ 1 ∷ 0 ∷ 0 ∷ []

abbrev pub at_501 : List ℕ
at_501 = 2 ∷ 0 ∷ 245 ∷ 1 ∷ 44 ∷ 1 ∷ 0 ∷ 0 ∷ []

-- of every kind of message
pub record BatchEdges {M : Type 0} (reading : List ℕ → Option M) : Type 0 where
  pub empty : verdict reading (0 ∷ 0 ∷ 24 ∷ 0 ∷ []) ≡ None
  pub no_call : batch_records (0 ∷ 0 ∷ 24 ∷ 0 ∷ []) ≡ []
  pub three_bytes : (b : List ℕ) → length b ≡ 3 → (number_of (verdict reading b) ≡ 3) × (row_of (verdict reading b) ≡ None)
  pub blank_inside : service_name bill_ing ≡ false
  pub bad_name : (number_of (verdict reading (strike_of bill_ing)) ≡ 7) × (row_of (verdict reading (strike_of bill_ing)) ≡ Some 0)

-- of dock messages
pub record DockEdges : Type 0 where
  pub dock_500 : MatchOption (dock_reading at_500) ⊥ (λ m. (m.event ≡ Return) × (m.dock ≡ 500) × (m.bicycle ≡ 300))
  pub posted_500 : verdict dock_reading (post_of at_500) ≡ None
  pub dock_501 : dock_reading at_501 ≡ None
  pub posted_501 : (number_of (verdict dock_reading (post_of at_501)) ≡ 8) × (row_of (verdict dock_reading (post_of at_501)) ≡ Some 0)
