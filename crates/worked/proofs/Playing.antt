-- A run by its calls can be computed where it is known how each message is read. Assumes nothing.
use Rattle.std.proofs.Common.{◌≡◌, ℕ, cond, List, [], ◌∷◌, Some, None, Option, refl, ap, ◌∙◌}
use Rattle.calls.specs.Codes.{uses}
use Rattle.calls.specs.declared.refusal.Refusal.{Refusal}
use Rattle.plain.specs.Calls.{Call, code_in}
use Rattle.plain.specs.Calls as call
use Rattle.plain.specs.Effects.{Outcome, effect}
use Rattle.plain.specs.Moves.{settles}
use Rattle.plain.specs.Outcomes.{outcome, outcome_by}
use Rattle.plain.specs.Reasons.{message, refusal_of}
use Rattle.plain.specs.States.{State}
use Rattle.books.specs.Making.{lowest_free, step_of, steps_from}
use Rattle.books.specs.Runs.{History, Opening, Step, now_of}

module _ {M : Type 0} (reading : List ℕ → Option M) where
  -- the kind in which every message reads as this one
  abbrev pub always : Option M → List ℕ → Option M
  always o bytes = o

  effect_reads : (s : State M) (c : Call) (n : ℕ) → effect reading s c n ≡ effect (always (reading (message c))) s c n
  effect_reads s (call.Start t p) n = refl
  effect_reads s (call.Open e) n = refl
  effect_reads s (call.Close e) n = refl
  effect_reads s (call.Register e name) n = refl
  effect_reads s (call.Strike name) n = refl
  effect_reads s (call.Post e m) n = refl
  effect_reads s call.Tick n = refl
  effect_reads s (call.Send e m) n = refl
  effect_reads s (call.Wait e) n = refl
  effect_reads s (call.Check e) n = refl
  effect_reads s (call.Request r name m) n = refl
  effect_reads s (call.Respond b status) n = refl
  effect_reads s (call.Move b e) n = refl
  effect_reads s (call.Alarm e ticks m) n = refl
  effect_reads s (call.Cancel b) n = refl
  effect_reads s (call.Priority p) n = refl
  effect_reads s call.End n = refl
  effect_reads s call.Tray n = refl

  outcome_reads : (s : State M) (c : Call) (n : ℕ) → outcome reading s c n ≡ outcome (always (reading (message c))) s c n
  outcome_reads s c n = go (refusal_of reading s c)
    where
      go : (o : Option Refusal) → outcome_by reading o s c n ≡ outcome_by (always (reading (message c))) o s c n
      go (Some r) = refl
      go None = ap (λ (x : Outcome M). record { answer = x.answer; after = settles x.after }) (effect_reads s c n)

  -- each call with how its message is read
  abbrev pub fill : Option M → List Call → List (Call × Option M)
  fill o [] = []
  fill o (c ∷ cs) = (c, cond (uses (code_in c)).message o (reading (message c))) ∷ fill o cs

  abbrev pub with_readings : List Call → List (Call × Option M)
  with_readings [] = []
  with_readings (c ∷ cs) = (c, reading (message c)) ∷ with_readings cs

  abbrev pub played : Opening M → History M → List (Call × Option M) → History M
  played o h [] = h
  played o h (x ∷ xs) = played o (step_of (always x.1) (now_of o h) x.0 ∷ h) xs

  same_step : (s : State M) (c : Call) → step_of reading s c ≡ step_of (always (reading (message c))) s c
  same_step s c =
      ap (λ (x : Outcome M). record { before = s; call = c; drawn = lowest_free s.free; answer = x.answer; after = x.after })
      (outcome_reads s c (lowest_free s.free))

  played_is : (o : Opening M) (h : History M) (cs : List Call) → steps_from reading o h cs ≡ played o h (with_readings cs)
  played_is o h [] = refl
  played_is o h (c ∷ cs) =
      played_is o (step_of reading (now_of o h) c ∷ h) cs
      ∙ ap (λ (st : Step M). played o (st ∷ h) (with_readings cs)) (same_step (now_of o h) c)

  -- where every message of the calls has these bytes
  pub by_playing : (o : Opening M) (cs : List Call) (bytes : List ℕ) (r : Option M) → reading bytes ≡ r
      → with_readings cs ≡ fill (reading bytes) cs → steps_from reading o [] cs ≡ played o [] (fill r cs)
  by_playing o cs bytes r e f = played_is o [] cs ∙ ap (played o []) f ∙ ap (λ x. played o [] (fill x cs)) e
