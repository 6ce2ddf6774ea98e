-- The law of the books over every run: of one station, of one call, of several stations, and of runs made from calls. Assumes nothing.
use Rattle.std.proofs.Common.{◌≡◌, ℕ, suc, Bool, true, false, cond, not, ◌&&◌, ◌||◌, eqb, List, [], ◌∷◌, Some, None, Option, sym, refl, ap, ◌∙◌, subst}
use Rattle.std.proofs.lemmas.Bool.{and_from, both_ways, cond-false, cond-true, eq-eqb, eqb-true, false≢true}
use Rattle.calls.specs.declared.refusal.Refusal.{Refusal}
use Rattle.pool.specs.Marks.{marked}
use Rattle.plain.specs.Calls.{Call}
use Rattle.plain.specs.Outcomes.{Draws, outcome, outcome_by}
use Rattle.plain.specs.Reasons.{any_free, needs_block, refusal_of}
use Rattle.plain.specs.States.{State}
use Rattle.books.specs.Interleaving.{CallAt, FirstAt, SecondAt, events_of, replaced, world_of}
use Rattle.books.specs.Laws.{Books}
use Rattle.books.specs.Making.{Submission, calls_made, lowest_free, step_of, steps_from}
use Rattle.books.specs.Runs.{History, Lawful, Opening, Run, Step, now_of}
use Rattle.books.specs.Systems.{Agrees, Event, First, Moves, Openings, Second, SystemRun, World, first_steps, second_steps}
use Rattle.books.proofs.Accepted.{accepted_kept}
use Rattle.books.proofs.Accepts.{no_reason}
use Rattle.books.proofs.Invariants.{Kept}
use Rattle.books.proofs.LawOf.{books_of}
use Rattle.books.proofs.Opened.{opening_kept}
use Rattle.books.proofs.Refused.{refused_kept}
use Rattle.books.proofs.SizesStay.{outcome_sizes}

module _ {M : Type 0} (reading : List ℕ → Option M) where
  -- ---- one step

  -- the step of the rules, where the call is refused so or accepted
  abbrev made_by : Option Refusal → State M → Call → ℕ → Step M
  made_by o s c n =
      record { before = s; call = c; drawn = n; answer = (outcome_by reading o s c n).answer; after = (outcome_by reading o s c n).after }

  made_kept : (h : History M) (s : State M) (c : Call) (n : ℕ) → Kept reading h s → Draws reading s c n
      → Kept reading (made_by (refusal_of reading s c) s c n ∷ h) (outcome reading s c n).after
  made_kept h s c n k d = go (refusal_of reading s c) refl
    where
      go : (o : Option Refusal) → refusal_of reading s c ≡ o → Kept reading (made_by o s c n ∷ h) (outcome_by reading o s c n).after
      go (Some r) e = refused_kept reading h r s c n k
      go None e = accepted_kept reading h s c n k e (d e)

  -- a lawful step is that of the rules
  the_step : (st : Step M) → Lawful reading st → made_by (refusal_of reading st.before st.call) st.before st.call st.drawn ≡ st
  the_step st l =
      λ i. record { before = st.before; call = st.call; drawn = st.drawn; answer = sym l.answered i; after = sym l.moved i }

  step_kept : (h : History M) (st : Step M) → Kept reading h st.before → Lawful reading st → Kept reading (st ∷ h) st.after
  step_kept h st k l =
      let P : Step M → Type 0 = λ x. Kept reading (x ∷ h) x.after in
      subst P (the_step st l) (made_kept h st.before st.call st.drawn k l.drew)

  -- ---- runs

  pub run_kept : (o : Opening M) (h : History M) → Run reading o h → Kept reading h (now_of o h)
  run_kept o [] r = opening_kept reading o
  run_kept o (st ∷ h) r =
      let P : State M → Type 0 = λ x. Kept reading h x in
      step_kept h st (subst P (sym r.1) (run_kept o h r.0)) r.2

  pub run_sizes : (o : Opening M) (h : History M) → Run reading o h → (now_of o h).sizes ≡ o.sizes
  run_sizes o [] r = refl
  run_sizes o (st ∷ h) r =
      ap (λ (x : State M). x.sizes) r.2.moved ∙ outcome_sizes reading st.before st.call st.drawn
      ∙ ap (λ (x : State M). x.sizes) r.1 ∙ run_sizes o h r.0

  pub run_books : (o : Opening M) (h : History M) → Run reading o h → Books reading o h
  run_books o h r = books_of reading o h (run_sizes o h r) (run_kept o h r)

  pub one_call : (o : Opening M) (h : History M) → Run reading o h → (st : Step M) → st.before ≡ now_of o h → Lawful reading st
      → Run reading o (st ∷ h) × Books reading o (st ∷ h)
  one_call o h r st e l = ((r, e, l), run_books o (st ∷ h) (r, e, l))

  -- ---- runs made from calls

  lowest_marked : (ms : List Bool) → any_free ms ≡ true → marked ms (lowest_free ms) ≡ true
  lowest_marked [] h = absurd (false≢true h)
  lowest_marked (m ∷ ms) h = go m h (λ k. lowest_marked ms k)
    where
      go : (b : Bool) → (b || any_free ms) ≡ true → (any_free ms ≡ true → marked ms (lowest_free ms) ≡ true)
          → marked (b ∷ ms) (cond b 0 (suc (lowest_free ms))) ≡ true
      go true k later = refl
      go false k later = later k

  draws_lowest : (s : State M) (c : Call) → Draws reading s c (lowest_free s.free)
  draws_lowest s c e needs = go (any_free s.free) refl (no_reason reading s c e).block
    where
      go : (b : Bool) → any_free s.free ≡ b → (needs_block s c && not b) ≡ false → marked s.free (lowest_free s.free) ≡ true
      go true a f = lowest_marked s.free a
      go false a f = absurd (both_ways (needs_block s c && true) f (and_from (needs_block s c) true needs refl))

  step_lawful : (s : State M) (c : Call) → Lawful reading (step_of reading s c)
  step_lawful s c = record { answered = refl; moved = refl; drew = draws_lowest s c }

  steps_run : (o : Opening M) (h : History M) (cs : List Call) → Run reading o h → Run reading o (steps_from reading o h cs)
  steps_run o h [] r = r
  steps_run o h (c ∷ cs) r =
      steps_run o (step_of reading (now_of o h) c ∷ h) cs (r, refl, step_lawful (now_of o h) c)

  pub makes : (o : Opening M) (xs : List Submission)
      → Run reading o (steps_from reading o [] (calls_made reading xs)) × Books reading o (steps_from reading o [] (calls_made reading xs))
  makes o xs =
      let r = steps_run o [] (calls_made reading xs) tt in
      (r, run_books o (steps_from reading o [] (calls_made reading xs)) r)

  -- ---- of several stations, one of them

  -- its steps so far are a run that ends at its state
  pub record Going (o : Opening M) (h : History M) (s : State M) : Type 0 where
    pub run : Run reading o h
    pub now : now_of o h ≡ s

  going_on : (o : Opening M) (h : History M) (s u : State M) → u ≡ s → Going o h s → Going o h u
  going_on o h s u e g = record { run = g.run; now = g.now ∙ sym e }

  going_step : (o : Opening M) (h : History M) (i j : ℕ) (st : Step M) (f g : ℕ → State M) → Moves reading j st f g → Going o h (f i)
      → Going o (cond (eqb i j) (st ∷ h) h) (g i)
  going_step o h i j st f g m k = go (eqb i j) refl
    where
      go : (b : Bool) → eqb i j ≡ b → Going o (cond b (st ∷ h) h) (g i)
      go true e =
          let same = eqb-true i j e in
          record {
            run = (k.run, m.from ∙ ap f (sym same) ∙ sym k.now, m.lawful);
            now = sym (ap g same ∙ m.to);
          }
      go false e = going_on o h (f i) (g i) (m.others i e) k

  pub going_agrees : (o : Opening M) (h : History M) (s : State M) → Going o h s → Agrees reading o h s
  going_agrees o h s g = record { run = g.run; now = g.now; books = run_books o h g.run }

-- ---- several stations

module _ {A B : Type 0} (ra : List ℕ → Option A) (rb : List ℕ → Option B) where
  all_going : (o : Openings A B) (es : List (Event A B)) (w : World A B) → SystemRun ra rb o es w
      → ((i : ℕ) → Going ra (o.first i) (first_steps i es) (w.first i)) × ((i : ℕ) → Going rb (o.second i) (second_steps i es) (w.second i))
  all_going o [] w r = (λ i. record { run = tt; now = sym (r.0 i) }, λ i. record { run = tt; now = sym (r.1 i) })
  all_going o (First j st ∷ es) w (v, r, m, stay) =
      let k = all_going o es v r in (
        λ i. going_step ra (o.first i) (first_steps i es) i j st v.first w.first m (k.0 i),
        λ i. going_on rb (o.second i) (second_steps i es) (v.second i) (w.second i) (stay i) (k.1 i),
      )
  all_going o (Second j st ∷ es) w (v, r, m, stay) =
      let k = all_going o es v r in (
        λ i. going_on ra (o.first i) (first_steps i es) (v.first i) (w.first i) (stay i) (k.0 i),
        λ i. going_step rb (o.second i) (second_steps i es) i j st v.second w.second m (k.1 i),
      )

  pub at_every_station : (o : Openings A B) (es : List (Event A B)) (w : World A B) → SystemRun ra rb o es w
      → ((i : ℕ) → Agrees ra (o.first i) (first_steps i es) (w.first i)) × ((i : ℕ) → Agrees rb (o.second i) (second_steps i es) (w.second i))
  at_every_station o es w r =
      let k = all_going o es w r in (
        λ i. going_agrees ra (o.first i) (first_steps i es) (w.first i) (k.0 i),
        λ i. going_agrees rb (o.second i) (second_steps i es) (w.second i) (k.1 i),
      )

  -- ---- every interleaving makes one

  replaced_moves : {M : Type 0} (reading : List ℕ → Option M) (i : ℕ) (c : Call) (f : ℕ → State M)
      → Moves reading i (step_of reading (f i) c) f (replaced i (step_of reading (f i) c).after f)
  replaced_moves reading i c f =
      record {
        from = refl;
        to = cond-true (eqb i i) _ (f i) (eq-eqb i i refl);
        lawful = step_lawful reading (f i) c;
        others = λ j e. cond-false (eqb j i) _ (f j) e;
      }

  pub interleaves : (o : Openings A B) (cs : List CallAt) → SystemRun ra rb o (events_of ra rb o cs) (world_of ra rb o cs)
  interleaves o [] = (λ i. refl, λ i. refl)
  interleaves o (FirstAt i c ∷ cs) =
      (world_of ra rb o cs, interleaves o cs, replaced_moves ra i c (world_of ra rb o cs).first, λ j. refl)
  interleaves o (SecondAt i c ∷ cs) =
      (world_of ra rb o cs, interleaves o cs, replaced_moves rb i c (world_of ra rb o cs).second, λ j. refl)
