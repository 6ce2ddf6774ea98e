-- A refused step keeps the invariant: nothing was done, and nothing changed. Assumes nothing.
use Rattle.std.proofs.Common.{◌≡◌, ℕ, List, [], ◌∷◌, ◌++◌, Option, sym, ap, ◌∙◌}
use Rattle.std.proofs.lemmas.List.{append-nil}
use Rattle.std.proofs.lemmas.Bool.{false≢true}
use Rattle.std.specs.List.{flat_map}
use Rattle.calls.specs.declared.refusal.Refusal.{Refusal}
use Rattle.plain.specs.Calls.{Call}
use Rattle.plain.specs.Lookups.{exchange_at, waiting}
use Rattle.plain.specs.States.{State}
use Rattle.books.specs.Deeds.{gone, in_tray, put_at, taken_at, takes, waiting_items}
use Rattle.books.specs.Runs.{History}
use Rattle.books.proofs.FlowLists.{gone_none}
use Rattle.books.proofs.Invariants.{Kept, refused_step_of}

module _ {M : Type 0} (reading : List ℕ → Option M) (h : History M) (r : Refusal) (s : State M) (c : Call) (n : ℕ) where
  takes_none : (e : ℕ) → takes (refused_step_of reading r s c n) e ≡ []
  takes_none e = ap (flat_map (in_tray s)) (ap (gone (waiting (exchange_at s e))) (sym (append-nil (waiting (exchange_at s e)))) ∙ gone_none (waiting (exchange_at s e)) [])

  pub refused_kept : Kept reading h s → Kept reading (refused_step_of reading r s c n ∷ h) s
  refused_kept k =
      record {
        shape = k.shape;
        blocks = k.blocks;
        opens = k.opens;
        asks = record {
          stands = k.asks.stands;
          turns = λ b. (k.asks.turns b, λ no_ask. absurd (false≢true no_ask), λ no_answer. absurd (false≢true no_answer));
          asked_for = k.asks.asked_for;
        };
        given = record { given = k.given.given };
        tasks = record {
          once = k.tasks.once;
          small = k.tasks.small;
          priority = k.tasks.priority;
          range = k.tasks.range;
          line = k.tasks.line;
          ready_priority = k.tasks.ready_priority;
          running_priority = k.tasks.running_priority;
        };
        held = record { held = k.held.held };
        best = k.best;
        flow = λ e is.
            ap (λ l. l ++ waiting_items s e) (ap (λ l. taken_at h e ++ l) (takes_none e) ∙ append-nil (taken_at h e))
            ∙ k.flow e is
            ∙ sym (append-nil (put_at reading h e));
      }
