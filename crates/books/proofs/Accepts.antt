-- What an accepted call tells: no reason holds against it. Assumes nothing.
use Rattle.std.proofs.Common.{◌≡◌, ℕ, zero, suc, ◌<◌, Bool, true, false, cond, List, [], ◌∷◌, length, get_or, Some, None, Option, refl, arith}
use Rattle.std.proofs.lemmas.Bool.{false≢true}
use Rattle.std.specs.List.{AllByRecursion}
use Rattle.calls.specs.declared.refusal.Refusal.{Refusal}
use Rattle.plain.specs.Calls.{Call}
use Rattle.plain.specs.Lookups.{closed_exchange, is_open}
use Rattle.plain.specs.Reasons.{all_refusals, already_there, bad_message, bad_name, closes_bound, ends_holding, first_holding, holds, named_is_closed, no_free_block, no_item, none_running, not_held, out_of_range, refusal_of, register_full, unknown_name, wrong_tables}
use Rattle.plain.specs.States.{Exchange, State}

pub none_holds : (p : Refusal → Bool) (rs : List Refusal) → first_holding p rs ≡ None → AllByRecursion (λ r. p r ≡ false) rs
none_holds p [] e = tt
none_holds p (r ∷ rs) e = go (p r) refl e (λ k. none_holds p rs k)
  where
    go : (b : Bool) → p r ≡ b → cond b (Some r) (first_holding p rs) ≡ None → (first_holding p rs ≡ None → AllByRecursion (λ x. p x ≡ false) rs)
        → (p r ≡ false) × AllByRecursion (λ x. p x ≡ false) rs
    go true t bad later = let z : ◌≡◌ {A = ℕ} 0 1 = cc in absurd (omega arith)
    go false t rest later = (t, later rest)

-- each reason by its name
pub record NoReason {M : Type 0} (reading : List ℕ → Option M) (s : State M) (c : Call) : Type 0 where
  pub tables : wrong_tables s ≡ false
  pub name : bad_name c ≡ false
  pub message : bad_message reading c ≡ false
  pub running : none_running s c ≡ false
  pub range : out_of_range s c ≡ false
  pub there : already_there s c ≡ false
  pub closed : named_is_closed s c ≡ false
  pub unknown : unknown_name s c ≡ false
  pub bound : closes_bound s c ≡ false
  pub full : register_full s c ≡ false
  pub block : no_free_block s c ≡ false
  pub item : no_item s c ≡ false
  pub held : not_held s c ≡ false
  pub hand : ends_holding s c ≡ false

pub no_reason : {M : Type 0} (reading : List ℕ → Option M) (s : State M) (c : Call) → refusal_of reading s c ≡ None → NoReason reading s c
no_reason reading s c e =
    let a = none_holds (holds reading s c) all_refusals e in
    record {
      tables = a.1.0;
      name = a.1.1.1.1.1.1.0;
      message = a.1.1.1.1.1.1.1.0;
      running = a.1.1.1.1.1.1.1.1.0;
      range = a.1.1.1.1.1.1.1.1.1.0;
      there = a.1.1.1.1.1.1.1.1.1.1.0;
      closed = a.1.1.1.1.1.1.1.1.1.1.1.0;
      unknown = a.1.1.1.1.1.1.1.1.1.1.1.1.0;
      bound = a.1.1.1.1.1.1.1.1.1.1.1.1.1.0;
      full = a.1.1.1.1.1.1.1.1.1.1.1.1.1.1.0;
      block = a.1.1.1.1.1.1.1.1.1.1.1.1.1.1.1.0;
      item = a.1.1.1.1.1.1.1.1.1.1.1.1.1.1.1.1.0;
      held = a.1.1.1.1.1.1.1.1.1.1.1.1.1.1.1.1.1.0;
      hand = a.1.1.1.1.1.1.1.1.1.1.1.1.1.1.1.1.1.1.0;
    }

-- an exchange past the end is closed, so an open one is there
pub open_below : (xs : List Exchange) (e : ℕ) → is_open (get_or xs e closed_exchange).state ≡ true → e < length xs
open_below [] e h = absurd (false≢true h)
open_below (x ∷ xs) zero h = omega arith
open_below (x ∷ xs) (suc e) h = let k = open_below xs e h in omega arith
