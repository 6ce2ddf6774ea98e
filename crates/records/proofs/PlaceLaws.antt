-- The first of a list that passes a test, found and removed: a name and the alarm of a block, by where they stand. Assumes nothing.
use Rattle.std.proofs.Common.{◌≡◌, ℕ, suc, ◌+◌, ◌<◌, ◌≤◌, Bool, true, false, cond, not, ◌&&◌, ◌⊎◌, inl, inr, eqb, ltb, List, [], ◌∷◌, bytes_eq, length, Some, None, Option, position, slice_get, option_map, option_and_then, unwrap_or, sym, refl, ap, ◌∙◌, one-add, arith}
use Rattle.std.proofs.lemmas.Bool.{cases_lt, le-ltb, lt-ltb}
use Rattle.std.specs.List.{prefix_len, remove}
use Rattle.messages.specs.Bytes.{same_bytes}
use Rattle.plain.specs.Effects.{without_alarm, without_name}
use Rattle.plain.specs.Lookups.{alarm_in, tied_in}
use Rattle.plain.specs.declared.records.AlarmRecord.{AlarmRecord}
use Rattle.plain.specs.declared.records.Binding.{Binding}
use Rattle.records.specs.AlarmLists.{alarm_place}
use Rattle.records.specs.Registers.{name_place}

step_on : (m k : ℕ) → cond (ltb (1 + m) (suc k)) (Some (1 + m)) None ≡ option_map suc (cond (ltb m k) (Some m) None)
step_on m k = go (cases_lt m k)
  where
    go : (m < k) ⊎ (k ≤ m) → cond (ltb (1 + m) (suc k)) (Some (1 + m)) None ≡ option_map suc (cond (ltb m k) (Some m) None)
    go (inl low) =
        ap (λ b. cond b (Some (1 + m)) None) (lt-ltb (1 + m) (suc k) (omega arith))
        ∙ (ap (λ i. Some i) (one-add m) ∙ sym (ap (λ b. option_map suc (cond b (Some m) None)) (lt-ltb m k low)))
    go (inr past) =
        ap (λ b. cond b (Some (1 + m)) None) (le-ltb (1 + m) (suc k) (omega arith))
        ∙ sym (ap (λ b. option_map suc (cond b (Some m) None)) (le-ltb m k past))

module _ {X : Type 0} (p : X → Bool) where
  place_more : (x : X) (xs : List X) → position p (x ∷ xs) ≡ cond (p x) (Some 0) (option_map suc (position p xs))
  place_more x xs = go (p x)
    where
      n : ℕ
      n = prefix_len (λ y. not (p y)) xs

      at : ℕ → ℕ → Option ℕ
      at m k = cond (ltb m k) (Some m) None

      go : (b : Bool) → at (cond (not b) (1 + n) 0) (suc (length xs)) ≡ cond b (Some 0) (option_map suc (at n (length xs)))
      go true = ap (λ b. cond b (Some 0) None) (lt-ltb 0 (suc (length xs)) (omega arith))
      go false = step_on n (length xs)

  module _ {B : Type 0} (g : X → B) (F : List X → Option B) (none : F [] ≡ None) (more : (x : X) (xs : List X) → F (x ∷ xs) ≡ cond (p x) (Some (g x)) (F xs)) where
    found : (l : List X) → F l ≡ option_map g (option_and_then (slice_get l) (position p l))
    found [] = none
    found (x ∷ xs) =
        more x xs
        ∙ (go (p x) (position p xs) (found xs) ∙ sym (ap (λ o. option_map g (option_and_then (slice_get (x ∷ xs)) o)) (place_more x xs)))
      where
        go : (b : Bool) (o : Option ℕ) → F xs ≡ option_map g (option_and_then (slice_get xs) o)
            → cond b (Some (g x)) (F xs) ≡ option_map g (option_and_then (slice_get (x ∷ xs)) (cond b (Some 0) (option_map suc o)))
        go true o e = refl
        go false None e = e
        go false (Some i) e = e

  module _ (R : List X → List X) (none : R [] ≡ []) (more : (x : X) (xs : List X) → R (x ∷ xs) ≡ cond (p x) xs (x ∷ R xs)) where
    removed : (l : List X) → R l ≡ unwrap_or (option_map (remove l) (position p l)) l
    removed [] = none
    removed (x ∷ xs) =
        more x xs
        ∙ (go (p x) (position p xs) (removed xs) ∙ sym (ap (λ o. unwrap_or (option_map (remove (x ∷ xs)) o) (x ∷ xs)) (place_more x xs)))
      where
        go : (b : Bool) (o : Option ℕ) → R xs ≡ unwrap_or (option_map (remove xs) o) xs
            → cond b xs (x ∷ R xs) ≡ unwrap_or (option_map (remove (x ∷ xs)) (cond b (Some 0) (option_map suc o))) (x ∷ xs)
        go true o e = refl
        go false None e = ap (λ ys. x ∷ ys) e
        go false (Some i) e = ap (λ ys. x ∷ ys) e

same : {X : Type 0} (o : Option X) → option_map (λ x. x) o ≡ o
same None = refl
same (Some x) = refl

same_bytes-bytes_eq : (as' bs : List ℕ) → same_bytes as' bs ≡ bytes_eq as' bs
same_bytes-bytes_eq [] [] = refl
same_bytes-bytes_eq [] (b ∷ bs) = refl
same_bytes-bytes_eq (a ∷ as') [] = refl
same_bytes-bytes_eq (a ∷ as') (b ∷ bs) = ap (λ t. eqb a b && t) (same_bytes-bytes_eq as' bs)

pub tied_at_place : (name : List ℕ) (l : List Binding) → tied_in name l ≡ option_map (λ b. b.exchange) (option_and_then (slice_get l) (name_place name l))
tied_at_place name l = found (λ b. bytes_eq b.name name) (λ b. b.exchange) (tied_in name) refl (λ b bs. ap (λ t. cond t (Some b.exchange) (tied_in name bs)) (same_bytes-bytes_eq b.name name)) l

pub name_out_of_place : (name : List ℕ) (l : List Binding) → without_name name l ≡ unwrap_or (option_map (remove l) (name_place name l)) l
name_out_of_place name l = removed (λ b. bytes_eq b.name name) (without_name name) refl (λ b bs. ap (λ t. cond t bs (b ∷ without_name name bs)) (same_bytes-bytes_eq b.name name)) l

pub alarm_at_place : (block : ℕ) (l : List AlarmRecord) → alarm_in block l ≡ option_and_then (slice_get l) (alarm_place block l)
alarm_at_place block l = found (λ a. eqb block a.block) (λ a. a) (alarm_in block) refl (λ _ _. refl) l ∙ same (option_and_then (slice_get l) (alarm_place block l))

pub alarm_out_of_place : (block : ℕ) (l : List AlarmRecord) → without_alarm block l ≡ unwrap_or (option_map (remove l) (alarm_place block l)) l
alarm_out_of_place block l = removed (λ a. eqb block a.block) (without_alarm block) refl (λ _ _. refl) l

pub ruleset places = (tied_at_place, name_out_of_place, alarm_at_place, alarm_out_of_place)
