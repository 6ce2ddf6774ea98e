-- A pool drained and refilled, one number at a time. Assumes nothing.
use Rattle.std.proofs.Common.{◌≡◌, ℕ, ◌+◌, ◌<◌, ◌≤◌, Bool, true, false, not, ◌||◌, eqb, ◌⊎◌, List, [], ◌∷◌, ◌++◌, length, get_or, take, drop, set, replicate, Some, None, sym, refl, ap, ◌∙◌, inl, inr, arith, drop-set-lt}
use Rattle.std.proofs.lemmas.List.{drop-drop, get_or-set_other, get_or-set_same, length-set, set-get_or, set_past, take_more_set}
use Rattle.std.proofs.lemmas.List.Sums.{count_by-le-length, fold_more}
use Rattle.std.proofs.lemmas.Bool.{and_from, and_parts, both_ways, cases_Bool, cases_eq, cases_lt, eq-eqb, ne_eqb, not_from_false, not-true, or_from, or_left, or_parts, or_right}
use Rattle.pool.specs.Clients.{Covers, Drained, all_given}
use Rattle.pool.specs.Marks.{Returns, Takes, free_count, marked}
use Rattle.pool.specs.Numbers.{distinct, has}
use Rattle.pool.specs.MarkLaws.{all_same, count_none, count_taken, marked_below, none_count}

-- ---- one number more at the end

or_nil : (a b : Bool) → b ≡ false → (a || b) ≡ a
or_nil true b h = refl
or_nil false b h = h

has_push : (ns : List ℕ) (n m : ℕ) → has (ns ++ n ∷ []) m ≡ (has ns m || eqb n m)
has_push [] n m = or_nil (eqb n m) false refl
has_push (k ∷ ns) n m = ap (λ t. eqb k m || t) (has_push ns n m) ∙ assoc (eqb k m) (has ns m) (eqb n m)
  where
    assoc : (a b c : Bool) → (a || (b || c)) ≡ ((a || b) || c)
    assoc true b c = refl
    assoc false b c = refl

distinct_push : (ns : List ℕ) (n : ℕ) → distinct ns ≡ true → has ns n ≡ false → distinct (ns ++ n ∷ []) ≡ true
distinct_push [] n apart out = refl
distinct_push (k ∷ ns) n apart out =
    let two = and_parts (not (has ns k)) (distinct ns) apart in
    let later = or_parts (eqb k n) (has ns n) out in
    let other : eqb n k ≡ false = ne_eqb n k (λ e. both_ways (eqb k n) later.0 (eq-eqb k n (sym e))) in
    and_from (not (has (ns ++ n ∷ []) k)) (distinct (ns ++ n ∷ []))
    (not_from_false _ (has_push ns n k ∙ or_from (has ns k) (eqb n k) (not-true _ two.0) other))
    (distinct_push ns n two.1 later.1)

-- ---- a pool that is drained: c numbers so far

pub record Draining (ms₀ : List Bool) (out₀ : List ℕ) (c : ℕ) (ms : List Bool) (out : List ℕ) : Type 0 where
  pub size : length ms ≡ length ms₀
  pub counted : c + free_count ms ≡ free_count ms₀
  pub split : (n : ℕ) → marked ms₀ n ≡ (has (take c out) n || marked ms n)
  pub gone : (n : ℕ) → has (take c out) n ≡ true → marked ms n ≡ false
  pub once : distinct (take c out) ≡ true
  pub rest : drop c out ≡ drop c out₀

module _ (ms₀ : List Bool) (out₀ : List ℕ) (c : ℕ) (ms : List Bool) (out : List ℕ) (so_far : Draining ms₀ out₀ c ms out) where
  pub draining_more : (n : ℕ) (after : List Bool) → c < length out → Takes ms (Some n) after → Draining ms₀ out₀ (c + 1) after (set out c n)
  draining_more n after room (free, is) =
      let pushed : take (c + 1) (set out c n) ≡ take c out ++ n ∷ [] = take_more_set out c n room in
      let below = marked_below ms n free in
      let one = count_taken ms n free in
      let all = so_far.counted in
      let same = ap free_count is in
      record {
        size = ap length is ∙ (length-set ms n false ∙ so_far.size);
        counted = omega arith;
        split = λ m.
            so_far.split m
            ∙ (split_at m (cases_eq n m)
            ∙ (ap (λ t. t || marked (set ms n false) m) (sym (ap (λ l. has l m) pushed ∙ has_push (take c out) n m))
            ∙ ap (λ l. has (take (c + 1) (set out c n)) m || marked l m) (sym is)));
        gone = λ m h. ap (λ l. marked l m) is ∙ gone_at m (sym (ap (λ l. has l m) pushed ∙ has_push (take c out) n m) ∙ h) (cases_eq n m) below;
        once = ap distinct pushed ∙ distinct_push (take c out) n so_far.once out_of;
        rest = more_rest;
      }
    where
      out_of : has (take c out) n ≡ false
      out_of = go (cases_Bool (has (take c out) n))
        where
          go : (has (take c out) n ≡ true) ⊎ (has (take c out) n ≡ false) → has (take c out) n ≡ false
          go (inl h) = absurd (both_ways (marked ms n) (so_far.gone n h) free)
          go (inr h) = h

      split_at : (m : ℕ) → (n ≡ m) ⊎ (n ≡ m → ⊥) → (has (take c out) m || marked ms m) ≡ ((has (take c out) m || eqb n m) || marked (set ms n false) m)
      split_at m (inl e) =
          or_right (has (take c out) m) (marked ms m) (ap (marked ms) (sym e) ∙ free)
          ∙ sym (or_left (has (take c out) m || eqb n m) (marked (set ms n false) m) (or_right (has (take c out) m) (eqb n m) (eq-eqb n m e)))
      split_at m (inr ne) =
          ap (λ t. has (take c out) m || t) (sym (get_or-set_other ms n m false false (λ e. ne (sym e))))
          ∙ ap (λ t. t || marked (set ms n false) m) (sym (or_nil (has (take c out) m) (eqb n m) (ne_eqb n m ne)))

      gone_at : (m : ℕ) → (has (take c out) m || eqb n m) ≡ true → (n ≡ m) ⊎ (n ≡ m → ⊥) → n < length ms → marked (set ms n false) m ≡ false
      gone_at m h (inl e) below = ap (marked (set ms n false)) (sym e) ∙ get_or-set_same ms n false false below
      gone_at m h (inr ne) below =
          get_or-set_other ms n m false false (λ e. ne (sym e))
          ∙ so_far.gone m (sym (or_nil (has (take c out) m) (eqb n m) (ne_eqb n m ne)) ∙ h)

      more_rest : drop (c + 1) (set out c n) ≡ drop (c + 1) out₀
      more_rest =
          drop-set-lt (c + 1) out c n (omega arith)
          ∙ (sym (drop-drop 1 c out) ∙ (ap (drop 1) so_far.rest ∙ drop-drop 1 c out₀))

  pub drained : (after : List Bool) → Takes ms None after → Drained ms₀ (take c out) after
  drained after (none, is) = record {
    each = λ n. sym (so_far.split n ∙ or_nil (has (take c out) n) (marked ms n) (none n));
    once = so_far.once;
    empty = is ∙ all_same ms (length ms₀) false so_far.size (λ n h. none n);
  }

  -- no more than 256 can be taken
  pub drained_all : length ms₀ ≤ 256 → 256 ≤ c → Drained ms₀ (take c out) ms
  drained_all small many =
      let all = so_far.counted in
      drained ms (count_none ms (omega (arith, count_by-le-length (λ m. m) ms₀)), refl)

  pub drained_count : (after : List Bool) → Takes ms None after → c ≡ free_count ms₀
  drained_count after (none, is) = let no = none_count ms none in let all = so_far.counted in omega arith

-- ---- a pool that is refilled

-- a number that is refused was free, or is not below the size: either way it may as well be marked
gives : (ms : List Bool) (n : ℕ) (r : Bool) (after : List Bool) → Returns ms n r after → after ≡ set ms n true
gives ms n true after (below, taken, is) = is
gives ms n false after (free, is) = is ∙ sym (go (cases_lt n (length ms)))
  where
    go : (n < length ms) ⊎ (length ms ≤ n) → set ms n true ≡ ms
    go (inl h) = ap (set ms n) (sym (free h)) ∙ set-get_or ms n false
    go (inr h) = set_past ms n true h

-- a number given back is one more of the list, whether it is accepted or refused
pub one_more :
    (ms : List Bool) (ns : List ℕ) (i : ℕ) (before after : List Bool) (r : Bool)
    → i < length ns → before ≡ all_given ms (take i ns) → Returns before (get_or ns i 0) r after → all_given ms (take (i + 1) ns) ≡ after
one_more ms ns i before after r within so_far ret =
    sym
    (gives before (get_or ns i 0) r after ret
    ∙ (ap (λ l. set l (get_or ns i 0) true) so_far ∙ sym (fold_more (λ m k. set m k true) ms ns i 0 within)))

given_marks : (ns : List ℕ) (ms : List Bool) (n : ℕ) → n < length ms → marked (all_given ms ns) n ≡ (marked ms n || has ns n)
given_marks [] ms n below = sym (or_nil (marked ms n) false refl)
given_marks (k ∷ ns) ms n below =
    given_marks ns (set ms k true) n (let same = length-set ms k true in omega arith) ∙ go (cases_eq k n)
  where
    go : (k ≡ n) ⊎ (k ≡ n → ⊥) → (marked (set ms k true) n || has ns n) ≡ (marked ms n || (eqb k n || has ns n))
    go (inl e) =
        or_left (marked (set ms k true) n) (has ns n) (ap (marked (set ms k true)) (sym e) ∙ get_or-set_same ms k true false (omega arith))
        ∙ sym (or_right (marked ms n) (eqb k n || has ns n) (or_left (eqb k n) (has ns n) (eq-eqb k n e)))
    go (inr ne) =
        ap (λ t. t || has ns n) (get_or-set_other ms k n true false (λ e. ne (sym e)))
        ∙ ap (λ t. marked ms n || (t || has ns n)) (sym (ne_eqb k n ne))

given_length : (ns : List ℕ) (ms : List Bool) → length (all_given ms ns) ≡ length ms
given_length [] ms = refl
given_length (k ∷ ns) ms = given_length ns (set ms k true) ∙ length-set ms k true

pub refilled : (ms : List Bool) (ns : List ℕ) → Covers ns ms → all_given ms ns ≡ replicate (length ms) true
refilled ms ns covers = all_same (all_given ms ns) (length ms) true (given_length ns ms) (λ n h. given_marks ns ms n h ∙ covers n h)
