-- What was put, delivered and left waiting between two states, over the exchanges, the trays and the waiting items alone. Assumes nothing.
--   Between xs tr w xs' tr' w' p   p tells for each exchange what was put there
--   unmoved, delivered, queued     nothing put, one item put where a task waits, and one where none does
--   then                           one behind the other
--   taken_in_order                 what those who are gone hold, and behind it what waits, is what waited and what was put
use Rattle.std.proofs.Common.{◌≡◌, ℕ, ◌+◌, ◌<◌, ◌≤◌, false, cond, eqb, List, [], ◌∷◌, ◌++◌, map, length, set, Some, sym, refl, ap, ◌∙◌, arith}
use Rattle.std.proofs.lemmas.Bool.{lt-ltb}
use Rattle.std.proofs.lemmas.List.{append-nil, append_assoc, map_push}
use Rattle.std.proofs.ByRecursion.{All-append, All-weaker}
use Rattle.std.proofs.lemmas.List.Sums.{sum_by-set}
use Rattle.std.specs.List.{flat_map, AllByRecursion}
use Rattle.plain.specs.Lookups.{closed_exchange, contains, items, items_in, occurrences, tasks_in, waiting}
use Rattle.plain.specs.Moves.{behind_first, joins, with_item, without_first}
use Rattle.plain.specs.States.{Exchange}
use Rattle.plain.specs.declared.records.Holds.{Holds}
use Rattle.plain.specs.declared.records.Holds.TheVariants.{Items, Tasks}
use Rattle.books.specs.Deeds.{Item, gone, put_here}
use Rattle.books.specs.Laws.{tasks_waiting_in}
use Rattle.books.proofs.Counting.{occurrences_cons, occurrences_first, waiting_le_all}
use Rattle.books.proofs.FlowLists.{all_contained, at_set, gone_front, none_contained}
use Rattle.books.proofs.Invariants.{exchange_in}

-- ---- lines of an exchange

pub waiting_behind : (x : Exchange) → waiting (without_first x) ≡ behind_first (waiting x)
waiting_behind x = go x.holds
  where
    go : (k : Holds) → tasks_in k (behind_first x.line) ≡ behind_first (tasks_in k x.line)
    go Items = refl
    go Tasks = refl

pub items_behind : (x : Exchange) → items (without_first x) ≡ behind_first (items x)
items_behind x = go x.holds
  where
    go : (k : Holds) → items_in k (behind_first x.line) ≡ behind_first (items_in k x.line)
    go Items = refl
    go Tasks = refl

-- where a task waits, no item does
pub no_items : (x : Exchange) (t : ℕ) (l : List ℕ) → waiting x ≡ t ∷ l → items x ≡ []
no_items x t l e = go x.holds e
  where
    go : (k : Holds) → tasks_in k x.line ≡ t ∷ l → items_in k x.line ≡ []
    go Items bad = let z : ◌≡◌ {A = ℕ} 0 1 = cc in absurd (omega arith)
    go Tasks h = refl

-- where an item waits, no task does
pub no_tasks : (x : Exchange) (b : ℕ) (l : List ℕ) → items x ≡ b ∷ l → waiting x ≡ []
no_tasks x b l e = go x.holds e
  where
    go : (k : Holds) → items_in k x.line ≡ b ∷ l → tasks_in k x.line ≡ []
    go Items h = refl
    go Tasks bad = let z : ◌≡◌ {A = ℕ} 0 1 = cc in absurd (omega arith)

pub joins_room : (b : ℕ) (l : List ℕ) → length l < 256 → joins b l ≡ l ++ b ∷ []
joins_room b l h = rw (lt-ltb (length l) 256 h)

-- ---- rows of lists

pub joined_append : {X A : Type 0} (f : X → List A) (xs ys : List X) → flat_map f (xs ++ ys) ≡ flat_map f xs ++ flat_map f ys
joined_append f [] ys = refl
joined_append f (x ∷ xs) ys = ap (λ l. f x ++ l) (joined_append f xs ys) ∙ sym (append_assoc (f x) (flat_map f xs) (flat_map f ys))

pub joined_same : {X A : Type 0} (f g : X → List A) (xs : List X) → AllByRecursion (λ x. f x ≡ g x) xs → flat_map f xs ≡ flat_map g xs
joined_same f g [] h = refl
joined_same f g (x ∷ xs) h = let a = h.0 in let b = joined_same f g xs h.1 in cc

pub map_same : {X Y : Type 0} (f g : X → Y) (xs : List X) → AllByRecursion (λ x. f x ≡ g x) xs → map f xs ≡ map g xs
map_same f g [] h = refl
map_same f g (x ∷ xs) h = let a = h.0 in let b = map_same f g xs h.1 in cc

-- ---- between two states

module _ {M : Type 0} where
  pub record Between (xs : List Exchange) (tr w : ℕ → List (Item M)) (xs' : List Exchange) (tr' w' p : ℕ → List (Item M)) : Type 0 where
    -- those to whom something was delivered at each exchange, the first in front
    pub given : ℕ → List ℕ
    pub left : (e : ℕ) → waiting (exchange_in xs e) ≡ given e ++ waiting (exchange_in xs' e)
    pub flow : (e : ℕ) → flat_map tr' (given e) ++ w' e ≡ w e ++ p e
    -- they wait nowhere any more
    pub apart : (e : ℕ) → AllByRecursion (λ t. tasks_waiting_in t xs' ≡ 0) (given e)
    pub fewer : (t : ℕ) → tasks_waiting_in t xs' ≤ tasks_waiting_in t xs
    -- only a task that waits is given anything
    pub spared : (t : ℕ) → tasks_waiting_in t xs ≡ 0 → tr' t ≡ tr t

  abbrev pub nothing : ℕ → List (Item M)
  nothing e = []

  pub unmoved : (xs : List Exchange) (tr w w' : ℕ → List (Item M)) → ((e : ℕ) → w' e ≡ w e) → Between xs tr w xs tr w' nothing
  unmoved xs tr w w' same =
      record {
        given = λ e. [];
        left = λ e. refl;
        flow = λ e. same e ∙ sym (append-nil (w e));
        apart = λ e. tt;
        fewer = λ t. omega arith;
        spared = λ t h. refl;
      }

  pub then : {xs xs' xs'' : List Exchange} {tr w tr' w' tr'' w'' p q : ℕ → List (Item M)}
      → Between xs tr w xs' tr' w' p → Between xs' tr' w' xs'' tr'' w'' q → Between xs tr w xs'' tr'' w'' (λ e. p e ++ q e)
  then {xs} {xs'} {xs''} {tr} {w} {tr'} {w'} {tr''} {w''} {p} {q} a b =
      record {
        given = λ e. a.given e ++ b.given e;
        left = λ e. a.left e ∙ ap (λ l. a.given e ++ l) (b.left e) ∙ sym (append_assoc (a.given e) (b.given e) (waiting (exchange_in xs'' e)));
        flow = both;
        apart = λ e. All-append (λ t. tasks_waiting_in t xs'' ≡ 0) (a.given e) (b.given e)
            (All-weaker (λ t. tasks_waiting_in t xs' ≡ 0) (λ t. tasks_waiting_in t xs'' ≡ 0) (λ t h. let k = b.fewer t in omega arith) (a.given e) (a.apart e))
            (b.apart e);
        fewer = λ t. let h = a.fewer t in let k = b.fewer t in omega arith;
        spared = λ t h. let k = a.fewer t in b.spared t (omega arith) ∙ a.spared t h;
      }
    where
      both : (e : ℕ) → flat_map tr'' (a.given e ++ b.given e) ++ w'' e ≡ w e ++ (p e ++ q e)
      both e =
          ap (λ l. l ++ w'' e) (joined_append tr'' (a.given e) (b.given e))
          ∙ append_assoc (flat_map tr'' (a.given e)) (flat_map tr'' (b.given e)) (w'' e)
          ∙ ap (λ l. flat_map tr'' (a.given e) ++ l) (b.flow e)
          ∙ sym (append_assoc (flat_map tr'' (a.given e)) (w' e) (q e))
          ∙ ap (λ l. (l ++ w' e) ++ q e)
          (joined_same tr'' tr' (a.given e)
          (All-weaker (λ t. tasks_waiting_in t xs' ≡ 0) (λ t. tr'' t ≡ tr' t) (λ t h. b.spared t h) (a.given e) (a.apart e)))
          ∙ ap (λ l. l ++ q e) (a.flow e)
          ∙ append_assoc (w e) (p e) (q e)

  pub taken_in_order : {xs xs' : List Exchange} {tr w tr' w' p : ℕ → List (Item M)} → Between xs tr w xs' tr' w' p
      → (e : ℕ) → flat_map tr' (gone (waiting (exchange_in xs e)) (waiting (exchange_in xs' e))) ++ w' e ≡ w e ++ p e
  taken_in_order {xs} {xs'} {tr} {w} {tr'} {w'} {p} a e =
      ap (λ l. flat_map tr' l ++ w' e) who ∙ a.flow e
    where
      who : gone (waiting (exchange_in xs e)) (waiting (exchange_in xs' e)) ≡ a.given e
      who =
          ap (λ l. gone l (waiting (exchange_in xs' e))) (a.left e)
          ∙ gone_front (a.given e) (waiting (exchange_in xs' e)) (waiting (exchange_in xs' e))
          (All-weaker (λ t. tasks_waiting_in t xs' ≡ 0) (λ t. contains t (waiting (exchange_in xs' e)) ≡ false)
          (λ t h. let k = waiting_le_all t xs' e in none_contained t (waiting (exchange_in xs' e)) (omega arith))
          (a.given e) (a.apart e))
          (all_contained (waiting (exchange_in xs' e)))

  -- ---- one item put

  -- the first task that waits at e is given it
  pub delivered : (xs : List Exchange) (e t : ℕ) (l : List ℕ) (tr tr' w w' : ℕ → List (Item M)) (i : Item M)
      → e < length xs → waiting (exchange_in xs e) ≡ t ∷ l → ((u : ℕ) → tasks_waiting_in u xs ≤ 1)
      → tr' t ≡ i ∷ [] → ((u : ℕ) → (u ≡ t → ⊥) → tr' u ≡ tr u) → ((k : ℕ) → w' k ≡ w k) → w e ≡ []
      → Between xs tr w (set xs e (without_first (exchange_in xs e))) tr' w' (λ k. put_here k (Some e) i)
  delivered xs e t l tr tr' w w' i below first once has others same none =
      record {
        given = λ k. cond (eqb k e) (t ∷ []) [];
        left = λ k. at_set xs e y closed_exchange k below (λ j b x. waiting (exchange_in xs j) ≡ cond b (t ∷ []) [] ++ waiting x)
            (first ∙ ap (λ z. t ∷ z) (sym rest)) (λ other. refl);
        flow = λ k. at_set xs e y closed_exchange k below
            (λ j b x. flat_map tr' (cond b (t ∷ []) []) ++ w' j ≡ w j ++ cond b (i ∷ []) [])
            (rw (has, same e, none)) (λ other. same k ∙ sym (append-nil (w k)));
        apart = λ k. at_set xs e y closed_exchange k below
            (λ j b x. AllByRecursion (λ u. tasks_waiting_in u (set xs e y) ≡ 0) (cond b (t ∷ []) []))
            (let a = count t in let c = once t in let d = occurrences_first t l in let f = waiting_le_all t xs e in
            let g : occurrences t (waiting (exchange_in xs e)) ≡ occurrences t (t ∷ l) = ap (occurrences t) first in (omega arith, tt))
            (λ other. tt);
        fewer = λ u. let a = count u in let d = occurrences_cons u t l in
            let g : occurrences u (waiting (exchange_in xs e)) ≡ occurrences u (t ∷ l) = ap (occurrences u) first in omega arith;
        spared = λ u h. others u (λ (same_task : u ≡ t).
            let f = waiting_le_all u xs e in
            let g : occurrences u (waiting (exchange_in xs e)) ≡ occurrences u (u ∷ l) = ap (occurrences u) (first ∙ ap (λ z. z ∷ l) (sym same_task)) in
            let d = occurrences_first u l in omega arith);
      }
    where
      y : Exchange
      y = without_first (exchange_in xs e)

      rest : waiting y ≡ l
      rest = waiting_behind (exchange_in xs e) ∙ ap behind_first first

      count : (u : ℕ) → tasks_waiting_in u (set xs e y) + occurrences u (waiting (exchange_in xs e)) ≡ tasks_waiting_in u xs + occurrences u l
      count u =
          sum_by-set (λ x. occurrences u (waiting x)) xs e y closed_exchange below
          ∙ ap (λ z. tasks_waiting_in u xs + occurrences u z) rest

  -- nobody waits at e, so it waits there
  pub queued : (xs : List Exchange) (e b : ℕ) (tr : ℕ → List (Item M)) (item : ℕ → Item M)
      → e < length xs → waiting (exchange_in xs e) ≡ [] → length (items (exchange_in xs e)) < 256
      → Between xs tr (λ k. map item (items (exchange_in xs k)))
      (set xs e (with_item b (exchange_in xs e))) tr (λ k. map item (items (exchange_in (set xs e (with_item b (exchange_in xs e))) k)))
      (λ k. put_here k (Some e) (item b))
  queued xs e b tr item below none small =
      record {
        given = λ k. [];
        left = λ k. at_set xs e y closed_exchange k below (λ j c x. waiting (exchange_in xs j) ≡ waiting x) none (λ other. refl);
        flow = λ k. at_set xs e y closed_exchange k below (λ j c x. map item (items x) ≡ map item (items (exchange_in xs j)) ++ cond c (item b ∷ []) [])
            (ap (map item) (joins_room b (items (exchange_in xs e)) small) ∙ map_push item (items (exchange_in xs e)) b)
            (λ other. sym (append-nil (map item (items (exchange_in xs k)))));
        apart = λ k. tt;
        fewer = λ t.
            let a = sum_by-set (λ x. occurrences t (waiting x)) xs e y closed_exchange below in
            omega arith;
        spared = λ t h. refl;
      }
    where
      y : Exchange
      y = with_item b (exchange_in xs e)
