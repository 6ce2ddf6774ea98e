-- The names that a register holds, where one stands, and one more. Assumes nothing.
--   bindings_of r         the names with what each is tied to, in the order of registering
--   name_place name l     where the name stands in l, or none
--   registered name e l   the list with the name tied to exchange e behind the others, if there is room
use Rattle.std.specs.Prelude.{ℕ, cond, List, [], ◌∷◌, ◌++◌, bytes_eq, length, Option, nat_lt, position}
use Rattle.fixed.specs.FixedVecs.{elements}
use Rattle.plain.specs.Reasons.{register_size}
use Rattle.plain.specs.declared.records.Binding.{Binding}
use Rattle.records.specs.declared.register.Register.{Register}

abbrev pub bindings_of : Register → List Binding
bindings_of r = elements r.bindings

abbrev pub name_place : List ℕ → List Binding → Option ℕ
name_place name l = position (λ b. bytes_eq b.name name) l

abbrev pub registered : List ℕ → ℕ → List Binding → List Binding
registered name e l = cond (nat_lt (length l) register_size) (l ++ record { name = name; exchange = e } ∷ []) l
