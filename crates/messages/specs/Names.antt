-- Which eight bytes are a service name: each A to Z, 0 to 9 or a space; the first a letter; after a space only spaces.
-- Assumes nothing.
use Rattle.std.specs.Prelude.{ℕ, Bool, true, false, ◌&&◌, ◌||◌, List, [], ◌∷◌, length, ◌==◌, nat_le, slice_index}

abbrev pub letter : ℕ → Bool
letter c = nat_le 65 c && nat_le c 90

abbrev pub digit : ℕ → Bool
digit c = nat_le 48 c && nat_le c 57

abbrev pub space : ℕ → Bool
space c = c == 32

-- what may stand behind a space (true), and behind any other byte or at the front (false)
abbrev pub may_follow : Bool → ℕ → Bool
may_follow true c = space c
may_follow false c = space c || (letter c || digit c)

-- each byte may follow the one before
abbrev pub in_order : Bool → List ℕ → Bool
in_order after [] = true
in_order after (c ∷ cs) = may_follow after c && in_order (space c) cs

abbrev pub service_name : List ℕ → Bool
service_name bs = length bs == 8 && (letter (slice_index bs 0) && in_order false bs)
