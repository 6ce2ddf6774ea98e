-- Each of the 18 calls can be accepted, and each of the refusals 2 and 7 to 19 can be met, in runs from an opening. Assumes nothing.
--   every_call m       a run in which all calls are accepted, and each of the 18 is made
--   Reached            that it is so, and for each refusal a run that ends with it; of every kind that has a message
use Rattle.std.specs.Prelude.{◌≡◌, ℕ, Bool, true, false, ◌&&◌, ◌||◌, List, [], ◌∷◌, ◌++◌, replicate, Option, refl}
use Rattle.calls.specs.Codes.{all_codes}
use Rattle.calls.specs.declared.code.CallCode.{CallCode}
use Rattle.batches.specs.Edges.{bill_ing}
use Rattle.plain.specs.Calls.{Call, is}
use Rattle.plain.specs.Calls as call
use Rattle.plain.specs.Openings.{sized}
use Rattle.books.specs.Runs.{History, Opening}
use Rattle.worked.specs.Edges.{billing, usual}
use Rattle.worked.specs.Plays.{numbers, plays, refused_with, station}

-- the call is made somewhere in the list
abbrev pub makes_one : CallCode → List Call → Bool
makes_one k [] = false
makes_one k (c ∷ cs) = is k c || makes_one k cs

abbrev pub makes_all : List CallCode → List Call → Bool
makes_all [] cs = true
makes_all (k ∷ ks) cs = makes_one k cs && makes_all ks cs

abbrev pub every_call : List ℕ → List Call
every_call m =
    call.Open 0 ∷ call.Open 1 ∷ call.Open 2 ∷ call.Register 0 billing ∷ call.Start 4 9 ∷ call.Start 1 9 ∷ call.Post 2 m ∷ call.Check 2
    ∷ call.Tray ∷ call.Send 2 m ∷ call.Wait 2 ∷ call.Request 1 billing m ∷ call.Check 0 ∷ call.Move 0 0 ∷ call.Check 0 ∷ call.Respond 0 7
    ∷ call.Alarm 2 3 m ∷ call.Cancel 1 ∷ call.Tick ∷ call.Priority 3 ∷ call.End ∷ call.Strike billing ∷ call.Close 2 ∷ []

-- the number of the last call
abbrev pub last_number : {M : Type 0} → History M → ℕ
last_number [] = 0
last_number (st ∷ h) = refused_with st.answer

-- 16 names are registered
abbrev pub name_of : ℕ → List ℕ
name_of k = 65 ∷ k ∷ replicate 6 32

abbrev pub registers : List ℕ → List Call
registers [] = []
registers (k ∷ ks) = call.Register 0 (name_of k) ∷ registers ks

abbrev pub full_register : List Call
full_register =
    call.Open 0 ∷ registers (65 ∷ 66 ∷ 67 ∷ 68 ∷ 69 ∷ 70 ∷ 71 ∷ 72 ∷ 73 ∷ 74 ∷ 75 ∷ 76 ∷ 77 ∷ 78 ∷ 79 ∷ 80 ∷ 81 ∷ [])

abbrev pub serves : List ℕ → List Call
serves m =
    call.Open 0 ∷ call.Open 1 ∷ call.Register 0 billing ∷ call.Start 4 9 ∷ call.Request 1 billing m ∷ call.Check 0 ∷ call.End ∷ []

-- a station of 8 tasks and 16 blocks, to which tables of these lengths are brought
abbrev pub brought : {M : Type 0} → ℕ → ℕ → M → Opening M
brought places trays m = record { sizes = sized 8 8 16; messages = replicate places m; trays = replicate trays m; fitting = refl }

module _ {M : Type 0} (form : M → List ℕ) (reading : List ℕ → Option M) where
  -- m is a message, the filler fills the tables, and these bytes are no message
  pub record Reached (m filler : M) (bad : List ℕ) : Type 0 where
    pub each_call : makes_all all_codes (every_call (form m)) ≡ true
    pub accepted : numbers (plays reading (usual form reading filler) (every_call (form m))) ≡ replicate 23 0
    -- each table by itself, too short or too long
    pub two : (last_number (plays reading (brought 15 8 filler) (call.Tick ∷ [])) ≡ 2) × (last_number (plays reading (brought 17 8 filler) (call.Tick ∷ [])) ≡ 2)
    pub two_trays : (last_number (plays reading (brought 16 7 filler) (call.Tick ∷ [])) ≡ 2) × (last_number (plays reading (brought 16 9 filler) (call.Tick ∷ [])) ≡ 2)
    pub seven : last_number (plays reading (usual form reading filler) (call.Strike bill_ing ∷ [])) ≡ 7
    pub eight : last_number (plays reading (usual form reading filler) (call.Open 2 ∷ call.Post 2 bad ∷ [])) ≡ 8
    pub nine : last_number (plays reading (usual form reading filler) (call.Tray ∷ [])) ≡ 9
    pub ten : last_number (plays reading (usual form reading filler) (call.Start 8 0 ∷ [])) ≡ 10
    pub eleven : last_number (plays reading (usual form reading filler) (call.Start 4 9 ∷ call.Start 4 9 ∷ [])) ≡ 11
    pub twelve : last_number (plays reading (usual form reading filler) (call.Close 2 ∷ [])) ≡ 12
    pub thirteen : last_number (plays reading (usual form reading filler) (call.Strike billing ∷ [])) ≡ 13
    pub fourteen : last_number (plays reading (usual form reading filler) (call.Open 0 ∷ call.Register 0 billing ∷ call.Close 0 ∷ [])) ≡ 14
    -- 16 names are accepted, the next is not
    pub fifteen : numbers (plays reading (usual form reading filler) full_register) ≡ replicate 17 0 ++ 15 ∷ []
    pub sixteen : last_number (plays reading (station 8 8 1 refl filler) (call.Open 0 ∷ call.Post 0 (form m) ∷ call.Post 0 (form m) ∷ [])) ≡ 16
    pub seventeen : last_number (plays reading (usual form reading filler) (call.Open 0 ∷ call.Start 4 9 ∷ call.Check 0 ∷ [])) ≡ 17
    pub eighteen : last_number (plays reading (usual form reading filler) (call.Start 4 9 ∷ call.Respond 0 7 ∷ [])) ≡ 18
    pub nineteen : last_number (plays reading (usual form reading filler) (serves (form m))) ≡ 19
