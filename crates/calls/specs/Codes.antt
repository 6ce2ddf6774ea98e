-- The 18 codes, and the one table of which fields of a row a call uses. Assumes nothing.
--   code_number c  the number of the code
--   code_of n      the code with this number, or none
--   CodeOf n       an answer: the code with this number, or an error that carries a number without one
--   uses c         which of the five fields the call uses
use Rattle.std.specs.Prelude.{◌≡◌, ℕ, Bool, true, false, cond, List, [], ◌∷◌, Some, None, Option, Result, MatchResult, ◌==◌}
use Rattle.calls.specs.declared.code.CallCode.{CallCode}
use Rattle.calls.specs.declared.code.CallCode.TheVariants as code
use Rattle.calls.specs.declared.code.UnknownCode.{UnknownCode}
use Rattle.calls.specs.declared.code.Uses.{Uses}

abbrev pub code_number : CallCode → ℕ
code_number code.Start = 1
code_number code.Open = 2
code_number code.Close = 3
code_number code.Register = 4
code_number code.Strike = 5
code_number code.Post = 6
code_number code.Tick = 7
code_number code.Send = 8
code_number code.Wait = 9
code_number code.Check = 10
code_number code.Request = 11
code_number code.Respond = 12
code_number code.Move = 13
code_number code.Alarm = 14
code_number code.Cancel = 15
code_number code.Priority = 16
code_number code.End = 17
code_number code.Tray = 18

abbrev pub all_codes : List CallCode
all_codes =
    code.Start ∷ code.Open ∷ code.Close ∷ code.Register ∷ code.Strike ∷ code.Post ∷ code.Tick ∷ code.Send ∷ code.Wait ∷ code.Check ∷ code.Request ∷ code.Respond ∷ code.Move ∷ code.Alarm ∷ code.Cancel ∷ code.Priority ∷ code.End ∷ code.Tray ∷ []

abbrev pub numbered : ℕ → List CallCode → Option CallCode
numbered n [] = None
numbered n (c ∷ cs) = cond (n == code_number c) (Some c) (numbered n cs)

abbrev pub code_of : ℕ → Option CallCode
code_of n = numbered n all_codes

abbrev pub CodeOf : ℕ → Result CallCode UnknownCode → Type 0
CodeOf n r = MatchResult r (λ c. code_of n ≡ Some c) (λ e. (code_of n ≡ None) × (e.0 ≡ n))

abbrev fields : Bool → Bool → Bool → Bool → Bool → Uses
fields a b c d e = record { n1 = a; n2 = b; n3 = c; name = d; message = e }

--                         n1    n2    n3    name  message
abbrev pub uses : CallCode → Uses
uses code.Start = fields true true false false false
uses code.Open = fields true false false false false
uses code.Close = fields true false false false false
uses code.Register = fields true false false true false
uses code.Strike = fields false false false true false
uses code.Post = fields true false false false true
uses code.Tick = fields false false false false false
uses code.Send = fields true false false false true
uses code.Wait = fields true false false false false
uses code.Check = fields true false false false false
uses code.Request = fields true false false true true
uses code.Respond = fields true false true false false
uses code.Move = fields true true false false false
uses code.Alarm = fields true false true false true
uses code.Cancel = fields true false false false false
uses code.Priority = fields true false false false false
uses code.End = fields false false false false false
uses code.Tray = fields false false false false false
