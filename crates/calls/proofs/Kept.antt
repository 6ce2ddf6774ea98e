-- Of a record without fault, nothing is lost by keeping only the fields that its call uses. Assumes nothing.
use Rattle.std.proofs.Common.{◌≡◌, ℕ, Bool, true, false, cond, not, eqb, List, [], ◌∷◌, length, replicate, Some, None, Option, sym, refl, ap, ◌∙◌, arith, eqb-true}
use Rattle.std.proofs.lemmas.Bool.{or_parts}
use Rattle.std.proofs.lemmas.Bool.Decides.{nat_tests}
use Rattle.messages.specs.BytesLemmas.{and_left, and_right}
use Rattle.calls.specs.Calls.{fields, kept, zeros}
use Rattle.calls.specs.Codes.{all_codes, code_number, code_of, numbered, uses}
use Rattle.calls.specs.Faults.{all_zero, fault, fault_under, set_unused, unused_set}
use Rattle.calls.specs.declared.code.CallCode.{CallCode}
use Rattle.calls.specs.declared.record.CallRecord.{CallRecord}

numbered_is : (n : ℕ) (cs : List CallCode) (c : CallCode) → numbered n cs ≡ Some c → code_number c ≡ n
numbered_is n [] c h = absurd (let z : ◌≡◌ {A = ℕ} 0 1 = cc in omega arith)
numbered_is n (d ∷ ds) c h = go (eqb n (code_number d)) refl h (λ k. numbered_is n ds c k)
  where
    go : (t : Bool) → eqb n (code_number d) ≡ t → cond t (Some d) (numbered n ds) ≡ Some c → (numbered n ds ≡ Some c → code_number c ≡ n) → code_number c ≡ n
    go true e k later = let same = eqb-true n (code_number d) e in cc
    go false e k later = later k

all_zero_is : (bs : List ℕ) → all_zero bs ≡ true → bs ≡ replicate (length bs) 0
all_zero_is [] h = refl
all_zero_is (b ∷ bs) h =
    let here = eqb-true b 0 (and_left (eqb b 0) (all_zero bs) h) in
    let rest = all_zero_is bs (and_right (eqb b 0) (all_zero bs) h) in
    cc

-- a field that is zero where it is not used is kept as it is
number_kept : (used : Bool) (n : ℕ) → set_unused used (eqb n 0) ≡ false → cond used n 0 ≡ n
number_kept true n h = refl
number_kept false n h = grind (arith, nat_tests)

text_kept : (used : Bool) (bs : List ℕ) → length bs ≡ 8 → set_unused used (all_zero bs) ≡ false → cond used bs zeros ≡ bs
text_kept true bs long h = refl
text_kept false bs long h = go (all_zero bs) refl h
  where
    go : (t : Bool) → all_zero bs ≡ t → not t ≡ false → zeros ≡ bs
    go true e k = sym (all_zero_is bs e ∙ ap (λ n. replicate n 0) long)
    go false e k = absurd (let z : ◌≡◌ {A = ℕ} 0 1 = cc in omega arith)

-- a test that would refuse has failed where nothing is refused
passed : {X : Type 0} (t : Bool) (e : X) (rest : Option X) → cond t (Some e) rest ≡ None → t ≡ false
passed true e rest h = absurd (let z : ◌≡◌ {A = ℕ} 0 1 = cc in omega arith)
passed false e rest h = refl

pub kept_all : {M : Type 0} (reading : List ℕ → Option M) (r : CallRecord) (c : CallCode) → length r.name ≡ 8 → length r.message ≡ 8
    → code_of r.code ≡ Some c → fault reading r ≡ None → kept c r ≡ r
kept_all reading r c name message is none =
    let u = passed (unused_set (uses c) r) _ _ (ap (fault_under reading r) (sym is) ∙ none) in
    let u1 = or_parts (set_unused (uses c).n1 (eqb r.n1 0)) _ u in
    let u2 = or_parts (set_unused (uses c).n2 (eqb r.n2 0)) _ u1.1 in
    let u3 = or_parts (set_unused (uses c).n3 (eqb r.n3 0)) _ u2.1 in
    let u4 = or_parts (set_unused (uses c).name (all_zero r.name)) _ u3.1 in
    same (numbered_is r.code all_codes c is)
    (number_kept (uses c).n1 r.n1 u1.0)
    (number_kept (uses c).n2 r.n2 u2.0)
    (number_kept (uses c).n3 r.n3 u3.0)
    (text_kept (uses c).name r.name name u4.0)
    (text_kept (uses c).message r.message message u4.1)
  where
    same : {k k' a a' b b' c c' : ℕ} {n n' m m' : List ℕ} → k ≡ k' → a ≡ a' → b ≡ b' → c ≡ c' → n ≡ n' → m ≡ m' → fields k a b c n m ≡ fields k' a' b' c' n' m'
    same o p q s t u = cc
