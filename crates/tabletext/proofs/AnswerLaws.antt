-- No two answers are told as one text: what is answered is fixed by what it is in numbers.
-- Assumes nothing.
use mathlib.Core.Path.{◌≡◌, refl, ap, ◌∙◌}
use native.Mathlib.Omega.{arith}
use Rattle.std.specs.Prelude.{Result, Ok, Err}
use Rattle.limits.specs.declared.Table.{Table}
use Rattle.tabletext.specs.declared.Fault as code
use Rattle.tabletext.specs.declared.FaultKind.{FaultKind}
use Rattle.tabletext.specs.declared.FaultKind.TheVariants.{NoName, Twice, NoNumber, Above, Missing}
use Rattle.tabletext.specs.Answers.{Fault, number_in, entry_of, fault_in, text_in}

same_kind : (k m : FaultKind) → number_in k ≡ number_in m → entry_of k ≡ entry_of m → k ≡ m
same_kind NoName NoName n e = refl
same_kind (Twice i) (Twice j) n e = ap Twice e
same_kind (NoNumber i) (NoNumber j) n e = ap NoNumber e
same_kind (Above i) (Above j) n e = ap Above e
same_kind (Missing i) (Missing j) n e = ap Missing e
same_kind k m n e = absurd (omega arith)

same_fault : (f g : code.Fault) → fault_in f ≡ fault_in g → f ≡ g
same_fault f g e =
    let kind = same_kind f.kind g.kind (ap (λ (x : Fault). x.number) e) (ap (λ (x : Fault). x.entry) e) in
    let line = ap (λ (x : Fault). x.line) e in
    ap (λ k. record { line = f.line; kind = k }) kind ∙ ap (λ l. record { line = l; kind = g.kind }) line

pub same_answer : (x y : Result Table code.Fault) → text_in x ≡ text_in y → x ≡ y
same_answer (Ok t) (Ok u) e = cc
same_answer (Ok t) (Err g) e = cc
same_answer (Err f) (Ok u) e = cc
same_answer (Err f) (Err g) e =
    let h : fault_in f ≡ fault_in g = cc in
    ap Err (same_fault f g h)

-- ---- what is wrong has a number
pub has_number : (k : FaultKind) → ¬ (number_in k ≡ 0)
has_number NoName e = omega arith
has_number (Twice i) e = omega arith
has_number (NoNumber i) e = omega arith
has_number (Above i) e = omega arith
has_number (Missing i) e = omega arith
