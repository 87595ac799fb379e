-- Laws on the header of a file and what a good one tells.
-- Assumes nothing.
use mathlib.Core.Path.{◌≡◌, refl, sym, ap, ◌∙◌}
use mathlib.Core.Bool.{Bool, true, false, not, ◌&&◌, ◌||◌, true≢false, false≢true}
use mathlib.Core.List.{List, [], ◌∷◌, ◌++◌}
use Prim.Native.Nat.{ℕ, zero, suc}
use native.Mathlib.Omega.{arith}
use lib.Dec.{T, eqb}
use borrow.Author.Tests.{eq-eqb, ne_eqb}
use Rattle.checks.specs.Checks.{Check, ◌!◌, first}
use Rattle.checks.proofs.Checks.{Holds, absent, first→holds, first_left, first_right}
use Rattle.limits.specs.Rules.{broken_rule}
use Rattle.limits.proofs.NumberLaws.{rule_of, again}
use Rattle.std.proofs.Common.{Result, Ok, Err}
use Rattle.stepfile.specs.declared.Unread.{Unread}
use Rattle.stepfile.specs.declared.Unread.TheVariants.{TooShort, Header, Length}
use Rattle.stepfile.specs.Files.{Refusal, refused_as, headed, table_in, checks, refusing, refusal_of}

-- none of three tests passed, or one did
pub none : (a b c : Bool) → (not a && (not b && not c)) ≡ true → T (not (a || (b || c)))
none true b c e = absurd (false≢true e)
none false true c e = absurd (false≢true e)
none false false true e = absurd (false≢true e)
none false false false e = tt

pub one : (a b c : Bool) → (not a && (not b && not c)) ≡ false → T (a || (b || c))
one true b c e = tt
one false true c e = tt
one false false true e = tt
one false false false e = absurd (true≢false e)

-- a last check with the number 4, after a list that holds or is refused
module _ (cs : List Check) (r : ℕ) where
  abbrev whole : ℕ
  whole = first (cs ++ ((eqb r 0 ! 4) ∷ []))

  stopped_before : {h : ℕ} → T (absent 4 cs) → h ≡ first cs → ¬ (h ≡ 0) → record { number = h; rule = 0 } ≡ refusing whole r
  stopped_before {h} a e n =
      let other : ¬ (h ≡ 4) = λ z. let q = (first→holds 4 cs a (sym e ∙ z)).1 in omega arith in
      let same : h ≡ whole = e ∙ sym (first_left cs ((eqb r 0 ! 4) ∷ []) (λ z. n (e ∙ z))) in
      let own : record { number = h; rule = 0 } ≡ refusing h r = rw (ne_eqb h 4 other) in
      own ∙ ap (λ k. refusing k r) same

  stopped_there : T (absent 0 cs) → first cs ≡ 0 → ¬ (r ≡ 0) → record { number = 4; rule = r } ≡ refusing whole r
  stopped_there a e n =
      let last : first ((eqb r 0 ! 4) ∷ []) ≡ 4 = rw (ne_eqb r 0 n) in
      ap (λ k. refusing k r) (sym (first_right cs ((eqb r 0 ! 4) ∷ []) (first→holds 0 cs a e).0 ∙ last))

  not_stopped : T (absent 0 cs) → first cs ≡ 0 → r ≡ 0 → record { number = 0; rule = 0 } ≡ refusing whole r
  not_stopped a e z =
      let last : first ((eqb r 0 ! 4) ∷ []) ≡ 0 = rw (eq-eqb r 0 z) in
      ap (λ k. refusing k r) (sym (first_right cs ((eqb r 0 ! 4) ∷ []) (first→holds 0 cs a e).0 ∙ last))

-- ---- a file's answer is told by its number and its rule
abbrev numbered : ℕ → ℕ → Result (Unit {0}) Unread
numbered zero rule = Ok tt
numbered (suc zero) rule = Err TooShort
numbered (suc (suc zero)) rule = Err Header
numbered (suc (suc (suc zero))) rule = Err Length
numbered (suc (suc (suc (suc n)))) rule = Err (Unread.Table (rule_of rule))

told_by : (r : Result (Unit {0}) Unread) → numbered (refused_as r).number (refused_as r).rule ≡ r
told_by (Ok done) = refl
told_by (Err TooShort) = refl
told_by (Err Header) = refl
told_by (Err Length) = refl
told_by (Err (Unread.Table rule)) = ap (λ r. Err (Unread.Table r)) (again rule)

pub one_answer : (x y : Result (Unit {0}) Unread) → refused_as x ≡ refused_as y → x ≡ y
one_answer x y e = sym (told_by x) ∙ ap (λ (r : Refusal). numbered r.number r.rule) e ∙ told_by y

module _ (f : List ℕ) where
  pub header_refused : {h : ℕ} → h ≡ first (headed f) → ¬ (h ≡ 0) → record { number = h; rule = 0 } ≡ refusal_of f
  header_refused = stopped_before (headed f) (broken_rule (table_in f)) tt

  -- what the header is refused with, the file is
  pub by_header : (x : Unread) → (refused_as (Err x)).number ≡ first (headed f) → refused_as (Err x) ≡ refusal_of f
  by_header TooShort e = header_refused e (λ z. omega arith)
  by_header Header e = header_refused e (λ z. omega arith)
  by_header Length e = header_refused e (λ z. omega arith)
  by_header (Unread.Table rule) e = let q = (first→holds 4 (headed f) tt (sym e)).1 in absurd (omega arith)

  pub rule_refused :
      {h r : ℕ} → h ≡ first (headed f) → h ≡ 0 → r ≡ broken_rule (table_in f) → ¬ (r ≡ 0)
      → record { number = 4; rule = r } ≡ refusal_of f
  rule_refused e z q n =
      ap (λ k. record { number = 4; rule = k }) q
      ∙ stopped_there (headed f) (broken_rule (table_in f)) tt (sym e ∙ z) (λ b. n (q ∙ b))

  pub not_refused :
      {h r : ℕ} → h ≡ first (headed f) → h ≡ 0 → r ≡ broken_rule (table_in f) → r ≡ 0
      → record { number = 0; rule = 0 } ≡ refusal_of f
  not_refused e z q b = not_stopped (headed f) (broken_rule (table_in f)) tt (sym e ∙ z) (sym q ∙ b)

  -- of a good file all checks hold
  pub good : (refusal_of f).number ≡ 0 → Holds (checks f)
  good e = (first→holds 0 (checks f) tt e).0
