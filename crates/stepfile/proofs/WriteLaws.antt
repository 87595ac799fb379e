-- Laws on what the writer answers and leaves in the buffer, by the check that it stops at.
-- Assumes nothing.
use mathlib.Core.Path.{◌≡◌, refl, sym, ap, subst, ◌∙◌}
use mathlib.Core.Bool.{cond}
use mathlib.Core.List.{List, [], ◌∷◌, ◌++◌}
use Prim.Native.Nat.{ℕ, zero, suc, ◌≤◌, ◌<◌, zero-le}
use native.Mathlib.Decide.{dec_lt}
use native.Mathlib.Omega.{arith}
use lib.Dec.{eqb, leb}
use lib.ListN.{length, get_or, drop, get_or-eq_default}
use borrow.Author.Tests.{eq-eqb, ne_eqb, le-leb, lt-leb, eqb-true, leb-true}
use Rattle.checks.specs.Checks.{first}
use Rattle.checks.proofs.Tests.{case}
use Rattle.checks.proofs.Ranges.{from}
use Rattle.limits.specs.declared.Table.{Table}
use Rattle.limits.specs.Rules.{broken_rule}
use Rattle.limits.proofs.NumberLaws.{rule_of, again}
use Rattle.shift.specs.declared.Misread.TheVariants.{WrongCode, WrongAmount}
use Rattle.shift.specs.declared.Step.{Step}
use Rattle.shift.specs.Answers.{plain, ticking, reading, readings, refusal}
use Rattle.std.proofs.Common.{Result, Ok, Err}
use Rattle.stepfile.specs.declared.write.Unwritten.{Unwritten}
use Rattle.stepfile.specs.declared.write.Unwritten.TheVariants.{TooMany, Uneven, Record, NoRoom}
use Rattle.stepfile.specs.Writing.{Wrong, Written, file_of, size_of, first_wrong, Names, writable, refused_with, written_as, fitting, after_records, after_lists, written_of, buffer_after}
use Rattle.stepfile.proofs.StepLaws.{right}

-- ---- an answer is told by its number and its values
abbrev numbered : ℕ → ℕ → ℕ → ℕ → Result ℕ Unwritten
numbered zero rule index size = Ok size
numbered (suc (suc zero)) rule index size = Err TooMany
numbered (suc (suc (suc zero))) rule index size = Err Uneven
numbered (suc (suc (suc (suc zero)))) rule index size = Err (Unwritten.Table (rule_of rule))
numbered (suc (suc (suc (suc (suc zero))))) rule index size = Err (Record index WrongCode)
numbered (suc (suc (suc (suc (suc (suc zero)))))) rule index size = Err (Record index WrongAmount)
numbered others rule index size = Err NoRoom

told_by :
    (r : Result ℕ Unwritten) → numbered (written_as r).number (written_as r).rule (written_as r).index (written_as r).length ≡ r
told_by (Ok size) = refl
told_by (Err TooMany) = refl
told_by (Err Uneven) = refl
told_by (Err (Unwritten.Table rule)) = ap (λ r. Err (Unwritten.Table r)) (again rule)
told_by (Err (Record index WrongCode)) = refl
told_by (Err (Record index WrongAmount)) = refl
told_by (Err NoRoom) = refl

-- what is not written has no length
pub no_length : (x : Unwritten) → (written_as (Err x)).length ≡ 0
no_length TooMany = refl
no_length Uneven = refl
no_length (Unwritten.Table rule) = refl
no_length (Record index misread) = refl
no_length NoRoom = refl

pub one_answer : (x y : Result ℕ Unwritten) → written_as x ≡ written_as y → x ≡ y
one_answer x y e = sym (told_by x) ∙ ap (λ (r : Written). numbered r.number r.rule r.index r.length) e ∙ told_by y

module _ (t : Table) (cs ns out : List ℕ) where
  -- the writer's answer and the buffer after it
  abbrev Leaves : Written → List ℕ → Type 0
  Leaves r b = (r ≡ written_of t cs ns (length out)) × (b ≡ buffer_after t cs ns out)

  kept : (r : Written) → ¬ (r.number ≡ 0) → r ≡ written_of t cs ns (length out) → Leaves r out
  kept r n e =
      let other = ne_eqb (written_of t cs ns (length out)).number 0 (λ z. n (ap (λ (q : Written). q.number) e ∙ z)) in
      (e, ap (λ b. cond b (file_of t cs ns ++ drop (size_of t cs) out) out) (sym other))

  abbrev rest : Written
  rest = after_records (first_wrong 0 cs ns) (fitting (size_of t cs) (length out))

  pub at_lists :
      (k : ℕ) → first (writable t cs ns) ≡ k → ¬ (k ≡ 0)
      → Leaves (refused_with k (cond (eqb k 4) (broken_rule t) 0) 0) out
  at_lists k e n =
      let r = broken_rule t in
      let own : refused_with k (cond (eqb k 4) r 0) 0 ≡ after_lists k r rest =
      ap (λ b. cond b rest (refused_with k (cond (eqb k 4) r 0) 0)) (sym (ne_eqb k 0 n))
      in
      kept (refused_with k (cond (eqb k 4) r 0) 0) n (own ∙ ap (λ a. after_lists a r rest) (sym e))

  -- the lists and the table are as they should be
  module _ (e : first (writable t cs ns) ≡ 0) where
    on : rest ≡ written_of t cs ns (length out)
    on = ap (λ a. after_lists a (broken_rule t) rest) (sym e)

    pub at_record :
        ¬ ((first_wrong 0 cs ns).number ≡ 0) → Leaves (refused_with (first_wrong 0 cs ns).number 0 (first_wrong 0 cs ns).index) out
    at_record n =
        let x = first_wrong 0 cs ns in
        let there : refused_with x.number 0 x.index ≡ rest =
        ap (λ b. cond b (fitting (size_of t cs) (length out)) (refused_with x.number 0 x.index)) (sym (ne_eqb x.number 0 n))
        in
        kept (refused_with x.number 0 x.index) n (there ∙ on)

    -- all records read
    pub at_named : (x : Unwritten) → Names x (first_wrong 0 cs ns) → Leaves (written_as (Err x)) out
    at_named TooMany w = absurd w
    at_named Uneven w = absurd w
    at_named (Unwritten.Table rule) w = absurd w
    at_named (Record index WrongCode) w =
        subst (λ (q : Wrong). Leaves (refused_with q.number 0 q.index) out) w (at_record (λ z. let q = ap (λ (q : Wrong). q.number) w in omega arith))
    at_named (Record index WrongAmount) w =
        subst (λ (q : Wrong). Leaves (refused_with q.number 0 q.index) out) w (at_record (λ z. let q = ap (λ (q : Wrong). q.number) w in omega arith))
    at_named NoRoom w = absurd w

    module _ (z : (first_wrong 0 cs ns).number ≡ 0) where
      last : fitting (size_of t cs) (length out) ≡ written_of t cs ns (length out)
      last =
          let x = first_wrong 0 cs ns in
          ap (λ b. cond b (fitting (size_of t cs) (length out)) (refused_with x.number 0 x.index)) (sym (eq-eqb x.number 0 z)) ∙ on

      pub at_room : length out < size_of t cs → Leaves (refused_with 15 0 0) out
      at_room h =
          let done : Written = record { number = 0; rule = 0; index = 0; length = size_of t cs } in
          kept (refused_with 15 0 0) (λ q. omega arith)
          (ap (λ b. cond b done (refused_with 15 0 0)) (sym (lt-leb (size_of t cs) (length out) h)) ∙ last)

      pub written :
          size_of t cs ≤ length out
          → Leaves (record { number = 0; rule = 0; index = 0; length = size_of t cs }) (file_of t cs ns ++ drop (size_of t cs) out)
      written h =
          let done : Written = record { number = 0; rule = 0; index = 0; length = size_of t cs } in
          let same : done ≡ written_of t cs ns (length out) =
          ap (λ b. cond b done (refused_with 15 0 0)) (sym (le-leb (size_of t cs) (length out) h)) ∙ last
          in
          let zero-there = eq-eqb (written_of t cs ns (length out)).number 0 (ap (λ (q : Written). q.number) (sym same)) in
          (same, ap (λ b. cond b (file_of t cs ns ++ drop (size_of t cs) out) out) (sym zero-there))

-- ---- the amounts of records that read fit 16 bits
plain_small : (x : Step) (n : ℕ) → refusal (plain x 0 n) ≡ 0 → n < 65536
plain_small x n e =
    case (eqb n 0) (λ z. let q = eqb-true n 0 z in omega arith) (λ z. let q = rw z at e in absurd (omega arith))

tick_small : (n : ℕ) → refusal (ticking 0 n) ≡ 0 → n < 65536
tick_small n e =
    case (leb n 65535)
    (λ z. let q = leb-true n 65535 z in omega arith)
    (λ z. case (leb 1 n) (λ y. let q = rw (y, z) at e in absurd (omega arith)) (λ y. let q = rw y at e in absurd (omega arith)))

amount_small : (c n : ℕ) → refusal (reading c 0 n) ≡ 0 → n < 65536
amount_small c n e =
    elim (dec_lt c 14) [
      | yes h ↦
          from (λ k. refusal (reading k 0 n) ≡ 0 → n < 65536) 0 14 (
            λ q. absurd (omega arith),
            (plain_small _ n, (plain_small _ n, (plain_small _ n, (plain_small _ n, (plain_small _ n, (plain_small _ n, (plain_small _ n, (plain_small _ n, (plain_small _ n, (plain_small _ n, (plain_small _ n, (tick_small n, (plain_small _ n, tt))))))))))))),
          ) c zero-le h e
      | no h ↦ let q = rw (get_or-eq_default (readings 0 n) (Err WrongCode) {n = c} (omega arith)) at e in absurd (omega arith)
    ]

pub amounts_small : (i : ℕ) (cs ns : List ℕ) → length cs ≡ length ns → (first_wrong i cs ns).number ≡ 0 → (j : ℕ) → get_or ns j 0 < 65536
amounts_small i [] [] e z j = omega arith
amounts_small i [] (n ∷ ns) e z j = absurd (omega arith)
amounts_small i (c ∷ cs) [] e z j = absurd (omega arith)
amounts_small i (c ∷ cs) (n ∷ ns) e z zero =
    amount_small c n (right (refusal (reading c 0 n)) i (first_wrong (suc i) cs ns) z).0
amounts_small i (c ∷ cs) (n ∷ ns) e z (suc j) =
    amounts_small (suc i) cs ns (omega arith) (right (refusal (reading c 0 n)) i (first_wrong (suc i) cs ns) z).1 j
