-- Laws on records: what was written of codes and amounts is read, and what was read is written.
-- Assumes nothing.
use mathlib.Core.Path.{◌≡◌, refl, ap, ◌∙◌}
use mathlib.Core.List.{List, [], ◌∷◌}
use Prim.Native.Nat.{ℕ, zero, suc, ◌+◌, ◌*◌, ◌/◌, ◌%◌, ◌<◌}
use native.Mathlib.Omega.{arith}
use native.Mathlib.Decide.{dec_lt}
use Rattle.std.specs.Prelude.{Ok, Err}
use Rattle.shift.specs.Readings.{Reading}
use Rattle.shift.specs.declared.Misread.TheVariants.{WrongCode, WrongAmount}
use Rattle.shift.specs.Answers.{reading, refusal}
use Rattle.shift.proofs.ReadingLaws.{past_codes}
use Rattle.numbers.specs.Bytes.{bytes_of}
use Rattle.stepfile.specs.Records.{record_of, records_in}
use Rattle.stepfile.specs.Writing.{Wrong, wrong_or, first_wrong, records_of}
use Rattle.stepfile.specs.RoundTrip.{readings_by, AllRead}

-- ---- codes and amounts that are all steps
pub right : (k i : ℕ) (w : Wrong) → (wrong_or k i w).number ≡ 0 → (k ≡ 0) × (w.number ≡ 0)
right zero i w e = (refl, e)
right (suc k) i w e = absurd (omega arith)

-- a step's code is at most 13
listed : (c n : ℕ) → refusal (reading c 0 n) ≡ 0 → c < 14
listed c n e =
    elim (dec_lt c 14) [
      | yes h ↦ h
      | no h ↦
          let five : refusal (reading c 0 n) ≡ 5 = ap refusal (past_codes 0 n c (omega arith)) in
          absurd (omega arith)
    ]

same_record : (c n : ℕ) → c < 14 → record_of (c % 256) (c / 256) (n % 256) (n / 256) ≡ reading c 0 n
same_record c n h =
    let low : c % 256 ≡ c = omega arith in
    let high : c / 256 ≡ 0 = omega arith in
    let amount : n % 256 + 256 * (n / 256) ≡ n = omega arith in
    ap (λ b. record_of (c % 256) b (n % 256) (n / 256)) high
    ∙ ap (λ a. reading a 0 (n % 256 + 256 * (n / 256))) low
    ∙ ap (λ m. reading c 0 m) amount

pub records_back : (i : ℕ) (cs ns : List ℕ) → (first_wrong i cs ns).number ≡ 0 → records_in (bytes_of (records_of cs ns)) ≡ readings_by cs ns
records_back i [] ns e = refl
records_back i (c ∷ cs) [] e = refl
records_back i (c ∷ cs) (n ∷ ns) e =
    let r = right (refusal (reading c 0 n)) i (first_wrong (suc i) cs ns) e in
    let rest = records_back (suc i) cs ns r.1 in
    let this = same_record c n (listed c n r.0) in
    ap (λ x. x ∷ records_in (bytes_of (records_of cs ns))) this ∙ ap (λ l. reading c 0 n ∷ l) rest

one_read : (r : Reading) (rs : List Reading) → refusal r ≡ 0 → AllRead rs → AllRead (r ∷ rs)
one_read (Ok x) rs e a = a
one_read (Err WrongCode) rs e a = absurd (omega arith)
one_read (Err WrongAmount) rs e a = absurd (omega arith)

pub all_read : (i : ℕ) (cs ns : List ℕ) → (first_wrong i cs ns).number ≡ 0 → AllRead (readings_by cs ns)
all_read i [] ns e = tt
all_read i (c ∷ cs) [] e = tt
all_read i (c ∷ cs) (n ∷ ns) e =
    let r = right (refusal (reading c 0 n)) i (first_wrong (suc i) cs ns) e in
    one_read (reading c 0 n) (readings_by cs ns) r.0 (all_read (suc i) cs ns r.1)
