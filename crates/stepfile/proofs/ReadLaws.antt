-- Laws on records that were read: where they mean steps, their middle bytes are 0, and what is written of their codes and amounts are
-- the records' bytes.
-- Assumes nothing.
use mathlib.Core.Path.{◌≡◌, refl, sym, ap, ◌∙◌}
use mathlib.Core.Bool.{Bool, true, false, cond, ◌&&◌}
use mathlib.Core.List.{List, [], ◌∷◌, ◌++◌, map}
use Prim.Native.Nat.{ℕ, zero, suc, ◌+◌, ◌*◌, ◌/◌, ◌%◌, ◌<◌}
use native.Mathlib.Omega.{arith}
use lib.Dec.{leb, eqb, eqb→eq}
use lib.ListN.{length, get_or}
use Rattle.std.specs.Prelude.{Ok, Err}
use Rattle.checks.proofs.Tests.{passes, left}
use Rattle.shift.specs.Readings.{Reading}
use Rattle.shift.specs.declared.Misread.TheVariants.{WrongCode, WrongAmount}
use Rattle.shift.specs.declared.Step.{Step}
use Rattle.shift.specs.declared.Step.TheVariants.{FromNeutral, GearToGear, ToNeutral, Deliver, DeviceGood, DeviceFailed, EngineWaits, Take, AskClutch, RaiseError, Finish, Tick, Reset}
use Rattle.shift.specs.Answers.{reading, plain, ticking, refusal}
use Rattle.numbers.specs.Bytes.{bytes_of}
use Rattle.stepfile.specs.Records.{record_of, every_four, records_in}
use Rattle.stepfile.specs.Writing.{wrong_or, first_wrong, records_of}
use Rattle.stepfile.specs.RoundTrip.{Bytes, AllRead, codes_of, amounts_of}

-- ---- a middle byte with which a code and an amount mean a step is 0
module _ (b n : ℕ) (x : Step) where
  no_step : ◌≡◌ {A = Reading} (Err WrongCode) (Ok x) → b ≡ 0
  no_step e = let z : ◌≡◌ {A = ℕ} 0 1 = cc in absurd (omega arith)

  chosen : (q : Bool) (s : Step) → cond {A = Reading} q (Ok s) (Err WrongAmount) ≡ Ok x → q ≡ true
  chosen true s e = refl
  chosen false s e = let z : ◌≡◌ {A = ℕ} 0 1 = cc in absurd (omega arith)

  tested : (q : Bool) (s : Step) → cond {A = Reading} (eqb b 0 && q) (Ok s) (Err WrongAmount) ≡ Ok x → b ≡ 0
  tested q s e = eqb→eq b 0 (left (eqb b 0) q (passes (eqb b 0 && q) (chosen (eqb b 0 && q) s e)))

  -- by place in a list of readings that ends with the tick's and the reset's
  middle_from : (ss : List Step) (c : ℕ) → get_or (map (λ s. plain s b n) ss ++ (ticking b n ∷ plain Reset b n ∷ [])) c (Err WrongCode) ≡ Ok x → b ≡ 0
  middle_from [] zero e = tested (leb 1 n && leb n 65535) (Tick n) e
  middle_from [] (suc zero) e = tested (eqb n 0) Reset e
  middle_from [] (suc (suc c)) e = no_step e
  middle_from (s ∷ ss) zero e = tested (eqb n 0) s e
  middle_from (s ∷ ss) (suc c) e = middle_from ss c e

  abbrev plains : List Step
  plains =
      FromNeutral
      ∷ GearToGear
      ∷ ToNeutral
      ∷ Deliver
      ∷ DeviceGood
      ∷ DeviceFailed
      ∷ EngineWaits
      ∷ Take
      ∷ AskClutch
      ∷ RaiseError
      ∷ Finish
      ∷ []

  middle : (c : ℕ) → reading c b n ≡ Ok x → b ≡ 0
  middle zero e = no_step e
  middle (suc c) e = middle_from plains c e

-- ---- of records that all mean steps the first one does, and so do the others
module _ (a b c d : ℕ) (rs : List Reading) where
  later : (r : Reading) → AllRead (r ∷ rs) → AllRead rs
  later (Ok x) h = h
  later (Err WrongCode) h = absurd h
  later (Err WrongAmount) h = absurd h

  its_middle : (r : Reading) → record_of a b c d ≡ r → AllRead (r ∷ rs) → b ≡ 0
  its_middle (Ok x) e h = middle b (c + 256 * d) x a e
  its_middle (Err WrongCode) e h = absurd h
  its_middle (Err WrongAmount) e h = absurd h

  its_refusal : (r : Reading) → AllRead (r ∷ rs) → refusal r ≡ 0
  its_refusal (Ok x) h = refl
  its_refusal (Err WrongCode) h = absurd h
  its_refusal (Err WrongAmount) h = absurd h

-- ---- as many as there are four bytes
pub counted : {A : Type 0} (each : ℕ → ℕ → ℕ → ℕ → A) (n : ℕ) (l : List ℕ) → length l ≡ 4 * n → length (every_four each l) ≡ n
counted each n [] e = omega arith
counted each n (a ∷ []) e = absurd (omega arith)
counted each n (a ∷ b ∷ []) e = absurd (omega arith)
counted each n (a ∷ b ∷ c ∷ []) e = absurd (omega arith)
counted each zero (a ∷ b ∷ c ∷ d ∷ l) e = absurd (omega arith)
counted each (suc n) (a ∷ b ∷ c ∷ d ∷ l) e = ap suc (counted each n l (omega arith))

-- ---- the records of a part that all mean steps
one_written : (a b c d : ℕ) (l : List ℕ) → a < 256 → c < 256 → b ≡ 0 → bytes_of (a ∷ (c + 256 * d) ∷ []) ++ l ≡ a ∷ b ∷ c ∷ d ∷ l
one_written a b c d l h k z =
    let p : a % 256 ≡ a = omega arith in
    let q : a / 256 ≡ b = omega arith in
    let r : (c + 256 * d) % 256 ≡ c = omega arith in
    let s : (c + 256 * d) / 256 ≡ d = omega arith in
    rw (p, q, r, s)

pub records_written :
    (n : ℕ) (l : List ℕ) → length l ≡ 4 * n → Bytes l → AllRead (records_in l)
    → bytes_of (records_of (codes_of l) (amounts_of l)) ≡ l
records_written n [] e h all = refl
records_written n (a ∷ []) e h all = absurd (omega arith)
records_written n (a ∷ b ∷ []) e h all = absurd (omega arith)
records_written n (a ∷ b ∷ c ∷ []) e h all = absurd (omega arith)
records_written zero (a ∷ b ∷ c ∷ d ∷ l) e h all = absurd (omega arith)
records_written (suc n) (a ∷ b ∷ c ∷ d ∷ l) e h all =
    let rest = later a b c d (records_in l) (record_of a b c d) all in
    let zero-byte = its_middle a b c d (records_in l) (record_of a b c d) refl all in
    one_written a b c d (bytes_of (records_of (codes_of l) (amounts_of l))) (h 0) (h 2) zero-byte
    ∙ ap (λ t. a ∷ b ∷ c ∷ d ∷ t) (records_written n l (omega arith) (λ i. h (suc (suc (suc (suc i))))) rest)

pub none_wrong : (i : ℕ) (l : List ℕ) → AllRead (records_in l) → (first_wrong i (codes_of l) (amounts_of l)).number ≡ 0
none_wrong i [] all = refl
none_wrong i (a ∷ []) all = refl
none_wrong i (a ∷ b ∷ []) all = refl
none_wrong i (a ∷ b ∷ c ∷ []) all = refl
none_wrong i (a ∷ b ∷ c ∷ d ∷ l) all =
    let r = record_of a b c d in
    let n = c + 256 * d in
    let reads : refusal (reading a 0 n) ≡ 0 =
    ap (λ m. refusal (reading a m n)) (sym (its_middle a b c d (records_in l) r refl all)) ∙ its_refusal a b c d (records_in l) r all
    in
    ap (λ k. (wrong_or k i (first_wrong (suc i) (codes_of l) (amounts_of l))).number) reads
    ∙ none_wrong (suc i) l (later a b c d (records_in l) r all)
