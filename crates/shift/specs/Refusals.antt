-- Document 01, "Step files, parts and writing" and "Numbers for what is refused", a second time: what a code, a middle byte and an amount
-- mean, and when they are refused with 5 and 6, as statements. It shares no definition with Answers.antt.
-- Assumes nothing.
use Rattle.std.specs.Prelude.{◌≡◌, ◌⊎◌, List, [], ◌∷◌, ℕ, ◌≤◌, ◌<◌, Ok, Err}
use Rattle.checks.specs.Conditions.{Condition, ◌gives◌}
use Rattle.shift.specs.declared.Step.{Step}
use Rattle.shift.specs.declared.Step.TheVariants.{FromNeutral, GearToGear, ToNeutral, Deliver, DeviceGood, DeviceFailed, EngineWaits, Take, AskClutch, RaiseError, Finish, Tick, Reset}
use Rattle.shift.specs.Readings.{Reading}
use Rattle.shift.specs.declared.Misread.TheVariants.{WrongCode, WrongAmount}

-- 5: code 0 or above 13
abbrev pub NoCode : ℕ → Type 0
NoCode code = (code ≡ 0) ⊎ (13 < code)

-- 6: the middle byte is not 0, or the amount is not 0 for codes 1 to 11 and 13, not 1 to 65,535 for code 12
pub record Formed (code middle amount : ℕ) : Type 0 where
  pub middle_byte : middle ≡ 0
  pub plain : ¬ (code ≡ 12) → amount ≡ 0
  pub tick : code ≡ 12 → (1 ≤ amount) × (amount ≤ 65535)

abbrev pub Malformed : ℕ → ℕ → ℕ → Type 0
Malformed code middle amount = ¬ Formed code middle amount

-- 5, 6
abbrev pub refusals : ℕ → ℕ → ℕ → List Condition
refusals code middle amount = (NoCode code gives 5) ∷ (Malformed code middle amount gives 6) ∷ []

-- the code of a step, and its amount
abbrev pub code_of : Step → ℕ
code_of FromNeutral = 1
code_of GearToGear = 2
code_of ToNeutral = 3
code_of Deliver = 4
code_of DeviceGood = 5
code_of DeviceFailed = 6
code_of EngineWaits = 7
code_of Take = 8
code_of AskClutch = 9
code_of RaiseError = 10
code_of Finish = 11
code_of (Tick n) = 12
code_of Reset = 13

abbrev pub amount_of : Step → ℕ
amount_of FromNeutral = 0
amount_of GearToGear = 0
amount_of ToNeutral = 0
amount_of Deliver = 0
amount_of DeviceGood = 0
amount_of DeviceFailed = 0
amount_of EngineWaits = 0
amount_of Take = 0
amount_of AskClutch = 0
amount_of RaiseError = 0
amount_of Finish = 0
amount_of (Tick n) = n
amount_of Reset = 0

-- what a code, a middle byte and an amount mean
abbrev pub Reads : ℕ → ℕ → ℕ → Reading → Type 0
Reads code middle amount (Ok x) = ¬ NoCode code × Formed code middle amount × (code_of x ≡ code) × (amount_of x ≡ amount)
Reads code middle amount (Err WrongCode) = NoCode code
Reads code middle amount (Err WrongAmount) = ¬ NoCode code × Malformed code middle amount
