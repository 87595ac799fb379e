-- Laws on one record and its shift: a request and its kind, an ask clutch, the phases that end it; the clock never goes back.
-- Assumes nothing.
use Rattle.std.specs.Prelude.{Ok, Err}
use Rattle.std.proofs.Common.{◌≡◌, ℕ, zero, suc, ◌<◌, ◌≤◌, Bool, true, false, ◌||◌, T, eqb, ◌⊎◌, List, [], ◌∷◌, take, sym, refl, ap, ◌∙◌, subst, inl, inr, ⊎_elim, arith, eqb-true}
use Rattle.checks.proofs.Tests.{case, either}
use Rattle.promises.specs.Verdicts.{at}
use Rattle.shift.specs.declared.State.{State}
use Rattle.shift.specs.declared.Step.{Step}
use Rattle.shift.specs.declared.Step.TheVariants.{FromNeutral, GearToGear, ToNeutral, Deliver, DeviceGood, DeviceFailed, EngineWaits, Take, AskClutch, RaiseError, Finish, Tick, Reset}
use Rattle.shift.specs.Readings.{Reading}
use Rattle.shift.specs.declared.Misread.TheVariants.{WrongCode, WrongAmount}
use Rattle.shift.specs.Answers.{led}
use Rattle.shiftlist.specs.Shifts.{kind_in, asks_in, kind_of, asks, end_of}
use Rattle.shiftlist.specs.Entries.{RequestOf}

-- ---- a request
pub kind_of_a_request : (r : Reading) (code : ℕ) → RequestOf r code → kind_of r ≡ code
kind_of_a_request r code =
    ⊎_elim
    (λ a. ap kind_of a.0 ∙ sym a.1)
    (⊎_elim (λ a. ap kind_of a.0 ∙ sym a.1) (λ a. ap kind_of a.0 ∙ sym a.1))

pub codes_of_requests : (r : Reading) (code : ℕ) → RequestOf r code → (1 ≤ code) × (code ≤ 3)
codes_of_requests r code =
    ⊎_elim
    (λ a. let e = a.1 in omega arith)
    (⊎_elim (λ a. let e = a.1 in omega arith) (λ a. let e = a.1 in omega arith))

-- what has a kind is a request; it leads to an open phase, takes no time and asks for no clutch
pub record Begins (s : State) (r : Reading) (code : ℕ) : Type 0 where
  pub request : RequestOf r code
  pub still_open : end_of (led s r).phase ≡ 0
  pub same_clock : (led s r).clock ≡ s.clock
  pub asks_not : asks r ≡ false

begins_in : (s : State) (x : Step) (k : ℕ) → kind_in x ≡ suc k → Begins s (Ok x) (suc k)
begins_in s FromNeutral k e = record { request = inl (refl, sym e); still_open = refl; same_clock = refl; asks_not = refl }
begins_in s GearToGear k e = record { request = inr (inl (refl, sym e)); still_open = refl; same_clock = refl; asks_not = refl }
begins_in s ToNeutral k e = record { request = inr (inr (refl, sym e)); still_open = refl; same_clock = refl; asks_not = refl }
begins_in s Deliver k e = absurd (omega arith)
begins_in s DeviceGood k e = absurd (omega arith)
begins_in s DeviceFailed k e = absurd (omega arith)
begins_in s EngineWaits k e = absurd (omega arith)
begins_in s Take k e = absurd (omega arith)
begins_in s AskClutch k e = absurd (omega arith)
begins_in s RaiseError k e = absurd (omega arith)
begins_in s Finish k e = absurd (omega arith)
begins_in s (Tick n) k e = absurd (omega arith)
begins_in s Reset k e = absurd (omega arith)

pub begins : (s : State) (r : Reading) (k : ℕ) → kind_of r ≡ suc k → Begins s r (suc k)
begins s (Ok x) k e = begins_in s x k e
begins s (Err WrongCode) k e = absurd (omega arith)
begins s (Err WrongAmount) k e = absurd (omega arith)

-- ---- the clock never goes back
goes_on_in : (s : State) (x : Step) → s.clock ≤ (led s (Ok x)).clock
goes_on_in s FromNeutral = omega arith
goes_on_in s GearToGear = omega arith
goes_on_in s ToNeutral = omega arith
goes_on_in s Deliver = omega arith
goes_on_in s DeviceGood = omega arith
goes_on_in s DeviceFailed = omega arith
goes_on_in s EngineWaits = omega arith
goes_on_in s Take = omega arith
goes_on_in s AskClutch = omega arith
goes_on_in s RaiseError = omega arith
goes_on_in s Finish = omega arith
goes_on_in s (Tick n) = omega arith
goes_on_in s Reset = omega arith

pub clock_goes_on : (s : State) (r : Reading) → s.clock ≤ (led s r).clock
clock_goes_on s (Ok x) = goes_on_in s x
clock_goes_on s (Err WrongCode) = omega arith
clock_goes_on s (Err WrongAmount) = omega arith

-- ---- an ask clutch, and one among the first records
asks_in_lem : (x : Step) → T (asks_in x) → ◌≡◌ {A = Reading} (Ok x) (Ok AskClutch)
asks_in_lem FromNeutral t = absurd t
asks_in_lem GearToGear t = absurd t
asks_in_lem ToNeutral t = absurd t
asks_in_lem Deliver t = absurd t
asks_in_lem DeviceGood t = absurd t
asks_in_lem DeviceFailed t = absurd t
asks_in_lem EngineWaits t = absurd t
asks_in_lem Take t = absurd t
asks_in_lem AskClutch t = refl
asks_in_lem RaiseError t = absurd t
asks_in_lem Finish t = absurd t
asks_in_lem (Tick n) t = absurd t
asks_in_lem Reset t = absurd t

asks_is : (r : Reading) → T (asks r) → r ≡ Ok AskClutch
asks_is (Ok x) t = asks_in_lem x t
asks_is (Err WrongCode) t = absurd t
asks_is (Err WrongAmount) t = absurd t

is_asks : (r : Reading) → r ≡ Ok AskClutch → T (asks r)
is_asks r e = subst (λ q. T (asks q)) (sym e) tt

abbrev pub asked : List Reading → Bool
asked [] = false
asked (r ∷ rs) = asks r || asked rs

-- where one of the first n asks
pub record AskedBelow (rs : List Reading) (n : ℕ) : Type 0 where
  pub index : ℕ
  pub below : index < n
  pub there : at rs index ≡ Ok AskClutch

one_of_two : (a b : Bool) → T a ⊎ T b → T (a || b)
one_of_two true b h = tt
one_of_two false b h = ⊎_elim (λ t. absurd t) (λ t. t) h

pub asked_there : (rs : List Reading) (n : ℕ) → T (asked (take n rs)) → AskedBelow rs n
asked_there rs zero t = absurd t
asked_there [] (suc n) t = absurd t
asked_there (r ∷ rs) (suc n) t =
    ⊎_elim
    (λ a. record { index = 0; below = omega arith; there = asks_is r a })
    (λ b.
    let g = asked_there rs n b in
    record { index = suc g.index; below = omega (arith, g.below); there = g.there })
    (either (asks r) (asked (take n rs)) t)

pub there_asked : (rs : List Reading) (n k : ℕ) → k < n → at rs k ≡ Ok AskClutch → T (asked (take n rs))
there_asked rs zero k l e = absurd (omega arith)
there_asked [] (suc n) k l e = absurd (is_asks (Err WrongCode) e)
there_asked (r ∷ rs) (suc n) zero l e = one_of_two (asks r) (asked (take n rs)) (inl (is_asks r e))
there_asked (r ∷ rs) (suc n) (suc k) l e =
    one_of_two (asks r) (asked (take n rs)) (inr (there_asked rs n k (omega arith) e))

-- ---- how a shift stands in a phase
pub open_is_not_over : (p : ℕ) → end_of p ≡ 0 → ¬ ((p ≡ 22) ⊎ (p ≡ 23))
open_is_not_over p z =
    ⊎_elim
    (λ e. let k : end_of p ≡ 1 = ap end_of e in omega arith)
    (λ e. let k : end_of p ≡ 2 = ap end_of e in omega arith)

pub ends_so :
    (p end m n : ℕ) → end ≡ end_of p → (end ≡ 0 → m ≡ n)
    → ((end ≡ 1) × (p ≡ 22)) ⊎ (((end ≡ 2) × (p ≡ 23)) ⊎ ((end ≡ 0) × ¬ ((p ≡ 22) ⊎ (p ≡ 23)) × (m ≡ n)))
ends_so p end m n e f =
    case (eqb p 22)
    (λ a. let p22 = eqb-true p 22 a in inl (e ∙ ap end_of p22, p22))
    (λ a.
    case (eqb p 23)
    (λ b. let p23 = eqb-true p 23 b in inr (inl (e ∙ ap end_of p23, p23)))
    (λ b.
    let z : end_of p ≡ 0 = rw (a, b) in
    inr (inr (e ∙ z, open_is_not_over p z, f (e ∙ z)))))
