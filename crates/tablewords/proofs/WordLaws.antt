-- The first bytes of a class: how many a run of them has, and that they are a part of the list.
-- Assumes nothing.
use mathlib.Core.Path.{◌≡◌, refl, sym, ap}
use mathlib.Core.Bool.{Bool, true, false}
use mathlib.Core.List.{List, [], ◌∷◌}
use Prim.Native.Nat.{ℕ, zero, suc}
use native.Mathlib.Omega.{arith}
use lib.ListN.{length, take, drop}
use Rattle.checks.proofs.Tests.{case}
use Rattle.tablewords.specs.declared.Class.{Class}
use Rattle.tablewords.specs.Words.{Run, holds, leading, past}

-- ---- a run of bytes that a test holds of, where the test is that of a class
pub counted : (answers : ℕ → Bool → Type 0) (c : Class) → ((b : ℕ) (r : Bool) → answers b r → r ≡ holds c b) → (l : List ℕ) (n : ℕ)
    → Run answers l n → n ≡ length (leading c l)
counted answers c is [] n r = omega (arith, r.within)
counted answers c is (b ∷ bs) zero r =
    let no : false ≡ holds c b = is b false (r.ended (omega arith)) in
    rw (sym no)
counted answers c is (b ∷ bs) (suc n) r =
    let yes : true ≡ holds c b = is b true (r.held 0 (omega arith)) in
    let rest : Run answers bs n = record {
      within = omega (arith, r.within);
      held = λ i h. r.held (suc i) (omega arith);
      ended = λ h. r.ended (omega arith);
    } in
    rw (sym yes) (ap suc (counted answers c is bs n rest))

-- ---- a part of the list, and the rest of it
pub take-leading : (c : Class) (l : List ℕ) → take (length (leading c l)) l ≡ leading c l
take-leading c [] = refl
take-leading c (b ∷ bs) = case (holds c b) (λ e. rw (e, take-leading c bs)) (λ e. rw e)

pub drop-leading : (c : Class) (l : List ℕ) → drop (length (leading c l)) l ≡ past c l
drop-leading c [] = refl
drop-leading c (b ∷ bs) = case (holds c b) (λ e. rw (e, drop-leading c bs)) (λ e. rw e)
