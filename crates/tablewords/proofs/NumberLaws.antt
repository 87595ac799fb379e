-- The number that a word is: how a loop finds it, digit by digit, while 16 bits hold it.
-- Assumes nothing.
use mathlib.Core.Path.{◌≡◌, refl, sym, ap, ◌∙◌}
use mathlib.Core.Bool.{true, false, ◌&&◌}
use mathlib.Core.List.{List, [], ◌∷◌}
use Prim.Native.Nat.{ℕ, ◌+◌, ◌-◌, ◌*◌, ◌≤◌, ◌<◌}
use native.Mathlib.Omega.{arith}
use lib.Dec.{leb, eqb}
use lib.ListN.{length, get_or, drop}
use lib.Seq.{drop-cons}
use borrow.Author.Tests.{le-leb, lt-leb, leb-true, leb-false, eqb-true, eqb-false}
use Rattle.std.specs.Char.{is_ascii_digit}
use Rattle.std.specs.List.{list_all}
use Rattle.std.specs.Prelude.{Ok, Err}
use Rattle.std.specs.Option.{ok_or}
use Rattle.std.proofs.lemmas.List.{drop_all}
use native.Mathlib.Numerals.{add-one}
use Rattle.checks.proofs.Tests.{case}
use Rattle.tablewords.specs.declared.NoNumber.{NoNumber}
use Rattle.tablewords.specs.declared.NoNumber.TheVariants.{Above, NotDigits}
use Rattle.tablewords.specs.Words.{above, digit, all_digits, value_from, capped, number_of, as_number, fitting}

-- ---- a value does not fall by further digits
pub grows : (v : ℕ) (bs : List ℕ) → v ≤ value_from v bs
grows v [] = omega arith
grows v (b ∷ bs) = omega (arith, grows (v * 10 + (b - 48)) bs)

pub capped_fits : (v : ℕ) → capped v ≤ 65536
capped_fits v = case (leb v 65535) (λ e. rw e (omega (arith, leb-true v 65535 e))) (λ e. rw e (omega arith))

-- ---- what is answered of a word
pub no_word : (w : List ℕ) → eqb (length w) 0 ≡ true → Err NotDigits ≡ as_number (number_of w)
no_word w e = rw e refl

pub not_digits : (w : List ℕ) → all_digits w ≡ false → Err NotDigits ≡ as_number (number_of w)
not_digits w e = case (eqb (length w) 0) (λ d. rw d refl) (λ d. rw (d, e) refl)

pub all_tested : (w : List ℕ) → list_all is_ascii_digit w ≡ all_digits w
all_tested [] = refl
all_tested (b ∷ bs) = ap (λ r. digit b && r) (all_tested bs)

-- ---- a value with one digit more, where 16 bits hold it
pub held : (n v : ℕ) → ok_or (fitting n) Above ≡ Ok v → (v ≡ n) × (v ≤ 65535)
held n v h =
    case (leb n 65535)
    (λ e.
    let s = (rw e at h) in
    let is : v ≡ n = cc in
    (is, omega (arith, is, leb-true n 65535 e)))
    (λ e. let s = (rw e at h) in cc)

pub not_held : (n : ℕ) (r : NoNumber) → ok_or (fitting n) Above ≡ Err r → (65535 < n) × (Above ≡ r)
not_held n r h = case (leb n 65535) (λ e. let s = (rw e at h) in cc) (λ e. let s = (rw e at h) in (leb-false n 65535 e, cc))

module _ (w : List ℕ) (v i : ℕ) where
  pub one_digit : i < length w → value_from v (drop i w) ≡ value_from (v * 10 + (get_or w i 0 - 48)) (drop (i + 1) w)
  one_digit h = rw (add-one i, drop-cons w i 0 h)

  pub no_more : length w ≤ i → value_from v (drop i w) ≡ v
  no_more h = rw (drop_all i w h)

module _ (w : List ℕ) (some : eqb (length w) 0 ≡ false) (all : all_digits w ≡ true) where
  pub too_large : 65535 < value_from 0 w → Err Above ≡ as_number (number_of w)
  too_large h = rw (some, all, lt-leb (value_from 0 w) 65535 h) refl

  pub fits : value_from 0 w ≤ 65535 → Ok (value_from 0 w) ≡ as_number (number_of w)
  fits h = rw (some, all, le-leb (value_from 0 w) 65535 h, le-leb (value_from 0 w) 65535 h) refl

-- ---- what an answer tells of the number
pub answered_number : (n v : ℕ) → as_number n ≡ Ok v → (n ≡ v) × (v ≤ 65535)
answered_number n v h =
    case (leb n 65535)
    (λ e.
    let s = (rw e at h) in
    let is : n ≡ v = cc in
    (is, omega (arith, is, leb-true n 65535 e)))
    (λ e. case (eqb n above) (λ f. let s = (rw (e, f) at h) in cc) (λ f. let s = (rw (e, f) at h) in cc))

pub answered_above : (n : ℕ) → as_number n ≡ Err Above → n ≡ above
answered_above n h =
    case (leb n 65535)
    (λ e. let s = (rw e at h) in cc)
    (λ e. case (eqb n above) (λ f. eqb-true n above f) (λ f. let s = (rw (e, f) at h) in cc))

pub answered_none : (n : ℕ) → as_number n ≡ Err NotDigits → 65536 < n
answered_none n h =
    case (leb n 65535)
    (λ e. let s = (rw e at h) in cc)
    (λ e.
    case (eqb n above)
    (λ f. let s = (rw (e, f) at h) in cc)
    (λ f. omega (arith, leb-false n 65535 e, eqb-false n above f)))

-- ---- and it tells all of it: two words of one answer have one number
bounded : (w : List ℕ) → number_of w ≤ 65537
bounded w =
    case (eqb (length w) 0)
    (λ e. rw e (omega arith))
    (λ e.
    case (all_digits w)
    (λ d. rw (e, d) (omega (arith, capped_fits (value_from 0 w))))
    (λ d. rw (e, d) (omega arith)))

pub no_other_number : (w v : List ℕ) → as_number (number_of w) ≡ as_number (number_of v) → number_of w ≡ number_of v
no_other_number w v h = told (number_of w) (number_of v) (bounded w) (bounded v) h
  where
    told : (n m : ℕ) → n ≤ 65537 → m ≤ 65537 → as_number n ≡ as_number m → n ≡ m
    told n m k l h =
        case (leb n 65535)
        (λ e. let s = (rw e at h) in sym (answered_number m n (sym s)).0)
        (λ e.
        case (eqb n above)
        (λ f. let s = (rw (e, f) at h) in eqb-true n above f ∙ sym (answered_above m (sym s)))
        (λ f.
        let s = (rw (e, f) at h) in
        let high = answered_none m (sym s) in
        omega (arith, high, leb-false n 65535 e, eqb-false n above f)))
