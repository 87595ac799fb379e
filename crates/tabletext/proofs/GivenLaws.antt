-- The entries that the lines have given, as the code holds them and in numbers: one of them, the first that is absent, and the table's.
-- Assumes nothing.
use mathlib.Core.Path.{◌≡◌, refl, sym, ap, ◌∙◌}
use mathlib.Core.Bool.{cond, true, ◌&&◌}
use mathlib.Core.List.{List, [], ◌∷◌, map}
use Prim.Native.Nat.{ℕ, zero, suc, ◌+◌, ◌≤◌, ◌<◌}
use native.Mathlib.Omega.{arith}
use lib.Dec.{ltb, eqb}
use lib.ListN.{length, get_or, set, take, drop, length-map, get_or-map}
use lib.Seq.{drop-cons, length-take-le, ext_get_or}
use borrow.Author.Tests.{le-leb, lt-ltb, le-ltb, ltb-true, ltb-false, ne_eqb, leb-true}
use Rattle.std.specs.List.{list_all, position_or_len}
use Rattle.std.specs.Option.{is_none, unwrap_or}
use Rattle.std.specs.Prelude.{Option, Some, None}
use Rattle.std.proofs.lemmas.List.{drop_all}
use Rattle.checks.proofs.Tests.{case, passed, passes, left, right}
use Rattle.tablewords.specs.Names.{an_entry}
use Rattle.tabletext.specs.Answers.{value_in, values_in, fits16, all_fit}
use Rattle.tabletext.specs.Texts.{not_given, absent_from, undelayed, wanted, missing, or_zero}

-- ---- one of them
pub value_at : (os : List (Option ℕ)) (i : ℕ) → i < length os → get_or (values_in os) i 0 ≡ value_in (get_or os i None)
value_at [] i h = absurd (omega arith)
value_at (o ∷ os) zero h = refl
value_at (o ∷ os) (suc i) h = value_at os i (omega arith)

abbrev pub Fits : Option ℕ → Type 0
Fits o = fits16 o ≡ true

abbrev pub AllFit : List (Option ℕ) → Type 0
AllFit os = all_fit os ≡ true

first_fits : (o : Option ℕ) (os : List (Option ℕ)) → AllFit (o ∷ os) → Fits o
first_fits o os h = passed (fits16 o) (left (fits16 o) (all_fit os) (passes (fits16 o && all_fit os) h))

others_fit : (o : Option ℕ) (os : List (Option ℕ)) → AllFit (o ∷ os) → AllFit os
others_fit o os h = passed (all_fit os) (right (fits16 o) (all_fit os) (passes (fits16 o && all_fit os) h))

within : (v : ℕ) → Fits (Some v) → v ≤ 65535
within v h = leb-true v 65535 h

pub fits_at : (os : List (Option ℕ)) (i : ℕ) → AllFit os → Fits (get_or os i None)
fits_at [] i h = refl
fits_at (o ∷ os) zero h = first_fits o os h
fits_at (o ∷ os) (suc i) h = fits_at os i (others_fit o os h)

pub set_fits : (os : List (Option ℕ)) (i v : ℕ) → v ≤ 65535 → AllFit os → AllFit (set os i (Some v))
set_fits [] i v k h = refl
set_fits (o ∷ os) zero v k h = rw (le-leb v 65535 k, others_fit o os h)
set_fits (o ∷ os) (suc i) v k h = rw (first_fits o os h, set_fits os i v k (others_fit o os h))

pub absent_is : (o : Option ℕ) → Fits o → is_none o ≡ eqb (value_in o) not_given
absent_is None h = refl
absent_is (Some v) h = let k = within v h in sym (ne_eqb v not_given (λ e. absurd (omega (arith, k, e))))

-- ---- the first that is absent, of so many
absent_place : (i : ℕ) (os : List (Option ℕ)) → AllFit os → absent_from i (values_in os) ≡ i + position_or_len is_none os
absent_place i [] h = omega arith
absent_place i (None ∷ os) h = omega arith
absent_place i (Some v ∷ os) h =
    let fits = within v (first_fits (Some v) os h) in
    rw (ne_eqb v not_given (λ e. absurd (omega (arith, fits, e)))) (absent_place (suc i) os (others_fit (Some v) os h) ∙ omega arith)

first_of : (n : ℕ) (os : List (Option ℕ)) → n ≤ length os
    → position_or_len is_none (take n os) ≡ cond (ltb (position_or_len is_none os) n) (position_or_len is_none os) n
first_of zero os h = rw (le-ltb (position_or_len is_none os) 0 (omega arith))
first_of (suc n) [] h = absurd (omega arith)
first_of (suc n) (None ∷ os) h = rw (lt-ltb 0 (suc n) (omega arith))
first_of (suc n) (Some v ∷ os) h =
    let p = position_or_len is_none os in
    let rest = first_of n os (omega arith) in
    case (ltb p n)
    (λ t.
    let less = ltb-true p n t in
    let is : position_or_len is_none (take n os) ≡ p = (rw t at rest) in
    rw (lt-ltb (1 + p) (suc n) (omega arith), is))
    (λ t.
    let more = ltb-false p n t in
    let is : position_or_len is_none (take n os) ≡ n = (rw t at rest) in
    rw (le-ltb (1 + p) (suc n) (omega arith), is) (omega arith))

pub missing_is : (os : List (Option ℕ)) (n : ℕ) → length os ≡ 22 → AllFit os → n ≤ 22 → n ≡ wanted (values_in os)
    → cond (ltb (position_or_len is_none (take n os)) (length (take n os))) (Some (position_or_len is_none (take n os))) None
    ≡ an_entry (missing (values_in os))
missing_is os n l h k w =
    let p = position_or_len is_none os in
    let place = position_or_len is_none (take n os) in
    let first = first_of n os (omega (arith, l)) in
    let absent : absent_from 0 (values_in os) ≡ p = absent_place 0 os h ∙ omega arith in
    let long : length (take n os) ≡ n = length-take-le n os (omega (arith, l)) in
    case (ltb p n)
    (λ t.
    let less = ltb-true p n t in
    let is : place ≡ p = (rw t at first) in
    rw (long, is, absent, sym w, t, lt-ltb p 22 (omega arith)))
    (λ t.
    let is : place ≡ n = (rw t at first) in
    rw (long, is, absent, sym w, t, le-ltb n n (omega arith)))

-- ---- whether a delay is given
pub delays : (os : List (Option ℕ)) → length os ≡ 22
    → drop 18 os ≡ get_or os 18 None ∷ get_or os 19 None ∷ get_or os 20 None ∷ get_or os 21 None ∷ []
delays os l =
    rw (
      drop-cons os 18 None (omega (arith, l)),
      drop-cons os 19 None (omega (arith, l)),
      drop-cons os 20 None (omega (arith, l)),
      drop-cons os 21 None (omega (arith, l)),
      drop_all 22 os (omega (arith, l)),
    )

pub undelayed_is : (os : List (Option ℕ)) → length os ≡ 22 → AllFit os
    → list_all is_none (take 4 (drop 18 os))
    ≡ undelayed (get_or (values_in os) 18 0) (get_or (values_in os) 19 0) (get_or (values_in os) 20 0) (get_or (values_in os) 21 0)
undelayed_is os l h =
    let at = λ (i : ℕ) (k : i < length os).
    ap (λ v. eqb v not_given) (value_at os i k) ∙ sym (absent_is (get_or os i None) (fits_at os i h)) in
    let last = get_or os 21 None in
    rw (delays os l, at 18 (omega (arith, l)), at 19 (omega (arith, l)), at 20 (omega (arith, l)), at 21 (omega (arith, l)))
    (case (is_none last) (λ e. rw e) (λ e. rw e))

-- ---- the table's
pub or_zero_is : (o : Option ℕ) → Fits o → unwrap_or o 0 ≡ or_zero (value_in o)
or_zero_is None h = refl
or_zero_is (Some v) h = rw h

pub table_entries : (os : List (Option ℕ)) (vs : List ℕ) → AllFit os → length vs ≡ length os
    → ((i : ℕ) → i < length os → get_or vs i 0 ≡ unwrap_or (get_or os i None) 0) → vs ≡ map or_zero (values_in os)
table_entries os vs h l each =
    ext_get_or 0 vs (map or_zero (values_in os)) (l ∙ sym (length-map os value_in) ∙ sym (length-map (values_in os) or_zero))
    (λ i k.
    let j : i < length os = omega (arith, l, k) in
    each i j
    ∙ or_zero_is (get_or os i None) (fits_at os i h)
    ∙ ap or_zero (sym (value_at os i j))
    ∙ sym (get_or-map or_zero (values_in os) i 0))
