-- The entries that lines give, in the words of specs/Form.antt: their values, which of them is missing first, and the table of them.
-- Assumes nothing.
use mathlib.Core.Path.{◌≡◌, refl, sym, ap, subst, ◌∙◌}
use mathlib.Core.Logic.{◌⊎◌, inl, inr, ⊎_elim}
use mathlib.Core.Bool.{Bool}
use mathlib.Core.List.{List, [], ◌∷◌, map}
use Prim.Native.Nat.{ℕ, zero, suc, ◌+◌, ◌≤◌, ◌<◌}
use native.Mathlib.Omega.{arith}
use lib.Dec.{T, ltb, eqb}
use lib.ListN.{length, get_or, set, length-set, length-map, get_or-map}
use lib.Seq.{ext_get_or, get_or-set_same, get_or-set_other}
use borrow.Author.Tests.{le-leb, ltb-true, ltb-false, eq-eqb, ne_eqb, eqb-true, eqb-false}
use Rattle.checks.proofs.Ranges.{below, from}
use Rattle.checks.proofs.Tests.{case, passed, passes, Tests, equal, all_of}
use Rattle.limits.specs.declared.Table.{Table}
use Rattle.limits.specs.Limits.{entries, entry, table_of}
use Rattle.limits.proofs.EntryLaws.{of_twenty_two}
use Rattle.tabletext.specs.Texts.{not_given, nothing_given, absent_from, undelayed, wanted, missing, or_zero}
use Rattle.tabletext.specs.Form.{NotGiven, Giving}

-- ---- lines leave twenty-two entries
pub kept_length : (ls : List (List ℕ)) (given after : List ℕ) → Giving ls given after → length after ≡ length given
kept_length [] given after e = ap length (sym e)
kept_length (l ∷ ls) given after h =
    ⊎_elim
    (λ s. kept_length ls given after s.1)
    (λ g. kept_length ls (set given g.entry g.value) after g.rest ∙ length-set given g.entry g.value)
    h

-- ---- and values within 16 bits, but for those that are not given
abbrev pub Bounded : List ℕ → Type 0
Bounded g = (i : ℕ) → i < 22 → get_or g i 0 ≤ 65536

set_bounded : (g : List ℕ) (e v : ℕ) → e < length g → v ≤ 65535 → Bounded g → Bounded (set g e v)
set_bounded g e v k h b i l =
    case (eqb i e)
    (λ t. let same = eqb-true i e t in rw (same, get_or-set_same g e v 0 k) (omega arith))
    (λ t. rw (get_or-set_other g e i v 0 (eqb-false i e t)) (b i l))

stays_bounded : (ls : List (List ℕ)) (given after : List ℕ) → length given ≡ 22 → Giving ls given after → Bounded given → Bounded after
stays_bounded [] given after n e b = subst Bounded e b
stays_bounded (l ∷ ls) given after n h b =
    ⊎_elim
    (λ s. stays_bounded ls given after n s.1 b)
    (λ g.
    let below-22 = g.an_entry in
    stays_bounded ls (set given g.entry g.value) after (length-set given g.entry g.value ∙ n) g.rest
    (set_bounded given g.entry g.value (omega (arith, n, below-22)) g.fits b))
    h

nothing_bounded : Bounded nothing_given
nothing_bounded = below (λ i. get_or nothing_given i 0 ≤ 65536) 22 (omega arith)

pub bounded : (ls : List (List ℕ)) (after : List ℕ) → Giving ls nothing_given after → Bounded after
bounded ls after g = stays_bounded ls nothing_given after refl g nothing_bounded

-- ---- the first that is absent: it is, all before it are given, and so many as are given come before it
starts : (i : ℕ) (g : List ℕ) → i ≤ absent_from i g
starts i [] = omega arith
starts i (v ∷ vs) = case (eqb v not_given) (λ t. rw t (omega arith)) (λ t. rw t (omega (arith, starts (suc i) vs)))

absent_there : (i j : ℕ) (g : List ℕ) → absent_from i g ≡ i + j → j < length g → NotGiven g j
absent_there i j [] e h = absurd (omega arith)
absent_there i zero (v ∷ vs) e h =
    case (eqb v not_given)
    (λ t. eqb-true v not_given t)
    (λ t. let f = rw t at e in absurd (omega (arith, f, starts (suc i) vs)))
absent_there i (suc j) (v ∷ vs) e h =
    case (eqb v not_given)
    (λ t. let f = rw t at e in absurd (omega (arith, f)))
    (λ t. let f = rw t at e in absent_there (suc i) j vs (omega (arith, f)) (omega arith))

at_least : (i k : ℕ) (g : List ℕ) → k ≤ length g → ((j : ℕ) → j < k → ¬ NotGiven g j) → i + k ≤ absent_from i g
at_least i zero g l h = omega (arith, starts i g)
at_least i (suc k) [] l h = absurd (omega arith)
at_least i (suc k) (v ∷ vs) l h =
    rw (ne_eqb v not_given (h 0 (omega arith))) (omega (arith, at_least (suc i) k vs (omega arith) (λ j m. h (suc j) (omega arith))))

before_absent : (i j : ℕ) (g : List ℕ) → i + j < absent_from i g → ¬ NotGiven g j
before_absent i j [] h e = omega arith
before_absent i zero (v ∷ vs) h e = let f = rw (eq-eqb v not_given e) at h in omega (arith, f)
before_absent i (suc j) (v ∷ vs) h e =
    case (eqb v not_given)
    (λ t. let f = rw t at h in omega (arith, f))
    (λ t. let f = rw t at h in before_absent (suc i) j vs (omega (arith, f)) e)

-- ---- how many are wanted: by the four delays
abbrev pub Limits : List ℕ → Type 0
Limits g = (i : ℕ) → i < 18 → ¬ NotGiven g i

abbrev pub Delays : List ℕ → Type 0
Delays g = (i : ℕ) → 18 ≤ i → i < 22 → ¬ NotGiven g i

abbrev pub NoDelays : List ℕ → Type 0
NoDelays g = (i : ℕ) → 18 ≤ i → i < 22 → NotGiven g i

module _ (g : List ℕ) where
  abbrev none_delayed : Bool
  none_delayed = undelayed (get_or g 18 0) (get_or g 19 0) (get_or g 20 0) (get_or g 21 0)

  delays_tested : Tests none_delayed (NoDelays g)
  delays_tested =
      let each : Tests none_delayed _ = all_of equal (all_of equal (all_of equal equal)) in
      record {
        read = λ h. let p = each.read h in from (NotGiven g) 18 4 (p.0, (p.1.0, (p.1.1.0, (p.1.1.1, tt))));
        shown = λ f.
            each.shown (f 18 (omega arith) (omega arith), (f 19 (omega arith) (omega arith), (f 20 (omega arith) (omega arith), f 21 (omega arith) (omega arith))));
      }

  pub wanted_fits : (18 ≤ wanted g) × (wanted g ≤ 22)
  wanted_fits = case none_delayed (λ t. rw t (omega arith, omega arith)) (λ t. rw t (omega arith, omega arith))

  -- enough are given: what lines that say a table give, and nothing else
  pub enough_given : length g ≡ 22 → Limits g → Delays g ⊎ NoDelays g → wanted g ≤ absent_from 0 g
  enough_given n l =
      ⊎_elim
      (λ d. omega (arith, wanted_fits.1, at_least 0 22 g (omega (arith, n)) (λ j h. ⊎_elim (λ k. l j k) (λ k. d j k h) (sides j))))
      (λ d.
      let eighteen : wanted g ≡ 18 = rw (passed none_delayed (delays_tested.shown d)) in
      omega (arith, eighteen, at_least 0 18 g (omega (arith, n)) l))
    where
      sides : (j : ℕ) → (j < 18) ⊎ (18 ≤ j)
      sides j = case (ltb j 18) (λ t. inl (ltb-true j 18 t)) (λ t. inr (ltb-false j 18 t))

  pub limits_given : wanted g ≤ absent_from 0 g → Limits g
  limits_given h i k = before_absent 0 i g (omega (arith, h, wanted_fits.0))

  pub delays_given : wanted g ≤ absent_from 0 g → Delays g ⊎ NoDelays g
  delays_given h =
      case none_delayed
      (λ t. inr (delays_tested.read (passes none_delayed t)))
      (λ t. let all : 22 ≤ absent_from 0 g = rw t at h in inl (λ i l k. before_absent 0 i g (omega (arith, all))))

  pub none_is_missing : 22 ≤ missing g → wanted g ≤ absent_from 0 g
  none_is_missing m =
      case (ltb (absent_from 0 g) (wanted g))
      (λ c. let l = ltb-true (absent_from 0 g) (wanted g) c in let f : 22 ≤ absent_from 0 g = rw c at m in absurd (omega (arith, l, f, wanted_fits.1)))
      (λ c. ltb-false (absent_from 0 g) (wanted g) c)

  -- one that is missing is the first
  pub record FirstMissing (m : ℕ) : Type 0 where
    pub absent : NotGiven g m
    pub none_before : (i : ℕ) → i < m → ¬ NotGiven g i
    pub wanted : (m < 18) ⊎ ((m < 22) × ¬ NoDelays g)

  pub first_missing : length g ≡ 22 → missing g < 22 → FirstMissing (missing g)
  first_missing n h =
      case (ltb (absent_from 0 g) (wanted g))
      (λ c. rw c (here (ltb-true (absent_from 0 g) (wanted g) c)))
      (λ c. let f : 22 < 22 = rw c at h in absurd (omega arith))
    where
      asked : absent_from 0 g < wanted g → (absent_from 0 g < 18) ⊎ ((absent_from 0 g < 22) × ¬ NoDelays g)
      asked l =
          case none_delayed
          (λ t. let f : absent_from 0 g < 18 = rw t at l in inl f)
          (λ t. let f : absent_from 0 g < 22 = rw t at l in inr (f, λ d. absurd (subst T t (delays_tested.shown d))))

      here : absent_from 0 g < wanted g → FirstMissing (absent_from 0 g)
      here l = record {
        absent = absent_there 0 (absent_from 0 g) g (omega arith) (omega (arith, l, n, wanted_fits.1));
        none_before = λ i k. before_absent 0 i g (omega arith);
        wanted = asked l;
      }

-- ---- the table of the entries that are given
pub of_given : (t : Table) (g : List ℕ) → length g ≡ 22 → Bounded g → ((i : ℕ) → i < 22 → ¬ NotGiven g i → entry t i ≡ get_or g i 0)
    → ((i : ℕ) → i < 22 → NotGiven g i → entry t i ≡ 0) → table_of (map or_zero g) ≡ t
of_given t g n b there absent = ap table_of (ext_get_or 0 (map or_zero g) (entries t) (length-map g or_zero ∙ n) each)
  where
    each : (i : ℕ) → i < length (map or_zero g) → get_or (map or_zero g) i 0 ≡ entry t i
    each i h =
        let k : i < 22 = omega (arith, h, length-map g or_zero, n) in
        let small = b i k in
        get_or-map or_zero g i 0
        ∙ case (eqb (get_or g i 0) not_given)
        (λ e. let none = eqb-true (get_or g i 0) not_given e in rw none (sym (absent i k none)))
        (λ e.
        let some = eqb-false (get_or g i 0) not_given e in
        rw (le-leb (get_or g i 0) 65535 (omega (arith, small, some))) (sym (there i k some)))

module _ (g : List ℕ) (t : Table) (q : table_of (map or_zero g) ≡ t) where
  entry_is : (i : ℕ) → i < 22 → entry t i ≡ or_zero (get_or g i 0)
  entry_is i k = ap (λ u. entry u i) (sym q) ∙ sym (of_twenty_two (map or_zero g) i k) ∙ get_or-map or_zero g i 0

  pub is_there : Bounded g → (i : ℕ) → i < 22 → ¬ NotGiven g i → entry t i ≡ get_or g i 0
  is_there b i k m = let small = b i k in entry_is i k ∙ rw (le-leb (get_or g i 0) 65535 (omega (arith, small, m)))

  pub is_absent : (i : ℕ) → i < 22 → NotGiven g i → entry t i ≡ 0
  is_absent i k m = entry_is i k ∙ rw m
