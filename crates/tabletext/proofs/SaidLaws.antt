-- What a line says, by its first word, and what is wrong with it, by the entries that the lines before gave.
-- Assumes nothing.
use mathlib.Core.Path.{◌≡◌, refl, sym, ap, ◌∙◌}
use mathlib.Core.Bool.{Bool, true, false}
use mathlib.Core.List.{List}
use Prim.Native.Nat.{ℕ, ◌≤◌, ◌<◌}
use native.Mathlib.Omega.{arith}
use lib.Dec.{eqb}
use lib.ListN.{length, get_or}
use borrow.Author.Tests.{ne_eqb, le-leb, lt-leb, leb-true}
use Rattle.std.specs.Option.{is_some}
use Rattle.std.specs.Prelude.{Option, Some, None, Result}
use Rattle.tablewords.specs.Words.{above, word, behind, as_number}
use Rattle.tablewords.specs.declared.NoNumber.{NoNumber}
use Rattle.tablewords.specs.Names.{an_entry, entry_named}
use Rattle.tablewords.proofs.NameLaws.{answered_entry, answered_nowhere}
use Rattle.tabletext.specs.Answers.{Nothing, Unnamed, Entry, value_in, values_in}
use Rattle.tabletext.specs.Texts.{number_behind, line_of, not_given, fault_of}
use Rattle.tabletext.proofs.GivenLaws.{Fits, AllFit, value_at, fits_at}

-- ---- by the first word, w, which is empty or not, and the entry that it names
module _ (l w : List ℕ) (e : w ≡ word l) (z : Bool) (q : z ≡ eqb (length w) 0) where
  tested : eqb (length (word l)) 0 ≡ z
  tested = ap (λ x. eqb (length x) 0) (sym e) ∙ sym q

  pub says_nothing : z ≡ true → line_of l ≡ Nothing
  unfolding line_of
  says_nothing t = rw (tested, t)

  module _ (t : z ≡ false) (r : Option ℕ) (a : r ≡ an_entry (entry_named w)) where
    answered : an_entry (entry_named (word l)) ≡ r
    answered = ap (λ x. an_entry (entry_named x)) (sym e) ∙ sym a

    pub says_unnamed : r ≡ None → line_of l ≡ Unnamed
    unfolding line_of
    says_unnamed n = rw (tested, t, answered_nowhere (word l) (answered ∙ n))

    pub says_entry : (i : ℕ) → r ≡ Some i → (i < 22) × (line_of l ≡ Entry i (number_behind (behind l)))
    unfolding line_of
    says_entry i n =
        let is = answered_entry (entry_named (word l)) i (answered ∙ n) in
        (is.1, rw (tested, t, is.0, ne_eqb i 22 (λ x. absurd (omega (arith, is.1, x)))))

-- ---- the number behind the name
pub number_told : (l r : List ℕ) → r ≡ behind l → (m : Result ℕ NoNumber) → m ≡ as_number (number_behind r)
    → as_number (number_behind (behind l)) ≡ m
number_told l r e m h = ap (λ x. as_number (number_behind x)) (sym e) ∙ sym h

-- ---- by what was given before
given : (o : Option ℕ) → Fits o → is_some o ≡ true → eqb (value_in o) not_given ≡ false
given None h s = cc
given (Some v) h s = let k = leb-true v 65535 h in ne_eqb v not_given (λ e. absurd (omega (arith, k, e)))

not_there : (o : Option ℕ) → is_some o ≡ false → eqb (value_in o) not_given ≡ true
not_there None s = refl
not_there (Some v) s = cc

module _ (os : List (Option ℕ)) (i v : ℕ) (k : i < length os) where
  pub twice : AllFit os → is_some (get_or os i None) ≡ true → 2 ≡ fault_of (values_in os) (Entry i v)
  twice fit h = rw (value_at os i k, given (get_or os i None) (fits_at os i fit) h)

  module _ (h : is_some (get_or os i None) ≡ false) where
    absent : eqb (get_or (values_in os) i 0) not_given ≡ true
    absent = rw (value_at os i k, not_there (get_or os i None) h)

    pub no_number : 65536 < v → 3 ≡ fault_of (values_in os) (Entry i v)
    no_number n = rw (absent, lt-leb v above n)

    pub too_large : v ≡ above → 4 ≡ fault_of (values_in os) (Entry i v)
    too_large n = rw (absent, n)

    pub sound : v ≤ 65535 → fault_of (values_in os) (Entry i v) ≡ 0
    sound n = rw (absent, le-leb v above (omega arith), le-leb v 65535 n)
