-- Lines made of blanks, words and a comment: their words, and what they say.
-- Assumes nothing.
use mathlib.Core.Path.{◌≡◌, refl, ap, ◌∙◌}
use mathlib.Core.Bool.{Bool, true, not, ◌&&◌}
use mathlib.Core.List.{List, [], ◌∷◌, ◌++◌}
use Prim.Native.Nat.{ℕ, ◌<◌}
use native.Mathlib.Omega.{arith}
use lib.Dec.{T, leb, eqb, leb→le, eqb→eq}
use lib.ListN.{length}
use borrow.Author.Tests.{ne_eqb, not-true}
use Rattle.checks.proofs.Ranges.{below}
use Rattle.checks.proofs.Tests.{passed, left, right, both, neqb→ne}
use Rattle.tablewords.specs.declared.Class.{Class}
use Rattle.tablewords.specs.declared.Class.TheVariants.{Blank, Letter}
use Rattle.tabletext.specs.Answers.{Entry}
use Rattle.tablewords.specs.Words.{comment, holds, leading, past, word, behind, digit, all_digits, value_from, capped, number_of}
use Rattle.tablewords.specs.Names.{names, name, place, entry_named}
use Rattle.tabletext.specs.Texts.{number_behind, line_of}

-- ---- bytes that are all of a class, and a list that does not begin with one
abbrev pub all : Class → List ℕ → Bool
all c [] = true
all c (b ∷ bs) = holds c b && all c bs

abbrev pub stops : Class → List ℕ → Bool
stops c [] = true
stops c (b ∷ bs) = not (holds c b)

pub leading_all : (c : Class) (xs ys : List ℕ) → T (all c xs) → T (stops c ys) → leading c (xs ++ ys) ≡ xs
leading_all c [] [] h s = refl
leading_all c [] (y ∷ ys) h s = rw (not-true (holds c y) (passed (not (holds c y)) s))
leading_all c (x ∷ xs) ys h s =
    rw (passed (holds c x) (left (holds c x) (all c xs) h), leading_all c xs ys (right (holds c x) (all c xs) h) s)

past_all : (c : Class) (xs ys : List ℕ) → T (all c xs) → T (stops c ys) → past c (xs ++ ys) ≡ ys
past_all c [] [] h s = refl
past_all c [] (y ∷ ys) h s = rw (not-true (holds c y) (passed (not (holds c y)) s))
past_all c (x ∷ xs) ys h s =
    rw (passed (holds c x) (left (holds c x) (all c xs) h)) (past_all c xs ys (right (holds c x) (all c xs) h) s)

-- ---- blanks, a word, and what stands behind it
letter_no_blank : (b : ℕ) → T (holds Letter b) → T (stops Blank (b ∷ []))
letter_no_blank b h = left (not (holds Blank b)) (not (eqb b 10) && not (eqb b 35)) h

module _ (pre : List ℕ) (b : ℕ) (bs rest : List ℕ) (p : T (all Blank pre)) (w : T (all Letter (b ∷ bs))) (s : T (stops Letter rest)) where
  begins : past Blank (pre ++ ((b ∷ bs) ++ rest)) ≡ (b ∷ bs) ++ rest
  begins = past_all Blank pre ((b ∷ bs) ++ rest) p (letter_no_blank b (left (holds Letter b) (all Letter bs) w))

  word_is : word (pre ++ ((b ∷ bs) ++ rest)) ≡ b ∷ bs
  word_is = ap (leading Letter) begins ∙ leading_all Letter (b ∷ bs) rest w s

  behind_is : behind (pre ++ ((b ∷ bs) ++ rest)) ≡ rest
  behind_is = ap (past Letter) begins ∙ past_all Letter (b ∷ bs) rest w s

-- ---- a comment, or nothing, has no word, with blanks before it or without
abbrev pub commented : List ℕ → Bool
commented [] = true
commented (b ∷ bs) = eqb b comment

comment_stops : (c : List ℕ) → T (commented c) → T (stops Blank c) × T (stops Letter c)
comment_stops [] h = (tt, tt)
comment_stops (b ∷ bs) h = rw (eqb→eq b comment h) (tt, tt)

pub no_word : (post c : List ℕ) → T (all Blank post) → T (commented c) → word (post ++ c) ≡ []
no_word post c p h =
    let s = comment_stops c h in
    ap (leading Letter) (past_all Blank post c p s.0) ∙ leading_all Letter [] c tt s.1

-- blanks and a comment behind a word end it
pub blank_ends : (b : ℕ) → T (holds Blank b) → T (not (holds Letter b))
blank_ends b h = rw (passed (holds Blank b) h) tt

pub ends : (post c : List ℕ) → T (all Blank post) → T (commented c) → T (stops Letter (post ++ c))
ends [] c p h = (comment_stops c h).1
ends (b ∷ bs) c p h = blank_ends b (left (holds Blank b) (all Blank bs) p)

-- ---- digits stand in a word
digit_letter : (b : ℕ) → T (digit b) → T (holds Letter b)
digit_letter b h =
    let low = leb→le 48 b (left (leb 48 b) (leb b 57) h) in
    rw (
      ne_eqb b 32 (λ e. absurd (omega arith)),
      ne_eqb b 9 (λ e. absurd (omega arith)),
      ne_eqb b 13 (λ e. absurd (omega arith)),
      ne_eqb b 10 (λ e. absurd (omega arith)),
      ne_eqb b 35 (λ e. absurd (omega arith)),
    ) tt

digits_letters : (ds : List ℕ) → T (all_digits ds) → T (all Letter ds)
digits_letters [] h = tt
digits_letters (d ∷ ds) h =
    both (holds Letter d) (all Letter ds) (digit_letter d (left (digit d) (all_digits ds) h)) (digits_letters ds (right (digit d) (all_digits ds) h))

number_is : (d : ℕ) (ds : List ℕ) → T (all_digits (d ∷ ds)) → number_of (d ∷ ds) ≡ capped (value_from 0 (d ∷ ds))
number_is d ds h = rw (ne_eqb (length (d ∷ ds)) 0 (λ e. absurd (omega arith)), passed (all_digits (d ∷ ds)) h)

-- ---- each name is a word, and names its entry
abbrev told : List ℕ → ℕ → Bool
told w i = all Letter w && eqb (place w names) i

each_told : (i : ℕ) → i < 22 → T (told (name i) i)
each_told = below (λ i. T (told (name i) i)) 22 (omega arith)

each_there : (i : ℕ) → i < 22 → T (not (eqb (length (name i)) 0))
each_there = below (λ i. T (not (eqb (length (name i)) 0))) 22 (omega arith)

-- ---- a line: blanks, a name, and what is no part of it
named : (i : ℕ) (pre w rest : List ℕ) → i < 22 → T (told w i) → ¬ (length w ≡ 0) → T (all Blank pre) → T (stops Letter rest)
    → line_of (pre ++ (w ++ rest)) ≡ Entry i (number_behind rest)
unfolding line_of entry_named
named i pre [] rest k t z p s = absurd (z refl)
named i pre (b ∷ bs) rest k t z p s =
    let l = left (all Letter (b ∷ bs)) (eqb (place (b ∷ bs) names) i) t in
    let e = eqb→eq (place (b ∷ bs) names) i (right (all Letter (b ∷ bs)) (eqb (place (b ∷ bs) names) i) t) in
    rw (
      word_is pre b bs rest p l s,
      behind_is pre b bs rest p l s,
      e,
      ne_eqb (length (b ∷ bs)) 0 (λ f. absurd (omega arith)),
      ne_eqb i 22 (λ f. absurd (omega arith)),
    )

pub named_line : (i : ℕ) (pre rest : List ℕ) → i < 22 → T (all Blank pre) → T (stops Letter rest)
    → line_of (pre ++ (name i ++ rest)) ≡ Entry i (number_behind rest)
named_line i pre rest k p s = named i pre (name i) rest k (each_told i k) (neqb→ne (length (name i)) 0 (each_there i k)) p s

-- ---- and this is blanks, digits, blanks, a comment or none
module _
    (pre gap post c : List ℕ)
    (g d : ℕ)
    (ds : List ℕ)
    (i : ℕ)
    (p : T (all Blank pre))
    (q : T (all Blank (g ∷ gap)))
    (n : T (all_digits (d ∷ ds)))
    (r : T (all Blank post))
    (h : T (commented c))
  where
    abbrev value_part : List ℕ
    value_part = (g ∷ gap) ++ ((d ∷ ds) ++ (post ++ c))

    behind_the_name : number_behind value_part ≡ capped (value_from 0 (d ∷ ds))
    behind_the_name =
        let l = digits_letters (d ∷ ds) n in
        let s = ends post c r h in
        let further = ap word (behind_is (g ∷ gap) d ds (post ++ c) q l s) ∙ no_word post c r h in
        rw (further, word_is (g ∷ gap) d ds (post ++ c) q l s) (number_is d ds n)

    -- the entry of this number, and this value
    pub line_says : i < 22 → line_of (pre ++ (name i ++ value_part)) ≡ Entry i (capped (value_from 0 (d ∷ ds)))
    line_says k = named_line i pre value_part k p (blank_ends g (left (holds Blank g) (all Blank gap) q)) ∙ ap (Entry i) behind_the_name
