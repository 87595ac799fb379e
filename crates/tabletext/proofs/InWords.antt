-- Lines say what the words of specs/Form.antt say: a line of that form is read so, and no other is.
-- Assumes nothing.
use mathlib.Core.Path.{◌≡◌, refl, sym, ap, subst, ◌∙◌}
use mathlib.Core.Logic.{inl, inr, ⊎_elim}
use mathlib.Core.Bool.{true, false, not}
use mathlib.Core.List.{List, [], ◌∷◌, ◌++◌}
use Prim.Native.Nat.{ℕ, zero, suc, ◌+◌, ◌-◌, ◌*◌, ◌^◌, ◌≤◌, ◌<◌}
use native.Mathlib.Nat.{zero-mul, add-mul, mul_assoc, add_assoc, pow-succ'}
use native.Mathlib.Omega.{arith}
use lib.Dec.{T, leb, eqb, eqb→eq}
use lib.ListN.{length, get_or}
use borrow.Author.Tests.{le-leb, leb-true, leb-false, eqb-true, eqb-false, ne_eqb, not-true}
use Rattle.checks.proofs.Tests.{case, passed, passes, left, right, both, eq→eqb, neqb→ne, Tests, nothing_to_test, most, equal, all_of, some_of}
use Rattle.tablewords.specs.declared.Class.{Class}
use Rattle.tablewords.specs.declared.Class.TheVariants.{Blank, Letter}
use Rattle.tabletext.specs.Answers.{Said, Nothing, Unnamed, Entry}
use Rattle.tablewords.specs.Words.{above, none, holds, leading, past, word, behind, all_digits, value_from, capped, number_of}
use Rattle.tablewords.specs.Names.{names, name, same, place, entry_named}
use Rattle.tabletext.specs.Texts.{number_behind, named, entry_in, line_of}
use Rattle.tablewords.proofs.NameLaws.{place_fits}
use Rattle.tabletext.specs.Form.{IsBlank, Blanks, OneLine, Comment, Digits, worth, Silent, Telling, Past, Naming, TooLarge}
use Rattle.tabletext.proofs.FormLaws.{all, stops, leading_all, commented, no_word, blank_ends, named_line, line_says}

-- ---- the words are tested
blank_tested : (b : ℕ) → Tests (holds Blank b) (IsBlank b)
blank_tested b = some_of equal (some_of equal equal)

blanks_tested : (l : List ℕ) → Tests (all Blank l) (Blanks l)
blanks_tested [] = nothing_to_test
blanks_tested (b ∷ bs) = all_of (blank_tested b) (blanks_tested bs)

digits_tested : (ds : List ℕ) → Tests (all_digits ds) (Digits ds)
digits_tested [] = nothing_to_test
digits_tested (d ∷ ds) = all_of (all_of most most) (digits_tested ds)

comments : (l : List ℕ) → Comment l → T (commented l)
comments [] h = tt
comments (b ∷ bs) h = eq→eqb b 35 h

-- ---- what digits are worth, behind a value
valued : (v : ℕ) (ds : List ℕ) → value_from v ds ≡ v * 10 ^ length ds + worth ds
valued v [] = omega arith
valued v (d ∷ ds) =
    let x = d - 48 in
    let p = 10 ^ length ds in
    valued (v * 10 + x) ds
    ∙ ap (λ n. n + worth ds) (add-mul (v * 10) x p)
    ∙ add_assoc (v * 10 * p) (x * p) (worth ds)
    ∙ ap (λ n. n + (x * p + worth ds)) (mul_assoc v 10 p ∙ ap (λ n. v * n) (sym (pow-succ' 10 (length ds))))

value_is : (ds : List ℕ) → value_from 0 ds ≡ worth ds
value_is ds = let none : 0 * 10 ^ length ds ≡ 0 = zero-mul (10 ^ length ds) in valued 0 ds ∙ omega (arith, none)

-- ---- a line of the form is read so
of_the_form :
    (pre gap ds post c : List ℕ) (i : ℕ) → T (all Blank pre) → T (all Blank gap) → T (all_digits ds) → T (all Blank post) → T (commented c)
    → 1 ≤ length gap → 1 ≤ length ds → i < 22
    → line_of (pre ++ (name i ++ (gap ++ (ds ++ (post ++ c))))) ≡ Entry i (capped (value_from 0 ds))
of_the_form pre [] ds post c i p q n r h g d k = absurd (omega arith)
of_the_form pre (b ∷ gap) [] post c i p q n r h g d k = absurd (omega arith)
of_the_form pre (b ∷ gap) (e ∷ ds) post c i p q n r h g d k = line_says pre gap post c b e ds i p q n r h k

pub a_telling_line_is_read : (i v : ℕ) (l : List ℕ) → i < 22 → Telling i v l → line_of l ≡ Entry i (capped v)
a_telling_line_is_read i v l k t =
    ap line_of t.line
    ∙ of_the_form t.before t.between t.digits t.behind t.comment i ((blanks_tested t.before).shown t.blank.0) ((blanks_tested t.between).shown t.blank.1.0)
    ((digits_tested t.digits).shown t.number) ((blanks_tested t.behind).shown t.blank.1.1) (comments t.comment t.commented) t.apart t.some k
    ∙ ap (λ n. Entry i (capped n)) (value_is t.digits ∙ t.value)

past_stops : (r : List ℕ) → Past r → T (stops Letter r)
past_stops [] h = tt
past_stops (b ∷ bs) h = ⊎_elim (λ w. blank_ends b ((blank_tested b).shown w)) (λ e. rw e tt) h

pub a_naming_line_is_read : (i : ℕ) (l : List ℕ) → i < 22 → (n : Naming i l) → line_of l ≡ Entry i (number_behind n.behind)
a_naming_line_is_read i l k n =
    ap line_of n.line ∙ named_line i n.before n.behind k ((blanks_tested n.before).shown n.blank) (past_stops n.behind n.past)

pub a_silent_line_is_read : (l : List ℕ) → Silent l → line_of l ≡ Nothing
unfolding line_of
a_silent_line_is_read l s =
    let none = ap word s.line ∙ no_word s.before s.comment ((blanks_tested s.before).shown s.blank) (comments s.comment s.commented) in
    rw none

-- ---- a list is what leads in it and what is past that
in_two : (c : Class) (l : List ℕ) → l ≡ leading c l ++ past c l
in_two c [] = refl
in_two c (b ∷ bs) = case (holds c b) (λ e. rw e (ap (λ r. b ∷ r) (in_two c bs))) (λ e. rw e)

all_leading : (c : Class) (l : List ℕ) → T (all c (leading c l))
all_leading c [] = tt
all_leading c (b ∷ bs) =
    case (holds c b) (λ e. rw e (both (holds c b) (all c (leading c bs)) (passes (holds c b) e) (all_leading c bs))) (λ e. rw e tt)

stops_past : (c : Class) (l : List ℕ) → T (stops c (past c l))
stops_past c [] = tt
stops_past c (b ∷ bs) = case (holds c b) (λ e. rw e (stops_past c bs)) (λ e. rw e (subst (λ x. T (not x)) (sym e) tt))

still_one_line : (c : Class) (l : List ℕ) → OneLine l → OneLine (past c l)
still_one_line c [] h = tt
still_one_line c (b ∷ bs) h = case (holds c b) (λ e. rw e (still_one_line c bs h.1)) (λ e. rw e h)

-- ---- the tests as words
-- what has neither a blank nor a word at its beginning is a comment, or nothing
neither : (b : ℕ) → holds Blank b ≡ false → holds Letter b ≡ false → ¬ (b ≡ 10) → b ≡ 35
neither b e f n =
    case (eqb b 35) (λ t. eqb-true b 35 t) (λ t. absurd (subst T (sym (sym f ∙ letter t)) tt))
  where
    letter : eqb b 35 ≡ false → holds Letter b ≡ true
    letter t = rw (e, ne_eqb b 10 n, t)

past_words : (r : List ℕ) → OneLine r → T (stops Letter r) → Past r
past_words [] o s = tt
past_words (b ∷ bs) o s =
    case (holds Blank b)
    (λ t. inl ((blank_tested b).read (passes (holds Blank b) t)))
    (λ t. inr (neither b t (not-true (holds Letter b) (passed (not (holds Letter b)) s)) o.0))

comment_words : (x : List ℕ) → OneLine x → T (stops Blank x) → length (leading Letter x) ≡ 0 → Comment x
comment_words [] o s e = tt
comment_words (b ∷ bs) o s e =
    case (holds Letter b)
    (λ t. absurd (there (rw t at e)))
    (λ t. neither b (not-true (holds Blank b) (passed (not (holds Blank b)) s)) t o.0)
  where
    there : {n : ℕ} → suc n ≡ 0 → ⊥
    there f = omega arith

-- ---- what a line says tells it
-- 0 for nothing, 1 for no name, 2 for an entry; and the entry and its value
abbrev pub kind : Said → ℕ
kind Nothing = 0
kind Unnamed = 1
kind (Entry i v) = 2

abbrev pub its_value : Said → ℕ
its_value Nothing = 0
its_value Unnamed = 0
its_value (Entry i v) = v

no_entry : (i v : ℕ) → named i v ≡ Nothing → ⊥
no_entry i v e =
    case (eqb i 22)
    (λ t. neqb→ne 1 0 tt (ap kind (rw t at e)))
    (λ t. neqb→ne 2 0 tt (ap kind (rw t at e)))

of_an_entry : (i v j w : ℕ) → named i v ≡ Entry j w → (i ≡ j) × ((v ≡ w) × ¬ (i ≡ 22))
of_an_entry i v j w e =
    case (eqb i 22)
    (λ t. absurd (neqb→ne 1 2 tt (ap kind (rw t at e))))
    (λ t. let f = rw t at e in (ap entry_in f, (ap its_value f, eqb-false i 22 t)))

told_nothing : (l : List ℕ) → line_of l ≡ Nothing → length (word l) ≡ 0
unfolding line_of
told_nothing l e =
    case (eqb (length (word l)) 0) (eqb-true (length (word l)) 0) (λ t. absurd (no_entry (entry_named (word l)) (number_behind (behind l)) (rw t at e)))

record Told (i v : ℕ) (l : List ℕ) : Type 0 where
  pub some : ¬ (length (word l) ≡ 0)
  pub entry : entry_named (word l) ≡ i
  pub named : ¬ (i ≡ 22)
  pub number : number_behind (behind l) ≡ v

told_an_entry : (l : List ℕ) (i v : ℕ) → line_of l ≡ Entry i v → Told i v l
unfolding line_of
told_an_entry l i v e =
    case (eqb (length (word l)) 0)
    (λ t. absurd (neqb→ne 0 2 tt (ap kind (rw t at e))))
    (λ t.
    let f = of_an_entry (entry_named (word l)) (number_behind (behind l)) i v (rw t at e) in
    record { some = eqb-false (length (word l)) 0 t; entry = f.0; named = λ z. f.1.1 (f.0 ∙ z); number = f.1.0 })

pub a_line_that_is_read_as_silent : (l : List ℕ) → OneLine l → line_of l ≡ Nothing → Silent l
a_line_that_is_read_as_silent l o e =
    record {
      before = leading Blank l;
      comment = past Blank l;
      line = in_two Blank l;
      blank = (blanks_tested (leading Blank l)).read (all_leading Blank l);
      commented = comment_words (past Blank l) (still_one_line Blank l o) (stops_past Blank l) (told_nothing l e);
    }

-- ---- a number that is one, or above 65,535
of_a_number : (r : List ℕ) (v : ℕ) → v ≤ 65536 → number_behind r ≡ v → (length (word (behind r)) ≡ 0) × (number_of (word r) ≡ v)
of_a_number r v h e =
    case (eqb (length (word (behind r))) 0)
    (λ t. (eqb-true (length (word (behind r))) 0 t, rw t at e))
    (λ t. let f : none ≡ v = rw t at e in absurd (omega arith))

digits_of : (w : List ℕ) (v : ℕ) → v ≤ 65536 → number_of w ≡ v → (1 ≤ length w) × (T (all_digits w) × (capped (value_from 0 w) ≡ v))
digits_of w v h e = case (eqb (length w) 0) (λ t. let f : none ≡ v = rw t at e in absurd (omega arith)) some
  where
    some : eqb (length w) 0 ≡ false → (1 ≤ length w) × (T (all_digits w) × (capped (value_from 0 w) ≡ v))
    some t =
        let l = eqb-false (length w) 0 t in
        case (all_digits w)
        (λ d. (omega (arith, l), (passes (all_digits w) d, rw (t, d) at e)))
        (λ d. let f : none ≡ v = rw (t, d) at e in absurd (omega arith))

pub as_it_is : (v : ℕ) → v ≤ 65535 → capped v ≡ v
as_it_is v h = rw (le-leb v 65535 h)

pub capped_fits : (v : ℕ) → capped v ≤ 65536
capped_fits v = case (leb v 65535) (λ t. let l = leb-true v 65535 t in rw t (omega (arith, l))) (λ t. rw t (omega arith))

uncapped : (w v : ℕ) → v ≤ 65535 → capped w ≡ v → w ≡ v
uncapped w v h e = case (leb w 65535) (λ t. rw t at e) (λ t. let f : above ≡ v = rw t at e in absurd (omega arith))

too_large : (w : ℕ) → capped w ≡ above → 65535 < w
too_large w e =
    case (leb w 65535)
    (λ t. let l = leb-true w 65535 t in let f : w ≡ above = rw t at e in absurd (omega arith))
    (λ t. leb-false w 65535 t)

-- ---- a word that names an entry is its name
same_is : (xs ys : List ℕ) → T (same xs ys) → xs ≡ ys
same_is [] [] h = refl
same_is [] (y ∷ ys) h = absurd h
same_is (x ∷ xs) [] h = absurd h
same_is (x ∷ xs) (y ∷ ys) h =
    ap (λ b. b ∷ xs) (eqb→eq x y (left (eqb x y) (same xs ys) h)) ∙ ap (λ l. y ∷ l) (same_is xs ys (right (eqb x y) (same xs ys) h))

placed : (w : List ℕ) (ns : List (List ℕ)) (i : ℕ) → place w ns ≡ i → i < length ns → w ≡ get_or ns i []
placed w [] i e h = absurd (omega arith)
placed w (n ∷ ns) zero e h = case (same w n) (λ t. same_is w n (passes (same w n) t)) (λ t. absurd (later (place w ns) (rw t at e)))
  where
    later : (k : ℕ) → suc k ≡ 0 → ⊥
    later k f = omega arith
placed w (n ∷ ns) (suc i) e h =
    case (same w n)
    (λ t. absurd (sooner (rw t at e)))
    (λ t. placed w ns i (less (place w ns) (rw t at e)) (omega arith))
  where
    sooner : 0 ≡ suc i → ⊥
    sooner f = omega arith

    less : (k : ℕ) → suc k ≡ suc i → k ≡ i
    less k f = omega arith

-- ---- blanks stand between a word and the next
empty : (l : List ℕ) → length l ≡ 0 → l ≡ []
empty [] e = refl
empty (b ∷ bs) e = absurd (omega arith)

stopped : (c : Class) (r : List ℕ) → T (stops c r) → leading c r ≡ []
stopped c r s = leading_all c [] r tt s

apart : (r : List ℕ) → T (stops Letter r) → 1 ≤ length (word r) → 1 ≤ length (leading Blank r)
apart r s h = case (eqb (length (leading Blank r)) 0) together (λ t. let l = eqb-false (length (leading Blank r)) 0 t in omega (arith, l))
  where
    together : eqb (length (leading Blank r)) 0 ≡ true → 1 ≤ length (leading Blank r)
    together t =
        let none = empty (leading Blank r) (eqb-true (length (leading Blank r)) 0 t) in
        let whole : past Blank r ≡ r = sym (in_two Blank r ∙ ap (λ l. l ++ past Blank r) none) in
        let no : word r ≡ [] = ap (leading Letter) whole ∙ stopped Letter r s in
        absurd (omega (arith, ap length no))

-- ---- and no other line is read so
split : (l : List ℕ) → l ≡ leading Blank l ++ (word l ++ behind l)
split l = in_two Blank l ∙ ap (λ r. leading Blank l ++ r) (in_two Letter (past Blank l))

names_it : (l : List ℕ) (i v : ℕ) → line_of l ≡ Entry i v → (i < 22) × (word l ≡ name i)
unfolding entry_named
names_it l i v e =
    let t = told_an_entry l i v e in
    let fits : place (word l) names ≤ 22 = place_fits (word l) names in
    let entry : place (word l) names ≡ i = t.entry in
    let other = t.named in
    let below : i < 22 = omega (arith, fits, entry, other) in
    (below, placed (word l) names i entry below)

still_past : (l : List ℕ) → OneLine l → OneLine (behind l)
still_past l o = still_one_line Letter (past Blank l) (still_one_line Blank l o)

pub a_line_that_is_read_names_its_entry : (l : List ℕ) (i v : ℕ) → OneLine l → line_of l ≡ Entry i v → (i < 22) × Naming i l
a_line_that_is_read_names_its_entry l i v o e =
    let n = names_it l i v e in (
      n.0,
      record {
        before = leading Blank l;
        behind = behind l;
        line = split l ∙ ap (λ w. leading Blank l ++ (w ++ behind l)) n.1;
        blank = (blanks_tested (leading Blank l)).read (all_leading Blank l);
        past = past_words (behind l) (still_past l o) (stops_past Letter (past Blank l));
      },
    )

-- a line that tells what is read, or what is capped so
record Numbered (i v : ℕ) (l : List ℕ) : Type 0 where
  value : ℕ
  is_read : capped value ≡ v
  tells : Telling i value l

numbered : (l : List ℕ) (i v : ℕ) → OneLine l → v ≤ 65536 → line_of l ≡ Entry i v → Numbered i v l
numbered l i v o h e =
    let t = told_an_entry l i v e in
    let r = behind l in
    let q = behind r in
    let n = of_a_number r v h t.number in
    let d = digits_of (word r) v h n.1 in
    record {
      value = value_from 0 (word r);
      is_read = d.1.1;
      tells = record {
        before = leading Blank l;
        between = leading Blank r;
        digits = word r;
        behind = leading Blank q;
        comment = past Blank q;
        line =
            split l
            ∙ ap (λ w. leading Blank l ++ (w ++ r)) (names_it l i v e).1
            ∙ ap (λ x. leading Blank l ++ (name i ++ x)) (split r ∙ ap (λ x. leading Blank r ++ (word r ++ x)) (in_two Blank q));
        blank = (
          (blanks_tested (leading Blank l)).read (all_leading Blank l),
          ((blanks_tested (leading Blank r)).read (all_leading Blank r), (blanks_tested (leading Blank q)).read (all_leading Blank q)),
        );
        apart = apart r (stops_past Letter (past Blank l)) d.0;
        number = (digits_tested (word r)).read d.1.0;
        some = d.0;
        value = sym (value_is (word r));
        commented = comment_words (past Blank q) (still_one_line Blank q (still_past r (still_past l o))) (stops_past Blank q) n.0;
      };
    }

pub a_line_that_is_read_as_an_entry : (l : List ℕ) (i v : ℕ) → OneLine l → v ≤ 65535 → line_of l ≡ Entry i v → (i < 22) × Telling i v l
a_line_that_is_read_as_an_entry l i v o h e =
    let r = numbered l i v o (omega arith) e in
    ((names_it l i v e).0, subst (λ n. Telling i n l) (uncapped r.value v h r.is_read) r.tells)

pub a_line_that_is_read_as_too_large : (l : List ℕ) (i : ℕ) → OneLine l → line_of l ≡ Entry i above → TooLarge i l
a_line_that_is_read_as_too_large l i o e =
    let r = numbered l i above o (omega arith) e in
    record { value = r.value; tells = r.tells; above = too_large r.value r.is_read }
