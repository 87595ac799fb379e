-- Texts say what the words of specs/Form.antt say: a text of that form is read so, and no other is; another is wrong first where they say.
-- Assumes nothing.
use mathlib.Core.Path.{◌≡◌, sym, ap, subst, ◌∙◌}
use mathlib.Core.Logic.{◌↔◌, inl, inr, ⊎_elim}
use mathlib.Core.List.{List, [], ◌∷◌, map}
use Prim.Native.Nat.{ℕ, ◌+◌, ◌≤◌, ◌<◌}
use native.Mathlib.Omega.{arith}
use lib.Dec.{ltb}
use lib.ListN.{length}
use borrow.Author.Tests.{ltb-true, ltb-false}
use Rattle.checks.proofs.Tests.{case}
use Rattle.limits.specs.declared.Table.{Table}
use Rattle.limits.specs.Limits.{table_of}
use Rattle.std.specs.Prelude.{Ok, Err}
use Rattle.tabletext.specs.declared.Fault as code
use Rattle.tabletext.specs.Answers.{Fault, Text, Says, Wrong, fault_in, text_in}
use Rattle.tabletext.proofs.AnswerLaws.{same_answer}
use Rattle.tabletext.specs.Texts.{lines, nothing_given, absent_from, wanted, missing, or_zero, ended, read_from, read_of}
use Rattle.tabletext.specs.Form.{Saying, WrongLine, WrongFirst}
use Rattle.tabletext.proofs.RoundTrip.{says, none_missing}
use Rattle.tabletext.proofs.LinesInWords.{lines_joined, in_lines, read_giving, Ends, walked}
use Rattle.tabletext.proofs.GivenInWords as given
use Rattle.tabletext.proofs.read.Reads as read_reads

pub a_text_that_says_a_table_is_read : (text : List ℕ) (t : Table) → Saying text t → read_of text ≡ Says t
unfolding read_of
a_text_that_says_a_table_is_read text t s =
    let ls = s.first ∷ s.further in
    let g = s.given in
    let n : length g ≡ 22 = given.kept_length ls nothing_given g s.gives in
    ap (read_from 0 nothing_given) (ap lines s.whole ∙ lines_joined s.first s.further s.each)
    ∙ read_giving 0 ls nothing_given g s.gives
    ∙ says (0 + length ls) g (none_missing g (given.enough_given g n s.limits s.delays))
    ∙ ap Says (given.of_given t g n (given.bounded ls g s.gives) s.there s.absent)

-- ---- and no other text is read so
abbrev tables : Text → ℕ
tables (Says t) = 1
tables (Wrong f) = 0

abbrev its_table : Text → Table
its_table (Says t) = t
its_table (Wrong f) = table_of []

abbrev its_fault : Text → Fault
its_fault (Says t) = record { number = 0; line = 0; entry = 0 }
its_fault (Wrong f) = f

apart : (t : Table) (f : Fault) → Wrong f ≡ Says t → ⊥
apart t f e = let z : ◌≡◌ {A = ℕ} 0 1 = ap tables e in omega arith

-- what is made of the entries at the end
at_the_end : (count : ℕ) (g : List ℕ) (t : Table) → ended count g ≡ Says t → (wanted g ≤ absent_from 0 g) × (table_of (map or_zero g) ≡ t)
at_the_end count g t e =
    case (ltb (missing g) 22)
    (λ c. absurd (apart t (record { number = 5; line = count; entry = missing g }) (rw c at e)))
    (λ c. (given.none_is_missing g (ltb-false (missing g) 22 c), ap its_table (rw c at e)))

-- how far a text is read: what it is taken for is what its lines make
module _ (text : List ℕ) (x : Text) (e : read_of text ≡ x) where
  abbrev ls : List (List ℕ)
  ls = (in_lines text).first ∷ (in_lines text).further

  of_its_lines : read_from 0 nothing_given ls ≡ x
  unfolding read_of
  of_its_lines = ap (read_from 0 nothing_given) (sym (in_lines text).are) ∙ e

  of_its_entries : (w : Ends ls nothing_given) → ended (length ls) w.after ≡ x
  of_its_entries w =
      let count : length ls ≡ 0 + length ls = omega arith in
      ap (λ n. ended n w.after) count ∙ sym (read_giving 0 ls nothing_given w.after w.giving) ∙ of_its_lines

pub a_text_that_is_read_says_the_table : (text : List ℕ) (t : Table) → read_of text ≡ Says t → Saying text t
a_text_that_is_read_says_the_table text t e =
    let p = in_lines text in
    ⊎_elim
    (λ s. absurd (apart t (record { number = s.fault; line = 0 + (length s.before + 1); entry = s.place }) (sym s.told ∙ of_its_lines text (Says t) e)))
    (λ w.
    let g = w.after in
    let h = at_the_end (length (p.first ∷ p.further)) g t (of_its_entries text (Says t) e w) in
    record {
      first = p.first;
      further = p.further;
      whole = p.whole;
      each = p.each;
      given = g;
      gives = w.giving;
      limits = given.limits_given g h.0;
      delays = given.delays_given g h.0;
      there = given.is_there g t h.1 (given.bounded (p.first ∷ p.further) g w.giving);
      absent = given.is_absent g t h.1;
    })
    (walked 0 (p.first ∷ p.further) nothing_given p.each)

-- ---- another is wrong first where it is told
missing_at_the_end : (count : ℕ) (g : List ℕ) (f : Fault) → ended count g ≡ Wrong f
    → (missing g < 22) × (record { number = 5; line = count; entry = missing g } ≡ f)
missing_at_the_end count g f e =
    case (ltb (missing g) 22)
    (λ c. (ltb-true (missing g) 22 c, ap its_fault (rw c at e)))
    (λ c. absurd (apart (table_of (map or_zero g)) f (sym (rw c at e))))

pub a_text_that_is_wrong : (text : List ℕ) (f : Fault) → read_of text ≡ Wrong f → WrongFirst text f
a_text_that_is_wrong text f e =
    let p = in_lines text in
    let ls = p.first ∷ p.further in
    ⊎_elim
    (λ s.
    let told : record { number = s.fault; line = 0 + (length s.before + 1); entry = s.place } ≡ f =
    ap its_fault (sym s.told ∙ of_its_lines text (Wrong f) e) in
    inl (record {
      first = p.first;
      further = p.further;
      whole = p.whole;
      each = p.each;
      before = s.before;
      line = s.line;
      behind = s.behind;
      parted = s.parted;
      counted = omega (arith, ap (λ (k : Fault). k.line) told);
      given = s.after;
      gives = s.giving;
      wrong = subst (λ (k : Fault). WrongLine s.line s.after k.number k.entry) told s.wrong_so;
    }))
    (λ w.
    let g = w.after in
    let m = missing_at_the_end (length ls) g f (of_its_entries text (Wrong f) e w) in
    let first = given.first_missing g (given.kept_length ls nothing_given g w.giving) m.0 in
    let at : missing g ≡ f.entry = ap (λ (k : Fault). k.entry) m.1 in
    let told = subst (given.FirstMissing g) at first in
    inr (record {
      first = p.first;
      further = p.further;
      whole = p.whole;
      each = p.each;
      number = sym (ap (λ (k : Fault). k.number) m.1);
      counted = ap (λ (k : Fault). k.line) m.1;
      given = g;
      gives = w.giving;
      missing = told.absent;
      none_before = told.none_before;
      wanted = told.wanted;
    }))
    (walked 0 ls nothing_given p.each)

-- ---- of the contract of `read`: it answers a table exactly where the text says it, and a fault only where the text is wrong first
pub read_in_words :
    (κs : _) (a : _) (r : _) (at : _) → read_reads.Post κs a r at
    → ((t : Table) → (r ≡ Ok t) ↔ Saying a.0.now t) × ((f : code.Fault) → r ≡ Err f → WrongFirst a.0.now (fault_in f))
read_in_words κs a r at p =
    let text = a.0.now in (
      λ t. (
        λ e. a_text_that_is_read_says_the_table text t (sym p ∙ ap text_in e),
        λ s. same_answer r (Ok t) (p ∙ a_text_that_says_a_table_is_read text t s),
      ),
      λ f e. a_text_that_is_wrong text (fault_in f) (sym p ∙ ap text_in e),
    )
