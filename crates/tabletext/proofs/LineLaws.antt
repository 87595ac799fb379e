-- The lines of a text, as the text is cut at its line feeds, and what reading the text makes of one of them.
-- Assumes nothing.
use mathlib.Core.Path.{◌≡◌, refl, sym, ap, ◌∙◌}
use mathlib.Core.Bool.{true, false}
use mathlib.Core.List.{List, [], ◌∷◌, map}
use Prim.Native.Nat.{ℕ, suc, ◌≤◌, ◌<◌}
use native.Mathlib.Omega.{arith}
use lib.Dec.{eqb, ltb}
use lib.ListN.{length, get_or, drop}
use lib.Seq.{drop-cons}
use borrow.Author.Tests.{eq-eqb, ne_eqb, lt-ltb}
use Rattle.std.specs.List.{slice_split, onto_first}
use Rattle.std.specs.Iterator.{Yields}
use Rattle.std.specs.Prelude.{Option, Some, None, Result, Ok, Err}
use Rattle.std.specs.Result.{OnOk, is_ok}
use Rattle.std.proofs.lemmas.Iterator.{YieldsList}
use Rattle.std.proofs.lemmas.Iterator.Consumers.{YieldsList-turn, YieldsList-end}
use Rattle.checks.proofs.Tests.{case}
use Rattle.tablewords.specs.Words.{line_feed}
use Rattle.tabletext.specs.Texts.{onto, lines, line_of, fault_of, entry_in, with_line, missing, wrong, or_zero, ended, read_from}
use Rattle.tablewords.specs.Names.{an_entry}
use Rattle.tablewords.proofs.NameLaws.{answered_entry}
use Rattle.tabletext.specs.Answers.{Says}
use Rattle.limits.specs.Limits.{table_of}
use Rattle.std.proofs.lemmas.List.{drop_all}

onto_is : (b : ℕ) (ls : List (List ℕ)) → onto_first b ls ≡ onto b ls
onto_is b [] = refl
onto_is b (l ∷ ls) = refl

pub cut : (text : List ℕ) → slice_split (λ b. eqb b line_feed) text ≡ lines text
cut [] = refl
cut (b ∷ bs) =
    case (eqb b line_feed)
    (λ e. rw e (ap (λ ls. [] ∷ ls) (cut bs)))
    (λ e. rw e (ap (onto_first b) (cut bs) ∙ onto_is b (lines bs)))

onto_counts : (b : ℕ) (ls : List (List ℕ)) → length (onto b ls) ≤ suc (length ls)
onto_counts b [] = omega arith
onto_counts b (l ∷ ls) = omega arith

-- as many as the text has bytes, and one more
pub few_lines : (text : List ℕ) → length (lines text) ≤ suc (length text)
few_lines [] = omega arith
few_lines (b ∷ bs) =
    case (eqb b line_feed)
    (λ e. rw e (omega (arith, few_lines bs)))
    (λ e. rw e (omega (arith, few_lines bs, onto_counts b (lines bs))))

-- ---- an answer that is one, and one that isn't
pub when_ok : {T E P : Type 0} (r : Result T E) → is_ok r ≡ true → OnOk r P → P
when_ok (Ok x) h p = p
when_ok (Err e) h p = absurd (no h)
  where
    no : false ≡ true → ⊥
    no h = cc

pub when_err : {T E : Type 0} (r : Result T E) → is_ok r ≡ false → (e : E) × (r ≡ Err e)
when_err (Ok x) h = absurd (no h)
  where
    no : true ≡ false → ⊥
    no h = cc
when_err (Err e) h = (e, refl)

-- ---- the line that a loop over the cut text comes to, and its end
module _
    {S A B : Type 0}
    {steps : S → Option A → S → Type 0}
    {v : A → B}
    {s : S}
    {all : List B}
    (xs : List A)
    (t : S)
    (y : Yields steps s xs t)
    (r : Option A)
    (u : S)
    (q : steps t r u)
  where
    pub turn : (x : A) → r ≡ Some x → YieldsList steps v s all → (length xs < length all) × (v x ≡ get_or all (length xs) (v x))
    turn x is e = YieldsList-turn e xs t y r u x is q

    pub end : r ≡ None → YieldsList steps v s all → length xs ≡ length all
    end is e = (YieldsList-end e xs t y r u is q).1

-- ---- line n, behind as many that gave these entries
module _ (n : ℕ) (given : List ℕ) (ls : List (List ℕ)) (line : List ℕ) (h : n < length ls) (e : line ≡ get_or ls n line) where
  next : drop n ls ≡ line ∷ drop (suc n) ls
  next = drop-cons ls n line h ∙ ap (λ l. l ∷ drop (suc n) ls) (sym e)

  pub wrong_line : ¬ (fault_of given (line_of line) ≡ 0)
      → read_from n given (drop n ls) ≡ wrong (fault_of given (line_of line)) (suc n) (entry_in (line_of line))
  wrong_line f = rw (next, ne_eqb (fault_of given (line_of line)) 0 f)

  pub good_line : fault_of given (line_of line) ≡ 0
      → read_from n given (drop n ls) ≡ read_from (suc n) (with_line given (line_of line)) (drop (suc n) ls)
  good_line f = rw (next, eq-eqb (fault_of given (line_of line)) 0 f)

-- ---- behind the last line: an entry is missing, or none is
pub no_more : (n : ℕ) (given : List ℕ) (ls : List (List ℕ)) → length ls ≤ n → read_from n given (drop n ls) ≡ ended n given
no_more n given ls h = rw (drop_all n ls h)

pub one_missing : (n : ℕ) (given : List ℕ) (i : ℕ) → an_entry (missing given) ≡ Some i → wrong 5 n i ≡ ended n given
one_missing n given i h =
    let is = answered_entry (missing given) i h in
    rw (is.0, lt-ltb i 22 is.1)

pub none_missing : (n : ℕ) (given : List ℕ) → an_entry (missing given) ≡ None → Says (table_of (map or_zero given)) ≡ ended n given
none_missing n given h =
    case (ltb (missing given) 22)
    (λ e. let s = (rw e at h) in cc)
    (λ e. rw e)
