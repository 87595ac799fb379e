-- Lines in the words of specs/Form.antt: those of a text, and how far they give entries.
-- Assumes nothing.
use mathlib.Core.Path.{◌≡◌, refl, sym, ap, ◌∙◌}
use mathlib.Core.Bool.{true}
use mathlib.Core.Logic.{◌⊎◌, inl, inr, ⊎_elim}
use mathlib.Core.List.{List, [], ◌∷◌, ◌++◌}
use Prim.Native.Nat.{ℕ, suc, ◌+◌, ◌≤◌, ◌<◌}
use native.Mathlib.Omega.{arith}
use lib.Dec.{T, leb, eqb, leb→le, eqb→eq}
use lib.ListN.{length, get_or, set}
use borrow.Author.Tests.{leb-true, leb-false, ne_eqb, eqb-true, eqb-false}
use Rattle.checks.specs.Checks.{first}
use Rattle.checks.proofs.Checks.{first→holds}
use Rattle.checks.proofs.Tests.{case, neqb→ne}
use Rattle.tablewords.specs.declared.Class.TheVariants.{Inline}
use Rattle.tablewords.specs.Words.{line_feed, above, capped}
use Rattle.tabletext.specs.Answers.{Said, Nothing, Unnamed, Entry}
use Rattle.tabletext.specs.Texts.{onto, lines, line_of, not_given, entry_checks, wrong, ended, read_from}
use Rattle.tabletext.specs.Form.{OneLine, Telling, joined, OneLines, NotGiven, Gives, Giving, TooLarge, WrongEntry, WrongLine}
use Rattle.tabletext.proofs.FormLaws.{all}
use Rattle.tabletext.proofs.RoundTrip.{one_line, sound}
use Rattle.tabletext.proofs.InWords.{kind, its_value, as_it_is, capped_fits, a_telling_line_is_read, a_naming_line_is_read, a_silent_line_is_read, a_line_that_is_read_as_silent, a_line_that_is_read_as_an_entry, a_line_that_is_read_names_its_entry, a_line_that_is_read_as_too_large}

-- ---- the lines of lines that are joined
inline : (l : List ℕ) → OneLine l → T (all Inline l)
inline [] o = tt
inline (b ∷ bs) o = rw (ne_eqb b line_feed o.0) (inline bs o.1)

last_line : (l : List ℕ) → OneLine l → lines l ≡ l ∷ []
last_line [] o = refl
last_line (b ∷ bs) o = rw (ne_eqb b line_feed o.0) (ap (onto b) (last_line bs o.1))

pub lines_joined : (l : List ℕ) (ls : List (List ℕ)) → OneLines (l ∷ ls) → lines (joined l ls) ≡ l ∷ ls
lines_joined l [] o = last_line l o.0
lines_joined l (m ∷ ms) o = one_line l (joined m ms) (inline l o.0) ∙ ap (λ r. l ∷ r) (lines_joined m ms o.1)

-- ---- and each text is lines that are joined
pub record InLines (text : List ℕ) : Type 0 where
  pub first : List ℕ
  pub further : List (List ℕ)
  pub are : lines text ≡ first ∷ further
  pub whole : text ≡ joined first further
  pub each : OneLines (first ∷ further)

joined_onto : (b : ℕ) (l : List ℕ) (ls : List (List ℕ)) → b ∷ joined l ls ≡ joined (b ∷ l) ls
joined_onto b l [] = refl
joined_onto b l (m ∷ ms) = refl

pub in_lines : (text : List ℕ) → InLines text
in_lines [] = record { first = []; further = []; are = refl; whole = refl; each = (tt, tt) }
in_lines (b ∷ bs) =
    let rest = in_lines bs in
    case (eqb b line_feed)
    (λ e.
    let feed = eqb-true b line_feed e in
    record {
      first = [];
      further = rest.first ∷ rest.further;
      are = rw (e, rest.are);
      whole = rw feed (ap (λ r. 10 ∷ r) rest.whole);
      each = (tt, rest.each);
    })
    (λ e.
    record {
      first = b ∷ rest.first;
      further = rest.further;
      are = rw (e, rest.are);
      whole = ap (λ r. b ∷ r) rest.whole ∙ joined_onto b rest.first rest.further;
      each = ((eqb-false b line_feed e, rest.each.0), rest.each.1);
    })

-- ---- a line that says nothing, and one that gives an entry, behind n lines that gave these
silent : (n : ℕ) (given l : List ℕ) (ls : List (List ℕ)) → line_of l ≡ Nothing → read_from n given (l ∷ ls) ≡ read_from (suc n) given ls
silent n given l ls e = rw e

telling : (n : ℕ) (given l : List ℕ) (ls : List (List ℕ)) (i v : ℕ) → line_of l ≡ Entry i v → NotGiven given i → v ≤ 65535
    → read_from n given (l ∷ ls) ≡ read_from (suc n) (set given i v) ls
telling n given l ls i v e g h = rw (e, g, sound v h)

gives_as : (l given : List ℕ) (further : List ℕ → Type 0) (g : Gives l given further) → line_of l ≡ Entry g.entry g.value
gives_as l given further g =
    a_telling_line_is_read g.entry g.value l g.an_entry g.tells ∙ ap (Entry g.entry) (as_it_is g.value g.fits)

pub read_giving : (n : ℕ) (ls : List (List ℕ)) (given after : List ℕ) → Giving ls given after → read_from n given ls ≡ ended (n + length ls) after
read_giving n [] given after e = let still : n + 0 ≡ n = omega arith in rw (still, e)
read_giving n (l ∷ ls) given after h =
    let count : n + suc (length ls) ≡ suc n + length ls = omega arith in
    rw count
    (⊎_elim
    (λ s. silent n given l ls (a_silent_line_is_read l s.0) ∙ read_giving (suc n) ls given after s.1)
    (λ g.
    telling n given l ls g.entry g.value (gives_as l given (λ x. Giving ls x after) g) g.new g.fits
    ∙ read_giving (suc n) ls (set given g.entry g.value) after g.rest)
    h)

-- ---- what is wrong with a line that names an entry
wrong_entry : (l given : List ℕ) (i v : ℕ) → OneLine l → line_of l ≡ Entry i v → ¬ (first (entry_checks (get_or given i 0) v) ≡ 0)
    → WrongEntry l given (first (entry_checks (get_or given i 0) v)) i
wrong_entry l given i v o s w =
    case (eqb (get_or given i 0) not_given)
    (λ a. inr (by_value a (eqb-true (get_or given i 0) not_given a)))
    (λ a. inl (rw a, eqb-false (get_or given i 0) not_given a))
  where
    no_number : 65536 < v → (n : ℕ) → i < 22 → ¬ Telling i n l
    no_number h n k q =
        let e : v ≡ capped n = ap its_value (sym s ∙ a_telling_line_is_read i n l k q) in
        omega (arith, e, capped_fits n)

    by_value : eqb (get_or given i 0) not_given ≡ true → NotGiven given i
        → ((first (entry_checks (get_or given i 0) v) ≡ 3) × (NotGiven given i × ((n : ℕ) → ¬ Telling i n l)))
        ⊎ ((first (entry_checks (get_or given i 0) v) ≡ 4) × (NotGiven given i × TooLarge i l))
    by_value a new =
        case (leb v above)
        (λ b.
        case (leb v 65535)
        (λ c. absurd (w (rw (a, b, c))))
        (λ c.
        let low = leb-true v above b in
        let high = leb-false v 65535 c in
        let is : v ≡ above = omega (arith, low, high) in
        inr (rw (a, b, c), (new, a_line_that_is_read_as_too_large l i o (s ∙ ap (Entry i) is)))))
        (λ b. inl (rw (a, b), (new, λ n. no_number (leb-false v above b) n (a_line_that_is_read_names_its_entry l i v o s).0)))

-- ---- how far lines give entries, behind n lines that gave these: up to the first that is wrong, or to their end
pub record Strays (n : ℕ) (ls : List (List ℕ)) (given : List ℕ) : Type 0 where
  pub before : List (List ℕ)
  pub line : List ℕ
  pub behind : List (List ℕ)
  pub parted : ls ≡ before ++ (line ∷ behind)
  pub after : List ℕ
  pub giving : Giving before given after
  pub fault : ℕ
  pub place : ℕ
  pub wrong_so : WrongLine line after fault place
  pub told : read_from n given ls ≡ wrong fault (n + (length before + 1)) place

pub record Ends (ls : List (List ℕ)) (given : List ℕ) : Type 0 where
  pub after : List ℕ
  pub giving : Giving ls given after

pub walked : (n : ℕ) (ls : List (List ℕ)) (given : List ℕ) → OneLines ls → Strays n ls given ⊎ Ends ls given
walked n [] given o = inr (record { after = given; giving = refl })
walked n (l ∷ ls) given o = by_said (λ g. walked (suc n) ls g o.1) (line_of l) refl
  where
    -- the line leads on
    on : (g : List ℕ) → ((ms : List (List ℕ)) (after : List ℕ) → Giving ms g after → Giving (l ∷ ms) given after)
        → read_from n given (l ∷ ls) ≡ read_from (suc n) g ls → Strays (suc n) ls g ⊎ Ends ls g → Strays n (l ∷ ls) given ⊎ Ends (l ∷ ls) given
    on g leads e =
        ⊎_elim
        (λ s.
        let count : suc n + (length s.before + 1) ≡ n + (length (l ∷ s.before) + 1) = omega arith in
        inl (record {
          before = l ∷ s.before;
          line = s.line;
          behind = s.behind;
          parted = ap (λ ms. l ∷ ms) s.parted;
          after = s.after;
          giving = leads s.before s.after s.giving;
          fault = s.fault;
          place = s.place;
          wrong_so = s.wrong_so;
          told = e ∙ s.told ∙ ap (λ k. wrong s.fault k s.place) count;
        }))
        (λ w. inr (record { after = w.after; giving = leads ls w.after w.giving }))

    -- it is wrong
    here : (fault place : ℕ) → WrongLine l given fault place → read_from n given (l ∷ ls) ≡ wrong fault (suc n) place → Strays n (l ∷ ls) given
    here fault place h e =
        let count : suc n ≡ n + 1 = omega arith in
        record {
          before = [];
          line = l;
          behind = ls;
          parted = refl;
          after = given;
          giving = refl;
          fault = fault;
          place = place;
          wrong_so = h;
          told = e ∙ ap (λ k. wrong fault k place) count;
        }

    by_said : ((g : List ℕ) → Strays (suc n) ls g ⊎ Ends ls g) → (x : Said) → line_of l ≡ x → Strays n (l ∷ ls) given ⊎ Ends (l ∷ ls) given
    by_said further Nothing s =
        on given (λ ms after h. inl (a_line_that_is_read_as_silent l o.0 s, h)) (silent n given l ls s) (further given)
    by_said further Unnamed s =
        inl
        (here 1 0
        (inl (
          refl,
          (
            λ q. neqb→ne 1 0 tt (ap kind (sym s ∙ a_silent_line_is_read l q)),
            λ j k q. neqb→ne 1 2 tt (ap kind (sym s ∙ a_naming_line_is_read j l k q)),
          ),
        ))
        (rw s))
    by_said further (Entry i v) s =
        let checks = entry_checks (get_or given i 0) v in
        case (eqb (first checks) 0)
        (λ c.
        let h = (first→holds 0 checks tt (eqb-true (first checks) 0 c)).0 in
        let new = eqb→eq (get_or given i 0) not_given h.0 in
        let fits = leb→le v 65535 h.1.1.0 in
        let tells = a_line_that_is_read_as_an_entry l i v o.0 fits s in
        on (set given i v)
        (λ ms after r. inr (record { entry = i; value = v; an_entry = tells.0; fits = fits; tells = tells.1; new = new; rest = r }))
        (telling n given l ls i v s new fits)
        (further (set given i v)))
        (λ c.
        let names = a_line_that_is_read_names_its_entry l i v o.0 s in
        inl (here (first checks) i (inr (names.0, (names.1, wrong_entry l given i v o.0 s (eqb-false (first checks) 0 c)))) (rw (s, c))))
