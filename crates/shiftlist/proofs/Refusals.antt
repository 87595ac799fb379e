-- Of the contracts, in the words of specs/Refusals.antt: when building a list and fetching from one are refused, and what that leaves.
-- Assumes nothing.
use Rattle.std.proofs.Common.{◌≡◌, ℕ, zero, suc, ◌+◌, ◌*◌, ◌<◌, ◌≤◌, eqb, leb, List, ◌++◌, length, get_or, drop, refl, ap, subst, inl, inr, ⊎_elim, arith, eqb-true, leb-false, leb-true}
use borrow.Author.Tests.{eqb-false}
use Rattle.checks.specs.Checks.{first}
use Rattle.checks.specs.Conditions.{FirstOf}
use Rattle.checks.proofs.ConditionLaws.{first_of, one_of}
use Rattle.checks.proofs.Tests.{tests, case}
use Rattle.numbers.specs.Bytes.{u32_at}
use Rattle.shift.specs.States.{start}
use Rattle.stepfile.specs.Files.{readings_of}
use Rattle.stepfile.specs.Refusals.{bits32}
use Rattle.verdict.specs.declared.Verdict.{Verdict}
use Rattle.verdict.specs.Verdicts.{verdict_of}
use Rattle.verdict.proofs.Refusals.{judge_answers}
use Rattle.shiftlist.specs.declared.Listed.{Listed}
use Rattle.shiftlist.specs.declared.Fetched.{Fetched}
use Rattle.shiftlist.specs.Lists.{list_of, shifts_of, size_for, refused_by, built_of, buffer_after, shift_at, fetchable, found, fetch_of}
use Rattle.shiftlist.specs.Refusals.{zeros, Accepted, ListTakes, BuildAnswers, fetch_refusals, BytesSay, FetchAnswers}
use Rattle.shiftlist.proofs.BuildLaws.{at_judge, at_room, built}
use Rattle.shiftlist.proofs.EntryLaws.{the_entries}
use Rattle.shiftlist.proofs.OneList.{no_other_list}
use Rattle.shiftlist.proofs.build.Reads as build_reads
use Rattle.shiftlist.proofs.fetch.Reads as fetch_reads

-- ---- building
-- the size of a file's list is one, whichever list of the entries it is read from
pub the_list_takes_one_size : (f : List ℕ) (m n : ℕ) → ListTakes f m → ListTakes f n → m ≡ n
the_list_takes_one_size f m n x y =
    let same = ap length (no_other_list start (readings_of f) x.shifts y.shifts zeros x.entries y.entries) in
    omega (arith, x.bytes, y.bytes, same)

module _ (f out : List ℕ) where
  abbrev v : Verdict
  v = verdict_of f

  abbrev n : ℕ
  n = size_for (shifts_of f)

  takes : ListTakes f n
  takes = record { shifts = shifts_of f; entries = the_entries start (readings_of f); bytes = refl }

  refused_by_the_judge : ¬ (v.number ≡ 0) → BuildAnswers f out (refused_by v.number v.rule v.index v.excess) out
  refused_by_the_judge z =
      let j = judge_answers f in
      let most = j.numbers in
      record {
        numbers = inl most;
        by_judge = λ _. record { state = v.state; answers = j };
        no_room = λ e. absurd (omega arith);
        built = λ e. absurd (z e);
        else_0 = ⊎_elim (λ e. absurd (z e)) (λ e. absurd (omega arith));
        unchanged = λ _. (refl, refl);
      }

  module _ (z : v.number ≡ 0) where
    accepted : Accepted f
    accepted = record { verdict = v; answers = judge_answers f; number = z }

    refused_for_room : length out < n → BuildAnswers f out (refused_by 15 0 0 0) out
    refused_for_room h = record {
      numbers = inr refl;
      by_judge = λ b. absurd (omega arith);
      no_room = λ _. (accepted, record { size = n; takes = takes; short = h });
      built = λ e. absurd (omega arith);
      else_0 = λ _. (refl, refl, refl);
      unchanged = λ _. (refl, refl);
    }

    not_refused :
        n ≤ length out
        → BuildAnswers f out (record { number = 0; rule = 0; index = 0; excess = 0; length = n }) (list_of (shifts_of f) ++ drop n out)
    not_refused h = record {
      numbers = inl (omega arith);
      by_judge = λ b. absurd (omega arith);
      no_room = λ e. absurd (omega arith);
      built = λ _. (accepted, takes, h);
      else_0 = λ _. (refl, refl, refl);
      unchanged = λ e. absurd (e refl);
    }

  carried :
      (r : Listed) (b : List ℕ) → (r ≡ built_of f (length out)) × (b ≡ buffer_after f out) → BuildAnswers f out r b
      → BuildAnswers f out (built_of f (length out)) (buffer_after f out)
  carried r b e a = subst (λ q. BuildAnswers f out q (buffer_after f out)) e.0 (subst (BuildAnswers f out r) e.1 a)

  pub build_answers : BuildAnswers f out (built_of f (length out)) (buffer_after f out)
  build_answers =
      case (eqb v.number 0)
      (λ t.
      let z = eqb-true v.number 0 t in
      case (leb n (length out))
      (λ l.
      let h = leb-true n (length out) l in
      carried (record { number = 0; rule = 0; index = 0; excess = 0; length = n }) (list_of (shifts_of f) ++ drop n out) (built f out z h)
      (not_refused z h))
      (λ l. let h = leb-false n (length out) l in carried (refused_by 15 0 0 0) out (at_room f out z h) (refused_for_room z h)))
      (λ t.
      let z = eqb-false v.number 0 t in
      carried (refused_by v.number v.rule v.index v.excess) out (at_judge f out v refl z) (refused_by_the_judge z))

pub build :
    (κs : _) (a : _) (r : _) (at : _) → build_reads.Post κs a r at → BuildAnswers a.0.now a.1.0.now r at.1.0.now
build κs a r at p = rw (p.0, p.1) (build_answers a.0.now a.1.0.now)

-- ---- fetching
pub same_32 : (l : List ℕ) (p : ℕ) → u32_at l p ≡ bits32 l p
same_32 l p =
    let e : p + 2 + 1 ≡ p + 3 = omega arith in
    let b = ap (λ k. get_or l k 0) e in
    omega arith

module _ (l : List ℕ) (i : ℕ) where
  abbrev number : ℕ
  number = first (fetchable (length l) (u32_at l 4) (u32_at l 0) i)

  in_order : FirstOf (fetch_refusals l i) number
  in_order = first_of (fetchable (length l) (u32_at l 4) (u32_at l 0) i) (fetch_refusals l i) (omega (arith, tests))

  said : (p : ℕ) → BytesSay l p (shift_at l p)
  said p = record {
    first = refl;
    last = refl;
    kind = refl;
    route = refl;
    end = refl;
    time = same_32 l (p + 8);
    age = same_32 l (p + 12);
  }

  abbrev Answers : Fetched → Type 0
  Answers r = FetchAnswers l i r.number r.shift

  answers_by : (k : ℕ) → FirstOf (fetch_refusals l i) k → Answers (found k (shift_at l (8 + 16 * i)))
  answers_by zero o = record {
    first = o;
    numbers = one_of (fetch_refusals l i) 0 o;
    nothing = λ z. absurd (z refl);
    entry = λ _. said (8 + 16 * i);
  }
  answers_by (suc k) o = record {
    first = o;
    numbers = one_of (fetch_refusals l i) (suc k) o;
    nothing = λ _. refl;
    entry = λ z. absurd (omega arith);
  }

  pub fetch_answers : FetchAnswers l i (fetch_of l i).number (fetch_of l i).shift
  fetch_answers = answers_by number in_order

pub fetch :
    (κs : _) (a : _) (r : _) (at : _) → fetch_reads.Post κs a r at → FetchAnswers a.0.now a.1.0 r.number r.shift
fetch κs a r at p = rw p (fetch_answers a.0.now a.1.0)
