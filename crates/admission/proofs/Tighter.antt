-- What the first tighter entry says, in the words of specs/Refusals.antt: it is 22 exactly where a table is nowhere tighter, which is what
-- demand 3 asks for; else that entry is tighter, and none before it is. And demand 3 through the calls.
-- Assumes nothing.
use mathlib.Core.Path.{◌≡◌, refl, sym, subst}
use mathlib.Core.Logic.{◌↔◌, inl, inr, ⊎_elim}
use mathlib.Core.Bool.{Bool}
use mathlib.Core.List.{List}
use Prim.Native.Nat.{ℕ, ◌≤◌, ◌<◌, zero-le}
use native.Mathlib.Decide.{dec_lt}
use native.Mathlib.Omega.{arith}
use lib.Dec.{T, T_not}
use contract.Lifetimes.{Lfts}
use denote.Triple.Clauses.{AtExit}
use Rattle.checks.proofs.Ranges.{from, each_of}
use Rattle.checks.proofs.Tests.{Tests, exactly, most, all_of, some_of}
use Rattle.limits.specs.declared.Table.{Table}
use Rattle.limits.specs.Limits.{entry}
use Rattle.limits.specs.Tighter.{NowhereTighter}
use Rattle.limits.specs.contracts.Table.broken_rule as broken_rule_call
use Rattle.limits.proofs.Table.broken_rule.Reads as broken_rule_reads
use Rattle.shift.specs.Readings.{Reading}
use Rattle.shift.specs.States.{start}
use Rattle.shift.specs.Runs.{run}
use Rattle.promises.proofs.Promises.{accepted_by_a_looser_table}
use Rattle.admission.specs.FirstTighter.{is_limit, is_wait, tighter_at, first_tighter}
use Rattle.admission.specs.Refusals.{Limit, Waiting, Tighter, FirstTighter}
use Rattle.admission.proofs.FirstLaws.{at_most, passes_there, fails_before}
use Rattle.admission.specs.contracts.first_tighter as first_tighter_call
use Rattle.admission.proofs.first_tighter.Reads as first_tighter_reads
use Rattle.admission.proofs.is_tighter.Reads as is_tighter_reads

-- ---- the tests are the statements
limits_tested : (i : ℕ) → Tests (is_limit i) (Limit i)
limits_tested i = some_of most (all_of most most)

waits_tested : (i : ℕ) → Tests (is_wait i) (Waiting i)
waits_tested i = some_of (all_of most most) (all_of most most)

tighter_tested : (t u : Table) (i : ℕ) → Tests (tighter_at t u i) (Tighter t u i)
tighter_tested t u i = some_of (all_of (limits_tested i) most) (all_of (waits_tested i) most)

-- ---- the first of them
the_first_tighter_entry : (t u : Table) → FirstTighter t u (first_tighter t u)
the_first_tighter_entry t u = record {
  within = at_most (tighter_at t u) 0 22;
  tighter = λ h. (tighter_tested t u (first_tighter t u)).read (passes_there (tighter_at t u) 0 22 h);
  none_before = λ i h n. T_not (tighter_at t u i) (fails_before (tighter_at t u) 0 22 i zero-le h) ((tighter_tested t u i).shown n);
}

-- and no other number is so
pub no_other_first_tighter_entry : (t u : Table) (m n : ℕ) → FirstTighter t u m → FirstTighter t u n → m ≡ n
no_other_first_tighter_entry t u m n a b =
    elim (dec_lt m n) [
      | yes h ↦ let k = b.within in absurd (b.none_before m h (a.tighter (omega arith)))
      | no h ↦ elim (dec_lt n m) [
        | yes l ↦ let k = a.within in absurd (a.none_before n l (b.tighter (omega arith)))
        | no l ↦ omega arith
      ]
    ]

-- ---- no entry is tighter exactly where the table is nowhere tighter
module _ (t u : Table) where
  not_less : (m n : ℕ) → ¬ (n < m) → m ≤ n
  not_less m n h = omega arith

  no_smaller : ((i : ℕ) → ¬ Tighter t u i) → (i : ℕ) → Limit i → entry t i ≤ entry u i
  no_smaller none i l = not_less (entry t i) (entry u i) (λ h. none i (inl (l, h)))

  no_larger : ((i : ℕ) → ¬ Tighter t u i) → (i : ℕ) → Waiting i → entry u i ≤ entry t i
  no_larger none i w = not_less (entry u i) (entry t i) (λ h. none i (inr (w, h)))

  no_entry→nowhere : ((i : ℕ) → ¬ Tighter t u i) → NowhereTighter t u
  no_entry→nowhere none = record {
    limits = each_of (λ i. entry t i ≤ entry u i) 0 11 (λ i l h. no_smaller none i (inl (omega arith)));
    delays = each_of (λ i. entry u i ≤ entry t i) 11 2 (λ i l h. no_larger none i (inl (omega arith)));
    phases = each_of (λ i. entry t i ≤ entry u i) 13 4 (λ i l h. no_smaller none i (inr (omega arith)));
    clutches = each_of (λ i. entry u i ≤ entry t i) 18 4 (λ i l h. no_larger none i (inr (omega arith)));
  }

  not_both : (m n : ℕ) → m ≤ n → n < m → ⊥
  not_both m n l h = omega arith

  nowhere→no_entry : NowhereTighter t u → (i : ℕ) → ¬ Tighter t u i
  nowhere→no_entry n i =
      ⊎_elim
      (λ x.
      ⊎_elim
      (λ l. not_both (entry t i) (entry u i) (from (λ k. entry t k ≤ entry u k) 0 11 n.limits i zero-le (omega arith)) x.1)
      (λ l. not_both (entry t i) (entry u i) (from (λ k. entry t k ≤ entry u k) 13 4 n.phases i l.0 (omega arith)) x.1)
      x.0)
      (λ x.
      ⊎_elim
      (λ w. not_both (entry u i) (entry t i) (from (λ k. entry u k ≤ entry t k) 11 2 n.delays i w.0 (omega arith)) x.1)
      (λ w. not_both (entry u i) (entry t i) (from (λ k. entry u k ≤ entry t k) 18 4 n.clutches i w.0 (omega arith)) x.1)
      x.0)

  -- a tighter entry is one of the twenty-two
  one_of_them : (i : ℕ) → Tighter t u i → i < 22
  one_of_them i =
      ⊎_elim
      (λ x. ⊎_elim (λ l. omega arith) (λ l. omega arith) x.0)
      (λ x. ⊎_elim (λ w. omega arith) (λ w. omega arith) x.0)

  nowhere_tighter_by_its_answer : (r : ℕ) → FirstTighter t u r → (r ≡ 22) ↔ NowhereTighter t u
  nowhere_tighter_by_its_answer r f = (
    λ e. no_entry→nowhere (λ i n. let h = one_of_them i n in f.none_before i (omega arith) n),
    λ n.
        elim (dec_lt r 22) [
          | yes h ↦ absurd (nowhere→no_entry n r (f.tighter h))
          | no h ↦ let w = f.within in omega arith
        ],
  )

-- ---- of the contracts
pub is_tighter :
    (κs : _) (a : _) (r : _) (at : _) → is_tighter_reads.Post κs a r at → T r ↔ Tighter a.0 a.1.0 a.1.1.0
is_tighter κs a r at p =
    subst (λ (b : Bool). T b ↔ Tighter a.0 a.1.0 a.1.1.0) (sym p) (exactly (tighter_tested a.0 a.1.0 a.1.1.0))

pub by_its_answer : (t u : Table) (r : ℕ) → r ≡ first_tighter t u → FirstTighter t u r × ((r ≡ 22) ↔ NowhereTighter t u)
by_its_answer t u r e =
    let f = subst (FirstTighter t u) (sym e) (the_first_tighter_entry t u) in (f, nowhere_tighter_by_its_answer t u r f)

pub first_tighter_lem :
    (κs : _) (a : _) (r : _) (at : _) → first_tighter_reads.Post κs a r at
    → FirstTighter a.0 a.1.0 r × ((r ≡ 22) ↔ NowhereTighter a.0 a.1.0)
first_tighter_lem κs a r at p = by_its_answer a.0 a.1.0 r p

-- demand 3 through the calls: where `broken_rule` answers 0 of both tables and `first_tighter` 22, every list that is accepted under the
-- old table is accepted under the new one, with the same count and the same end
pub accepted_where_no_entry_is_tighter :
    (old new : Table) (κs κs' κs'' : Lfts 0) (at : AtExit broken_rule_call.ended κs) (at' : AtExit broken_rule_call.ended κs')
    (at'' : AtExit first_tighter_call.ended κs'')
    → broken_rule_reads.Post κs (old, tt) 0 at
    → broken_rule_reads.Post κs' (new, tt) 0 at'
    → first_tighter_reads.Post κs'' (old, (new, tt)) 22 at''
    → (rs : List Reading) → (run old start rs).number ≡ 0
    → run new start rs ≡ run old start rs
accepted_where_no_entry_is_tighter old new κs κs' κs'' at at' at'' a b c =
    accepted_by_a_looser_table old new (sym a) (sym b) ((first_tighter_lem κs'' (old, (new, tt)) 22 at'' c).1.0 refl)
