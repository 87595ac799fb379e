-- Laws on the grounds that refuse a list, a file and a state: what it tells that none does, and the last of them.
-- Assumes nothing.
use mathlib.Core.Path.{◌≡◌, sym, ap, ◌∙◌}
use mathlib.Core.Bool.{Bool, true, cond, ◌&&◌}
use Prim.Native.Nat.{ℕ, ◌+◌, ◌*◌, ◌-◌, ◌≤◌}
use native.Mathlib.Omega.{arith}
use lib.Dec.{T, leb, eqb, leb→le, eqb→eq}
use borrow.Author.Tests.{le-leb, eq-eqb}
use Rattle.checks.specs.Checks.{first}
use Rattle.checks.proofs.Checks.{first→holds}
use Rattle.checks.proofs.Tests.{tests, case, left, right}
use Rattle.phases.specs.Phases.{unfinished}
use Rattle.shift.specs.declared.State.{State}
use Rattle.shiftlist.specs.declared.Shift.{Shift}
use Rattle.shiftlist_extend.specs.Extending.{is_open, fits, grounds_by}
use Rattle.shiftlist_extend.specs.Resuming.{place_of}

-- ---- the last ground, where the others hold
module _
    (len held offset shifts : ℕ) (e : Shift) (s : State) (count more most rule : ℕ) (a : held ≤ len) (b : 8 ≤ held) (c : offset ≡ 8)
    (d : held ≡ 8 + 16 * shifts) (f : count + more ≤ most) (g : shifts ≤ count) (h : rule ≡ 0) where
  pub last_ground : (k : Bool) → fits shifts e s count ≡ k → cond k 0 14 ≡ first (grounds_by len held offset shifts e s count more most rule)
  last_ground k q =
      rw (
        le-leb held len a,
        le-leb 8 held b,
        eq-eqb offset 8 c,
        eq-eqb held (8 + 16 * shifts) d,
        le-leb (count + more) most f,
        le-leb shifts count g,
        eq-eqb rule 0 h,
        q,
      )

  -- by the test of the fit that was made
  pub by_fit :
      (shifts' : ℕ) (e' : Shift) (r : Bool) → shifts' ≡ shifts → e' ≡ e → r ≡ fits shifts' e' s count → (k : Bool) → r ≡ k
      → cond k 0 14 ≡ first (grounds_by len held offset shifts e s count more most rule)
  by_fit shifts' e' r es ee er k q =
      last_ground k (sym (er ∙ ap (λ m. fits m e' s count) es ∙ ap (λ (x : Shift). fits shifts x s count) ee) ∙ q)

-- ---- none
pub record Grounded (len held shifts : ℕ) (e : Shift) (s : State) (count more : ℕ) : Type 0 where
  pub inside : held ≤ len
  pub long : held ≡ 8 + 16 * shifts
  pub few : count + more ≤ 16372
  pub short : shifts ≤ count
  pub fit : T (fits shifts e s count)

pub grounded :
    (len held offset shifts : ℕ) (e : Shift) (s : State) (count more most rule : ℕ) → most ≤ 16372
    → first (grounds_by len held offset shifts e s count more most rule) ≡ 0 → Grounded len held shifts e s count more
grounded len held offset shifts e s count more most rule m z =
    let h = (first→holds 0 (grounds_by len held offset shifts e s count more most rule) tt z).0 in
    record {
      inside = omega (arith, tests);
      long = omega (arith, tests);
      few = omega (arith, tests);
      short = omega (arith, tests);
      fit = h.1.1.1.1.1.1.1.0;
    }

module _ (len held shifts : ℕ) (e : Shift) (s : State) (count more : ℕ) (g : Grounded len held shifts e s count more) where
  -- in the midst of a shift the list has an entry, and the last is the shift's
  module _ (u : unfinished s.phase ≡ true) where
    both : T (leb 1 shifts && is_open e s count)
    both = rw u at g.fit

    pub has_one : 1 ≤ shifts
    has_one = leb→le 1 shifts (left (leb 1 shifts) (is_open e s count) both)

    abbrev rest : Bool
    rest = eqb e.request_time s.request_time && eqb e.age (s.clock - s.request_time)

    its : T (is_open e s count)
    its = right (leb 1 shifts) (is_open e s count) both

    later : T (eqb (e.last + 1) count && rest)
    later = right (eqb e.end 0) (eqb (e.last + 1) count && rest) its

    times : T rest
    times = right (eqb (e.last + 1) count) rest later

    pub its_end : e.end ≡ 0
    its_end = eqb→eq e.end 0 (left (eqb e.end 0) (eqb (e.last + 1) count && rest) its)

    pub its_age : e.age ≡ s.clock - e.request_time
    its_age =
        let t = eqb→eq e.request_time s.request_time (left (eqb e.request_time s.request_time) (eqb e.age (s.clock - s.request_time)) times) in
        let a = eqb→eq e.age (s.clock - s.request_time) (right (eqb e.request_time s.request_time) (eqb e.age (s.clock - s.request_time)) times) in
        omega arith

  -- the place of what is laid
  pub in_place : (8 ≤ place_of held s) × (place_of held s ≤ 261960)
  in_place =
      let long = g.long in
      let short = g.short in
      let few = g.few in
      case (unfinished s.phase)
      (λ u. let one = has_one u in let p : place_of held s ≡ held - 16 = rw u in (omega arith, omega arith))
      (λ u. let p : place_of held s ≡ held - 0 = rw u in (omega arith, omega arith))
