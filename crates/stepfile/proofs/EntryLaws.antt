-- Laws on the entries of a table: how many a file may have, how many a table is written with, and the record maximum by that.
-- Assumes nothing.
use Rattle.std.proofs.Common.{Option, Some, None}
use mathlib.Core.Path.{◌≡◌, refl, sym, ap, subst, ◌∙◌}
use mathlib.Core.Logic.{◌⊎◌, inl, inr, ⊎_elim}
use mathlib.Core.Bool.{cond, not, ◌||◌}
use mathlib.Core.List.{◌∷◌, [], ◌++◌}
use Prim.Native.Nat.{ℕ, ◌≤◌, ◌<◌}
use native.Mathlib.Omega.{arith}
use lib.Dec.{T, eqb, eqb→eq, T_not}
use lib.ListN.{length, take}
use borrow.Author.Tests.{eq-eqb, eqb-true}
use Rattle.checks.proofs.Tests.{case, passed, passes, either}
use Rattle.limits.specs.declared.Table.{Table}
use Rattle.limits.specs.Limits.{limits, entries, undelayed, table_of}
use Rattle.limits.specs.Refusals.{NoDelays}
use Rattle.limits.proofs.Refusals.{zeros}
use Rattle.stepfile.specs.Files.{most_records}
use Rattle.stepfile.specs.Writing.{wished, entries_for}
use Rattle.stepfile.specs.Refusals.{TooMany, WrittenWith}

-- ---- none, eighteen or twenty-two
abbrev pub Few : ℕ → Type 0
Few k = (k ≡ 0) ⊎ (k ≡ 18) ⊎ (k ≡ 22)

module _ (k : ℕ) where
  pub few : T (eqb k 0 || (eqb k 18 || eqb k 22)) → Few k
  few t =
      ⊎_elim (λ a. inl (eqb→eq k 0 a))
      (λ b. inr (⊎_elim (λ a. inl (eqb→eq k 18 a)) (λ c. inr (eqb→eq k 22 c)) (either (eqb k 18) (eqb k 22) b)))
      (either (eqb k 0) (eqb k 18 || eqb k 22) t)

  pub fitting : Few k → T (eqb k 0 || (eqb k 18 || eqb k 22))
  fitting (inl e) = rw e tt
  fitting (inr (inl e)) = rw e tt
  fitting (inr (inr e)) = rw e tt

  pub others : T (not (eqb k 0 || (eqb k 18 || eqb k 22))) → ¬ Few k
  others t f = T_not (eqb k 0 || (eqb k 18 || eqb k 22)) t (fitting f)

  pub at_most_22 : Few k → k ≤ 22
  at_most_22 (inl e) = omega arith
  at_most_22 (inr (inl e)) = omega arith
  at_most_22 (inr (inr e)) = omega arith

  -- ---- the record maximum
  pub most_between : (16370 ≤ most_records k) × (most_records k ≤ 16372)
  most_between = case (eqb k 22) (λ e. rw e (omega arith)) (λ e. rw e (omega arith))

  pub past_most : (n : ℕ) → most_records k < n → TooMany k n
  past_most n h = case (eqb k 22) (λ e. inr (eqb-true k 22 e, rw e at h)) (λ e. inl (rw e at h))

  pub within_most : (n : ℕ) → n ≤ most_records k → ¬ TooMany k n
  within_most n h =
      ⊎_elim (λ l. omega (arith, most_between)) (λ l. let m = rw (eq-eqb k 22 l.0) at h in omega (arith, l.1))

-- ---- the entries that a table is written with
module _ (t : Table) where
  pub delays : NoDelays t ⊎ ¬ NoDelays t
  delays =
      case (undelayed t)
      (λ e. inl ((zeros t).read (passes (undelayed t) e)))
      (λ e. inr (λ n. subst T e ((zeros t).shown n)))

  pub in_eighteen : NoDelays t → entries_for t ≡ limits t
  in_eighteen n = ap (λ b. cond b (limits t) (entries t)) (passed (undelayed t) ((zeros t).shown n))

  pub in_twenty_two : ¬ NoDelays t → entries_for t ≡ entries t
  in_twenty_two n =
      case (undelayed t)
      (λ e. absurd (n ((zeros t).read (passes (undelayed t) e))))
      (λ e. ap (λ b. cond b (limits t) (entries t)) e)

  pub how_many : (length (entries_for t) ≡ 18) ⊎ (length (entries_for t) ≡ 22)
  how_many = ⊎_elim (λ n. inl (ap length (in_eighteen n))) (λ n. inr (ap length (in_twenty_two n))) delays

  -- the table is that of its entries
  abbrev with_delays : ℕ → ℕ → ℕ → ℕ → Table
  with_delays a b c d = table_of (limits t ++ (a ∷ b ∷ c ∷ d ∷ []))

  pub same_table : table_of (entries_for t) ≡ t
  same_table =
      ⊎_elim
      (λ n.
      ap table_of (in_eighteen n)
      ∙ sym (ap (λ a. with_delays a t.error_clutch_open_de t.clutch_close_de t.error_clutch_close_de) n.plain_open
      ∙ ap (λ b. with_delays 0 b t.clutch_close_de t.error_clutch_close_de) n.error_open
      ∙ ap (λ c. with_delays 0 0 c t.error_clutch_close_de) n.plain_close
      ∙ ap (λ d. with_delays 0 0 0 d) n.error_close))
      (λ n. ap table_of (in_twenty_two n))
      delays

  pub entries_taken : take (length (entries_for t)) (entries t) ≡ entries_for t
  entries_taken = ⊎_elim (λ n. rw (in_eighteen n)) (λ n. rw (in_twenty_two n)) delays

  pub no_more_than_22 : length (entries_for t) ≤ 22
  no_more_than_22 = at_most_22 (length (entries_for t)) (inr how_many)

-- ---- of a wish
pub written_with : (w : Option Table) → WrittenWith w (length (entries_for (wished w)))
written_with (Some t) =
    ⊎_elim (λ n. inl (n, ap length (in_eighteen t n))) (λ n. inr (n, ap length (in_twenty_two t n))) (delays t)
written_with None = refl

pub with_no_others : (w : Option Table) (k : ℕ) → WrittenWith w k → k ≡ length (entries_for (wished w))
with_no_others (Some t) k (inl h) = h.1 ∙ sym (ap length (in_eighteen t h.0))
with_no_others (Some t) k (inr h) = h.1 ∙ sym (ap length (in_twenty_two t h.0))
with_no_others None k e = e
