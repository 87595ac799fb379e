-- A join is refused by the first number whose condition holds, in the words of specs/Refusals.antt, and a refused one keeps the count
-- and every byte.
-- Assumes nothing.
use mathlib.Core.Path.{◌≡◌, refl, sym, ◌∙◌}
use mathlib.Core.Bool.{not}
use mathlib.Core.Logic.{inl, inr, ⊎_elim}
use mathlib.Core.List.{List, [], ◌∷◌}
use Prim.Native.Nat.{ℕ, zero, suc, ◌+◌, ◌-◌, ◌≤◌, ◌<◌}
use native.Mathlib.Omega.{arith}
use lib.Dec.{leb, eqb, T}
use lib.ListN.{length, get_or, take, drop, length-drop}
use lib.Seq.{get_or-take, get_or-drop, length-take-le}
use borrow.Author.Tests.{eqb-false, leb-true, leb-false, ne_eqb}
use Rattle.checks.specs.Conditions.{FirstOf}
use Rattle.checks.proofs.ConditionLaws.{first_of, one_of}
use Rattle.checks.proofs.Tests.{tests, case, left, right}
use Rattle.transfer.specs.Join.{agree, checks, refusal, joined_in, joined, buffer_after}
use Rattle.transfer.specs.Refusals.{Differs, refusals, JoinAnswers}
use Rattle.transfer.proofs.join.Reads as join_reads

-- ---- two lists that agree have the same bytes as far as both reach, and two that do not differ at a place
record Apart (xs ys : List ℕ) : Type 0 where
  place : ℕ
  in_left : place < length xs
  in_right : place < length ys
  other : ¬ (get_or ys place 0 ≡ get_or xs place 0)

apart : (xs ys : List ℕ) → T (not (agree xs ys)) → Apart xs ys
apart [] ys h = absurd h
apart (x ∷ xs) [] h = absurd h
apart (x ∷ xs) (y ∷ ys) h =
    case (eqb x y)
    (λ t.
    let rest = apart xs ys (rw t at h) in
    record { place = suc rest.place; in_left = omega (arith, rest); in_right = omega (arith, rest); other = rest.other })
    (λ f. record { place = 0; in_left = omega arith; in_right = omega arith; other = λ e. eqb-false x y f (sym e) })

same : (xs ys : List ℕ) → T (agree xs ys) → (i : ℕ) → i < length xs → i < length ys → get_or ys i 0 ≡ get_or xs i 0
same [] ys h i l m = absurd (omega arith)
same (x ∷ xs) [] h i l m = absurd (omega arith)
same (x ∷ xs) (y ∷ ys) h zero l m = let t = left (eqb x y) (agree xs ys) h in omega (arith, tests)
same (x ∷ xs) (y ∷ ys) h (suc i) l m = same xs ys (right (eqb x y) (agree xs ys) h) i (omega arith) (omega arith)

module _ (buffer : List ℕ) (held offset : ℕ) (part : List ℕ) where
  -- ---- the overlap
  module _ (fits : held ≤ length buffer) where
    overlap_length : length (drop offset (take held buffer)) ≡ held - offset
    overlap_length = rw (length-drop, length-take-le held buffer fits)

    byte : (i : ℕ) → offset + i < held → get_or (drop offset (take held buffer)) i 0 ≡ get_or buffer (offset + i) 0
    byte i l = get_or-drop offset (take held buffer) i 0 ∙ get_or-take held buffer (offset + i) 0 l

    differs : T (not (agree (drop offset (take held buffer)) part)) → Differs buffer held offset part
    differs t =
        let a = apart (drop offset (take held buffer)) part t in
        let l : a.place < held - offset = rw (← overlap_length) a.in_left in
        record {
          place = a.place;
          in_part = a.in_right;
          in_held = omega arith;
          other = λ e. a.other (e ∙ sym (byte a.place (omega arith)));
        }

    agrees : T (agree (drop offset (take held buffer)) part) → ¬ Differs buffer held offset part
    agrees t d =
        let l : offset + d.place < held = d.in_held in
        d.other
        (same (drop offset (take held buffer)) part t d.place (rw overlap_length (omega arith)) d.in_part
        ∙ byte d.place d.in_held)

  in_order : FirstOf (refusals buffer held offset part) (refusal buffer held offset part)
  in_order =
      case (leb held (length buffer))
      (λ t.
      let fits = leb-true held (length buffer) t in
      first_of (checks buffer held offset part) (refusals buffer held offset part) (
        omega (arith, tests),
        (omega (arith, tests), (omega (arith, tests), ((differs fits, (agrees fits, refl)), tt))),
      ))
      (λ f. rw f (inl (leb-false held (length buffer) f, refl)))

  pub join_answers :
      JoinAnswers buffer held offset part (joined buffer held offset part).number (joined buffer held offset part).held
      (buffer_after buffer held offset part)
  join_answers =
      record {
        first = in_order;
        numbers =
            ⊎_elim (λ z. inl z)
            (⊎_elim (λ e. inr (inr (inl e)))
            (⊎_elim (λ e. inr (inl e)) (⊎_elim (λ e. inr (inr (inl e))) (λ e. inr (inr (inr e))))))
            (one_of (refusals buffer held offset part) (refusal buffer held offset part) in_order);
        unchanged = λ n. let z = ne_eqb (refusal buffer held offset part) 0 n in (rw z, rw z);
      }

pub join :
    (κs : _) (a : _) (r : _) (at : _) → join_reads.Post κs a r at
    → JoinAnswers a.0.now a.1.0 a.1.1.0 a.1.1.1.0.now (joined_in a.1.0 r).number (joined_in a.1.0 r).held at.0.now
join κs a r at p = rw (p.0, p.1) (join_answers a.0.now a.1.0 a.1.1.0 a.1.1.1.0.now)
