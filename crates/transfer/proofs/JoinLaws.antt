-- Laws of one join: when a part is refused and when it is accepted, and what each leaves.
-- Assumes nothing.
use mathlib.Core.Path.{◌≡◌, refl, sym, ap}
use mathlib.Core.Bool.{Bool, true, false, ◌&&◌}
use mathlib.Core.List.{List, [], ◌∷◌, ◌++◌, append_assoc, append-nil}
use Prim.Native.Nat.{ℕ, ◌+◌, ◌-◌, ◌≤◌, ◌<◌, min}
use native.Mathlib.Nat.{max-eq_left}
use native.Mathlib.Numerals.{unary_clauses}
use native.Mathlib.Omega.{arith}
use lib.Dec.{eqb}
use lib.Pointwise.{pointwise}
use Rattle.std.specs.Prelude.{nat_eq}
use lib.ListN.{length, take, drop, length-append, length-take, length-drop, take-append-drop, drop_of_length-le}
use lib.Seq.{take_at, drop_at, length-take-le, take_all, drop-drop}
use borrow.Rule.Slice.PartMut.{put_mid}
use Rattle.checks.proofs.Checks.{Fails, number_at, refused, holds→first}
use Rattle.checks.proofs.Tests.{tests, passes}
use Rattle.transfer.specs.Join.{agree, checks, refusal, new_count, appended, joined, buffer_after}

-- two lists agree where their beginnings of one length, as long as both reach, are the same
pub agree_beginnings :
    (xs ys : List ℕ)
    → pointwise nat_eq (take (min (length xs) (length ys)) xs) (take (min (length xs) (length ys)) ys) ≡ agree xs ys
agree_beginnings [] [] = refl
agree_beginnings [] (y ∷ ys) = simp unary_clauses
agree_beginnings (x ∷ xs) [] = simp unary_clauses
agree_beginnings (x ∷ xs) (y ∷ ys) = simp unary_clauses (ap (λ (b : Bool). eqb x y && b) (agree_beginnings xs ys))

-- the part of a slice from `n` on, as lending it leaves it
abbrev pub from : ℕ → List ℕ → List ℕ
from n xs = take (length xs - n) (drop n xs)

from_is : (n : ℕ) (xs : List ℕ) → from n xs ≡ drop n xs
from_is n xs = take_all (length xs - n) (drop n xs) (simp length-drop (omega arith))

module _ (buffer : List ℕ) (held offset : ℕ) (part : List ℕ) where
  -- ---- refused: the first check that fails gives its number, and all stays as it was
  pub refused_at :
      (i : ℕ) → eqb (number_at (checks buffer held offset part) i) 0 ≡ false → Fails (checks buffer held offset part) i
      → (record { number = number_at (checks buffer held offset part) i; held = held } ≡ joined buffer held offset part)
      × (buffer ≡ buffer_after buffer held offset part)
  refused_at i z f = let e = refused (checks buffer held offset part) i f in (rw (e, z), rw (e, z))

  -- ---- accepted
  pub accepted :
      held ≤ length buffer → offset ≤ held → offset + length part ≤ length buffer
      → agree (drop offset (take held buffer)) part ≡ true
      → refusal buffer held offset part ≡ 0
  accepted h l k e =
      holds→first (checks buffer held offset part) (
        omega (arith, tests),
        (omega (arith, tests), (omega (arith, tests), (passes (agree (drop offset (take held buffer)) part) e, tt))),
      )

  pub length-appended :
      held ≤ length buffer → offset ≤ held → offset + length part ≤ length buffer
      → length (appended buffer held offset part) ≡ length buffer
  length-appended h l k = simp (length-append, length-take, length-drop) (omega arith)

  -- the bytes held before stay, and so do those beyond the new count
  module _ (h : held ≤ length buffer) (l : offset ≤ held) where
    pub held_stay : take held (appended buffer held offset part) ≡ take held buffer
    held_stay =
        rw (append_assoc (take held buffer) (drop (held - offset) part) (drop (new_count held offset part) buffer))
        (take_at
        (take held buffer)
        (drop (held - offset) part ++ drop (new_count held offset part) buffer)
        held
        (length-take-le held buffer h))

    pub beyond_stay :
        drop (new_count held offset part) (appended buffer held offset part) ≡ drop (new_count held offset part) buffer
    beyond_stay =
        drop_at
        (take held buffer ++ drop (held - offset) part)
        (drop (new_count held offset part) buffer)
        (new_count held offset part)
        (simp (length-append, length-take, length-drop) (omega arith))

  -- a part that ends within the bytes held: nothing is appended
  pub count_inside : offset + length part ≤ held → new_count held offset part ≡ held
  count_inside h = max-eq_left h

  pub appended_inside : offset ≤ held → offset + length part ≤ held → appended buffer held offset part ≡ buffer
  appended_inside l h =
      rw (count_inside h, drop_of_length-le part {i = held - offset} (omega arith), append-nil (take held buffer))
      (take-append-drop held buffer)

  pub inside :
      offset ≤ held → offset + length part ≤ held → refusal buffer held offset part ≡ 0
      → (record { number = 0; held = held } ≡ joined buffer held offset part) × (buffer ≡ buffer_after buffer held offset part)
  inside l h e = (rw (e, count_inside h), rw (e, appended_inside l h))

  -- a part that ends beyond them: its rest is copied behind them
  pub beyond :
      offset ≤ held → held < offset + length part → refusal buffer held offset part ≡ 0
      → (lent : List ℕ) → lent ≡ from (held - offset) part
      → (record { number = 0; held = offset + length part } ≡ joined buffer held offset part)
      × (put_mid held (offset + length part - held) buffer lent ≡ buffer_after buffer held offset part)
  beyond l k e lent copied =
      let end : new_count held offset part ≡ offset + length part = omega arith in
      let behind : held + (offset + length part - held) ≡ offset + length part = omega arith in (
        rw (e, end),
        rw (e, end, copied, from_is (held - offset) part, drop-drop (offset + length part - held) held buffer, behind)
            (sym (append_assoc (take held buffer) (drop (held - offset) part) (drop (offset + length part) buffer))),
      )
