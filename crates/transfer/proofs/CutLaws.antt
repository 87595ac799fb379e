-- Laws of a part that is cut from a file, against bytes held that are a beginning of it.
-- Assumes nothing.
use mathlib.Core.Path.{◌≡◌, refl, sym, ap, ◌∙◌}
use mathlib.Core.Bool.{true}
use mathlib.Core.List.{List, [], ◌∷◌, ◌++◌}
use Prim.Native.Nat.{ℕ, zero, suc, ◌+◌, ◌-◌, ◌≤◌}
use native.Mathlib.Nat.{sub-zero, zero-sub, suc-sub-suc}
use native.Mathlib.Omega.{arith}
use lib.ListN.{length, take, drop, length-append, length-drop}
use lib.Seq.{take_at, take-add, take-nil, drop-drop, length-take-le}
use borrow.Author.Tests.{eq-eqb}
use Rattle.transfer.specs.Join.{agree, new_count, appended}

pub drop-take : (k n : ℕ) (xs : List ℕ) → drop k (take n xs) ≡ take (n - k) (drop k xs)
drop-take zero n xs = simp sub-zero
drop-take (suc k) zero xs = simp zero-sub
drop-take (suc k) (suc n) [] = sym (take-nil (suc n - suc k))
drop-take (suc k) (suc n) (x ∷ xs) = simp suc-sub-suc (drop-take k n xs)

-- two beginnings of one list agree
agree_takes : (m n : ℕ) (xs : List ℕ) → agree (take m xs) (take n xs) ≡ true
agree_takes zero n xs = refl
agree_takes (suc m) zero [] = refl
agree_takes (suc m) zero (x ∷ xs) = refl
agree_takes (suc m) (suc n) [] = refl
agree_takes (suc m) (suc n) (x ∷ xs) = rw (eq-eqb x x refl) (agree_takes m n xs)

-- the held bytes are a beginning of the file, the part is cut from it, and begins within them
module _ (file buffer : List ℕ) (held offset : ℕ) (part : List ℕ) (l : offset ≤ held) (h : held ≤ length file)
    (begins : take held buffer ≡ take held file) (within : offset + length part ≤ length file)
    (bytes : part ≡ take (length part) (drop offset file)) where
  pub overlap_agrees : agree (drop offset (take held buffer)) part ≡ true
  overlap_agrees =
      ap (λ (xs : List ℕ). agree (drop offset xs) part) begins
      ∙ ap (λ (xs : List ℕ). agree xs part) (drop-take offset held file)
      ∙ ap (λ (xs : List ℕ). agree (take (held - offset) (drop offset file)) xs) bytes
      ∙ agree_takes (held - offset) (length part) (drop offset file)

  rest : drop (held - offset) part ≡ take (new_count held offset part - held) (drop held file)
  rest =
      let there : offset + (held - offset) ≡ held = omega arith in
      let count : length part - (held - offset) ≡ new_count held offset part - held = omega arith in
      ap (drop (held - offset)) bytes
      ∙ drop-take (held - offset) (length part) (drop offset file)
      ∙ rw (drop-drop (held - offset) offset file, there, count)

  pub count_within : new_count held offset part ≤ length file
  count_within = omega arith

  joined_length : length (take held buffer ++ drop (held - offset) part) ≡ new_count held offset part
  joined_length =
      rw (length-append (take held buffer) (drop (held - offset) part), begins, length-take-le held file h, length-drop)
      (omega arith)

  pub still_begins : take (new_count held offset part) (appended buffer held offset part) ≡ take (new_count held offset part) file
  still_begins =
      let count : held + (new_count held offset part - held) ≡ new_count held offset part = omega arith in
      let behind = drop (new_count held offset part) buffer in
      take_at (take held buffer ++ drop (held - offset) part) behind (new_count held offset part) joined_length
      ∙ rw (begins, rest, ← take-add held (new_count held offset part - held) file, count)
