-- What is fetched from a list's bytes is the list's entry.
-- Assumes nothing.
use Rattle.std.proofs.Common.{◌≡◌, ℕ, zero, suc, ◌+◌, ◌*◌, ◌/◌, ◌%◌, ◌<◌, ◌≤◌, List, [], ◌∷◌, ◌++◌, length, get_or, drop, sym, refl, ap, ◌∙◌, arith, get_or-drop, drop-cons}
use Rattle.checks.proofs.Checks.{refused, holds→first}
use Rattle.checks.proofs.Tests.{tests}
use Rattle.numbers.specs.Bytes.{u32_at, bytes_of}
use Rattle.shiftlist.specs.declared.Shift.{Shift}
use Rattle.shiftlist.specs.Lists.{numbers_of, entries_of, list_of, shift_at, no_shift, fetchable, found, fetch_of}
use Rattle.shiftlist.proofs.ListLaws.{list_long}

-- the widths of an entry's fields
pub record Fits (e : Shift) : Type 0 where
  pub first : e.first < 65536
  pub last : e.last < 65536
  pub kind : e.kind < 256
  pub route : e.route < 256
  pub end : e.end < 256
  pub time : e.request_time < 4294967296
  pub age : e.age < 4294967296

-- the bytes from entry i on
entries_from : (i : ℕ) (es : List Shift) → drop (16 * i) (bytes_of (entries_of es)) ≡ bytes_of (entries_of (drop i es))
entries_from zero es = refl
entries_from (suc i) [] = let e : 16 * suc i ≡ suc (16 * i + 15) = omega arith in rw e
entries_from (suc i) (x ∷ es) =
    let e : 16 * suc i ≡ suc (suc (suc (suc (suc (suc (suc (suc (suc (suc (suc (suc (suc (suc (suc (suc (16 * i)))))))))))))))) = omega arith in
    rw e (entries_from i es)

list_from : (i : ℕ) (es : List Shift) → drop (8 + 16 * i) (list_of es) ≡ bytes_of (entries_of (drop i es))
list_from i es =
    let e : 8 + 16 * i ≡ suc (suc (suc (suc (suc (suc (suc (suc (16 * i)))))))) = omega arith in
    rw e (entries_from i es)

module _ (l : List ℕ) (p : ℕ) where
  at : (j k : ℕ) → p + k ≡ j → get_or l j 0 ≡ get_or (drop p l) k 0
  at j k e = sym (get_or-drop p l k 0 ∙ ap (λ m. get_or l m 0) e)

  -- an entry is read alike in what stands from its place on
  pub shift_dropped : shift_at l p ≡ shift_at (drop p l) 0
  shift_dropped =
      rw (
        at p 0 (omega arith),
        at (p + 1) 1 refl,
        at (p + 2) 2 refl,
        at (p + 2 + 1) 3 (omega arith),
        at (p + 4) 4 refl,
        at (p + 5) 5 refl,
        at (p + 6) 6 refl,
        at (p + 8) 8 refl,
        at (p + 8 + 1) 9 (omega arith),
        at (p + 8 + 2) 10 (omega arith),
        at (p + 8 + 2 + 1) 11 (omega arith),
        at (p + 12) 12 refl,
        at (p + 12 + 1) 13 (omega arith),
        at (p + 12 + 2) 14 (omega arith),
        at (p + 12 + 2 + 1) 15 (omega arith),
      )

pub shift_read : (e : Shift) (bs : List ℕ) → Fits e → shift_at (bytes_of (numbers_of e) ++ bs) 0 ≡ e
shift_read e bs f =
    let a : e.first % 256 + 256 * (e.first / 256) ≡ e.first = omega arith in
    let b : e.last % 256 + 256 * (e.last / 256) ≡ e.last = omega arith in
    let c : (e.kind + 256 * e.route) % 256 ≡ e.kind = omega (arith, f.kind) in
    let d : (e.kind + 256 * e.route) / 256 ≡ e.route = omega (arith, f.kind) in
    let g : e.end % 256 ≡ e.end = omega (arith, f.end) in
    let t : e.request_time % 65536 % 256 + 256 * (e.request_time % 65536 / 256) + 65536 * (e.request_time / 65536 % 256 + 256 * (e.request_time / 65536 / 256)) ≡ e.request_time = omega arith in
    let h : e.age % 65536 % 256 + 256 * (e.age % 65536 / 256) + 65536 * (e.age / 65536 % 256 + 256 * (e.age / 65536 / 256)) ≡ e.age = omega arith in
    rw (a, b, c, d, g, t, h)

module _ (es : List Shift) (many : length es < 4294967296) where
  abbrev l : List ℕ
  l = list_of es

  abbrev n : ℕ
  n = length es

  count_read : u32_at l 0 ≡ n
  count_read =
      let e : n % 65536 % 256 + 256 * (n % 65536 / 256) + 65536 * (n / 65536 % 256 + 256 * (n / 65536 / 256)) ≡ n = omega arith in
      e

  -- 14 exactly from the count on
  pub past_count : (i : ℕ) → n ≤ i → fetch_of l i ≡ record { number = 14; shift = no_shift }
  past_count i h =
      let o : u32_at l 4 ≡ 8 = refl in
      ap (λ k. found k (shift_at l (8 + 16 * i))) (refused (fetchable (length l) (u32_at l 4) (u32_at l 0) i) 3 (omega (arith, tests, list_long es, count_read, o)))

  pub fetched : (i : ℕ) → i < n → Fits (get_or es i no_shift) → fetch_of l i ≡ record { number = 0; shift = get_or es i no_shift }
  fetched i h f =
      let o : u32_at l 4 ≡ 8 = refl in
      let e = get_or es i no_shift in
      let there : drop (8 + 16 * i) l ≡ bytes_of (numbers_of e ++ entries_of (drop (suc i) es)) =
      list_from i es ∙ ap (λ xs. bytes_of (entries_of xs)) (drop-cons es i no_shift h)
      in
      ap (λ k. found k (shift_at l (8 + 16 * i))) (holds→first (fetchable (length l) (u32_at l 4) (u32_at l 0) i) (omega (arith, tests, list_long es, count_read, o)))
      ∙ ap (λ (q : Shift). record { number = 0; shift = q })
      (shift_dropped l (8 + 16 * i) ∙ ap (λ m. shift_at m 0) there ∙ shift_read e (bytes_of (entries_of (drop (suc i) es))) f)
