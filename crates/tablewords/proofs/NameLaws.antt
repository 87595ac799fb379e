-- The names as the code holds them, and the place of a word among them.
-- Assumes nothing.
use mathlib.Core.Path.{◌≡◌, refl, sym, ap, ◌∙◌}
use mathlib.Core.Bool.{Bool, true, cond, ◌&&◌}
use mathlib.Core.List.{List, [], ◌∷◌}
use Prim.Native.Nat.{ℕ, zero, suc, ◌≤◌, ◌<◌}
use native.Mathlib.Omega.{arith}
use lib.Dec.{T, leb, eqb, ltb, leb→le}
use lib.ListN.{length, get_or}
use borrow.Author.Tests.{ltb-true, ltb-false}
use denote.Ref.{Bor}
use Rattle.std.specs.Cmp.Lexicographic.{pointwise}
use Rattle.std.specs.List.{position_or_len}
use Rattle.std.specs.Option.{option_copied, unwrap_or}
use Rattle.std.specs.Prelude.{Option, Some, None}
use Rattle.std.specs.Slice.{IsItemAt}
use Rattle.std.proofs.lemmas.Option.{slice_get_past, slice_get_read, unwrap_or-slice_get}
use Rattle.checks.proofs.Tests.{case, left, right}
use Rattle.tablewords.specs.Names.{names, name, same, place, entry_named, an_entry, contents}

-- ---- a list of lent lists
content_at : (ns : List (Bor (List ℕ))) (i : ℕ) (d : Bor (List ℕ)) → (get_or ns i d).now ≡ get_or (contents ns) i d.now
content_at [] i d = refl
content_at (n ∷ ns) zero d = refl
content_at (n ∷ ns) (suc i) d = content_at ns i d

pub content_read : (ns : List (Bor (List ℕ))) (i : ℕ) (r : Option (Bor (Bor (List ℕ)))) (d : Bor (List ℕ)) → IsItemAt ns i r
    → (unwrap_or (option_copied r) d).now ≡ get_or (contents ns) i d.now
content_read ns i None d h =
    let past = slice_get_past ns i (ltb-false i (length ns) (sym h.0)) in
    ap (λ o. (unwrap_or o d).now) (sym past) ∙ ap (λ n. n.now) (unwrap_or-slice_get ns i d) ∙ content_at ns i d
content_read ns i (Some x) d h =
    let read = slice_get_read ns (length ns) i x.now refl (ltb-true i (length ns) (sym h.0)) h.1 in
    ap (λ o. (unwrap_or o d).now) (sym read) ∙ ap (λ n. n.now) (unwrap_or-slice_get ns i d) ∙ content_at ns i d

-- ---- the same word, and its place
same_is : (xs ys : List ℕ) → pointwise eqb xs ys ≡ same xs ys
same_is [] [] = refl
same_is [] (y ∷ ys) = refl
same_is (x ∷ xs) [] = refl
same_is (x ∷ xs) (y ∷ ys) = ap (λ r. eqb x y && r) (same_is xs ys)

place_is : (w : List ℕ) (ns : List (Bor (List ℕ)))
    → position_or_len (λ (n : Bor (List ℕ)). pointwise eqb w n.now) ns ≡ place w (contents ns)
place_is w [] = refl
place_is w (n ∷ ns) =
    rw (same_is w n.now, place_is w ns)
    (case (same w n.now) (λ e. rw e) (λ e. rw e (omega arith)))

same_length : (ns : List (Bor (List ℕ))) → length (contents ns) ≡ length ns
same_length [] = refl
same_length (n ∷ ns) = ap suc (same_length ns)

-- what a search for a word among lent names answers
abbrev answer : ℕ → ℕ → Option ℕ
answer n i = cond (ltb i n) (Some i) None

pub answered : (w : List ℕ) (ns : List (Bor (List ℕ))) → contents ns ≡ names
    → answer (length ns) (position_or_len (λ (n : Bor (List ℕ)). pointwise eqb w n.now) ns) ≡ an_entry (entry_named w)
unfolding entry_named
answered w ns h =
    ap (λ n. answer n (position_or_len (λ (n : Bor (List ℕ)). pointwise eqb w n.now) ns)) (sym (same_length ns) ∙ ap length h)
    ∙ ap (answer 22) (place_is w ns ∙ ap (place w) h)

-- ---- what an answer tells of the entry
pub place_fits : (w : List ℕ) (ns : List (List ℕ)) → place w ns ≤ length ns
place_fits w [] = omega arith
place_fits w (n ∷ ns) = case (same w n) (λ t. rw t (omega arith)) (λ t. rw t (omega (arith, place_fits w ns)))

entry_fits : (w : List ℕ) → entry_named w ≤ 22
unfolding entry_named
entry_fits w = place_fits w names

pub answered_entry : (i e : ℕ) → an_entry i ≡ Some e → (i ≡ e) × (e < 22)
answered_entry i e h =
    case (ltb i 22)
    (λ t.
    let s = (rw t at h) in
    let is : i ≡ e = cc in
    (is, omega (arith, is, ltb-true i 22 t)))
    (λ t. let s = (rw t at h) in cc)

pub answered_nowhere : (w : List ℕ) → an_entry (entry_named w) ≡ None → entry_named w ≡ 22
answered_nowhere w h =
    case (ltb (entry_named w) 22)
    (λ t. let s = (rw t at h) in cc)
    (λ t. omega (arith, ltb-false (entry_named w) 22 t, entry_fits w))

-- and it tells all of it: two words of one answer name one entry, or none
pub no_other_entry : (w v : List ℕ) → an_entry (entry_named w) ≡ an_entry (entry_named v) → entry_named w ≡ entry_named v
no_other_entry w v h =
    case (ltb (entry_named w) 22)
    (λ t. let s = (rw t at h) in sym (answered_entry (entry_named v) (entry_named w) (sym s)).0)
    (λ t.
    let s = (rw t at h) in
    let high = answered_nowhere v (sym s) in
    omega (arith, high, ltb-false (entry_named w) 22 t, entry_fits w))

-- ---- a name has at most 21 bytes
abbrev short : List (List ℕ) → Bool
short [] = true
short (n ∷ ns) = leb (length n) 21 && short ns

all_short : (ns : List (List ℕ)) → T (short ns) → (i : ℕ) → length (get_or ns i []) ≤ 21
all_short [] h i = omega arith
all_short (n ∷ ns) h zero = leb→le (length n) 21 (left (leb (length n) 21) (short ns) h)
all_short (n ∷ ns) h (suc i) = all_short ns (right (leb (length n) 21) (short ns) h) i

pub name_fits : (i : ℕ) → length (name i) ≤ 21
name_fits = all_short names tt
