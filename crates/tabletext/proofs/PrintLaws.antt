-- The lines of entries one behind the other.
-- Assumes nothing.
use mathlib.Core.Path.{◌≡◌, sym, ◌∙◌}
use mathlib.Core.List.{List, ◌++◌, append_assoc, append-nil}
use Prim.Native.Nat.{ℕ, suc, ◌+◌, ◌<◌}
use native.Mathlib.Numerals.{add-one}
use lib.ListN.{length, get_or, drop}
use lib.Seq.{drop-cons, drop-length}
use Rattle.tabletext.specs.Printed.{entry_line, lines_from}

-- ---- the lines of entries, those from one on behind those before it
module _ (vs whole front : List ℕ) (i : ℕ) (h : front ++ lines_from i (drop i vs) ≡ whole) where
  pub one_line : (front' : List ℕ) (v : ℕ) → i < length vs → v ≡ get_or vs i 0 → front' ≡ front ++ entry_line i v
      → front' ++ lines_from (i + 1) (drop (i + 1) vs) ≡ whole
  one_line front' v k e f =
      rw (f, e, add-one i) (append_assoc front (entry_line i (get_or vs i 0)) (lines_from (suc i) (drop (suc i) vs)) ∙ rw (drop-cons vs i 0 k) at h)

  pub no_more_lines : i ≡ length vs → front ≡ whole
  no_more_lines e = sym (append-nil front) ∙ rw (e, drop-length vs) at h
