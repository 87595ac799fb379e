-- Extended equals fresh: for the list, the state and the record count of an accepted file, what `extend` answers and leaves is what
-- `build` answers and leaves for the longer file, byte for byte; of whatever both contracts allow.
-- Assumes nothing.
use mathlib.Core.Path.{◌≡◌, sym, ap, ◌∙◌}
use mathlib.Core.Bool.{cond}
use mathlib.Core.List.{List, [], ◌++◌, append_assoc}
use Prim.Native.Nat.{ℕ, ◌+◌, ◌*◌, ◌-◌, ◌/◌, ◌≤◌}
use native.Mathlib.Omega.{arith}
use lib.Dec.{leb, eqb}
use lib.ListN.{length, drop, length-append}
use lib.Seq.{sets, drop-append-add}
use borrow.Author.Tests.{eqb-true, eqb-false, leb-true}
use contract.Lifetimes.{Lfts}
use denote.Triple.Entry.{Args}
use denote.Triple.Clauses.{AtExit}
use Rattle.checks.proofs.Tests.{case}
use Rattle.limits.specs.declared.Table.{Table}
use Rattle.numbers.specs.Bytes.{bytes_of}
use Rattle.phases.specs.Phases.{unfinished}
use Rattle.shift.specs.declared.State.{State}
use Rattle.stepfile.specs.Files.{table_in}
use Rattle.verdict.specs.declared.Verdict.{Verdict}
use Rattle.verdict.specs.Verdicts.{verdict_of}
use Rattle.shiftlist.specs.declared.Shift.{Shift}
use Rattle.shiftlist.specs.declared.Listed.{Listed}
use Rattle.shiftlist.specs.Lists.{entries_of, header_of, list_of, shifts_of, size_for, refused_by, fitting, after_judge, built_of, buffer_after}
use Rattle.shiftlist.specs.Walks.{in_hand, with}
use Rattle.shiftlist.proofs.ListLaws.{entries_long}
use Rattle.shiftlist.specs.contracts.build as build_call
use Rattle.shiftlist.proofs.build.Reads as build_reads
use Rattle.shiftlist_extend.specs.Extending.{from, size, after_run, after_grounds, extended_of, list_after}
use Rattle.shiftlist_extend.proofs.RelaidLaws.{head, in_two, relaid}
use Rattle.shiftlist_extend.proofs.AppendedLaws.{Appended, further, verdict_is}
use Rattle.shiftlist_extend.proofs.EndLaws.{es, s, n, c, z, es_are}
use Rattle.shiftlist_extend.proofs.FreshLaws.{list, held, new, place, no_ground, shifts_are, size_is}
use Rattle.shiftlist_extend.specs.contracts.extend as extend_call
use Rattle.shiftlist_extend.proofs.extend.Reads as extend_reads

module _ (f g bytes tail : List ℕ) (a : Appended f g bytes) where
  abbrev end : State
  end = s f g bytes a

  abbrev records : ℕ
  records = n f g bytes a

  abbrev l : List ℕ
  l = list f g bytes tail a

  abbrev most : ℕ
  most = held f g bytes tail a

  abbrev k : ℕ
  k = (further f g bytes a).number

  abbrev longer : ℕ
  longer = size l most end records (table_in f) bytes

  -- ---- the answer
  by_run : extended_of l most end records (table_in f) bytes ≡ after_run l most end records (table_in f) bytes (further f g bytes a)
  by_run = ap (after_grounds l most end records (table_in f) bytes) (no_ground f g bytes tail a)

  pub same_answer : extended_of l most end records (table_in f) bytes ≡ built_of g (length l)
  same_answer =
      let o = further f g bytes a in
      let by = refused_by o.number 0 (records + o.count) o.excess in
      by_run
      ∙ case (eqb k 0)
      (λ e. ap (λ m. cond (eqb k 0) (fitting m (length l)) by) (size_is f g bytes tail a (eqb-true k 0 e)))
      (λ e. rw e)
      ∙ ap (λ (v : Verdict). after_judge v (fitting (size_for (shifts_of g)) (length l))) (sym (verdict_is f g bytes a))

  -- ---- the buffer, where both answer 0
  abbrev over : List Shift
  over = c f g bytes a

  abbrev laid : List Shift
  laid = new f g bytes tail a

  abbrev was : List Shift
  was = with (unfinished end.phase) (in_hand (z f g bytes a)) []

  behind : List ℕ
  behind = bytes_of (entries_of was) ++ tail

  in_pieces : l ≡ head (length (es f g bytes a)) ++ (bytes_of (entries_of over) ++ behind)
  unfolding behind
  in_pieces =
      let e = es_are f g bytes a in
      ap (λ q. list_of q ++ tail) e ∙ in_two over was tail ∙ ap (λ q. head (length q) ++ (bytes_of (entries_of over) ++ (bytes_of (entries_of was) ++ tail))) (sym e)

  rest_is : drop (8 + 16 * length over + 16 * length laid) l ≡ drop (16 * length laid) behind
  rest_is =
      let b = bytes_of (entries_of over) in
      let h = head (length (es f g bytes a)) in
      let long : length (h ++ b) ≡ 8 + 16 * length over = let e = entries_long over in omega arith in
      ap (drop (8 + 16 * length over + 16 * length laid)) (in_pieces ∙ sym (append_assoc h b behind))
      ∙ ap (λ m. drop (m + 16 * length laid) ((h ++ b) ++ behind)) (sym long)
      ∙ drop-append-add (h ++ b) behind (16 * length laid)

  room_behind : longer ≤ length l → 16 * length laid ≤ length behind
  room_behind h =
      let e = ap length in_pieces in
      let b = length-append (bytes_of (entries_of over)) behind in
      let m = entries_long over in
      omega (arith, h, e, b, m, place f g bytes tail a)

  stored :
      k ≡ 0 → longer ≤ length l
      → sets (sets l 0 (bytes_of (header_of ((longer - 8) / 16)))) (from l most end records (table_in f) bytes) (bytes_of (entries_of laid))
      ≡ list_of (shifts_of g) ++ drop (size_for (shifts_of g)) l
  stored zero-there h =
      let p = place f g bytes tail a in
      let all = length-append over laid in
      let count : (longer - 8) / 16 ≡ length (over ++ laid) = omega (arith, p, all) in
      let where_to : 8 + 16 * length over + 16 * length laid ≡ longer = omega (arith, p) in
      let b = bytes_of (entries_of laid) in
      ap (λ q. sets (sets l 0 (head ((longer - 8) / 16))) q b) p
      ∙ ap (λ q. sets (sets q 0 (head ((longer - 8) / 16))) (8 + 16 * length over) b) in_pieces
      ∙ relaid (length (es f g bytes a)) ((longer - 8) / 16) over laid behind count (room_behind h)
      ∙ ap (λ q. list_of (over ++ laid) ++ q) (sym rest_is ∙ ap (λ m. drop m l) (where_to ∙ size_is f g bytes tail a zero-there))
      ∙ ap (λ q. list_of q ++ drop (size_for (shifts_of g)) l) (sym (shifts_are f g bytes tail a zero-there))

  -- an answer of 0 tells that the records are accepted, and that there is room
  accepted_and_fits : (extended_of l most end records (table_in f) bytes).number ≡ 0 → (k ≡ 0) × (longer ≤ length l)
  accepted_and_fits e =
      let o = ap (λ (r : Listed). r.number) (sym by_run) ∙ e in
      case (eqb k 0)
      (λ p.
      case (leb longer (length l))
      (λ q. (eqb-true k 0 p, leb-true longer (length l) q))
      (λ q. let y = rw (p, q) at o in absurd (omega arith)))
      (λ p. let y = rw p at o in absurd (eqb-false k 0 p y))

  pub same_buffer : list_after l most end records (table_in f) bytes ≡ buffer_after g l
  same_buffer =
      let r = extended_of l most end records (table_in f) bytes in
      let new-list = list_of (shifts_of g) ++ drop (size_for (shifts_of g)) l in
      let old-list = sets (sets l 0 (bytes_of (header_of ((longer - 8) / 16)))) (from l most end records (table_in f) bytes) (bytes_of (entries_of laid)) in
      case (eqb r.number 0)
      (λ e. let h = accepted_and_fits (eqb-true r.number 0 e) in ap (λ q. cond (eqb r.number 0) q l) (stored h.0 h.1))
      (λ e. ap (λ b. cond b old-list l) e ∙ ap (λ b. cond b new-list l) (sym e))
      ∙ ap (λ (q : Listed). cond (eqb q.number 0) new-list l) same_answer

-- ---- of equal buffers that begin with the list of f
-- what `extend` is given: the list of f at the buffer's start, its state, its record count, its table, and the records that follow; and
-- `build` the longer file and a buffer of the same bytes
pub record SameCall (f tail l : List ℕ) (held : ℕ) (end : State) (count : ℕ) (t : Table) (bytes g l' : List ℕ) : Type 0 where
  pub buffer : l ≡ list_of (shifts_of f) ++ tail
  pub buffer' : l' ≡ l
  pub held_is : held ≡ size_for (shifts_of f)
  pub state_is : end ≡ (verdict_of f).state
  pub count_is : count ≡ (verdict_of f).index
  pub table_is : t ≡ table_in f
  pub appended : Appended f g bytes

pub equals_fresh :
    (f tail l : List ℕ) (held : ℕ) (end : State) (count : ℕ) (t : Table) (bytes g l' : List ℕ) → SameCall f tail l held end count t bytes g l'
    → (extended_of l held end count t bytes ≡ built_of g (length l')) × (list_after l held end count t bytes ≡ buffer_after g l')
equals_fresh f tail l held end count t bytes g l' h =
    rw (h.buffer', h.buffer, h.held_is, h.state_is, h.count_is, h.table_is)
    (same_answer f g bytes tail h.appended, same_buffer f g bytes tail h.appended)

-- of calls of `extend` and of `build`, whatever their contracts allow
module _
    (κs : Lfts 2) (given : Args extend_call.signature κs) (r : Listed) (left : AtExit extend_call.ended κs) (extended : extend_reads.Post κs given r left)
    (κs' : Lfts 2) (given' : Args build_call.signature κs') (r' : Listed) (left' : AtExit build_call.ended κs') (built : build_reads.Post κs' given' r' left')
  where
    pub extended_equals_fresh :
        (f tail : List ℕ)
        → SameCall f tail given.0.now given.1.0 given.1.1.0 given.1.1.1.0 given.1.1.1.1.0 given.1.1.1.1.1.0.now given'.0.now given'.1.0.now
        → (r ≡ r') × (left.0.now ≡ left'.1.0.now)
    extended_equals_fresh f tail h =
        let e = equals_fresh f tail _ _ _ _ _ _ _ _ h in
        (extended.0 ∙ e.0 ∙ sym built.0, extended.1 ∙ e.1 ∙ sym built.1)
