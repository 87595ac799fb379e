-- A whole transfer: the held bytes are a beginning of the file, as far as the parts reach without a gap and whatever was refused in
-- between; where they reach its end, all of it is held.
-- Assumes nothing.
use mathlib.Core.Path.{◌≡◌, refl, sym, ap, subst, ◌∙◌}
use mathlib.Core.Bool.{false}
use mathlib.Core.Logic.{inl, inr, ⊎_elim}
use mathlib.Core.List.{List, [], ◌∷◌}
use Prim.Native.Nat.{ℕ, ◌+◌, ◌≤◌, ◌<◌, max}
use native.Mathlib.Omega.{arith}
use lib.Dec.{eqb}
use lib.ListN.{length, take, drop}
use lib.Seq.{take-length}
use borrow.Author.Tests.{eqb-true}
use Rattle.checks.proofs.Checks.{Holds, first→holds, refused}
use Rattle.checks.proofs.Tests.{tests, case}
use Rattle.transfer.specs.Join.{checks, new_count, appended}
use Rattle.transfer.specs.Transfers.{Arrival, Store, empty, answer, after, after_all, Cut, AcceptedCut, Begins, Reaches}
use Rattle.transfer.proofs.JoinLaws.{accepted, length-appended, held_stay, beyond_stay}
use Rattle.transfer.proofs.CutLaws.{overlap_agrees, count_within, still_begins}

-- ---- one part: a refused one leaves what is stored, an accepted one is appended
module _ (s : Store) (a : Arrival) where
  pub refused_keeps : eqb (answer s a).number 0 ≡ false → after s a ≡ s
  refused_keeps z = rw z

  abbrev pub grown : Store
  grown =
      record {
        buffer = appended s.buffer s.held a.offset a.part;
        held = new_count s.held a.offset a.part;
      }

  pub accepted_grows : (answer s a).number ≡ 0 → after s a ≡ grown
  accepted_grows e = rw e

  -- what holds of both holds of what is stored
  pub either_way : (P : Store → Type 0) → ((answer s a).number ≡ 0 → P grown) → P s → P (after s a)
  either_way P grows stays =
      case (eqb (answer s a).number 0)
      (λ z. let e = eqb-true (answer s a).number 0 z in subst P (sym (accepted_grows e)) (grows e))
      (λ z. subst P (sym (refused_keeps z)) stays)

  pub accepted_holds : (answer s a).number ≡ 0 → Holds (checks s.buffer s.held a.offset a.part)
  accepted_holds e = (first→holds 0 (checks s.buffer s.held a.offset a.part) tt e).0

  pub beyond_refused : s.held ≤ length s.buffer → s.held < a.offset → (answer s a).number ≡ 14
  beyond_refused h l = refused (checks s.buffer s.held a.offset a.part) 1 (omega (arith, tests))

  grown_begins : (file : List ℕ) → Begins file s → Cut file a → a.offset ≤ s.held → Begins file grown
  grown_begins file b c l =
      record {
        within = count_within file s.buffer s.held a.offset a.part l b.within b.bytes c.within c.bytes;
        bytes = still_begins file s.buffer s.held a.offset a.part l b.within b.bytes c.within c.bytes;
      }

-- the bytes that were held stay as they were, and so do those beyond the new count
abbrev pub Unchanged : Store → Store → Type 0
Unchanged s t =
    (take s.held t.buffer ≡ take s.held s.buffer) × (drop t.held t.buffer ≡ drop t.held s.buffer)

pub unchanged : (s : Store) (a : Arrival) → Unchanged s (after s a)
unchanged s a =
    either_way s a (Unchanged s)
    (λ e.
    let h = accepted_holds s a e in
    let in_buffer : s.held ≤ length s.buffer = omega (arith, tests) in
    let in_held : a.offset ≤ s.held = omega (arith, tests) in (
      held_stay s.buffer s.held a.offset a.part in_buffer in_held,
      beyond_stay s.buffer s.held a.offset a.part in_buffer in_held,
    ))
    (refl, refl)

-- ---- the held bytes are a beginning of the file
step_begins :
    (file : List ℕ) (s : Store) (a : Arrival) → Begins file s → ((answer s a).number ≡ 0 → Cut file a)
    → Begins file (after s a)
step_begins file s a b cut =
    either_way s a (Begins file)
    (λ e. let h = accepted_holds s a e in grown_begins s a file b (cut e) (omega (arith, tests)))
    b

all_begin :
    (file : List ℕ) (s : Store) (arrivals : List Arrival) → Begins file s → AcceptedCut file s arrivals
    → Begins file (after_all s arrivals)
all_begin file s [] b c = b
all_begin file s (a ∷ arrivals) b c = all_begin file (after s a) arrivals (step_begins file s a b c.0) c.1

empty_begins : (file buffer : List ℕ) → Begins file (empty buffer)
empty_begins file buffer = record { within = omega arith; bytes = refl }

pub beginning :
    (file buffer : List ℕ) (arrivals : List Arrival) → AcceptedCut file (empty buffer) arrivals
    → Begins file (after_all (empty buffer) arrivals)
beginning file buffer arrivals c = all_begin file (empty buffer) arrivals (empty_begins file buffer) c

-- ---- the parts that are accepted reach to where the held bytes end
reached :
    (file : List ℕ) (s : Store) (arrivals : List Arrival) → AcceptedCut file s arrivals
    → Reaches file s.held (after_all s arrivals).held arrivals
reached file s [] c = refl
reached file s (a ∷ arrivals) c =
    either_way s a
    (λ x. AcceptedCut file x arrivals → Reaches file s.held (after_all x arrivals).held (a ∷ arrivals))
    (λ e d. let h = accepted_holds s a e in inl (c.0 e, omega (arith, tests), reached file (grown s a) arrivals d))
    (λ d. inr (reached file s arrivals d))
    c.1

-- ---- in a buffer with room for the file no parts reach further
module _ (file : List ℕ) where
  pub cut_accepted :
      (s : Store) (a : Arrival) → Begins file s → length file ≤ length s.buffer → Cut file a → a.offset ≤ s.held
      → (answer s a).number ≡ 0
  cut_accepted s a b room c l =
      let held_fits : s.held ≤ length file = b.within in
      let part-fits : a.offset + length a.part ≤ length file = c.within in
      accepted s.buffer s.held a.offset a.part (omega arith) l (omega arith)
      (overlap_agrees file s.buffer s.held a.offset a.part l b.within b.bytes c.within c.bytes)

  -- what a part leaves: as much room, and no fewer bytes
  as_much_room : (s : Store) (a : Arrival) → length (after s a).buffer ≡ length s.buffer
  as_much_room s a =
      either_way s a (λ x. length x.buffer ≡ length s.buffer)
      (λ e.
      let h = accepted_holds s a e in
      length-appended s.buffer s.held a.offset a.part
      (omega (arith, tests))
      (omega (arith, tests))
      (omega (arith, tests)))
      refl

  no_fewer : (s : Store) (a : Arrival) → s.held ≤ (after s a).held
  no_fewer s a = either_way s a (λ x. s.held ≤ x.held) (λ e. omega arith) (omega arith)

  no_further :
      (s : Store) (arrivals : List Arrival) (end far : ℕ) → Begins file s → length file ≤ length s.buffer
      → AcceptedCut file s arrivals → end ≤ s.held → Reaches file end far arrivals
      → far ≤ (after_all s arrivals).held
  no_further s [] end far b room c l v = omega arith
  no_further s (a ∷ arrivals) end far b room c l v =
      let next = no_further (after s a) arrivals in
      let begins = step_begins file s a b c.0 in
      let room' : length file ≤ length (after s a).buffer = rw (as_much_room s a) room in
      let grows = no_fewer s a in
      ⊎_elim
      (λ taken.
      let within : a.offset ≤ end = taken.1 in
      let e = cut_accepted s a b room taken.0 (omega arith) in
      let held : (after s a).held ≡ new_count s.held a.offset a.part = ap (λ (x : Store). x.held) (accepted_grows s a e) in
      next (max end (a.offset + length a.part)) far begins room' c.1 (omega arith) taken.2)
      (λ passed. next end far begins room' c.1 (omega arith) passed)
      v

  module _ (buffer : List ℕ) (arrivals : List Arrival) (c : AcceptedCut file (empty buffer) arrivals) where
    -- the count held is a place that the parts reach
    pub held_reached : Reaches file 0 (after_all (empty buffer) arrivals).held arrivals
    held_reached = reached file (empty buffer) arrivals c

    module _ (room : length file ≤ length buffer) where
      -- and they reach no further
      pub none_further : (far : ℕ) → Reaches file 0 far arrivals → far ≤ (after_all (empty buffer) arrivals).held
      none_further far = no_further (empty buffer) arrivals 0 far (empty_begins file buffer) room c (omega arith)

      -- where they reach the file's end, all of it is held
      pub whole :
          Reaches file 0 (length file) arrivals
          → ((after_all (empty buffer) arrivals).held ≡ length file)
          × (take (length file) (after_all (empty buffer) arrivals).buffer ≡ file)
      whole v =
          let end = after_all (empty buffer) arrivals in
          let begins = beginning file buffer arrivals c in
          let inside : end.held ≤ length file = begins.within in
          let far = none_further (length file) v in
          let count : end.held ≡ length file = omega arith in (
            count,
            ap (λ (n : ℕ). take n end.buffer) (sym count)
                ∙ begins.bytes
                ∙ ap (λ (n : ℕ). take n file) count
                ∙ take-length file,
          )
