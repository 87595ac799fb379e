-- A night: whatever arrived before, a block that comes again under its true offset changes nothing, and one that begins beyond
-- the held bytes is refused with 14.
-- Assumes nothing.
use mathlib.Core.Path.{◌≡◌, refl, sym, ap, ◌∙◌}
use mathlib.Core.List.{List, [], ◌∷◌, ◌++◌}
use Prim.Native.Nat.{ℕ, zero, suc, ◌+◌, ◌-◌, ◌≤◌, ◌<◌}
use native.Mathlib.Omega.{arith}
use lib.ListN.{length, take, drop, length-append}
use lib.Seq.{take_at, take-take, take-length, drop-append_seam, length-take-le}
use Rattle.checks.proofs.Tests.{tests}
use Rattle.transfer.specs.Transfers.{Arrival, Store, empty, answer, after, after_all, Cut, AcceptedCut, Begins}
use Rattle.transfer.proofs.JoinLaws.{refused_at, inside, count_inside, appended_inside, length-appended}
use Rattle.transfer.proofs.CutLaws.{drop-take}
use Rattle.transfer.proofs.Transfers.{grown, refused_keeps, accepted_grows, either_way, accepted_holds, beyond_refused, cut_accepted, beginning}

-- ---- a block that comes again, and one that comes too early

-- one join: the answer is the number n, and what is stored stays as it was
abbrev pub Keeps : ℕ → Store → Arrival → Type 0
Keeps n s a = (answer s a ≡ record { number = n; held = s.held }) × (after s a ≡ s)

module _ (s : Store) (a : Arrival) (fits : s.held ≤ length s.buffer) where
  -- a part that is cut from the held bytes at its true offset changes nothing
  pub repeated : Cut (take s.held s.buffer) a → Keeps 0 s a
  repeated c =
      let count : length (take s.held s.buffer) ≡ s.held = length-take-le s.held s.buffer fits in
      let end : a.offset + length a.part ≤ length (take s.held s.buffer) = c.within in
      let same = sym (take-take s.held s.held s.buffer (omega arith)) in
      let begins : Begins (take s.held s.buffer) s = record { within = omega arith; bytes = same } in
      let e = cut_accepted (take s.held s.buffer) s a begins (omega arith) c (omega arith) in (
        sym (inside s.buffer s.held a.offset a.part (omega arith) (omega arith) e).0,
        accepted_grows s a e
            ∙ rw (
              appended_inside s.buffer s.held a.offset a.part (omega arith) (omega arith),
              count_inside s.buffer s.held a.offset a.part (omega arith),
            ),
      )

  -- any part that begins beyond the held bytes is refused with 14 and changes nothing
  pub too_early : s.held < a.offset → Keeps 14 s a
  too_early l = (
    sym (refused_at s.buffer s.held a.offset a.part 1 refl (omega (arith, tests))).0,
    refused_keeps s a (rw (beyond_refused s a fits l)),
  )

-- ---- the count held never exceeds the buffer
grown_fits : (s : Store) (a : Arrival) → (answer s a).number ≡ 0 → (grown s a).held ≤ length (grown s a).buffer
grown_fits s a e =
    let h = accepted_holds s a e in
    let in_buffer : s.held ≤ length s.buffer = omega (arith, tests) in
    let in_held : a.offset ≤ s.held = omega (arith, tests) in
    let end : a.offset + length a.part ≤ length s.buffer = omega (arith, tests) in
    rw (length-appended s.buffer s.held a.offset a.part in_buffer in_held end) (omega arith)

after_fits : (s : Store) (a : Arrival) → s.held ≤ length s.buffer → (after s a).held ≤ length (after s a).buffer
after_fits s a h = either_way s a (λ x. x.held ≤ length x.buffer) (grown_fits s a) h

all_fit :
    (s : Store) (arrivals : List Arrival) → s.held ≤ length s.buffer
    → (after_all s arrivals).held ≤ length (after_all s arrivals).buffer
all_fit s [] h = h
all_fit s (a ∷ arrivals) h = all_fit (after s a) arrivals (after_fits s a h)

-- ---- after any parts
module _ (buffer : List ℕ) (arrivals : List Arrival) where
  abbrev night : Store
  night = after_all (empty buffer) arrivals

  night_fits : night.held ≤ length night.buffer
  night_fits = all_fit (empty buffer) arrivals (omega arith)

  -- a block of the file that the accepted parts are cut from, with every byte of it held
  pub block_again :
      (file : List ℕ) (a : Arrival) → AcceptedCut file (empty buffer) arrivals → Cut file a
      → a.offset + length a.part ≤ (after_all (empty buffer) arrivals).held
      → Keeps 0 (after_all (empty buffer) arrivals) a
  block_again file a accepted cut l =
      let b = beginning file buffer arrivals accepted in
      let count = length-take-le night.held night.buffer night_fits in
      repeated night a night_fits
      (record {
        within = omega arith;
        bytes =
            cut.bytes
            ∙ sym
            (ap (λ (xs : List ℕ). take (length a.part) (drop a.offset xs)) b.bytes
            ∙ ap (take (length a.part)) (drop-take a.offset night.held file)
            ∙ take-take (length a.part) (night.held - a.offset) (drop a.offset file) (omega arith));
      })

  -- any part at all
  pub block_early :
      (a : Arrival) → (after_all (empty buffer) arrivals).held < a.offset → Keeps 14 (after_all (empty buffer) arrivals) a
  block_early a l = too_early night a night_fits l

-- ---- a block that is the last of the bytes held, and a block under an offset
abbrev pub holding : List ℕ → List ℕ → List ℕ → Store
holding before block room = record { buffer = before ++ block ++ room; held = length before + length block }

abbrev pub under : ℕ → List ℕ → Arrival
under offset block = record { offset = offset; part = block }

module _ (before block room : List ℕ) where
  held_bytes : take (length before + length block) (before ++ block ++ room) ≡ before ++ block
  held_bytes = take_at (before ++ block) room (length before + length block) (length-append before block)

  holding_fits : length before + length block ≤ length (before ++ block ++ room)
  holding_fits = simp length-append (omega arith)

  pub last_again : Keeps 0 (holding before block room) (under (length before) block)
  last_again =
      repeated (holding before block room) (under (length before) block) holding_fits
      (record {
        within = rw (held_bytes, length-append before block) (omega arith);
        bytes = rw (held_bytes, drop-append_seam before block, take-length block);
      })

  pub last_early : (n : ℕ) → length before + length block < n → Keeps 14 (holding before block room) (under n block)
  last_early n l = too_early (holding before block room) (under n block) holding_fits l

-- ---- forty steps, in four bytes each: ticks of 1 to 40 milliseconds
abbrev pub ticks : ℕ → ℕ → List ℕ
ticks n zero = []
ticks n (suc count) = 12 ∷ 0 ∷ n ∷ 0 ∷ ticks (suc n) count

abbrev pub forty_steps : List ℕ
forty_steps = ticks 1 40

pub forty_length : length forty_steps ≡ 160
forty_length = refl

module _ (before room : List ℕ) where
  pub forty_again : Keeps 0 (holding before forty_steps room) (under (length before) forty_steps)
  forty_again = last_again before forty_steps room

  pub forty_early : (n : ℕ) → length before + 160 < n → Keeps 14 (holding before forty_steps room) (under n forty_steps)
  forty_early n l = last_early before forty_steps room n l
