-- The shifts of records in one walk over their bytes, with one shift in hand: an entry is made where its shift ends, and at the end. For
-- functions inside; `laid_is_the_list` of proofs/BuildLaws.antt ties it to Shifts.antt, where the records are accepted.
-- Assumes nothing.
use Rattle.std.specs.Prelude.{ℕ, zero, suc, ◌+◌, ◌-◌, ◌*◌, ◌/◌, ◌%◌, Bool, true, false, cond, ◌&&◌, List, [], ◌∷◌, length, map, get_or, Option, Some, None, ◌==◌, nat_le}
use Rattle.std.proofs.lemmas.List.Edits.{sets}
use Rattle.numbers.specs.Bytes.{bytes_of}
use Rattle.phases.specs.Phases.{next_of, unfinished}
use Rattle.stepfile.specs.Records.{every_four}
use Rattle.trace.specs.Traces.{Trace, entering, phase_by}
use Rattle.shiftlist.specs.declared.Shift.{Shift}
use Rattle.shiftlist.specs.declared.walk.Walk.{Walk}
use Rattle.shiftlist.specs.Shifts.{end_of}
use Rattle.shiftlist.specs.Lists.{entries_of, header_of}

-- ---- a record by its code and its amount
pub record Coded : Type 0 where
  pub code : ℕ
  pub amount : ℕ

abbrev pub coded : ℕ → ℕ → ℕ → ℕ → Coded
coded code middle low high = record { code = code; amount = low + 256 * high }

abbrev pub coded_in : List ℕ → List Coded
coded_in = every_four coded

-- the same of records that stand apart, four bytes each
abbrev pub coded_all : List (List ℕ) → List Coded
coded_all = map (λ r. coded (get_or r 0 0) (get_or r 1 0) (get_or r 2 0) (get_or r 3 0))

-- codes 1 to 3 are requests
abbrev pub kind_by : ℕ → ℕ
kind_by code = cond (nat_le code 3) code 0

-- codes 4 to 7, of the steps that change the stage alone
abbrev pub is_still : ℕ → Bool
is_still code = nat_le 4 code && nat_le code 7

-- the clock of 32 bits after a tick
abbrev pub clock_by : ℕ → ℕ → ℕ
clock_by clock amount = (clock + amount) % 4294967296

-- ---- the walk
-- where it stands
abbrev pub trace_in : Walk → Trace
trace_in w = record { clock = w.clock; phase = w.phase }

-- by its fields
abbrev pub holding : ℕ → ℕ → ℕ → ℕ → ℕ → ℕ → ℕ → Walk
holding clock phase first last kind route time = record {
  clock = clock;
  phase = phase;
  first = first;
  last = last;
  kind = kind;
  route = route;
  request_time = time;
}

-- no shift in hand
abbrev pub idle : Trace → Walk
idle t = holding t.clock t.phase 0 0 0 0 0

-- the entry of the shift in hand
abbrev pub in_hand : Walk → Shift
in_hand w = record {
  first = w.first;
  last = w.last;
  kind = w.kind;
  route = w.route;
  end = end_of w.phase;
  request_time = w.request_time;
  age = w.clock - w.request_time;
}

-- one record further, the record i of this kind, which leads to the trace t: a request takes a new shift in hand
abbrev pub further : ℕ → Walk → ℕ → Bool → Trace → Walk
further zero w i asked t =
    holding t.clock t.phase w.first i w.kind (cond asked 1 w.route) w.request_time
further (suc k) w i asked t = holding t.clock t.phase i i (suc k) 0 w.clock

-- by a tick to this clock, by any other code, and by code and amount
abbrev pub ticked : Walk → ℕ → ℕ → Walk
ticked w i clock = holding clock w.phase w.first i w.kind w.route w.request_time

abbrev pub stepped_by : Walk → ℕ → ℕ → Walk
stepped_by w i code = further (kind_by code) w i (code == 9) (entering (phase_by w.phase code) (trace_in w))

abbrev pub walked_by : Walk → ℕ → ℕ → ℕ → Walk
walked_by w i code amount = cond (code == 12) (ticked w i (clock_by w.clock amount)) (stepped_by w i code)

-- a take that goes on with the shift
abbrev pub takes_on : ℕ → ℕ → Bool
takes_on phase code = code == 8 && nat_le (next_of phase) 21

-- a record that leads from phase p to phase q ends a shift
abbrev pub closes : ℕ → ℕ → Bool
closes p q = nat_le p 21 && nat_le 22 q

abbrev pub with : Bool → Shift → List Shift → List Shift
with true e es = e ∷ es
with false e es = es

-- the entries that are made of records, the first of which is the record i
abbrev pub laid_by : Walk → ℕ → List Coded → List Shift
laid_by w i [] = with (unfinished w.phase) (in_hand w) []
laid_by w i (c ∷ cs) =
    let w' = walked_by w i c.code c.amount in
    with (closes w.phase w'.phase) (in_hand w') (laid_by w' (suc i) cs)

-- the same of records that stand apart
abbrev pub laid_apart : Walk → ℕ → List (List ℕ) → List Shift
laid_apart w i rs = laid_by w i (coded_all rs)

-- what a size answers: none for 0
abbrev pub unless_0 : ℕ → Option ℕ
unless_0 zero = None
unless_0 (suc n) = Some (suc n)

-- ---- laying them into a list, from a place on
module _ (l : List ℕ) (from : ℕ) (w : Walk) (i : ℕ) (bytes : List ℕ) where
  -- the size of the list then
  abbrev pub size_with : ℕ
  size_with = from + 16 * length (laid_by w i (coded_in bytes))

  -- no more records than a file has, behind the header, not behind the longest list, and with room
  abbrev pub layable : Bool
  layable = nat_le (i + length bytes / 4) 16372 && (nat_le 8 from && (nat_le from 261960 && nat_le size_with (length l)))

  -- the size, or 0 where nothing is laid
  abbrev pub laid_size : ℕ
  laid_size = cond layable size_with 0

  -- the list: its header, and its entries from the place on
  abbrev pub laid_in : List ℕ
  laid_in =
      cond layable
      (sets (sets l 0 (bytes_of (header_of ((size_with - 8) / 16)))) from (bytes_of (entries_of (laid_by w i (coded_in bytes)))))
      l
