-- Document 01, "The limit table", with the four delays of document 02's request 6 and the two defaults of its request 7: the entries by
-- number, the old default, the new default and the house's table, and the sums of the routes.
-- Assumes nothing.
use Rattle.std.specs.Prelude.{Bool, ◌&&◌, List, [], ◌∷◌, ◌++◌, ℕ, ◌+◌, eqb, get_or, set}
use Rattle.limits.specs.declared.Table.{Table}

-- entries 0 to 17
abbrev pub limits : Table → List ℕ
limits t =
    t.channel_dl
    ∷ t.engine_sync_dl
    ∷ t.engine_zero_dl
    ∷ t.clutch_open_dl
    ∷ t.clutch_close_dl
    ∷ t.gear_set_dl
    ∷ t.gear_release_dl
    ∷ t.sync_ex
    ∷ t.zero_ex
    ∷ t.sync_dl
    ∷ t.zero_dl
    ∷ t.sync_de
    ∷ t.zero_de
    ∷ t.open_clutch_dl
    ∷ t.set_gear_dl
    ∷ t.release_dl
    ∷ t.close_clutch_dl
    ∷ t.change_dl
    ∷ []

-- entries 18 to 21: the delays of the clutch, plain and error, opening and closing
abbrev pub delays : Table → List ℕ
delays t =
    t.clutch_open_de ∷ t.error_clutch_open_de ∷ t.clutch_close_de ∷ t.error_clutch_close_de ∷ []

-- entries 0 to 21
abbrev pub entries : Table → List ℕ
entries t = limits t ++ delays t

abbrev pub entry : Table → ℕ → ℕ
entry t i = get_or (entries t) i 0

-- all four delays are 0
abbrev pub undelayed : Table → Bool
undelayed t =
    eqb t.clutch_open_de 0
    && (eqb t.error_clutch_open_de 0
    && (eqb t.clutch_close_de 0 && eqb t.error_clutch_close_de 0))

-- the table of these entries; one that is not there is 0, so that eighteen are followed by four zeros
abbrev pub table_of : List ℕ → Table
table_of es = record {
  channel_dl = get_or es 0 0;
  engine_sync_dl = get_or es 1 0;
  engine_zero_dl = get_or es 2 0;
  clutch_open_dl = get_or es 3 0;
  clutch_close_dl = get_or es 4 0;
  gear_set_dl = get_or es 5 0;
  gear_release_dl = get_or es 6 0;
  sync_ex = get_or es 7 0;
  zero_ex = get_or es 8 0;
  sync_dl = get_or es 9 0;
  zero_dl = get_or es 10 0;
  sync_de = get_or es 11 0;
  zero_de = get_or es 12 0;
  open_clutch_dl = get_or es 13 0;
  set_gear_dl = get_or es 14 0;
  release_dl = get_or es 15 0;
  close_clutch_dl = get_or es 16 0;
  change_dl = get_or es 17 0;
  clutch_open_de = get_or es 18 0;
  error_clutch_open_de = get_or es 19 0;
  clutch_close_de = get_or es 20 0;
  error_clutch_close_de = get_or es 21 0;
}

-- the old default, under which a file without a table is judged for ever: entries 0 to 17; its four delays are 0
abbrev pub old_default : Table
old_default =
    table_of (5 ∷ 100 ∷ 200 ∷ 150 ∷ 150 ∷ 300 ∷ 200 ∷ 150 ∷ 250 ∷ 155 ∷ 255 ∷ 151 ∷ 251 ∷ 200 ∷ 350 ∷ 250 ∷ 200 ∷ 1500 ∷ [])

-- the new default, which is handed out now: the old one with another Channel_DL, entry 0
abbrev pub new_default : Table
new_default = table_of (set (limits old_default) 0 10)

-- the house values: the new default with delays
abbrev pub house : Table
house = table_of (limits new_default ++ (20 ∷ 60 ∷ 20 ∷ 60 ∷ []))

-- the four route sums
abbrev pub sum_f : Table → ℕ
sum_f t = t.sync_dl + t.open_clutch_dl + t.set_gear_dl + t.close_clutch_dl

abbrev pub sum_n : Table → ℕ
sum_n t = t.zero_dl + t.open_clutch_dl + t.release_dl + t.close_clutch_dl

abbrev pub sum_g1 : Table → ℕ
sum_g1 t = t.zero_ex + t.release_dl + sum_f t

abbrev pub sum_g2 : Table → ℕ
sum_g2 t = t.zero_dl + t.open_clutch_dl + t.release_dl + t.set_gear_dl + t.close_clutch_dl
