-- A model as bytes: the writer of a model sheet, by the model's version (01, Sheet and Model, read the other way round; 02, order 4).
-- Assumes nothing.
use Rattle.std.specs.Prelude.{Bool, true, false, List, [], ◌∷◌, ◌++◌, ℕ, suc, ◌+◌, ◌-◌, ◌^◌, ℤ, pos, negsuc, length}
use Rattle.formats.specs.Versions.{has_paper}
use Rattle.formats.specs.Rows.{SheetRow, Condition}
use Rattle.formats.specs.Model.{Mode, Switch, Component, Unsafe, Model}
use Rattle.formats.specs.Joint.{join_all}
-- "all big-endian": a u32 and a u16
unfoldable pub use Rattle.buffers.specs.Over.{word, half}

-- "s32 is two's complement"
unfoldable pub twos : ℤ → ℕ
twos (pos n) = n
twos (negsuc n) = 2 ^ 32 - suc n

unfoldable pub write_number : ℤ → List ℕ
write_number z = word (twos z)

-- what a row's mark takes: nothing, as no version has strict rows
unfoldable pub write_mark : ℕ → Bool → List ℕ
write_mark version strict = []

-- "A row is n coefficients a and a bound b, all s32"
unfoldable pub write_row : ℕ → SheetRow → List ℕ
write_row version r =
    write_mark version r.row.strict ++ (join_all write_number r.row.coefficients ++ write_number r.row.bound)

-- "A condition is a u8 row count, then rows"
unfoldable pub write_condition : ℕ → Condition → List ℕ
write_condition version rows = (length rows ∷ []) ++ join_all (write_row version) rows

-- "Per mode: u8 start, 0 or 1; initial, invariant and flow condition"
unfoldable pub write_mode : ℕ → Mode → List ℕ
write_mode version m =
    (m.start ∷ []) ++ (write_condition version m.initial ++ (write_condition version m.invariant ++ write_condition version m.flow))

-- "Per switch: u8 source and target mode; u8 label, 0..15; a jump condition"
unfoldable pub write_switch : ℕ → Switch → List ℕ
write_switch version w =
    (w.source ∷ []) ++ ((w.target ∷ []) ++ ((w.label ∷ []) ++ write_condition version w.jump))

-- "Per component: u16 alphabet ..; u8 modes, 1..8; u8 switches, 0..32. Per mode .. Per switch .."
unfoldable pub write_component : ℕ → Component → List ℕ
write_component version c =
    half c.alphabet
    ++ ((length c.modes ∷ [])
    ++ ((length c.switches ∷ [])
    ++ (join_all (write_mode version) c.modes ++ join_all (write_switch version) c.switches)))

-- "Per unsafe condition: c bytes, a mode or 255 for any; 0..8 rows"
unfoldable pub write_unsafe : ℕ → Unsafe → List ℕ
write_unsafe version u = u.modes ++ write_condition version u.rows

-- what `read_model_body` reads: "u8 variables n, 1..8; u8 components c, 1..4; u8 unsafe conditions, 0..16. n bytes: each variable's owner, 0..c−1.
-- Per component .. Per unsafe condition .."
unfoldable pub write_fields : Model → List ℕ
write_fields m =
    (m.variables ∷ [])
    ++ ((length m.components ∷ [])
    ++ ((length m.unsafe ∷ [])
    ++ (m.owners
    ++ (join_all (write_component m.version) m.components ++ join_all (write_unsafe m.version) m.unsafe))))

-- "begin their body with a u32 paper number" (02, order 7); nothing where a version has none
unfoldable pub paper_bytes : Bool → ℕ → List ℕ
paper_bytes true paper = word paper
paper_bytes false paper = []

unfoldable pub write_paper : ℕ → ℕ → List ℕ
write_paper version paper = paper_bytes (has_paper version) paper

unfoldable pub write_body : Model → List ℕ
write_body m = write_paper m.version m.paper ++ write_fields m

-- "u16 L, the bytes that follow it; u8 version ..; u8 kind (1 model ..)", then the body
unfoldable pub write_model : Model → List ℕ
write_model m = half (2 + length (write_body m)) ++ (((m.version ∷ []) ++ (1 ∷ [])) ++ write_body m)
