-- A row's bytes, so many times. Assumes nothing.
use mathlib.Core.Path.{sym, ap, subst}
use Prim.Native.Nat.{ℕ, ◌*◌, ◌≤◌}
use native.Mathlib.Omega.{arith}
use Rattle.formats.proofs.Versions.{rows_fit}
use Rattle.fields.proofs.versions.rows_bytes.Goals as goal

pub row_bytes-requires : goal.row_bytes-requires
row_bytes-requires c = c.requires.0

pub overflow_mul-result : goal.overflow_mul-result
overflow_mul-result c =
    let a = c.args in
    let fits = rows_fit a.version a.n a.count 65535 c.requires.0 (omega (arith, c.requires.1)) in
    let few : c.row_bytes.result * a.count ≤ 68 * 65535 = subst (λ (r : ℕ). r * a.count ≤ 68 * 65535) (sym c.row_bytes.ensures) fits in
    omega (arith, few)

pub returns : goal.returns
returns c = ap (λ (r : ℕ). r * c.args.count) c.row_bytes.ensures
