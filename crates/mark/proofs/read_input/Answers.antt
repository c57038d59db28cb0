-- The buffer holds the first bytes, as many as it has room for. Assumes nothing.
use Rattle.std.proofs.Common.{◌≡◌, List, ℕ, length, take, IfSome, subst, arith}
use Rattle.std.specs.declared.option.Option.{Option}
use Rattle.mark.proofs.read_input.Goals as goal

first : {room n : ℕ} (known : Option (List ℕ)) (read : List ℕ) → room ≡ n → IfSome known (λ bytes. read ≡ take room bytes) → IfSome known (λ bytes. read ≡ take n bytes)
first known read e h = subst (λ (k : ℕ). IfSome known (λ bytes. read ≡ take k bytes)) e h

pub returns : goal.returns
returns g c =
    let room : length c.args.buffer.now ≡ 65537 = omega (arith, c.told-buffer) in
    first (g.R.Read.remaining c.args.input) _ room c.in_ok-n.ensures.bytes
