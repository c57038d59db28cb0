-- What a reader does next, by the sign that it finds. Assumes nothing.
use Rattle.std.specs.Prelude.{ℕ, ℤ, pos, negsuc}
use Rattle.typed.specs.declared.signs.Sign.{Sign}
use Rattle.typed.specs.declared.signs.Sign.TheVariants.{Blank, Digit, Letter, Open, Close, Plus, Minus, Times, Less, Equal, Other}

-- what stands after a term: a sum or a difference goes on, or it ends
unfoldable pub by_sum : {A : Type 0} → Sign → A → A → A
by_sum Blank x y = y
by_sum (Digit d) x y = y
by_sum (Letter v) x y = y
by_sum Open x y = y
by_sum Close x y = y
by_sum Plus x y = x
by_sum Minus x y = x
by_sum Times x y = y
by_sum Less x y = y
by_sum Equal x y = y
by_sum Other x y = y

-- how often the right operand is then added
unfoldable pub sense_of : Sign → ℤ
sense_of Blank = pos 1
sense_of (Digit d) = pos 1
sense_of (Letter v) = pos 1
sense_of Open = pos 1
sense_of Close = pos 1
sense_of Plus = pos 1
sense_of Minus = negsuc 0
sense_of Times = pos 1
sense_of Less = pos 1
sense_of Equal = pos 1
sense_of Other = pos 1

-- what stands after a factor: a product goes on, or it ends
unfoldable pub by_product : {A : Type 0} → Sign → A → A → A
by_product Blank x y = y
by_product (Digit d) x y = y
by_product (Letter v) x y = y
by_product Open x y = y
by_product Close x y = y
by_product Plus x y = y
by_product Minus x y = y
by_product Times x y = x
by_product Less x y = y
by_product Equal x y = y
by_product Other x y = y

-- what stands after a bracket's expression
unfoldable pub by_close : {A : Type 0} → Sign → A → A → A
by_close Blank x y = y
by_close (Digit d) x y = y
by_close (Letter v) x y = y
by_close Open x y = y
by_close Close x y = x
by_close Plus x y = y
by_close Minus x y = y
by_close Times x y = y
by_close Less x y = y
by_close Equal x y = y
by_close Other x y = y

-- how a factor begins: a number, a letter, a bracket, a minus
unfoldable pub by_factor : {A : Type 0} → Sign → A → (ℕ → A) → A → A → A → A
by_factor Blank x f y z w = w
by_factor (Digit d) x f y z w = x
by_factor (Letter v) x f y z w = f v
by_factor Open x f y z w = y
by_factor Close x f y z w = w
by_factor Plus x f y z w = w
by_factor Minus x f y z w = z
by_factor Times x f y z w = w
by_factor Less x f y z w = w
by_factor Equal x f y z w = w
by_factor Other x f y z w = w
