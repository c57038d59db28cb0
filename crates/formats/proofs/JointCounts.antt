-- How many locations and joint switches there are, and which one has a number: a law for each way in which the definitions make a list.
-- Assumes nothing.
use mathlib.Core.Path.{◌≡◌, refl, sym, ap, ◌∙◌}
use mathlib.Core.Bool.{Bool, true, false, cond}
use mathlib.Core.List.{List, [], ◌∷◌, ◌++◌, map, append-nil}
use Prim.Native.Nat.{ℕ, zero, suc, ◌+◌, ◌*◌, ◌-◌, ◌/◌, ◌%◌, ◌^◌, ◌≤◌, ◌<◌}
use native.Mathlib.Decide.{dec_le}
use native.Mathlib.Nat.{le_trans, mod-lt, mod-eq_of_lt, mod-eq-sub-mod, div-eq_of_lt, div-eq-sub-div, mul-pos, mul-le-mul, pow-succ', two-pow-succ, add_comm, mul_comm, zero-mul, mul-zero, suc-mul}
use native.Mathlib.Numerals.{add-one}
use native.Mathlib.Omega.{arith}
use lib.Arith.{mod-mul, digits_div, digits_mod}
use lib.Count.{ones, ones_cat}
use lib.ListN.{length, get_or, drop, length-append, length-map, drop_of_length-le, get_or-append}
use lib.Seq.{drop-cons, get_or-append-add}
use Rattle.farkas.specs.Lists.{All, none, more}
use Rattle.formats.specs.Model.{Component, has_event}
use Rattle.formats.specs.Locations.{location_count, modes_at}
use Rattle.formats.specs.Joint.{stays, switch_of, leaves, bit, scope_mask, mover_count, numbers_from, leaving, all_staying, silent, in_front, together, switches_of, count_up, join_all, JointSwitch, joints_of}
use Rattle.formats.specs.Parts.{parts, member_count}

-- few modes each, few locations
pub count_most : {components : List Component} → All (λ c. length c.modes ≤ 8) components → location_count components ≤ 8 ^ length components
unfolding location_count
count_most none = omega arith
count_most (more {xs = components} h rest) = rw pow-succ' (mul-le-mul h (count_most rest))

-- the scope mask has as many digits as there are components
mask_step : (b : Bool) {mask most : ℕ} → mask < most → bit b + 2 * mask < most + most
unfolding bit
mask_step true h = omega arith
mask_step false h = omega arith

pub mask_below : (components : List Component) (e : ℕ) → scope_mask components e < 2 ^ length components
unfolding scope_mask
mask_below [] e = omega arith
mask_below (c ∷ components) e = rw two-pow-succ (mask_step (has_event c.alphabet e) (mask_below components e))

-- as many components move together as have the event in their alphabet
ones_step : (b : Bool) (mask : ℕ) → ones (bit b + 2 * mask) ≡ bit b + ones mask
unfolding bit ones
ones_step true mask = ap ones (turned mask) ∙ ones_cat 1 mask 1 (omega arith) ∙ add_comm (ones mask) 1
  where
    turned : (mask : ℕ) → 1 + 2 * mask ≡ mask * 2 + 1
    turned mask = omega arith
ones_step false mask = ap ones (turned mask) ∙ ones_cat 1 mask 0 (omega arith) ∙ add_comm (ones mask) 0
  where
    turned : (mask : ℕ) → 0 + 2 * mask ≡ mask * 2 + 0
    turned mask = omega arith

pub mask-members : (components : List Component) (e : ℕ) → mover_count components e ≡ member_count components e
unfolding mover_count scope_mask member_count ones
mask-members [] e = refl
mask-members (c ∷ components) e =
    ones_step (has_event c.alphabet e) (scope_mask components e)
    ∙ ap (λ (n : ℕ). bit (has_event c.alphabet e) + n) (mask-members components e)

-- the numbers of the elements that pass a test: how many there are
numbers-step : (b : Bool) (i : ℕ) (rest : List ℕ) → length (cond b (i ∷ rest) rest) ≡ bit b + length rest
unfolding bit
numbers-step true i rest = omega arith
numbers-step false i rest = omega arith

pub numbers-length : {A : Type 0} (i : ℕ) (test : A → Bool) (x : A) (xs : List A) → length (numbers_from i test (x ∷ xs)) ≡ bit (test x) + length (numbers_from (i + 1) test xs)
unfolding numbers_from
numbers-length i test x xs =
    numbers-step (test x) i (numbers_from (suc i) test xs)
    ∙ ap (λ (k : ℕ). bit (test x) + length (numbers_from k test xs)) (sym (add-one i))

bit-few : (b : Bool) → bit b ≤ 1
unfolding bit
bit-few true = omega arith
bit-few false = omega arith

numbers-few : {A : Type 0} (i : ℕ) (test : A → Bool) (xs : List A) → length (numbers_from i test xs) ≤ length xs
unfolding numbers_from
numbers-few i test [] = omega arith
numbers-few i test (x ∷ xs) = omega (arith, numbers-length i test x xs, bit-few (test x), numbers-few (i + 1) test xs)

pub leaving-few : (c : Component) (mode e : ℕ) → length (leaving c mode e) ≤ length c.switches
unfolding leaving
leaving-few c mode e = numbers-few 0 (leaves mode e) c.switches

-- which one has a number
numbers-skip : {A : Type 0} (i : ℕ) (test : A → Bool) (x : A) (xs : List A) (n d : ℕ) → test x ≡ false → get_or (numbers_from i test (x ∷ xs)) n d ≡ get_or (numbers_from (i + 1) test xs) n d
unfolding numbers_from
numbers-skip i test x xs n d e = rw (e, add-one) refl

numbers-first : {A : Type 0} (i : ℕ) (test : A → Bool) (x : A) (xs : List A) (n d : ℕ) → test x ≡ true → n ≡ 0 → get_or (numbers_from i test (x ∷ xs)) n d ≡ i
unfolding numbers_from
numbers-first i test x xs n d e h = rw (e, h) refl

numbers-later : {A : Type 0} (i : ℕ) (test : A → Bool) (x : A) (xs : List A) (n d : ℕ) → test x ≡ true → (n ≡ 0 → ⊥) → get_or (numbers_from i test (x ∷ xs)) n d ≡ get_or (numbers_from (i + 1) test xs) (n - 1) d
unfolding numbers_from
numbers-later i test x xs zero d e h = absurd (h refl)
numbers-later i test x xs (suc n) d e h = rw (e, add-one i) (ap (λ (k : ℕ). get_or (numbers_from (suc i) test xs) k d) (one_less n))
  where
    one_less : (n : ℕ) → n ≡ suc n - 1
    one_less n = omega arith

-- the silent ones
pub silent-length : (c : Component) (components : List Component) (mode : ℕ) (modes : List ℕ) → length (silent (c ∷ components) (mode ∷ modes)) ≡ length (leaving c mode 0) + length (silent components modes)
unfolding silent
silent-length c components mode modes = simp (length-append, length-map)

pub silent-most : {components : List Component} → All (λ c. length c.switches ≤ 32) components → (modes : List ℕ) → length (silent components modes) ≤ 32 * length components
unfolding silent
silent-most none modes = omega arith
silent-most (more {xs = components} h rest) [] = omega arith
silent-most (more {a = c} {xs = components} h rest) (mode ∷ modes) =
    omega (arith, silent-length c components mode modes, leaving-few c mode 0, silent-most rest modes)

-- those of an event: every component has its part, and the parts are put together in every way
front_length : (numbers : List ℕ) (rest : List (List ℕ)) → length (in_front numbers rest) ≡ length numbers * length rest
unfolding in_front
front_length [] rest = sym (zero-mul (length rest))
front_length (i ∷ numbers) rest =
    simp (length-append, length-map, front_length numbers rest) (add_comm (length rest) (length numbers * length rest) ∙ sym (suc-mul (length numbers) (length rest)))

parts-front : (b : Bool) (numbers : List ℕ) (rest : List (List ℕ)) → cond b (in_front numbers rest) (map (λ xs. stays ∷ xs) rest) ≡ in_front (cond b numbers (stays ∷ [])) rest
unfolding in_front
parts-front true numbers rest = refl
parts-front false numbers rest = sym (append-nil (map (λ xs. stays ∷ xs) rest))

pub parts-member : (c : Component) (mode e : ℕ) {b : Bool} → b ≡ has_event c.alphabet e → b ≡ true → parts c mode e ≡ leaving c mode e
unfolding parts
parts-member c mode e p q = ap (λ b. cond b (leaving c mode e) (stays ∷ [])) (sym p ∙ q)

pub parts-other : (c : Component) (mode e : ℕ) {b : Bool} → b ≡ has_event c.alphabet e → b ≡ false → parts c mode e ≡ stays ∷ []
unfolding parts
parts-other c mode e p q = ap (λ b. cond b (leaving c mode e) (stays ∷ [])) (sym p ∙ q)

together-front : (c : Component) (components : List Component) (mode : ℕ) (modes : List ℕ) (e : ℕ) → together (c ∷ components) (mode ∷ modes) e ≡ in_front (parts c mode e) (together components modes e)
unfolding together parts
together-front c components mode modes e = parts-front (has_event c.alphabet e) (leaving c mode e) (together components modes e)

pub together-length : (c : Component) (components : List Component) (mode : ℕ) (modes : List ℕ) (e : ℕ) → length (together (c ∷ components) (mode ∷ modes) e) ≡ length (parts c mode e) * length (together components modes e)
together-length c components mode modes e =
    ap length (together-front c components mode modes e) ∙ front_length (parts c mode e) (together components modes e)

parts-step : (b : Bool) (numbers : List ℕ) → length numbers ≤ 32 → length (cond b numbers (stays ∷ [])) ≤ 32
parts-step true numbers h = h
parts-step false numbers h = omega arith

pub parts-few : (c : Component) (mode e : ℕ) → length c.switches ≤ 32 → length (parts c mode e) ≤ 32
unfolding parts
parts-few c mode e h = parts-step (has_event c.alphabet e) (leaving c mode e) (le_trans (leaving-few c mode e) h)

pub together-most : {components : List Component} → All (λ c. length c.switches ≤ 32) components → (modes : List ℕ) (e : ℕ) → length (together components modes e) ≤ 32 ^ length components
unfolding together
together-most none modes e = omega arith
together-most (more {xs = components} h rest) [] e = omega arith
together-most (more {a = c} {xs = components} h rest) (mode ∷ modes) e =
    rw (together-length c components mode modes e, pow-succ') (mul-le-mul (parts-few c mode e h) (together-most rest modes e))

-- where there are some, there are some of the later components
right_positive : (a b : ℕ) → 0 < a * b → 0 < b
right_positive a zero h = absurd (omega (arith, mul-zero a))
right_positive a (suc b) h = omega arith

pub left-positive : (a b : ℕ) → 0 < a * b → 0 < a
left-positive a b h = right_positive b a (omega (arith, mul_comm a b))

pub together-some : (components : List Component) (modes : List ℕ) (e k : ℕ) → 0 < length (together components modes e) → 0 < length (together (drop k components) (drop k modes) e)
unfolding together
together-some components modes e zero h = h
together-some [] modes e (suc k) h = omega arith
together-some (c ∷ components) [] e (suc k) h = absurd (omega arith)
together-some (c ∷ components) (mode ∷ modes) e (suc k) h =
    together-some components modes e k
    (right_positive (length (parts c mode e)) (length (together components modes e)) (rw together-length at h))

-- none where the later components have none
zero-too : (n m : ℕ) → (0 < n → 0 < m) → 0 ≡ m → n ≡ 0
zero-too zero m f h = refl
zero-too (suc n) m f h = absurd (omega (arith, f (omega arith)))

pub none-later : (components : List Component) (modes : List ℕ) (e k : ℕ) → 0 ≡ length (together (drop k components) (drop k modes) e) → 0 ≡ length (together components modes e)
none-later components modes e k p =
    sym (zero-too (length (together components modes e)) (length (together (drop k components) (drop k modes) e)) (together-some components modes e k) p)

-- which one has a number
pub mapped_at : {A B : Type 0} (f : A → B) (xs : List A) (i : ℕ) (a : A) (b : B) → i < length xs → get_or (map f xs) i b ≡ f (get_or xs i a)
mapped_at f [] i a b h = absurd (omega arith)
mapped_at f (x ∷ xs) zero a b h = refl
mapped_at f (x ∷ xs) (suc i) a b h = mapped_at f xs i a b (omega arith)

get_or-later : {A : Type 0} (xs ys : List A) (i : ℕ) (d : A) → length xs ≤ i → get_or (xs ++ ys) i d ≡ get_or ys (i - length xs) d
get_or-later xs ys i d h = ap (λ (k : ℕ). get_or (xs ++ ys) k d) (split i (length xs) h) ∙ get_or-append-add xs ys (i - length xs) d
  where
    split : (i n : ℕ) → n ≤ i → i ≡ n + (i - n)
    split i n h = omega arith

pub silent-now : (c : Component) (components : List Component) (mode : ℕ) (modes : List ℕ) (x : ℕ) (d : List ℕ) → x < length (leaving c mode 0) → get_or (silent (c ∷ components) (mode ∷ modes)) x d ≡ get_or (leaving c mode 0) x stays ∷ all_staying components
unfolding silent
silent-now c components mode modes x d h =
    get_or-append (map (λ i. i ∷ all_staying components) (leaving c mode 0)) (map (λ xs. stays ∷ xs) (silent components modes)) d x (simp length-map h)
    ∙ mapped_at (λ i. i ∷ all_staying components) (leaving c mode 0) x stays d h

pub silent-later : (c : Component) (components : List Component) (mode : ℕ) (modes : List ℕ) (x : ℕ) (d : List ℕ) → length (leaving c mode 0) ≤ x → x < length (silent (c ∷ components) (mode ∷ modes)) → get_or (silent (c ∷ components) (mode ∷ modes)) x d ≡ stays ∷ get_or (silent components modes) (x - length (leaving c mode 0)) d
unfolding silent
silent-later c components mode modes x d h l =
    let n = length (leaving c mode 0) in
    let first = map (λ i. i ∷ all_staying components) (leaving c mode 0) in
    let same : length first ≡ n = length-map (leaving c mode 0) (λ i. i ∷ all_staying components) in
    let b : x - n < length (silent components modes) = omega (arith, silent-length c components mode modes) in
    get_or-later first (map (λ xs. stays ∷ xs) (silent components modes)) x d (omega arith)
    ∙ ap (λ (k : ℕ). get_or (map (λ xs. stays ∷ xs) (silent components modes)) (x - k) d) same
    ∙ mapped_at (λ xs. stays ∷ xs) (silent components modes) (x - n) d d b

-- by its digits: the part of the first component, and the rest
front-step : (i : ℕ) (numbers : List ℕ) (rest : List (List ℕ)) (y : ℕ) (d : List ℕ) → Dec (length rest ≤ y) → 0 < length rest → (length rest ≤ y → get_or (in_front numbers rest) (y - length rest) d ≡ get_or numbers ((y - length rest) / length rest) stays ∷ get_or rest ((y - length rest) % length rest) d) → get_or (map (λ xs. i ∷ xs) rest ++ in_front numbers rest) y d ≡ get_or (i ∷ numbers) (y / length rest) stays ∷ get_or rest (y % length rest) d
front-step i numbers rest y d (yes l) h later =
    let first = map (λ xs. i ∷ xs) rest in
    let n = length rest in
    let same : length first ≡ n = length-map rest (λ xs. i ∷ xs) in
    get_or-later first (in_front numbers rest) y d (omega arith)
    ∙ ap (λ (k : ℕ). get_or (in_front numbers rest) (y - k) d) same
    ∙ later l
    ∙ rw (div-eq-sub-div h l, mod-eq-sub-mod l, add-one) refl
front-step i numbers rest y d (no f) h later =
    let l : y < length rest = omega arith in
    get_or-append (map (λ xs. i ∷ xs) rest) (in_front numbers rest) d y (simp length-map l)
    ∙ mapped_at (λ xs. i ∷ xs) rest y d d l
    ∙ rw (div-eq_of_lt l, mod-eq_of_lt l) refl

front_at : (numbers : List ℕ) (rest : List (List ℕ)) (y : ℕ) (d : List ℕ) → 0 < length rest → y < length numbers * length rest → get_or (in_front numbers rest) y d ≡ get_or numbers (y / length rest) stays ∷ get_or rest (y % length rest) d
unfolding in_front
front_at [] rest y d h l = absurd (omega (arith, zero-mul (length rest)))
front_at (i ∷ numbers) rest y d h l =
    front-step i numbers rest y d (dec_le (length rest) y) h
    (λ w. front_at numbers rest (y - length rest) d h (omega (arith, suc-mul (length numbers) (length rest))))

-- two digits of a number: the last is its remainder, the one before that of its quotient
digit-high : (x : ℕ) {n u : ℕ} → 0 < n → 0 < u → x % (n * u) / u ≡ x / u % n
digit-high x {n} {u} h k = rw (mod-mul x h k) (digits_div (x / u % n) (mod-lt x k))

digit_low : (x : ℕ) {n u : ℕ} → 0 < n → 0 < u → x % (n * u) % u ≡ x % u
digit_low x {n} {u} h k = rw (mod-mul x h k) (digits_mod (x / u % n) (mod-lt x k))

pub modes-digit : (c : Component) (components : List Component) (location : ℕ) → 0 < length c.modes → 0 < location_count components → modes_at (c ∷ components) (location % location_count (c ∷ components)) ≡ (location / location_count components % length c.modes) ∷ modes_at components (location % location_count components)
unfolding location_count modes_at
modes-digit c components location h k = rw (digit-high location h k, digit_low location h k) refl

pub together-digit : (c : Component) (components : List Component) (mode : ℕ) (modes : List ℕ) (e x : ℕ) (d : List ℕ) → 0 < length (parts c mode e) → 0 < length (together components modes e) → get_or (together (c ∷ components) (mode ∷ modes) e) (x % length (together (c ∷ components) (mode ∷ modes) e)) d ≡ get_or (parts c mode e) (x / length (together components modes e) % length (parts c mode e)) stays ∷ get_or (together components modes e) (x % length (together components modes e)) d
together-digit c components mode modes e x d h k =
    let n = length (parts c mode e) in
    let u = length (together components modes e) in
    ap (λ (m : ℕ). get_or (together (c ∷ components) (mode ∷ modes) e) (x % m) d) (together-length c components mode modes e)
    ∙ ap (λ xs. get_or xs (x % (n * u)) d) (together-front c components mode modes e)
    ∙ front_at (parts c mode e) (together components modes e) (x % (n * u)) d k (mod-lt x (mul-pos h k))
    ∙ rw (digit-high x h k, digit_low x h k) refl

-- the joint switches of an event: the silent ones for event 0, none for an empty scope, and else those of the members together
pub switches-silent : (components : List Component) (modes : List ℕ) (e : ℕ) → e ≡ 0 → switches_of components modes e ≡ silent components modes
unfolding switches_of
switches-silent components modes e h = rw h refl

some_or_none : (b : Bool) (xs : List (List ℕ)) (x : ℕ) → x < length (cond b [] xs) → cond b [] xs ≡ xs
some_or_none true xs x h = absurd (omega arith)
some_or_none false xs x h = refl

-- lists that are joined: their length is told by the lengths of their parts
pub joined_same : {A B C : Type 0} (f : A → List B) (g : A → List C) (xs : List A) → ((a : A) → length (f a) ≡ length (g a)) → length (join_all f xs) ≡ length (join_all g xs)
unfolding join_all
joined_same f g [] h = refl
joined_same f g (a ∷ xs) h = simp length-append (omega (arith, h a, joined_same f g xs h))

pub event-length : (components : List Component) (location e : ℕ) → length (joints_of components location e) ≡ length (switches_of components (modes_at components location) e)
unfolding joints_of
event-length components location e = length-map (switches_of components (modes_at components location) e) _

-- all joint switches of a location
abbrev pub joints_in : List Component → ℕ → List JointSwitch
joints_in components location = join_all (joints_of components location) (count_up 0 16)

pub location-length : (components : List Component) (location : ℕ) → length (joints_in components location) ≡ length (join_all (switches_of components (modes_at components location)) (count_up 0 16))
location-length components location =
    joined_same (joints_of components location) (switches_of components (modes_at components location)) (count_up 0 16) (event-length components location)

-- of the numbers from one on, up to another: the first, then the rest
one_less : (i n : ℕ) → i < n → n - i ≡ suc (n - (i + 1))
one_less i n h = omega arith

-- the switches of a component that leave a mode, from one switch on
module _ (c : Component) (mode e : ℕ) where
  abbrev pub leaving_from : ℕ → List ℕ
  leaving_from i = numbers_from i (leaves mode e) (drop i c.switches)

  switches-next : (i : ℕ) → i < length c.switches → drop i c.switches ≡ switch_of c i ∷ drop (i + 1) c.switches
  unfolding switch_of
  switches-next i h = drop-cons c.switches i _ h ∙ ap (λ (k : ℕ). switch_of c i ∷ drop k c.switches) (sym (add-one i))

  leaving-next : (i : ℕ) → i < length c.switches → leaving_from i ≡ numbers_from i (leaves mode e) (switch_of c i ∷ drop (i + 1) c.switches)
  leaving-next i h = ap (numbers_from i (leaves mode e)) (switches-next i h)

  pub leaving-all : leaving_from 0 ≡ leaving c mode e
  unfolding leaving
  leaving-all = refl

  pub leaving-none : (i : ℕ) → length c.switches ≤ i → leaving_from i ≡ []
  unfolding numbers_from
  leaving-none i h = ap (numbers_from i (leaves mode e)) (drop_of_length-le c.switches h)

  -- how many
  pub leaving-count : (i n : ℕ) {b : Bool} → i < length c.switches → b ≡ leaves mode e (switch_of c i) → n ≡ bit b → length (leaving_from i) ≡ n + length (leaving_from (i + 1))
  leaving-count i n h q k =
      ap length (leaving-next i h)
      ∙ numbers-length i (leaves mode e) (switch_of c i) (drop (i + 1) c.switches)
      ∙ ap (λ (b : ℕ). b + length (leaving_from (i + 1))) (sym (k ∙ ap bit q))

  -- which
  pub leaving-skip : (i n d : ℕ) {b : Bool} → i < length c.switches → b ≡ leaves mode e (switch_of c i) → b ≡ false → get_or (leaving_from i) n d ≡ get_or (leaving_from (i + 1)) n d
  leaving-skip i n d h q k =
      ap (λ xs. get_or xs n d) (leaving-next i h) ∙ numbers-skip i (leaves mode e) (switch_of c i) (drop (i + 1) c.switches) n d (sym q ∙ k)

  pub leaving-first : (i n d : ℕ) {b : Bool} → i < length c.switches → b ≡ leaves mode e (switch_of c i) → b ≡ true → n ≡ 0 → get_or (leaving_from i) n d ≡ i
  leaving-first i n d h q k l =
      ap (λ xs. get_or xs n d) (leaving-next i h) ∙ numbers-first i (leaves mode e) (switch_of c i) (drop (i + 1) c.switches) n d (sym q ∙ k) l

  pub leaving-later : (i n d : ℕ) {b : Bool} → i < length c.switches → b ≡ leaves mode e (switch_of c i) → b ≡ true → (n ≡ 0 → ⊥) → get_or (leaving_from i) n d ≡ get_or (leaving_from (i + 1)) (n - 1) d
  leaving-later i n d h q k l =
      ap (λ xs. get_or xs n d) (leaving-next i h) ∙ numbers-later i (leaves mode e) (switch_of c i) (drop (i + 1) c.switches) n d (sym q ∙ k) l
