-- The fair rows of a condition are its one spelling: they are in lowest terms, no row stands twice, no row is lost or added, and two
-- conditions that give the same rows, in whatever order and however often, have the same fair rows. Assumes nothing.
use mathlib.Core.Path.{◌≡◌, refl, sym, ap, ap₂, ◌∙◌, subst}
use mathlib.Core.Logic.{⊎_elim}
use mathlib.Core.Bool.{Bool, true, false}
use mathlib.Core.List.Memᴰ
use mathlib.Core.List.{List, [], ◌∷◌, Memᴰ}
use lib.Dec.{T}
use lib.IntN.{ℤ}
use lib.Signed.{lt_z, lt_z_yes, ◌<ℤ◌, <ℤ_irrefl, <ℤ-≤ℤ_trans}
use Rattle.farkas.specs.Lists.{All, none, more}
use Rattle.farkas.specs.Rows.{Row}
use Rattle.farkas.proofs.Order.{≤-antisym}
use Rattle.farkas.proofs.Comparing.{<-most}
use Rattle.fair_rows.specs.FairRows.{divisor, numbers_of, never, fair_row, Order, lower, same, higher, order_of, first_of, order, keys_of, placed, insert, insert_all, fair_rows}
use Rattle.fair_rows.proofs.DivisorLaws.{zeros, divisor-zeros}
use Rattle.fair_rows.proofs.OrderLaws.{lower-same, lower-higher, not-lt, row_same, first, before, Ascending, rise, insert-all-keeps}
use Rattle.fair_rows.proofs.FairLaws.{fair-row-cases, fair-ascending, once}

-- What it is for one list of numbers to stand before another: it ends first, or its next number is less, or the next numbers are the same
-- and its rest stands before the other's
data Lower : List ℤ → List ℤ → Type 0 where
  ended : {y : ℤ} {ys : List ℤ} → Lower [] (y ∷ ys)
  less : {x y : ℤ} {xs ys : List ℤ} → x <ℤ y → Lower (x ∷ xs) (y ∷ ys)
  later : {x y : ℤ} {xs ys : List ℤ} → x ≡ y → Lower xs ys → Lower (x ∷ xs) (y ∷ ys)

-- a test that holds, and one that does not
yes : (b : Bool) → T b → b ≡ true
yes true t = refl
yes false t = absurd t

no : (b : Bool) → (T b → ⊥) → b ≡ false
no true f = absurd (f tt)
no false f = refl

-- the order says lower only where that is so
lower-is : (xs ys : List ℤ) → order xs ys ≡ lower → Lower xs ys
unfolding order first_of order_of
lower-is [] [] h = lower-same (sym h)
lower-is [] (y ∷ ys) h = ended
lower-is (x ∷ xs) [] h = lower-higher (sym h)
lower-is (x ∷ xs) (y ∷ ys) h = go (lt_z x y) (lt_z y x) refl refl h (lower-is xs ys)
  where
    go : (a b : Bool) → lt_z x y ≡ a → lt_z y x ≡ b → first_of (order_of a b) (order xs ys) ≡ lower → (order xs ys ≡ lower → Lower xs ys) → Lower (x ∷ xs) (y ∷ ys)
    go true b e f h k = less (lt_z_yes (subst T (sym e) tt))
    go false true e f h k = lower-higher (sym h)
    go false false e f h k = later (≤-antisym x y (not-lt y x f) (not-lt x y e)) (k h)

-- a number is not less than itself
self : (x : ℤ) → lt_z x x ≡ false
self x = no (lt_z x x) (λ t. <ℤ_irrefl (lt_z_yes {a = x} {b = x} t))

-- and where that is so the order says lower
is-lower : {xs ys : List ℤ} → Lower xs ys → order xs ys ≡ lower
unfolding order first_of order_of
is-lower ended = refl
is-lower (less {x = x} {y = y} {xs = xs} {ys = ys} l) =
    ap (λ (a : Bool). first_of (order_of a (lt_z y x)) (order xs ys)) (yes (lt_z x y) l.lt)
is-lower (later {x = x} {y = y} {xs = xs} {ys = ys} e l) =
    subst (λ (z : ℤ). first_of (order_of (lt_z x z) (lt_z z x)) (order xs ys) ≡ lower) e
    (ap (λ (a : Bool). first_of (order_of a a) (order xs ys)) (self x) ∙ is-lower l)

-- two such steps make one
lower-trans : {xs ys zs : List ℤ} → Lower xs ys → Lower ys zs → Lower xs zs
lower-trans ended (less l) = ended
lower-trans ended (later e l) = ended
lower-trans (less {x = x} {y = y} h) (less {y = z} l) = less (<ℤ-≤ℤ_trans h (<-most y z l))
lower-trans (less {x = x} h) (later e l) = less (subst (λ (z : ℤ). x <ℤ z) e h)
lower-trans (later d h) (less {y = z} l) = less (subst (λ (w : ℤ). w <ℤ z) (sym d) l)
lower-trans (later d h) (later e l) = later (d ∙ e) (lower-trans h l)

-- What stands before a list that stands before a third stands before the third
pub order_trans : (xs ys zs : List ℤ) → order xs ys ≡ lower → order ys zs ≡ lower → order xs zs ≡ lower
order_trans xs ys zs h k = is-lower (lower-trans (lower-is xs ys h) (lower-is ys zs k))

-- A list stands to itself as the same
pub order-self : (xs : List ℤ) → order xs xs ≡ same
unfolding order first_of order_of
order-self [] = refl
order-self (x ∷ xs) = ap (λ (a : Bool). first_of (order_of a a) (order xs xs)) (self x) ∙ order-self xs

-- What holds of all holds of a member, what holds of each member holds of all, and what follows from it holds too
all_in : {P : Row → Type 0} {xs : List Row} {a : Row} → All P xs → Memᴰ a xs → P a
all_in {P = P} (more x rest) d = ⊎_elim (λ e. subst P (sym e) x) (λ k. all_in rest k) (Memᴰ.cases_cons d)
all_in none d = absurd (Memᴰ.not-nil d)

all-members : {P : Row → Type 0} (xs : List Row) → ((a : Row) → Memᴰ a xs → P a) → All P xs
all-members [] h = none
all-members (x ∷ xs) h = more (h x (Memᴰ.head refl)) (all-members xs (λ a d. h a (Memᴰ.tail d)))

all_so : {P Q : Row → Type 0} {xs : List Row} → ((a : Row) → P a → Q a) → All P xs → All Q xs
all_so f none = none
all_so f (more {a = a} p h) = more (f a p) (all_so f h)

-- Among ascending rows each stands before all that come after it, not only before the next
abbrev Before : Row → Row → Type 0
Before x y = order (keys_of x) (keys_of y) ≡ lower

pub ascending-all : {x : Row} {xs : List Row} → Ascending (x ∷ xs) → All (λ y. order (keys_of x) (keys_of y) ≡ lower) xs
ascending-all (rise first a) = none
ascending-all {x} (rise (before {y = y} e) a) =
    more e (all_so (λ z k. order_trans (keys_of x) (keys_of y) (keys_of z) e k) (ascending-all a))

-- so no row stands before itself, and none stands twice
not-before : (x : Row) → Before x x → ⊥
not-before x e = lower-same (sym e ∙ order-self (keys_of x))

pub ascending-once : {x : Row} {xs : List Row} → Ascending (x ∷ xs) → Memᴰ x xs → ⊥
ascending-once {x} a d = not-before x (all_in (ascending-all a) d)

-- Every fair row is in lowest terms: its numbers have no common divisor but 1, also where a row of zeros is given bound −1
lowest-row : (r : Row) → All (λ x. divisor (numbers_of x) ≡ 1) (fair_row r)
unfolding never numbers_of
lowest-row r =
    fair-row-cases (λ rs. All (λ x. divisor (numbers_of x) ≡ 1) rs) r
    (λ e f. none)
    (λ e f. more (sym (divisor-zeros 0 (zeros r.coefficients e))) none)
    (λ e. more (once r e) none)

pub fair-lowest : (rows : List Row) → All (λ r. divisor (numbers_of r) ≡ 1) (fair_rows rows)
unfolding fair_rows
fair-lowest [] = none
fair-lowest (r ∷ rows) = insert-all-keeps (fair_row r) (fair_rows rows) (lowest-row r) (fair-lowest rows)

-- Where a fair row comes from: some row of the condition, whose fair copy it is
pub record Source (rows : List Row) (r : Row) : Type 0 where
  pub of : Row
  pub member : Memᴰ of rows
  pub within : Memᴰ r (fair_row of)

source-later : {x : Row} {rows : List Row} (r : Row) → Source rows r → Source (x ∷ rows) r
source-later r w = record { of = w.of; member = Memᴰ.tail w.member; within = w.within }

-- every fair row has one
sources : (rows : List Row) → All (Source rows) (fair_rows rows)
unfolding fair_rows
sources [] = none
sources (r ∷ rows) =
    insert-all-keeps (fair_row r) (fair_rows rows)
    (all-members (fair_row r) (λ x d. record { of = r; member = Memᴰ.head refl; within = d }))
    (all_so source-later (sources rows))

-- No row is added: every fair row comes from a row of the condition
pub fair-from : (rows : List Row) (r : Row) → Memᴰ r (fair_rows rows) → Source rows r
fair-from rows r d = all_in (sources rows) d

-- What is inserted is there, also where it stood there before, and what was there stays
insert-in : (r : Row) (xs : List Row) → Memᴰ r (insert r xs)
unfolding insert placed
insert-in r [] = Memᴰ.head refl
insert-in r (x ∷ xs) = go (order (keys_of r) (keys_of x)) refl (insert-in r xs)
  where
    go : (o : Order) → order (keys_of r) (keys_of x) ≡ o → Memᴰ r (insert r xs) → Memᴰ r (placed o r x xs (insert r xs))
    go lower e d = Memᴰ.head refl
    go same e d = Memᴰ.head (row_same r x e)
    go higher e d = Memᴰ.tail d

insert-stays : (r y : Row) (xs : List Row) → Memᴰ y xs → Memᴰ y (insert r xs)
unfolding insert placed
insert-stays r y [] d = absurd (Memᴰ.not-nil d)
insert-stays r y (x ∷ xs) d = go (order (keys_of r) (keys_of x)) (insert-stays r y xs)
  where
    go : (o : Order) → (Memᴰ y xs → Memᴰ y (insert r xs)) → Memᴰ y (placed o r x xs (insert r xs))
    go lower f = Memᴰ.tail d
    go same f = d
    go higher f = ⊎_elim (λ e. Memᴰ.head e) (λ k. Memᴰ.tail (f k)) (Memᴰ.cases_cons d)

-- the same where several are inserted
insert-all-in : (y : Row) (rs xs : List Row) → Memᴰ y rs → Memᴰ y (insert_all rs xs)
unfolding insert_all
insert-all-in y [] xs d = absurd (Memᴰ.not-nil d)
insert-all-in y (r ∷ rs) xs d =
    ⊎_elim
    (λ e. subst (λ x. Memᴰ x (insert r (insert_all rs xs))) (sym e) (insert-in r (insert_all rs xs)))
    (λ k. insert-stays r y (insert_all rs xs) (insert-all-in y rs xs k))
    (Memᴰ.cases_cons d)

insert-all-stays : (y : Row) (rs xs : List Row) → Memᴰ y xs → Memᴰ y (insert_all rs xs)
unfolding insert_all
insert-all-stays y [] xs d = d
insert-all-stays y (r ∷ rs) xs d = insert-stays r y (insert_all rs xs) (insert-all-stays y rs xs d)

-- No row is lost: the fair copy of every row of the condition is among the fair rows
fair-holds : (rows : List Row) (x r : Row) → Memᴰ x rows → Memᴰ r (fair_row x) → Memᴰ r (fair_rows rows)
unfolding fair_rows
fair-holds [] x r d k = absurd (Memᴰ.not-nil d)
fair-holds (y ∷ rows) x r d k =
    ⊎_elim
    (λ e. insert-all-in r (fair_row y) (fair_rows rows) (subst (λ z. Memᴰ r (fair_row z)) e k))
    (λ w. insert-all-stays r (fair_row y) (fair_rows rows) (fair-holds rows x r w k))
    (Memᴰ.cases_cons d)

pub fair-into : (rows : List Row) (r : Row) → Source rows r → Memᴰ r (fair_rows rows)
fair-into rows r w = fair-holds rows w.of r w.member w.within

-- Ascending rows are told by which rows they are. Two such lists with the same rows begin with the same row, for if not each of the two
-- first rows would stand before the other
same_first :
    (x y : Row) (xs ys : List Row)
    → Ascending (x ∷ xs) → Ascending (y ∷ ys) → Memᴰ x (y ∷ ys) → Memᴰ y (x ∷ xs) → x ≡ y
same_first x y xs ys a b d k =
    ⊎_elim
    (λ e. e)
    (λ v. ⊎_elim
    (λ e. sym e)
    (λ w. absurd (not-before x (order_trans (keys_of x) (keys_of y) (keys_of x) (all_in (ascending-all a) w) (all_in (ascending-all b) v))))
    (Memᴰ.cases_cons k))
    (Memᴰ.cases_cons d)

-- and a row after the first of the one list comes after the first of the other
after_first :
    (x y : Row) (xs ys : List Row)
    → x ≡ y → Ascending (x ∷ xs) → ((r : Row) → Memᴰ r (x ∷ xs) → Memᴰ r (y ∷ ys))
    → (r : Row) → Memᴰ r xs → Memᴰ r ys
after_first x y xs ys e a f r d =
    ⊎_elim
    (λ q. absurd (ascending-once a (subst (λ z. Memᴰ z xs) (q ∙ sym e) d)))
    (λ k. k)
    (Memᴰ.cases_cons (f r (Memᴰ.tail d)))

-- so the two lists are the same
pub same_rows :
    (xs ys : List Row)
    → Ascending xs → Ascending ys
    → ((r : Row) → Memᴰ r xs → Memᴰ r ys) → ((r : Row) → Memᴰ r ys → Memᴰ r xs)
    → xs ≡ ys
same_rows [] [] a b f g = refl
same_rows [] (y ∷ ys) a b f g = absurd (Memᴰ.not-nil (g y (Memᴰ.head refl)))
same_rows (x ∷ xs) [] a b f g = absurd (Memᴰ.not-nil (f x (Memᴰ.head refl)))
same_rows (x ∷ xs) (y ∷ ys) (rise u a) (rise v b) f g =
    let e = same_first x y xs ys (rise u a) (rise v b) (f x (Memᴰ.head refl)) (g y (Memᴰ.head refl)) in
    ap₂ (λ (z : Row) (zs : List Row). z ∷ zs) e
    (same_rows xs ys a b (after_first x y xs ys e (rise u a) f) (after_first y x ys xs (sym e) (rise v b) g))

-- One spelling: two conditions that give the same rows have the same fair rows, in whatever order and however often theirs stand
pub one-spelling :
    (rows others : List Row)
    → ((r : Row) → Source rows r → Source others r) → ((r : Row) → Source others r → Source rows r)
    → fair_rows rows ≡ fair_rows others
one-spelling rows others f g =
    same_rows (fair_rows rows) (fair_rows others) (fair-ascending rows) (fair-ascending others)
    (λ r d. fair-into others r (f r (fair-from rows r d)))
    (λ r d. fair-into rows r (g r (fair-from others r d)))
