-- What the joint list writes: as many records as the answer says, and how a table stands with the first of them written. Assumes nothing.
use mathlib.Core.Path.{◌≡◌, refl, sym, ap, ap₂, ◌∙◌, subst}
use mathlib.Core.Bool.{Bool, true, false, cond}
use mathlib.Core.List.{List, [], ◌∷◌, ◌++◌, map}
use Prim.Native.Nat.{ℕ, zero, suc, ◌+◌, ◌≤◌, ◌<◌}
use native.Mathlib.Numerals.{add-one}
use native.Mathlib.Omega.{arith}
use lib.Dec.{leb}
use lib.ListN.{length, get_or, take, drop, set, length-append, length-map, length-take, length-drop}
use borrow.Author.Tests.{leb-true}
use Rattle.formats.specs.Model.{Model}
use Rattle.formats.specs.Joint.{joints}
use Rattle.formats.specs.declared.Limits.{Limits}
use Rattle.rules.specs.Opening.{ModelOpened, opens, shut, open_model}
use Rattle.models.specs.Index.{components_from, model_from}
use Rattle.rules.specs.declared.Answer.{Answer}
use Rattle.rules.specs.declared.Joint.{Joint}
use Rattle.rules.specs.Marking.{answer, with_model}
use Rattle.rules.specs.Beside.{record_of, list_of, list_answer, filled, table_after}
use Rattle.joint_lists.specs.declared.Batch.{Batch}
use Rattle.joint_lists.specs.Records.{records_from, SheetIndex}
use Rattle.joint_lists.specs.Batches.{unpacked_of, records_in, Told}
use Rattle.rules.proofs.Calls.{list_by, table_by}
use Rattle.papers.specs.Paper.{Accepted}
use Rattle.joint_lists.proofs.RecordLaws.{whole-list}
use Rattle.joint_lists.proofs.BatchLaws.{none_told, told-length, words-told}

-- how many records are written, which, and what the table is afterwards
pub record Plan (limits : Limits) (model index : List ℕ) (count : ℕ) (table : List Joint) : Type 0 where
  pub records : List Joint
  pub whole : length records ≡ count
  pub fits : count ≤ length table
  pub usable : 0 < count → Accepted model index
  pub starts : 0 < count → records_from model index 0 0 ≡ records
  pub after : table_after limits model table ≡ records ++ drop count table

-- a model that opens is one
same-opened : {m n : Model} → opens m ≡ opens n → m ≡ n
same-opened e = cc

module _ (limits : Limits) (model index : List ℕ) (table : List Joint) (indexed : SheetIndex limits model index) where
  nothing : table_after limits model table ≡ table → Plan limits model index 0 table
  nothing e =
      record { records = []; whole = refl; fits = omega arith; usable = λ h. absurd (omega arith); starts = λ h. absurd (omega arith); after = e }

  module _ (m : Model) (e : open_model limits model ≡ opens m) where
    same : m.components ≡ components_from model index
    unfolding model_from
    same = ap (λ (n : Model). n.components) (same-opened (sym e ∙ (indexed.holds m e).opened))

    after_read : table_after limits model table ≡ filled (joints m.components) table
    unfolding table_after
    after_read = ap (table_by table) e

    records-read : records_from model index 0 0 ≡ map record_of (joints m.components)
    unfolding records_from
    records-read = ap (map record_of) (whole-list (components_from model index) ∙ ap joints (sym same))

    by-room : (b : Bool) → leb (length (joints m.components)) (length table) ≡ b → Plan limits model index (cond b (answer 0 0 (length model) (length (joints m.components)) 0) (answer 15 2 (length (joints m.components)) 0 0)).done table
    unfolding answer filled
    by-room true t =
        record {
          records = map record_of (joints m.components);
          whole = length-map (joints m.components) record_of;
          fits = leb-true (length (joints m.components)) (length table) t;
          usable = λ h. (indexed.holds m e).accepted;
          starts = λ h. records-read;
          after = after_read ∙ ap (λ (b : Bool). elim b [ true ↦ map record_of (joints m.components) ++ drop (length (joints m.components)) table | false ↦ table ]) t;
        }
    by-room false t = nothing (after_read ∙ ap (λ (b : Bool). elim b [ true ↦ map record_of (joints m.components) ++ drop (length (joints m.components)) table | false ↦ table ]) t)

  by-reading : (g : ModelOpened) → open_model limits model ≡ g → Plan limits model index (list_answer limits model (length table)).done table
  unfolding list_answer list_of with_model answer table_after
  by-reading (opens m) e =
      subst (λ (a : Answer). Plan limits model index a.done table) (sym (ap (list_by model (length table)) e))
      (by-room m e (leb (length (joints m.components)) (length table)) refl)
  by-reading (shut number sheet at) e =
      subst (λ (a : Answer). Plan limits model index a.done table) (sym (ap (list_by model (length table)) e)) (nothing (ap (table_by table) e))

  pub plan : (a : Answer) (count : ℕ) → a ≡ list_answer limits model (length table) → count ≡ a.done → Plan limits model index count table
  plan a count e c = subst (λ (n : ℕ). Plan limits model index n table) (ap (λ (b : Answer). b.done) (sym e) ∙ sym c) (by-reading (open_model limits model) refl)

-- a table with its first i records written
taken : (i : ℕ) (rs ts : List Joint) (j : Joint) (js : List Joint) → drop i rs ≡ j ∷ js → i < length ts → set (take i rs ++ drop i ts) i j ≡ take (suc i) rs ++ drop (suc i) ts
taken i rs [] j js e h = absurd (omega arith)
taken zero [] (t ∷ ts) j js e h = let z : ◌≡◌ {A = ℕ} 0 1 = cc in absurd (omega arith)
taken zero (r ∷ rs) (t ∷ ts) j js e h = ap (λ (k : Joint). k ∷ ts) (sym (ap (λ (xs : List Joint). elim xs [ [] ↦ r | y ∷ ys ↦ y ]) e))
taken (suc i) [] (t ∷ ts) j js e h = let z : ◌≡◌ {A = ℕ} 0 1 = cc in absurd (omega arith)
taken (suc i) (r ∷ rs) (t ∷ ts) j js e h = ap (λ (xs : List Joint). r ∷ xs) (taken i rs ts j js e (omega arith))

next-dropped : (i : ℕ) (rs : List Joint) (j : Joint) (js : List Joint) → drop i rs ≡ j ∷ js → drop (suc i) rs ≡ js
next-dropped zero [] j js e = let z : ◌≡◌ {A = ℕ} 0 1 = cc in absurd (omega arith)
next-dropped zero (r ∷ rs) j js e = ap (λ (xs : List Joint). elim xs [ [] ↦ rs | y ∷ ys ↦ ys ]) e
next-dropped (suc i) [] j js e = let z : ◌≡◌ {A = ℕ} 0 1 = cc in absurd (omega arith)
next-dropped (suc i) (r ∷ rs) j js e = next-dropped i rs j js e

module _ {limits : Limits} {model index : List ℕ} {count : ℕ} {table : List Joint} (p : Plan limits model index count table) where
  -- i records are written, and j of a batch's; the list goes on with the batch's others, then at the batch's place
  pub record Written (i j : ℕ) (b : Batch) (tab : List Joint) : Type 0 where
    pub within : i ≤ count
    pub tab-is : tab ≡ take i p.records ++ drop i table
    pub most : b.count ≤ 64
    pub inside : j ≤ b.count
    pub left : i < count → drop j (records_in b.words b.count) ++ records_from model index b.slot b.x ≡ drop i p.records

  pub written_none : (b : Batch) → (b.count ≡ 0) × ((b.slot ≡ 0) × (b.x ≡ 0)) → Written 0 0 b table
  written_none b e =
      record {
        within = omega arith;
        tab-is = refl;
        most = omega (arith, e.0);
        inside = omega arith;
        left = λ h. ap₂ (λ (rs ts : List Joint). rs ++ ts) (ap (records_in b.words) e.0 ∙ none_told b.words) (ap₂ (records_from model index) e.1.0 e.1.1) ∙ p.starts h;
      }

  module _ {i j : ℕ} {b : Batch} {tab : List Joint} (w : Written i j b tab) where
    pub written-length : length tab ≡ length table
    written-length =
        ap length w.tab-is
        ∙ length-append (take i p.records) (drop i table)
        ∙ sums
      where
        sums : length (take i p.records) + length (drop i table) ≡ length table
        sums = omega (arith, length-take i p.records, length-drop i table, p.whole, p.fits, w.within)

    module _ (long : length b.words ≡ 64) (h : i < count) where
      -- a batch that is written whole, and the next
      pub written-batch : j ≡ b.count → (next : Batch) → Told model index b.slot b.x next → Written i 0 next tab × (0 < next.count)
      written-batch e next t =
          let over : drop j (records_in b.words b.count) ≡ [] = dropped j (records_in b.words b.count) (omega (arith, told-length b.words b.count (omega (arith, w.most, long)), e)) in
          let on : records_from model index b.slot b.x ≡ drop i p.records = ap (λ (rs : List Joint). rs ++ records_from model index b.slot b.x) (sym over) ∙ w.left h in (
            record { within = w.within; tab-is = w.tab-is; most = t.1.0; inside = omega arith; left = λ k. sym t.0 ∙ on },
            t.1.1 (omega (arith, ap (λ (rs : List Joint). length rs) on, length-drop i p.records, p.whole)),
          )
        where
          dropped : (j : ℕ) (rs : List Joint) → length rs ≤ j → drop j rs ≡ []
          dropped zero [] l = refl
          dropped zero (r ∷ rs) l = absurd (omega arith)
          dropped (suc j) [] l = refl
          dropped (suc j) (r ∷ rs) l = dropped j rs (omega arith)

      -- one record more
      pub written_next : j < b.count → (r : Joint) → r ≡ unpacked_of (get_or b.words j 0) → Written (i + 1) (j + 1) b (set tab i r)
      written_next l r e =
          let rest = drop (suc j) (records_in b.words b.count) ++ records_from model index b.slot b.x in
          let first : drop i p.records ≡ r ∷ rest = sym (w.left h) ∙ ap (λ (rs : List Joint). rs ++ records_from model index b.slot b.x) (words-told b.words b.count j l (omega (arith, w.most, long)) ∙ ap (λ (k : Joint). k ∷ drop (suc j) (records_in b.words b.count)) (sym e)) in
          record {
            within = omega (arith, h);
            tab-is = ap (λ (ts : List Joint). set ts i r) w.tab-is ∙ taken i p.records table r _ first (omega (arith, h, p.fits)) ∙ ap (λ (k : ℕ). take k p.records ++ drop k table) (sym (add-one i));
            most = w.most;
            inside = omega arith;
            left = λ k. ap (λ (n : ℕ). drop n (records_in b.words b.count) ++ records_from model index b.slot b.x) (add-one j) ∙ sym (next-dropped i p.records r _ first) ∙ ap (λ (k : ℕ). drop k p.records) (sym (add-one i));
          }

    pub written_all : count ≤ i → tab ≡ table_after limits model table
    written_all h = w.tab-is ∙ ap₂ (λ (rs ts : List Joint). rs ++ ts) (all i p.records (omega (arith, p.whole, w.within))) (ap (λ (k : ℕ). drop k table) equal) ∙ sym p.after
      where
        all : (i : ℕ) (rs : List Joint) → length rs ≤ i → take i rs ≡ rs
        all zero [] l = refl
        all zero (r ∷ rs) l = absurd (omega arith)
        all (suc i) [] l = refl
        all (suc i) (r ∷ rs) l = ap (λ (xs : List Joint). r ∷ xs) (all i rs (omega arith))

        equal : i ≡ count
        equal = omega (arith, h, w.within)
