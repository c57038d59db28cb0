-- The joint switches of event 0, in lines: where a component that moves alone leads to, and what the loop over the components keeps up.
-- Assumes nothing.
use mathlib.Core.Path.{◌≡◌, refl, sym, ap, ap₂, ◌∙◌, subst}
use mathlib.Core.List.{List, [], ◌∷◌, ◌++◌}
use Prim.Native.Nat.{ℕ, zero, suc, ◌+◌, ◌*◌, ◌-◌, ◌/◌, ◌≤◌, ◌<◌}
use native.Mathlib.Decide.{dec_le}
use native.Mathlib.Nat.{mul-div_cancel_left}
use native.Mathlib.Omega.{arith}
use lib.ListN.{length, get_or, drop, set, replicate}
use Rattle.formats.specs.Model.{Component}
use Rattle.formats.specs.Locations.{location_count, modes_at, location_of}
use Rattle.formats.specs.Joint.{stays, leaving, all_staying, silent, four_switches}
use Rattle.formats.specs.Parts.{mode_after}
use Rattle.models.specs.Index.{entry, components_from, GoodIndex}
use Rattle.models.specs.Counts.{component_at, per_component}
use Rattle.joint_switches.specs.declared.slots.Part.{Part}
use Rattle.joint_switches.specs.declared.slots.Way.{Way}
use Rattle.joint_switches.specs.Slots.{no_way, way_landing, line_landing, landing_of, ListedAs, silent_in, leaving_by, Fitting, WaysAt, MoversAt, OtherLines}
use Rattle.formats.proofs.Locations.{Modes, no-modes, mode-and, modes-at, number_of}
use Rattle.formats.proofs.JointCounts.{silent-length, silent-now, silent-later, leaving-few}
use Rattle.formats.proofs.JointsInto.{target_of, target-step, staying-after, stays_after}
use Rattle.models.proofs.GoodIndexLaws.{components-drop, components-end, good-component, good-components}
use Rattle.joint_switches.proofs.JointLoops.{components_on, numbers_on, silent_on, per-component-drop, alone-four, one-more-stays}
use Rattle.joint_switches.proofs.TableLaws.{have-modes}
use Rattle.joint_switches.proofs.SlotLaws.{later-few, by-line}

-- One component moves: the others keep their part of the location's number
modes-drop : {components : List Component} {modes : List ℕ} → Modes components modes → (k : ℕ) → Modes (drop k components) (drop k modes)
modes-drop all zero = all
modes-drop no-modes (suc k) = no-modes
modes-drop (mode-and h rest) (suc k) = modes-drop rest k

module _ (c : Component) (cs : List Component) (m : ℕ) (ms : List ℕ) (i : ℕ) (others : Modes cs ms) where
  here-target : target_of (c ∷ cs) (m ∷ ms) (i ∷ all_staying cs) + m * location_count cs ≡ location_of (c ∷ cs) (m ∷ ms) + mode_after c m i * location_count cs
  unfolding target_of location_of
  here-target =
      let rest : target_of cs ms (all_staying cs) ≡ location_of cs ms = ap (location_of cs) (staying-after others) in
      omega (arith, target-step c cs m ms i (all_staying cs), rest)

  later-target : (d : Component) (components : List Component) (n : ℕ) (modes : List ℕ) (k : ℕ) → target_of components modes (replicate k stays ++ (i ∷ all_staying cs)) + m * location_count cs ≡ location_of components modes + mode_after c m i * location_count cs → target_of (d ∷ components) (n ∷ modes) (replicate (suc k) stays ++ (i ∷ all_staying cs)) + m * location_count cs ≡ location_of (d ∷ components) (n ∷ modes) + mode_after c m i * location_count cs
  unfolding location_of
  later-target d components n modes k e =
      let switches = replicate k stays ++ (i ∷ all_staying cs) in
      omega (arith, e, target-step d components n modes stays switches, ap (λ (x : ℕ). x * location_count components) (stays_after d n))

  -- behind so many components that stay
  pub alone-target : (k : ℕ) (components : List Component) (modes : List ℕ) → drop k components ≡ c ∷ cs → drop k modes ≡ m ∷ ms → target_of components modes (replicate k stays ++ (i ∷ all_staying cs)) + m * location_count cs ≡ location_of components modes + mode_after c m i * location_count cs
  alone-target zero components modes p q =
      subst (λ (xs : List Component). target_of xs modes (i ∷ all_staying cs) + m * location_count cs ≡ location_of xs modes + mode_after c m i * location_count cs) (sym p)
      (subst (λ (xs : List ℕ). target_of (c ∷ cs) xs (i ∷ all_staying cs) + m * location_count cs ≡ location_of (c ∷ cs) xs + mode_after c m i * location_count cs) (sym q) here-target)
  alone-target (suc k) [] modes p q = let z : ◌≡◌ {A = ℕ} 0 1 = cc in absurd (omega arith)
  alone-target (suc k) (d ∷ components) [] p q = let z : ◌≡◌ {A = ℕ} 0 1 = cc in absurd (omega arith)
  alone-target (suc k) (d ∷ components) (n ∷ modes) p q = later-target d components n modes k (alone-target k components modes p q)

  -- the component's part is no more than the whole
  pub part-below : (k : ℕ) (components : List Component) (modes : List ℕ) → drop k components ≡ c ∷ cs → drop k modes ≡ m ∷ ms → m * location_count cs ≤ location_of components modes
  unfolding location_of
  part-below zero components modes p q =
      subst (λ (xs : List Component). m * location_count cs ≤ location_of xs modes) (sym p) (subst (λ (xs : List ℕ). m * location_count cs ≤ location_of (c ∷ cs) xs) (sym q) (omega arith))
  part-below (suc k) [] modes p q = let z : ◌≡◌ {A = ℕ} 0 1 = cc in absurd (omega arith)
  part-below (suc k) (d ∷ components) [] p q = let z : ◌≡◌ {A = ℕ} 0 1 = cc in absurd (omega arith)
  part-below (suc k) (d ∷ components) (n ∷ modes) p q = omega (arith, part-below k components modes p q)

-- What a line tells
pub record LineTold (s index modes : List ℕ) (ways : List Way) (x : ℕ) : Type 0 where
  pub mover : (get_or ways x no_way).mover < 4
  pub line : line_landing ways x ≡ landing_of (components_from s index) (per_component index modes) (get_or (silent_in s index modes) x [])

-- The components before one have their lines; those of the others are still to come
pub record Passed (s index modes : List ℕ) (k at : ℕ) (ways : List Way) : Type 0 where
  pub few : at ≤ 32 * k
  pub rest : at + length (silent_on s index modes k) ≡ length (silent_in s index modes)
  pub later : (d : ℕ) → d < length (silent_on s index modes k) → get_or (silent_in s index modes) (at + d) [] ≡ replicate k stays ++ get_or (silent_on s index modes k) d []
  pub told : (x : ℕ) → x < at → LineTold s index modes ways x

pub passed_none : (s index modes : List ℕ) (ways : List Way) → Passed s index modes 0 0 ways
passed_none s index modes ways = record {
  few = omega arith;
  rest = omega arith;
  later = λ d h. ap (λ (n : ℕ). get_or (silent_in s index modes) n []) (nothing d);
  told = λ x h. absurd (omega arith);
}
  where
    nothing : (d : ℕ) → 0 + d ≡ d
    nothing d = omega arith

module _ {s index : List ℕ} (g : GoodIndex s index) (modes : List ℕ) (long : entry index 1 ≤ length modes) where
  -- how many locations the later components have
  pub unit-goes-on : (k n unit : ℕ) → k < entry index 1 → n ≡ length (component_at s index k).modes → unit ≡ location_count (components_on s index k) → unit / n ≡ location_count (components_on s index (k + 1))
  unfolding location_count
  unit-goes-on k n unit h p q =
      let some : 0 < n = omega (arith, p, (good-component g k h).least) in
      let product : unit ≡ n * location_count (components_on s index (k + 1)) = q ∙ ap location_count (components-drop s index k h) ∙ ap (λ (m : ℕ). m * location_count (components_on s index (k + 1))) (sym p) in
      ap (λ (m : ℕ). m / n) product ∙ mul-div_cancel_left (location_count (components_on s index (k + 1))) some

  module _ (location : ℕ) (below : location < location_count (components_from s index)) (here : per_component index modes ≡ modes_at (components_from s index) location) (k : ℕ) (h : k < entry index 1) where
    c : Component
    c = component_at s index k

    mode : ℕ
    mode = get_or modes k 0

    unit : ℕ
    unit = location_count (components_on s index (k + 1))

    whole : location_of (components_from s index) (per_component index modes) ≡ location
    whole = ap (location_of (components_from s index)) here ∙ number_of (have-modes (good-components g)) location below

    others : Modes (components_on s index (k + 1)) (numbers_on index modes (k + 1))
    others = modes-drop (subst (Modes (components_from s index)) (sym here) (modes-at (have-modes (good-components g)) location below)) (k + 1)

    pub mode-part : get_or modes k 0 * location_count (components_on s index (k + 1)) ≤ location
    mode-part =
        subst (λ (n : ℕ). get_or modes k 0 * location_count (components_on s index (k + 1)) ≤ n) whole
        (part-below (component_at s index k) (components_on s index (k + 1)) (get_or modes k 0) (numbers_on index modes (k + 1)) 0 others k (components_from s index) (per_component index modes) (components-drop s index k h) (per-component-drop index modes long k h))

    -- where a switch of the component leads
    landing : (i : ℕ) → location - mode * unit + mode_after c mode i * unit ≡ target_of (components_from s index) (per_component index modes) (replicate k stays ++ (i ∷ all_staying (components_on s index (k + 1))))
    unfolding c mode unit
    landing i =
        let law = alone-target c (components_on s index (k + 1)) mode (numbers_on index modes (k + 1)) i others k (components_from s index) (per_component index modes) (components-drop s index k h) (per-component-drop index modes long k h) in
        omega (arith, law, whole, mode-part)

    silent-here : silent_on s index modes k ≡ silent (c ∷ components_on s index (k + 1)) (mode ∷ numbers_on index modes (k + 1))
    unfolding c mode
    silent-here = ap₂ silent (components-drop s index k h) (per-component-drop index modes long k h)

    n : ℕ
    n = length (leaving c mode 0)

    counted : length (silent_on s index modes k) ≡ n + length (silent_on s index modes (k + 1))
    unfolding n c mode
    counted = ap length silent-here ∙ silent-length c (components_on s index (k + 1)) mode (numbers_on index modes (k + 1))

    few-here : n ≤ 32
    unfolding n c
    few-here = omega (arith, leaving-few c mode 0, (good-component g k h).few)

    module _ (part : Part) (is : ◌≡◌ {A = Part} part (record { k = k; mode = get_or modes k 0; e = 0; rest = location - get_or modes k 0 * location_count (components_on s index (k + 1)); unit = location_count (components_on s index (k + 1)) })) where
      pub silent-fits : location_count (components_from s index) ≤ 64 → Fitting s index part
      unfolding location_count
      silent-fits few =
          let product : length (component_at s index k).modes * location_count (components_on s index (k + 1)) ≡ location_count (components_on s index k) = sym (ap location_count (components-drop s index k h)) in
          subst (Fitting s index) (sym is) (record { inside = h; small = omega (arith, product, later-few g k, few, below, mode-part) })

      -- its lines: each tells a joint switch in which it moves alone
      module _ (at : ℕ) (ways after : List Way) (passed : Passed s index modes k at ways) (new : WaysAt s index part at (leaving_by s index part) after) (movers : MoversAt part.k at (length (leaving_by s index part)) after) (lines : OtherLines at ways after) where
        mine : leaving_by s index part ≡ leaving c mode 0
        unfolding c mode
        mine = ap (leaving_by s index) is

        old : (x : ℕ) → x < at → LineTold s index modes after x
        old x l =
            let w = passed.told x l in
            let same : get_or after x no_way ≡ get_or ways x no_way = lines.kept x (λ a b. omega arith) in
            record { mover = omega (arith, ap (λ (v : Way). v.mover) same, w.mover); line = ap way_landing same ∙ w.line }

        to : (d : ℕ) → d < length (leaving_by s index part) → (get_or after (at + d) no_way).landing ≡ location - mode * unit + mode_after c mode (get_or (leaving_by s index part) d stays) * unit
        unfolding c mode unit
        to d l =
            new.landings d l
            ∙ ap (λ (x : Part). x.rest + mode_after (component_at s index x.k) x.mode (get_or (leaving_by s index part) d stays) * x.unit) is

        joined : (x : ℕ) → set (replicate 4 stays) (get_or after x no_way).mover (get_or after x no_way).switch ≡ four_switches (get_or (silent_in s index modes) x []) → (get_or after x no_way).landing ≡ target_of (components_from s index) (per_component index modes) (get_or (silent_in s index modes) x []) → line_landing after x ≡ landing_of (components_from s index) (per_component index modes) (get_or (silent_in s index modes) x [])
        unfolding landing_of target_of
        joined x a b = λ i. record { switches = a i; target = b i }

        fresh : (d : ℕ) → d < n → LineTold s index modes after (at + d)
        unfolding n
        fresh d l =
            let i = get_or (leaving c mode 0) d stays in
            let inside : d < length (leaving_by s index part) = omega (arith, l, ap length mine) in
            let same : get_or (leaving_by s index part) d stays ≡ i = ap (λ xs. get_or xs d stays) mine in
            let mover : (get_or after (at + d) no_way).mover ≡ k = movers.movers d inside ∙ ap (λ (x : Part). x.k) is in
            let switch : (get_or after (at + d) no_way).switch ≡ i = new.switches d inside ∙ same in
            let target : (get_or after (at + d) no_way).landing ≡ location - mode * unit + mode_after c mode i * unit = to d inside ∙ ap (λ (j : ℕ). location - mode * unit + mode_after c mode j * unit) same in
            let this : get_or (silent_in s index modes) (at + d) [] ≡ replicate k stays ++ (i ∷ all_staying (components_on s index (k + 1))) =
            passed.later d (omega (arith, l, counted))
            ∙ ap (λ xs. replicate k stays ++ xs) (ap (λ xs. get_or xs d []) silent-here ∙ silent-now c (components_on s index (k + 1)) mode (numbers_on index modes (k + 1)) d [] l) in
            let four : set (replicate 4 stays) (get_or after (at + d) no_way).mover (get_or after (at + d) no_way).switch ≡ four_switches (get_or (silent_in s index modes) (at + d) []) =
            ap₂ (λ (a b : ℕ). set (replicate 4 stays) a b) mover switch ∙ sym (ap four_switches this ∙ alone-four k i (components_on s index (k + 1)) (omega (arith, g.few))) in
            let there : (get_or after (at + d) no_way).landing ≡ target_of (components_from s index) (per_component index modes) (get_or (silent_in s index modes) (at + d) []) =
            target ∙ landing i ∙ sym (ap (target_of (components_from s index) (per_component index modes)) this) in
            record { mover = omega (arith, mover, g.few); line = joined (at + d) four there }

        either : (x : ℕ) → x < at + n → Dec (at ≤ x) → LineTold s index modes after x
        either x l (yes a) = subst (LineTold s index modes after) (split at x a) (fresh (x - at) (omega (arith, l, a)))
          where
            split : (at x : ℕ) → at ≤ x → at + (x - at) ≡ x
            split at x a = omega arith
        either x l (no f) = old x (omega (arith, f))

        onward : (d : ℕ) → d < length (silent_on s index modes (k + 1)) → get_or (silent_in s index modes) (at + n + d) [] ≡ replicate (k + 1) stays ++ get_or (silent_on s index modes (k + 1)) d []
        unfolding n
        onward d l =
            let cs = components_on s index (k + 1) in
            let ms = numbers_on index modes (k + 1) in
            let all : n + d < length (silent (c ∷ cs) (mode ∷ ms)) = omega (arith, l, counted, ap length silent-here) in
            ap (λ (x : ℕ). get_or (silent_in s index modes) x []) (grouped at n d)
            ∙ passed.later (n + d) (omega (arith, l, counted))
            ∙ ap (λ xs. replicate k stays ++ xs)
            (ap (λ xs. get_or xs (n + d) []) silent-here ∙ silent-later c cs mode ms (n + d) [] (omega arith) all ∙ ap (λ (x : ℕ). stays ∷ get_or (silent cs ms) x []) (less n d))
            ∙ sym (one-more-stays k (get_or (silent cs ms) d []))
          where
            grouped : (a b d : ℕ) → a + b + d ≡ a + (b + d)
            grouped a b d = omega arith

            less : (n d : ℕ) → n + d - n ≡ d
            less n d = omega arith

        pub passed_on : (next : ℕ) → next ≡ at + length (leaving_by s index part) → Passed s index modes (k + 1) next after
        unfolding n
        passed_on next q =
            let same : next ≡ at + n = q ∙ ap (λ xs. at + length xs) mine in
            subst (λ (x : ℕ). Passed s index modes (k + 1) x after) (sym same) (record {
              few = omega (arith, passed.few, few-here);
              rest = omega (arith, passed.rest, counted);
              later = onward;
              told = λ x l. either x l (dec_le at x);
            })

  -- all components have their lines
  pub listed-silent : (k at : ℕ) (ways : List Way) (counts : List ℕ) → 128 ≤ length ways → k ≡ entry index 1 → Passed s index modes k at ways → ListedAs (silent_in s index modes) s index modes 0 ways (record { e = 0; count = at; ways = counts })
  unfolding silent
  listed-silent k at ways counts wide end w =
      let none : length (silent_on s index modes k) ≡ 0 = ap (λ (i : ℕ). length (silent_on s index modes i)) end ∙ ap (λ components. length (silent components (numbers_on index modes (entry index 1)))) (components-end s index) in
      let few : at ≤ 128 = omega (arith, w.few, end, g.few) in
      record {
        event = refl;
        counted = omega (arith, w.rest, none);
        ready = record {
          few = g.few;
          long = wide;
          lines = λ z. record { few = few; movers = λ x h. (w.told x h).mover };
          digits = λ z h. absurd (z refl);
        };
        landings = λ x h. by-line index (record { e = 0; count = at; ways = counts }) ways x refl ∙ (w.told x h).line;
      }
