-- Two computations of which the first does what the second does, with literals left out.
use Rattle.std.proofs.Common.{◌≡◌, ℕ, zero, suc, List, [], ◌∷◌, Option, Some, refl, sym, ap, subst, ◌∙◌}
use Rattle.std.specs.Prelude.{Bool, true, false, ◌&&◌, map, if◌then◌else◌, bytes_eq, option_map}
use Rattle.std.proofs.lemmas.List.{map-append}
use Rattle.std.proofs.Math.Path.{fun_ext}
use Rattle.meson_following.specs.Names.{Naming, exactly, between, fits}
use Rattle.meson_meaning.specs.States.{Choices, Going, Making, State, Use, and_then, asks, chosen, on, out_of_file, out_of_turn, stops, touched, with_making, with_named, with_question, with_unknown, with_use, with_variable}
use Rattle.meson_meaning.specs.Values.{Value, anything}
use Rattle.meson_meaning.specs.Without.{making_without, state_without, use_without, value_without}

abbrev pub going_without : {S T X Y : Type 0} → (S → T) → (S → Bool) → (X → Y) → Going S X → Going T Y
going_without to gone h (on x st) = on (h x) (state_without to gone st)
going_without to gone h (out_of_turn ended st) = out_of_turn ended (state_without to gone st)
going_without to gone h (out_of_file st) = out_of_file (state_without to gone st)
going_without to gone h (stops st) = stops (state_without to gone st)

pub record Along {S T : Type 0} (to : S → T) (gone : S → Bool) {X Y : Type 0} (h : X → Y) (small : State T → Going T Y) (large : State S → Going S X) : Type 0 where
  pub at_state : (st : State S) → small (state_without to gone st) ≡ going_without to gone h (large st)

module _ {S T : Type 0} (to : S → T) (gone : S → Bool) where
  -- ---- steps of a state

  abbrev less : State S → State T
  less = state_without to gone

  pub use_along : (s : S) (vs : List (Value S)) (ws : List (Value T)) (st : State S) → ws ≡ map (value_without to gone) vs
      → with_use (to s) ws (less st) ≡ less (with_use s vs st)
  use_along s vs ws st is =
      let u : Use S = record { place = s; values = vs } in
      let put : List (Use T) → State T = λ us. record { variables = (less st).variables; asked = st.asked; made = (less st).made; used = us } in
      ap (λ ys. with_use (to s) ys (less st)) is ∙ ap put (sym (map-append (use_without to gone) st.used (u ∷ [])))

  pub making_along : (m : Making S) (n : Making T) (st : State S) → n ≡ making_without to gone m → with_making n (less st) ≡ less (with_making m st)
  making_along m n st is =
      let put : List (Making T) → State T = λ ms. record { variables = (less st).variables; asked = st.asked; made = ms; used = (less st).used } in
      ap (λ k. with_making k (less st)) is ∙ ap put (sym (map-append (making_without to gone) st.made (m ∷ [])))

  abbrev with_values : State T → (List ℕ → Option (Value T)) → State T
  with_values st vs = record { variables = vs; asked = st.asked; made = st.made; used = st.used }

  either_value : (b : Bool) (v w : Option (Value S))
      → (if b then option_map (value_without to gone) v else option_map (value_without to gone) w) ≡ option_map (value_without to gone) (if b then v else w)
  either_value true v w = refl
  either_value false v w = refl

  pub variable_along : (x : List ℕ) (v : Option (Value S)) (st : State S)
      → with_variable x (option_map (value_without to gone) v) (less st) ≡ less (with_variable x v st)
  variable_along x v st = ap (with_values (less st)) (fun_ext (λ y. either_value (bytes_eq y x) v (st.variables y)))

  pub unknown_along : (chosen : List ℕ → Bool) (st : State S) → with_unknown chosen (less st) ≡ less (with_unknown chosen st)
  unknown_along chosen st = ap (with_values (less st)) (fun_ext (λ y. either_value (chosen y) (Some anything) (st.variables y)))

  pub touched_along : (ch : Choices) (naming : Naming) (st : State S) → touched ch naming (less st) ≡ less (touched ch naming st)
  touched_along ch naming st = unknown_along (λ x. ch.touches st.asked x && fits x naming) (with_question st)

  pub named_along : (ch : Choices) (naming : Naming) (v : Option (Value S)) (st : State S)
      → with_named ch naming (option_map (value_without to gone) v) (less st) ≡ less (with_named ch naming v st)
  named_along ch (exactly x) v st = variable_along x v st
  named_along ch (between front back) v st = touched_along ch (between front back) st

  -- ---- computations

  pub on_along : {X Y : Type 0} (h : X → Y) (x : X) (y : Y) → y ≡ h x → Along to gone h (on y) (on x)
  on_along h x y is = record { at_state = λ st. ap (λ z. on z (less st)) is }

  then_by : {X X' Y Y' : Type 0} (f : X → X') (h : Y → Y') (j : X' → State T → Going T Y') (k : X → State S → Going S Y) → ((x : X) → Along to gone h (j (f x)) (k x))
      → (m : Going S X) → and_then (going_without to gone f m) j ≡ going_without to gone h (and_then m k)
  then_by f h j k each (on x st) = (each x).at_state st
  then_by f h j k each (out_of_turn ended st) = refl
  then_by f h j k each (out_of_file st) = refl
  then_by f h j k each (stops st) = refl

  pub then_along : {X X' Y Y' : Type 0} {f : X → X'} {h : Y → Y'} {small : State T → Going T X'} {large : State S → Going S X} (j : X' → State T → Going T Y')
      (k : X → State S → Going S Y) → Along to gone f small large → ((x : X) → Along to gone h (j (f x)) (k x))
      → Along to gone h (λ st. and_then (small st) j) (λ st. and_then (large st) k)
  then_along {f = f} {h = h} {large = large} j k first each =
      record { at_state = λ st. ap (λ m. and_then m j) (first.at_state st) ∙ then_by f h j k each (large st) }

  -- after a step of the state
  pub step_along : {X Y : Type 0} {h : X → Y} {small : State T → Going T Y} {large : State S → Going S X} (f : State T → State T) (g : State S → State S)
      → ((st : State S) → f (less st) ≡ less (g st)) → Along to gone h small large → Along to gone h (λ st. small (f st)) (λ st. large (g st))
  step_along {small = small} f g step rest = record { at_state = λ st. ap small (step st) ∙ rest.at_state (g st) }

  pub asks_along : {X Y : Type 0} {h : X → Y} (ch : Choices) (j : ℕ → State T → Going T Y) (k : ℕ → State S → Going S X) → ((n : ℕ) → Along to gone h (j n) (k n))
      → Along to gone h (asks ch j) (asks ch k)
  asks_along ch j k each = record { at_state = λ st. (each (ch.answer st.asked)).at_state (with_question st) }

  pub chosen_along : {X Y : Type 0} {h : X → Y} {a b : State T → Going T Y} {c d : State S → Going S X} (n : ℕ) → Along to gone h a c → Along to gone h b d
      → Along to gone h (chosen n a b) (chosen n c d)
  chosen_along zero first second = record { at_state = second.at_state }
  chosen_along (suc n) first second = record { at_state = first.at_state }

  pub if_along : {X Y : Type 0} {h : X → Y} {a b : State T → Going T Y} {c d : State S → Going S X} (t u : Bool) → t ≡ u → Along to gone h a c → Along to gone h b d
      → Along to gone h (λ st. if t then a st else b st) (λ st. if u then c st else d st)
  if_along {h = h} {a = a} {b = b} {c = c} {d = d} t u is first second =
      subst (λ t'. Along to gone h (λ st. if t' then a st else b st) (λ st. if u then c st else d st)) (sym is) (go u)
    where
      go : (v : Bool) → Along to gone h (λ st. if v then a st else b st) (λ st. if v then c st else d st)
      go true = record { at_state = first.at_state }
      go false = record { at_state = second.at_state }

  -- the same computation, written otherwise
  pub same_along : {X Y : Type 0} {h : X → Y} {a b : State T → Going T Y} {c : State S → Going S X} → a ≡ b → Along to gone h b c → Along to gone h a c
  same_along {h = h} {c = c} is along = subst (λ m. Along to gone h m c) (sym is) along
