-- Computations in which nothing is made but by calls of targets.
use Rattle.std.proofs.Common.{ℕ, zero, suc, List, ◌∷◌, Option, Some, None}
use Rattle.std.specs.Prelude.{Bool, true, false, if◌then◌else◌, bytes_eq, codes, ◌&&◌}
use Rattle.meson_lex.specs.declared.kinds.Span.{Span}
use Rattle.meson_syntax.proofs.paths.Every.{Every, every-append}
use Rattle.meson_calls.specs.declared.call.CallRef.{CallRef}
use Rattle.meson_calls.specs.Calls.{Call}
use Rattle.meson_calls.specs.Project.{Project}
use Rattle.meson_following.specs.Names.{Naming, exactly, between, fits, named_by}
use Rattle.meson_meaning.specs.Expressions.{another_called, read_as, sum, used_in, with_effect}
use Rattle.meson_meaning.specs.States.{Choices, Going, State, and_then, any_name, asks, chosen, on, out_of_file, out_of_turn, stops, touched, with_named, with_question, with_unknown, with_variable}
use Rattle.meson_meaning.specs.Values.{Value, anything, atoms_of, other, several, text}
use Rattle.meson_meaning.specs.Written.{IsMadeByCall, IsReal}
use Rattle.meson_meaning.proofs.RealValues.{Real, RealIf, atoms_real}

module _ (p : Project Span) where
  abbrev pub Good : State CallRef → Type 0
  Good st = Every (IsMadeByCall p) st.made × ((x : List ℕ) → RealIf p (st.variables x))

  abbrev pub GoodAfter : {X : Type 0} → (X → Type 0) → Going CallRef X → Type 0
  GoodAfter P (on x st) = P x × Good st
  GoodAfter P (out_of_turn ended st) = Good st
  GoodAfter P (out_of_file st) = Good st
  GoodAfter P (stops st) = Good st

  -- and what the computation gives is so
  pub record Keeps {X : Type 0} (P : X → Type 0) (m : State CallRef → Going CallRef X) : Type 0 where
    pub at_state : (st : State CallRef) → Good st → GoodAfter P (m st)

  abbrev pub Any : {X : Type 0} → X → Type 0
  Any x = Unit {0}

  then_by : {X Y : Type 0} (P : X → Type 0) (Q : Y → Type 0) (k : X → State CallRef → Going CallRef Y) → ((x : X) → P x → Keeps Q (k x)) → (m : Going CallRef X)
      → GoodAfter P m → GoodAfter Q (and_then m k)
  then_by P Q k each (on x st) good = (each x good.0).at_state st good.1
  then_by P Q k each (out_of_turn ended st) good = good
  then_by P Q k each (out_of_file st) good = good
  then_by P Q k each (stops st) good = good

  pub keeps_then : {X Y : Type 0} {P : X → Type 0} {Q : Y → Type 0} {m : State CallRef → Going CallRef X} (k : X → State CallRef → Going CallRef Y) → Keeps P m
      → ((x : X) → P x → Keeps Q (k x)) → Keeps Q (λ st. and_then (m st) k)
  keeps_then {P = P} {Q = Q} {m = m} k first each = record { at_state = λ st good. then_by P Q k each (m st) (first.at_state st good) }

  pub keeps_on : {X : Type 0} (P : X → Type 0) (x : X) → P x → Keeps P (on x)
  keeps_on P x is = record { at_state = λ st good. (is, good) }

  pub keeps_step : {X : Type 0} {P : X → Type 0} {m : State CallRef → Going CallRef X} (f : State CallRef → State CallRef) → ((st : State CallRef) → Good st → Good (f st))
      → Keeps P m → Keeps P (λ st. m (f st))
  keeps_step f step rest = record { at_state = λ st good. rest.at_state (f st) (step st good) }

  pub keeps_asks : {X : Type 0} {P : X → Type 0} (ch : Choices) (k : ℕ → State CallRef → Going CallRef X) → ((n : ℕ) → Keeps P (k n)) → Keeps P (asks ch k)
  keeps_asks ch k each = record { at_state = λ st good. (each (ch.answer st.asked)).at_state _ good }

  pub keeps_chosen : {X : Type 0} {P : X → Type 0} {a b : State CallRef → Going CallRef X} (n : ℕ) → Keeps P a → Keeps P b → Keeps P (chosen n a b)
  keeps_chosen zero first second = record { at_state = second.at_state }
  keeps_chosen (suc n) first second = record { at_state = first.at_state }

  pub keeps_if : {X : Type 0} {P : X → Type 0} {a b : State CallRef → Going CallRef X} (t : Bool) → Keeps P a → Keeps P b → Keeps P (λ st. if t then a st else b st)
  keeps_if true first second = record { at_state = first.at_state }
  keeps_if false first second = record { at_state = second.at_state }

  -- ---- parts that make nothing

  pub used_keeps : (s : CallRef) (vs : List (Value CallRef)) → Keeps (Real p) (used_in s vs)
  used_keeps s vs = record { at_state = λ st good. (tt, good) }

  pub read_keeps : (builtin : Bool) (v : Option (Value CallRef)) (st : State CallRef) → RealIf p v → Good st → GoodAfter (Real p) (read_as builtin v st)
  read_keeps true None st real good = (tt, good)
  read_keeps false None st real good = good
  read_keeps true (Some v) st real good = (real, good)
  read_keeps false (Some v) st real good = (real, good)

  pub sum_keeps : (ch : Choices) (u v : Value CallRef) → Real p u → Real p v → Keeps (Real p) (sum ch u v)
  sum_keeps ch (several xs) v first second = record { at_state = λ st good. (every-append (IsReal p) xs (atoms_of v) first (atoms_real p v second), good) }
  sum_keeps ch (text t) (several ys) first second = record { at_state = λ st good. good }
  sum_keeps ch (text t) (text u) first second = record { at_state = λ st good. (tt, good) }
  sum_keeps ch (text t) anything first second = record { at_state = λ st good. (tt, good) }
  sum_keeps ch anything (several ys) first second = record { at_state = λ st good. ((tt, second), good) }
  sum_keeps ch anything (text t) first second =
      keeps_asks ch (λ n. chosen n (on (several (other ∷ atoms_of (text t)))) (on (text None)))
      (λ n. keeps_chosen n (keeps_on (Real p) (several (other ∷ atoms_of (text t))) (tt, atoms_real p (text t) second)) (keeps_on (Real p) (text None) tt))
  sum_keeps ch anything anything first second = record { at_state = λ st good. (tt, good) }

  either_real : (b : Bool) (v w : Option (Value CallRef)) → RealIf p v → RealIf p w → RealIf p (if b then v else w)
  either_real true v w first second = first
  either_real false v w first second = second

  pub variable_good : (x : List ℕ) (v : Option (Value CallRef)) (st : State CallRef) → RealIf p v → Good st → Good (with_variable x v st)
  variable_good x v st real good = (good.0, λ y. either_real (bytes_eq y x) v (st.variables y) real (good.1 y))

  pub unknown_good : (chosen : List ℕ → Bool) (st : State CallRef) → Good st → Good (with_unknown chosen st)
  unknown_good chosen st good = (good.0, λ y. either_real (chosen y) (Some anything) (st.variables y) tt (good.1 y))

  pub touched_good : (ch : Choices) (naming : Naming) (st : State CallRef) → Good st → Good (touched ch naming st)
  touched_good ch naming st good = unknown_good (λ x. ch.touches st.asked x && fits x naming) (with_question st) good

  named_good : (ch : Choices) (naming : Naming) (v : Option (Value CallRef)) (st : State CallRef) → RealIf p v → Good st → Good (with_named ch naming v st)
  named_good ch (exactly x) v st real good = variable_good x v st real good
  named_good ch (between front back) v st real good = touched_good ch (between front back) st good

  effect_good : (ch : Choices) (c : Call CallRef) (st : State CallRef) → Good st → Good (with_effect ch c st)
  effect_good ch c st good = go (bytes_eq c.function (codes "set_variable")) (bytes_eq c.function (codes "unset_variable")) (bytes_eq c.function (codes "subdir"))
    where
      go : (sets unsets enters : Bool)
          → Good (if sets then with_named ch (named_by c) (Some anything) st else (if unsets then with_named ch (named_by c) None st else (if enters then touched ch any_name st else st)))
      go true unsets enters = named_good ch (named_by c) (Some anything) st tt good
      go false true enters = named_good ch (named_by c) None st tt good
      go false false true = touched_good ch any_name st good
      go false false false = good

  pub another_keeps : (ch : Choices) (c : Call CallRef) → Keeps (Real p) (another_called ch c)
  another_keeps ch c = record { at_state = λ st good. go st good (bytes_eq c.function (codes "error")) (bytes_eq c.function (codes "subdir_done")) }
    where
      go : (st : State CallRef) → Good st → (fails leaves : Bool)
          → GoodAfter (Real p) (if fails then stops st else (if leaves then out_of_file st else on anything (with_effect ch c st)))
      go st good true leaves = good
      go st good false true = good
      go st good false false = (tt, effect_good ch c st good)
