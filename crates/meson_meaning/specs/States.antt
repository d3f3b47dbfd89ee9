-- The state of an evaluation, and what comes after a part of it.
use Rattle.std.specs.Prelude.{ℕ, zero, suc, Bool, ◌&&◌, List, [], ◌∷◌, ◌++◌, if◌then◌else◌, bytes_eq, Option, Some, None}
use Rattle.meson_following.specs.Names.{Naming, exactly, between, fits}
use Rattle.meson_meaning.specs.Values.{Atom, Value, anything}

-- What an evaluation depends on, apart from the build files. It asks questions, one after another: which way it goes, how many turns a loop has, which of two
-- kinds a value is. Where variables are set whose names are not known, it says for each whether it is one of these.
pub record Choices : Type 0 where
  pub answer : ℕ → ℕ
  pub touches : ℕ → List ℕ → Bool

-- A target that a call made: what the call carries, the number of its build file, and the sources.
pub record Making (S : Type 0) : Type 0 where
  pub call : S
  pub file : ℕ
  pub sources : List (Atom S)

-- values that something other than the sources of a target got
pub record Use (S : Type 0) : Type 0 where
  pub place : S
  pub values : List (Value S)

-- Meson manual, Syntax, "Variables": variables are global. The questions are counted.
pub record State (S : Type 0) : Type 0 where
  pub variables : List ℕ → Option (Value S)
  pub asked : ℕ
  pub made : List (Making S)
  pub used : List (Use S)

abbrev pub beginning : {S : Type 0} → State S
beginning = record { variables = λ x. None; asked = 0; made = []; used = [] }

-- After a part of an evaluation: it goes on, and the part gives something; a turn of the loop around it is over, and the loop too where this is `true`; the
-- build file is over; or Meson stops with an error.
pub data Going (S X : Type 0) : Type 0 where
  on : X → State S → Going S X
  out_of_turn : Bool → State S → Going S X
  out_of_file : State S → Going S X
  stops : State S → Going S X

abbrev pub and_then : {S X Y : Type 0} → Going S X → (X → State S → Going S Y) → Going S Y
and_then (on x st) more = more x st
and_then (out_of_turn ended st) more = out_of_turn ended st
and_then (out_of_file st) more = out_of_file st
and_then (stops st) more = stops st

abbrev pub state_after : {S X : Type 0} → Going S X → State S
state_after (on x st) = st
state_after (out_of_turn ended st) = st
state_after (out_of_file st) = st
state_after (stops st) = st

-- ---- a step

abbrev pub with_question : {S : Type 0} → State S → State S
with_question st = record { variables = st.variables; asked = suc st.asked; made = st.made; used = st.used }

-- with the answer of the next question
abbrev pub asks : {S X : Type 0} → Choices → (ℕ → State S → Going S X) → State S → Going S X
asks ch more st = more (ch.answer st.asked) (with_question st)

-- one of two ways: the second where the answer is 0
abbrev pub chosen : {S X : Type 0} → ℕ → (first second : State S → Going S X) → State S → Going S X
chosen zero first second st = second st
chosen (suc n) first second st = first st

abbrev pub with_use : {S : Type 0} → S → List (Value S) → State S → State S
with_use s vs st =
    record { variables = st.variables; asked = st.asked; made = st.made; used = st.used ++ record { place = s; values = vs } ∷ [] }

abbrev pub with_making : {S : Type 0} → Making S → State S → State S
with_making m st = record { variables = st.variables; asked = st.asked; made = st.made ++ m ∷ []; used = st.used }

-- the variable has this value, or is not set
abbrev pub with_variable : {S : Type 0} → List ℕ → Option (Value S) → State S → State S
with_variable x v st =
    record { variables = λ y. if bytes_eq y x then v else st.variables y; asked = st.asked; made = st.made; used = st.used }

-- each variable that is chosen has a value that is not known
abbrev pub with_unknown : {S : Type 0} → (List ℕ → Bool) → State S → State S
with_unknown chosen st =
    record { variables = λ y. if chosen y then Some anything else st.variables y; asked = st.asked; made = st.made; used = st.used }

-- variables that have such a name are set to something, as they are chosen
abbrev pub touched : {S : Type 0} → Choices → Naming → State S → State S
touched ch naming st = with_unknown (λ x. ch.touches st.asked x && fits x naming) (with_question st)

-- a name of any text
abbrev pub any_name : Naming
any_name = between [] []

-- The variable of this name has this value, or is not set. Where the name is not known, each one that has such a name may be set to something.
abbrev pub with_named : {S : Type 0} → Choices → Naming → Option (Value S) → State S → State S
with_named ch (exactly x) v st = with_variable x v st
with_named ch (between front back) v st = touched ch (between front back) st
