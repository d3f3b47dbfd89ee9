-- What expressions of build files mean, as far as sources are concerned. Meson manual, Syntax, "Strings", "Arrays": sources are texts and lists of texts.
use Rattle.std.specs.Prelude.{ℕ, List, [], ◌∷◌, Option, Some, None}

-- a string with a text that is known: what its node carries, and the text
pub record Literal (S : Type 0) : Type 0 where
  pub stands : S
  pub text : List ℕ

-- What is in a list. A text is the name of a file. By a call of `files` it is taken from the folder of the build file of a number, else from the folder of
-- the target that gets it.
pub data Atom (S : Type 0) : Type 0 where
  -- a literal that is an element of an array, or an argument of `files` or of a target's call
  element : Literal S → Option ℕ → Atom S
  -- a literal that is in no list, and was added to one
  single : Literal S → Option ℕ → Atom S
  -- any number of things that are not followed
  other : Atom S

pub data Value (S : Type 0) : Type 0 where
  -- a text, which is that of a literal or not known
  text : Option (Literal S) → Value S
  -- a list, laid flat. Meson manual, Reference manual, `executable`: lists of sources may be nested, and mean the same if they are laid flat.
  several : List (Atom S) → Value S
  -- a value of any type
  anything : Value S

abbrev pub text_atom : {S : Type 0} → Option (Literal S) → Atom S
text_atom None = other
text_atom (Some l) = single l None

-- what a value adds to a list. Meson manual, Syntax, "Arrays": `+` adds the elements of a list, or one more element.
abbrev pub atoms_of : {S : Type 0} → Value S → List (Atom S)
atoms_of (text t) = text_atom t ∷ []
atoms_of (several xs) = xs
atoms_of anything = other ∷ []

-- ---- folders

abbrev pub or_folder : ℕ → Option ℕ → Option ℕ
or_folder n None = Some n
or_folder n (Some m) = Some m

-- in the folder of this build file. Meson manual, Reference manual, `files`: what it gives stays what it is in calls of other build files.
abbrev pub in_folder : {S : Type 0} → ℕ → Atom S → Atom S
in_folder n (element l folder) = element l (or_folder n folder)
in_folder n (single l folder) = single l (or_folder n folder)
in_folder n other = other

-- ---- arguments of a call, and elements of a list

pub data Given (S : Type 0) : Type 0 where
  -- a literal
  a_literal : Literal S → Given S
  -- another value
  a_value : Value S → Given S
  -- with a name
  a_named : List ℕ → Value S → Given S
  -- a dictionary's key and its value
  an_entry : Value S → Value S → Given S

abbrev pub given : {S : Type 0} → Option (Literal S) → Value S → Given S
given None v = a_value v
given (Some l) v = a_literal l

abbrev pub values_of : {S : Type 0} → Given S → List (Value S)
values_of (a_literal l) = text (Some l) ∷ []
values_of (a_value v) = v ∷ []
values_of (a_named x v) = v ∷ []
values_of (an_entry v w) = v ∷ w ∷ []

-- what it is in a list
abbrev pub elements_of : {S : Type 0} → Given S → List (Atom S)
elements_of (a_literal l) = element l None ∷ []
elements_of (a_value v) = atoms_of v
elements_of (a_named x v) = other ∷ []
elements_of (an_entry v w) = other ∷ []
