-- What a list of sources holds, where variables are followed. Meson manual, Reference manual, `files` and the functions that make targets: sources are strings,
-- `files()` and lists of these. A variable holds what the assignments have put there that may have made it where it is read.
use Rattle.std.specs.Prelude.{ℕ, zero, suc, ◌+◌, Bool, true, false, ◌&&◌, List, [], ◌∷◌, ◌++◌, if◌then◌else◌, Option, Some, None}
use Rattle.std.specs.List.{list_any}
use Rattle.meson_syntax.specs.Operators.{string_kind}
use Rattle.meson_lex.specs.Literals.{value}
use Rattle.meson_syntax.specs.Tree.{Expression, identifier, string, paren, array, call, row, conditional, Operands, no_operands, operand, Listing, listing, Argument, plain, named, pair, Arguments, no_arguments, argument}
use Rattle.meson_calls.specs.declared.call.CallRef.{CallRef}
use Rattle.meson_calls.specs.Calls.{Call, Numbered, keyword, positional}
use Rattle.meson_calls.specs.NamedArguments.{kwargs_key, rest, sources_key}
use Rattle.meson_calls.specs.Project.{Project, Placed, child, expression_at}
use Rattle.meson_variables.specs.Expansion.{is_files, max_followed}
use Rattle.meson_following.specs.Flows.{known_at}
use Rattle.meson_following.specs.Lists.{hides, is_list, mixes}
use Rattle.meson_following.specs.Makers.{Known, Maker, is_same_place}

-- How something was met: whether it is there in each evaluation, the file of the innermost `files` around it, and the places of the values of the makers that
-- were followed to it, one within another.
pub record Way : Type 0 where
  pub sure : Bool
  pub files : Option ℕ
  pub through : List CallRef

-- A literal: its text, its place, whether it is an element of the list of the array or the call around it, and how it was met.
pub record Item (S : Type 0) : Type 0 where
  pub text : List ℕ
  pub stands : S
  pub place : CallRef
  pub listed : Bool
  pub way : Way

pub data Mark (S : Type 0) : Type 0 where
  known : Item S → Mark S
  opaque : Mark S
  -- an array or a `files()` in which nothing is met
  empty : CallRef → Way → Mark S

-- what is met, and the places of the values that were followed so far
pub record Following (S : Type 0) : Type 0 where
  pub marks : List (Mark S)
  pub followed : List CallRef

-- the place of an expression, whether it is an element of a list, and how it was come to
pub record Stand : Type 0 where
  pub place : CallRef
  pub listed : Bool
  pub way : Way

abbrev pub met : {S : Type 0} → Mark S → List CallRef → Following S
met m followed = record { marks = m ∷ []; followed = followed }

abbrev pub nothing_met : {S : Type 0} → List CallRef → Following S
nothing_met followed = record { marks = []; followed = followed }

abbrev pub both_followed : {S : Type 0} → Following S → Following S → Following S
both_followed f g = record { marks = f.marks ++ g.marks; followed = g.followed }

-- one and then another, which knows what the first has followed
abbrev pub then_follow : {S : Type 0} → Following S → (List CallRef → Following S) → Following S
then_follow f more = both_followed f (more f.followed)

-- ---- places and ways

-- the n-th element of a list
abbrev pub element : CallRef → Way → ℕ → Stand
element q w n = record { place = child q n; listed = true; way = w }

-- the n-th child, which is in no list
abbrev pub inside : CallRef → Way → ℕ → Stand
inside q w n = record { place = child q n; listed = false; way = w }

-- one of two answers
abbrev pub unsure_way : Way → Way
unsure_way w = record { sure = false; files = w.files; through = w.through }

-- within a call of `files` in this file
abbrev pub files_way : ℕ → Way → Way
files_way file w = record { sure = w.sure; files = Some file; through = w.through }

-- to the value of a maker
abbrev pub maker_way : {S : Type 0} → Maker S → Way → Way
maker_way m w = record { sure = w.sure && m.sure; files = w.files; through = w.through ++ m.value.place ∷ [] }

abbrev pub one_of_places : List CallRef → CallRef → Bool
one_of_places qs q = list_any (λ r. is_same_place r q) qs

-- ---- an expression

abbrev pub literal_met : {S : Type 0} → S → Stand → List CallRef → Option (List ℕ) → Following S
literal_met at_ s followed (Some text) = met (known (record { text = text; stands = at_; place = s.place; listed = s.listed; way = s.way })) followed
literal_met at_ s followed None = met opaque followed

abbrev pub or_empty : {S : Type 0} → CallRef → Way → List (Mark S) → List (Mark S)
or_empty q w [] = empty q w ∷ []
or_empty q w (m ∷ ms) = m ∷ ms

abbrev pub within : {S : Type 0} → CallRef → Way → Following S → Following S
within q w f = record { marks = or_empty q w f.marks; followed = f.followed }

-- depending on which expressions are lists, and what a variable gives that is read at a place
module _ {S : Type 0} (is_list : CallRef → Expression S → Bool) (follow : CallRef → List ℕ → Way → List CallRef → Following S) where
  abbrev mutual
    pub follow_by : Expression S → Stand → List CallRef → Following S
    follow_by (string at_ q x) s followed = literal_met at_ s followed (value (string_kind q) x)
    follow_by (array l) s followed = within s.place s.way (follow_listing l s.place s.way followed)
    follow_by (call at_ f l) s followed =
        if is_files f.text l then within s.place (files_way s.place.file s.way) (follow_listing l s.place (files_way s.place.file s.way) followed)
        else met opaque followed
    follow_by (identifier at_ x) s followed = follow s.place x s.way followed
    follow_by (paren at_ e) s followed = follow_by e (inside s.place s.way 0) followed
    follow_by (conditional at_ c y n) s followed =
        then_follow (follow_by y (inside s.place (unsure_way s.way) 1) followed) (λ now. follow_by n (inside s.place (unsure_way s.way) 2) now)
    follow_by (row at_ e os) s followed =
        if is_list s.place (row at_ e os) then
        then_follow (follow_by e (inside s.place s.way 0) followed) (λ now. follow_operands os 1 s.place s.way now)
        else met opaque followed
    follow_by _ s followed = met opaque followed

    -- from the n-th on, of what is at a place
    pub follow_operands : Operands S → ℕ → CallRef → Way → List CallRef → Following S
    follow_operands no_operands n q w followed = nothing_met followed
    follow_operands (operand o e more) n q w followed =
        then_follow (follow_by e (inside q w n) followed) (λ now. follow_operands more (n + 1) q w now)

    pub follow_listing : Listing S → CallRef → Way → List CallRef → Following S
    follow_listing (listing at_ trailing list) q w followed = follow_each list 0 q w followed

    -- from the n-th on, of the list at a place
    pub follow_each : Arguments S → ℕ → CallRef → Way → List CallRef → Following S
    follow_each no_arguments n q w followed = nothing_met followed
    follow_each (argument a more) n q w followed =
        then_follow (follow_argument a (element q w n) followed) (λ now. follow_each more (n + 1) q w now)

    pub follow_argument : Argument S → Stand → List CallRef → Following S
    follow_argument (plain e) s followed = follow_by e s followed
    follow_argument (named at_ x e) s followed = met opaque followed
    follow_argument (pair at_ e f) s followed = met opaque followed

-- ---- a variable

abbrev pub follow_unknown : {S : Type 0} → Bool → List CallRef → Following S
follow_unknown unknown followed = if unknown then met opaque followed else nothing_met followed

-- depending on what an expression holds, and on how the variable was met
module _ {S : Type 0} (p : Project S) (inner : Expression S → Stand → List CallRef → Following S) (w : Way) where
  -- the value stands at its place
  abbrev pub follow_there : Maker S → Option (Expression S) → List CallRef → Following S
  follow_there m None followed = met opaque followed
  follow_there m (Some e) followed = inner e (record { place = m.value.place; listed = false; way = maker_way m w }) followed

  abbrev pub follow_value : Bool → Maker S → List CallRef → Following S
  follow_value mixed m followed =
      if hides p mixed m then met opaque followed
      else follow_there m (expression_at p m.value.place) (followed ++ m.value.place ∷ [])

  -- only what was not followed before
  abbrev pub follow_maker : Bool → Maker S → List CallRef → Following S
  follow_maker mixed m followed = if one_of_places followed m.value.place then nothing_met followed else follow_value mixed m followed

  abbrev pub follow_makers : Bool → List (Maker S) → List CallRef → Following S
  follow_makers mixed [] followed = nothing_met followed
  follow_makers mixed (m ∷ ms) followed = then_follow (follow_maker mixed m followed) (λ now. follow_makers mixed ms now)

  abbrev pub follow_known : Known S → List CallRef → Following S
  follow_known None followed = met opaque followed
  follow_known (Some k) followed =
      then_follow (follow_makers (mixes p k) k.makers followed) (follow_unknown k.unknown)

-- this many makers may be followed inside one another
abbrev pub follow_variable : {S : Type 0} → Project S → ℕ → CallRef → List ℕ → Way → List CallRef → Following S
follow_variable p zero q x w followed = met opaque followed
follow_variable p (suc left) q x w followed = follow_known p (follow_by (is_list p) (follow_variable p left)) w (known_at p x q) followed

abbrev pub follow_left : {S : Type 0} → Project S → ℕ → Expression S → Stand → List CallRef → Following S
follow_left p left = follow_by (is_list p) (follow_variable p left)

abbrev pub follow : {S : Type 0} → Project S → Expression S → Stand → List CallRef → Following S
follow p = follow_left p max_followed

-- ---- the sources of a target

abbrev pub straight : Way
straight = record { sure = true; files = None; through = [] }

-- values of arguments of the call at a place, which are in its list or not
abbrev pub follow_values : {S : Type 0} → (Expression S → Stand → List CallRef → Following S) → Way → CallRef → Bool → List (Numbered (Expression S)) → List CallRef
    → Following S
follow_values inner w c listed [] followed = nothing_met followed
follow_values inner w c listed (a ∷ more) followed =
    then_follow (inner a.value (record { place = child c a.number; listed = listed; way = w }) followed) (λ now. follow_values inner w c listed more now)

-- a `kwargs:` argument may hold sources that are not known
abbrev pub hidden : {S : Type 0} → List (Numbered (Expression S)) → List (Mark S)
hidden [] = []
hidden (a ∷ more) = opaque ∷ []

-- the plain arguments after the first, and `sources:`; what was followed counts for all of them
abbrev pub follow_call : {S : Type 0} → Project S → Placed (Call S) → Following S
follow_call p c =
    then_follow (follow_values (follow p) straight c.place true (rest (positional c.it)) [])
    (follow_values (follow p) straight c.place false (keyword sources_key c.it))

abbrev pub follow_marks : {S : Type 0} → Project S → Placed (Call S) → List (Mark S)
follow_marks p c = (follow_call p c).marks ++ hidden (keyword kwargs_key c.it)
