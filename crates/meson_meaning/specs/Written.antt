-- What targets are made by, and the sources that stand in their calls.
use Rattle.std.specs.Prelude.{◌≡◌, true, List, [], ◌∷◌, ◌++◌, Option, Some, None}
use Rattle.std.specs.List.{All, Contains}
use Rattle.meson_lex.specs.declared.kinds.Span.{Span}
use Rattle.meson_syntax.specs.Tree.{Expression, Listing, listing, plain, named, pair, Arguments, no_arguments, argument}
use Rattle.meson_calls.specs.declared.call.CallRef.{CallRef}
use Rattle.meson_calls.specs.declared.call.Role.TheVariants as role
use Rattle.meson_calls.specs.Calls.{Call, call_of, literal_of}
use Rattle.meson_calls.specs.Project.{Project, expression_at}
use Rattle.meson_calls.specs.Roles.{has_role}
use Rattle.meson_meaning.specs.Expressions.{literal_in}
use Rattle.meson_meaning.specs.Placing.{listing_placed, with_places}
use Rattle.meson_meaning.specs.Running.{run}
use Rattle.meson_meaning.specs.States.{Choices, Making}
use Rattle.meson_meaning.specs.Values.{Atom, Literal, element, other, single}

abbrev pub literal_element : {S : Type 0} → Option (Literal S) → List (Atom S)
literal_element None = []
literal_element (Some l) = element l None ∷ []

-- the literals among the arguments without a name; after the first of these
abbrev pub literals_in : {S : Type 0} → Arguments S → List (Atom S)
literals_in no_arguments = []
literals_in (argument (plain e) more) = literal_element (literal_in e) ++ literals_in more
literals_in (argument (named s x e) more) = literals_in more
literals_in (argument (pair s e f) more) = literals_in more

abbrev pub literals_behind : {S : Type 0} → Arguments S → List (Atom S)
literals_behind no_arguments = []
literals_behind (argument (plain e) more) = literals_in more
literals_behind (argument (named s x e) more) = literals_behind more
literals_behind (argument (pair s e f) more) = literals_behind more

abbrev pub listed_behind : {S : Type 0} → Listing S → List (Atom S)
listed_behind (listing s trailing list) = literals_behind list

-- The literal stands in the build files, at the place that it tells.
pub record LiteralStands (p : Project Span) (l : Literal CallRef) : Type 0 where
  pub expression : Expression Span
  pub stands : expression_at p l.stands ≡ Some expression
  pub is_text : literal_of expression ≡ Some l.text

abbrev pub IsReal : Project Span → Atom CallRef → Type 0
IsReal p (element l folder) = LiteralStands p l
IsReal p (single l folder) = LiteralStands p l
IsReal p other = Unit {0}

-- A call of a target made it, in the build file that the call is in. Each literal among the call's arguments, after the name, is a source; and each literal that
-- is a source stands in the build files.
pub record IsMadeByCall (p : Project Span) (m : Making CallRef) : Type 0 where
  pub expression : Expression Span
  pub stands : expression_at p m.call ≡ Some expression
  pub call : Call Span
  pub is_call : call_of expression ≡ Some call
  pub is_target : has_role role.Target call ≡ true
  pub same_file : m.file ≡ m.call.file
  pub written : All (Contains m.sources) (listed_behind (listing_placed m.call call.arguments))
  pub real : All (IsReal p) m.sources

-- the law: so are all targets made, in each evaluation
abbrev pub CallsMakeTargets : Type 0
CallsMakeTargets = (p : Project Span) (ch : Choices) → All (IsMadeByCall p) (run ch (with_places p)).made
