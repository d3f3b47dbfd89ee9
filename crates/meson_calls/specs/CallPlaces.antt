-- The list of the array or call at a place, and that a call which is found is at its place.
use Rattle.std.specs.Prelude.{◌≡◌, List, Option, Some, Ok, option_map, option_and_then}
use Rattle.meson_lex.specs.declared.kinds.Span.{Span}
use Rattle.meson_splice.specs.declared.file_set.File.{File}
use Rattle.meson_syntax.specs.declared.operator.Bracket.TheVariants as bracket
use Rattle.meson_syntax.specs.declared.tree.Parsed.{Parsed}
use Rattle.meson_syntax.specs.Paths.{ListAt, list_at}
use Rattle.meson_calls.specs.declared.call.CallName.{CallName}
use Rattle.meson_calls.specs.declared.call.CallRef.{CallRef}
use Rattle.meson_calls.specs.declared.call.Role.{Role}
use Rattle.meson_calls.specs.Project.{Project, BuildFile, Placed, placed, expression_at, nth_file}
use Rattle.meson_calls.specs.Calls.{Call, call_of}
use Rattle.meson_calls.specs.Finding.{the_call}
use Rattle.meson_calls.specs.Loading.{AreParsed, named_trees, views}

-- the call at a place, if there is one
abbrev pub call_at : {S : Type 0} → Project S → CallRef → Option (Placed (Call S))
call_at p c = option_map (placed c) (option_and_then call_of (expression_at p c))

-- the list of the array or call at a place
pub record ListThere (p : Project Span) (c : CallRef) : Type 0 where
  pub file : BuildFile Span
  pub is_file : nth_file p c.file ≡ Some file
  pub list : ListAt Span
  pub is_list : list_at file.tree c.path.steps ≡ Some list

-- a call with its arguments, which are in round brackets
pub record CallThere (p : Project Span) (c : Placed (Call Span)) : Type 0 where
  pub there : ListThere p c.place
  pub is_list : there.list.list ≡ c.it.arguments
  pub is_round : there.list.bracket ≡ bracket.Round

-- the call at a place of trees, as they are parsed from files
pub record CallIn (trees : List Parsed) (place : CallRef) : Type 0 where
  pub files : List File
  pub parsed : AreParsed files trees
  pub call : Placed (Call Span)
  pub is_place : call.place ≡ place
  pub there : CallThere (named_trees files (views files trees)) call

abbrev pub CallsStand : Type 0
CallsStand = (p : Project Span) (r : Role) (name : CallName) (c : Placed (Call Span)) → the_call p r name ≡ Ok c → CallThere p c
