-- The ways that the code finds.
use Rattle.std.specs.Prelude.{ℕ, ◌+◌, Bool, ◌||◌, List, [], ◌∷◌, ◌++◌, if◌then◌else◌, Option, Some, None}
use Rattle.meson_lex.specs.declared.kinds.Span.{Span}
use Rattle.meson_syntax.specs.declared.tree.Arg.{Arg}
use Rattle.meson_syntax.specs.Tree.{Expression, Listing}
use Rattle.meson_calls.specs.declared.call.CallRef.{CallRef}
use Rattle.meson_calls.specs.Calls.{Numbered, value_with_name, value_without_name}
use Rattle.meson_calls.specs.NamedArguments.{kept_args, rest, sources_key}
use Rattle.meson_calls.specs.Project.{Project, child}
use Rattle.meson_variables.specs.Expansion.{is_files}
use Rattle.meson_following.specs.Following.{one_of_places}
use Rattle.meson_sharing.specs.Sharing.{is_getter, is_way_of_makers, ways, ways_of_listing, ways_of_values}

-- of a call
abbrev pub call_ways : CallRef → List ℕ → Listing Span → List CallRef
call_ways q f l = if is_getter f then q ∷ [] else (if is_files f l then ways_of_listing q l else [])

-- of the value of an argument, if there is one
abbrev pub value_ways : CallRef → Option (Numbered (Expression Span)) → List CallRef
value_ways q None = []
value_ways q (Some a) = ways (child q (0 + a.number)) a.value

-- of the arguments of a call that makes a target
abbrev pub target_ways : CallRef → List ℕ → List Arg → List CallRef
target_ways q source args =
    ways_of_values q 0 (rest (kept_args source value_without_name 0 args) ++ kept_args source (value_with_name sources_key) 0 args)

-- a place is one of these ways of a call, or a way of the value of one of these makers
abbrev pub is_way_in : {S : Type 0} → Project S → List CallRef → List CallRef → CallRef → Bool
is_way_in p own ms q = one_of_places own q || is_way_of_makers p ms q
