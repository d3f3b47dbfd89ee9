-- What a command is about: a target, a dependency or the project. Meson manual, Rewriter.
use Rattle.std.specs.Prelude.{ℕ, Bool, false, ◌&&◌, List, [], ◌∷◌, map, if◌then◌else◌, bytes_eq, codes, Option, Some, None, is_some}
use Rattle.std.specs.List.{list_any}
use Rattle.meson_syntax.specs.Tree.{Expression}
use Rattle.meson_calls.specs.declared.call.CallRef.{CallRef}
use Rattle.meson_calls.specs.declared.call.Role.{Role}
use Rattle.meson_calls.specs.declared.call.Role.TheVariants as role
use Rattle.meson_calls.specs.Project.{Project, Placed, expression_at}
use Rattle.meson_calls.specs.Calls.{Call, call_of, all_chosen, first_argument, part_call}
use Rattle.meson_calls.specs.Parts.{Part, parts}

-- the functions that make targets: Meson manual, Reference manual
abbrev pub target_functions : List (List ℕ)
target_functions =
    codes "executable" ∷ codes "static_library" ∷ codes "shared_library" ∷ codes "shared_module" ∷ codes "both_libraries" ∷ codes "library" ∷ codes "jar"
    ∷ codes "build_target" ∷ []

abbrev pub one_of : List (List ℕ) → List ℕ → Bool
one_of texts x = list_any (λ y. bytes_eq y x) texts

-- whether a call is one of a target, a dependency or the project; the first two have a name
abbrev pub has_role : {S : Type 0} → Role → Call S → Bool
has_role role.Target c = one_of target_functions c.function && is_some (first_argument c)
has_role role.Dependency c = bytes_eq c.function (codes "dependency") && is_some (first_argument c)
has_role role.Project c = bytes_eq c.function (codes "project")

abbrev pub with_role : {S : Type 0} → Role → Call S → Option (Call S)
with_role r c = if has_role r c then Some c else None

-- the calls of a role among some parts, and in a project
abbrev pub role_calls_among : {S : Type 0} → List (Placed (Part S)) → Role → List (Placed (Call S))
role_calls_among qs r = all_chosen (with_role r) (all_chosen part_call qs)

abbrev pub role_calls : {S : Type 0} → Project S → Role → List (Placed (Call S))
role_calls p r = role_calls_among (parts p) r

abbrev pub places : {X : Type 0} → List (Placed X) → List CallRef
places xs = map (λ x. x.place) xs

abbrev pub targets : {S : Type 0} → Project S → List CallRef
targets p = places (role_calls p role.Target)

-- whether the place is that of a call of a target
abbrev pub is_target_call : {S : Type 0} → Option (Expression S) → Bool
is_target_call None = false
is_target_call (Some e) = elim (call_of e) [ None ↦ false | Some c ↦ has_role role.Target c ]

abbrev pub is_target : {S : Type 0} → Project S → CallRef → Bool
is_target p at_ = is_target_call (expression_at p at_)
