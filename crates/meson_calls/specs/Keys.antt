-- The keyword arguments that commands change, depending on the kind of call. Meson manual, Reference manual: `project`, `dependency`, `executable`.
use Rattle.std.specs.Prelude.{ℕ, Bool, ◌||◌, List, [], ◌∷◌, codes, Option, Some, None}
use Rattle.meson_syntax.specs.Tree.{Expression, identifier}
use Rattle.meson_calls.specs.declared.call.Role.{Role}
use Rattle.meson_calls.specs.declared.call.Role.TheVariants as role
use Rattle.meson_calls.specs.Roles.{one_of}

-- those that are one text
abbrev pub text_keys : Role → List (List ℕ)
text_keys role.Project = codes "version" ∷ codes "meson_version" ∷ codes "subproject_dir" ∷ []
text_keys role.Dependency = codes "language" ∷ codes "method" ∷ codes "not_found_message" ∷ []
text_keys role.Target = codes "build_rpath" ∷ codes "install_dir" ∷ codes "install_rpath" ∷ []

-- those that are `true` or `false`
abbrev pub switch_keys : Role → List (List ℕ)
switch_keys role.Project = []
switch_keys role.Dependency = codes "native" ∷ codes "required" ∷ codes "static" ∷ []
switch_keys role.Target = codes "build_by_default" ∷ codes "export_dynamic" ∷ codes "gui_app" ∷ codes "implib" ∷ codes "install" ∷ codes "pie" ∷ []

-- those that are a list of texts
abbrev pub text_list_keys : Role → List (List ℕ)
text_list_keys role.Project = codes "license" ∷ codes "default_options" ∷ []
text_list_keys role.Dependency = codes "version" ∷ codes "modules" ∷ []
text_list_keys role.Target = []

-- those that are a list of variables
abbrev pub identifier_list_keys : Role → List (List ℕ)
identifier_list_keys role.Project = []
identifier_list_keys role.Dependency = []
identifier_list_keys role.Target = codes "dependencies" ∷ codes "link_with" ∷ []

-- whether commands change it
abbrev pub is_key : Role → List ℕ → Bool
is_key r key = one_of (text_keys r) key || (one_of (switch_keys r) key || (one_of (text_list_keys r) key || one_of (identifier_list_keys r) key))

-- the name of a variable, as it is written in a list of variables
abbrev pub name_of : {S : Type 0} → Expression S → Option (List ℕ)
name_of (identifier s x) = Some x
name_of _ = None
