-- Variables that a removed target leaves, and that nothing reads then.
use Rattle.std.specs.Prelude.{ℕ, ◌-◌, Bool, not, ◌||◌, if◌then◌else◌, List, [], ◌∷◌, ◌++◌, bytes_eq, codes, flat_map, length, take, Some}
use Rattle.std.specs.List.{list_any}
use Rattle.meson_lex.specs.declared.kinds.Span.{Span}
use Rattle.meson_syntax.specs.Tree.{Expression}
use Rattle.meson_edit.specs.Standing.{expression_span}
use Rattle.meson_calls.specs.declared.call.Role.TheVariants as role
use Rattle.meson_calls.specs.Loading.{Loaded, project}
use Rattle.meson_calls.specs.Notes.{a_call, an_assignment, a_loop, notes}
use Rattle.meson_calls.specs.Notes as read
use Rattle.meson_calls.specs.Project.{Placed}
use Rattle.meson_details.specs.declared.details.Shown.{Shown}
use Rattle.meson_details.specs.declared.details.Shown.TheVariants as shown
use Rattle.meson_inventory.specs.Holdings.{calls_held, calls_named}
use Rattle.meson_inventory.specs.declared.holdings.HeldCall.{HeldCall}
use Rattle.meson_steps.specs.Names.{distinct}
use Rattle.meson_explaining.specs.Notes.{further}
use Rattle.meson_explaining.specs.Sources.{sources_at}
use Rattle.meson_explaining.specs.declared.explanation.Note.{Note}
use Rattle.meson_explaining.specs.declared.explanation.Spot.{Spot}
use Rattle.meson_warnings.specs.Known.{names_one, readers_known}
use Rattle.meson_warnings.specs.Overwrites.{keywords_at}
use Rattle.meson_warnings.specs.Reads.{is_in_one, reads}
use Rattle.meson_warnings.specs.SharedLists.{variable_in}
use Rattle.meson_calls.specs.declared.call.CallName.{CallName}

-- ---- the variables of a target

-- those that a value of a keyword argument is or has
abbrev pub variables_shown : Shown → List (List ℕ)
variables_shown (shown.Id x) = x ∷ []
variables_shown (shown.Ids xs) = xs
variables_shown _ = []

-- those that were followed to its sources, and those of the keyword arguments that commands change
abbrev pub variables_at : Loaded → CallName → List (List ℕ)
variables_at l target = flat_map variable_in (sources_at l target) ++ flat_map (λ p. variables_shown p.1) (keywords_at l role.Target target)

-- ---- what reads them

-- the calls that read a variable by its name
abbrev pub readers : Loaded → List HeldCall
readers l = calls_held l (codes "get_variable") ++ calls_held l (codes "is_variable")

-- whether a variable is read at a place outside some calls, or by its name
abbrev pub is_read_outside : List HeldCall → List HeldCall → List ℕ → List Spot → Bool
is_read_outside calls by_name x spots = list_any (λ s. not (is_in_one calls s)) spots || names_one x by_name

-- ---- where they are set

abbrev pub left_note : List ℕ → ℕ → Expression Span → Note
left_note x file e = record {
  spot = Some (record { file = file; at = (expression_span e).from; end = (expression_span e).to });
  text = x ++ codes " is set here, and nothing reads it then";
}

-- by an assignment in the file of that number
abbrev pub left_by : List ℕ → ℕ → read.Note Span → List Note
left_by x file (a_call c) = []
left_by x file (an_assignment y sets e) = if bytes_eq y x then left_note x file e ∷ [] else []
left_by x file (a_loop xs) = []

abbrev pub left_in : List ℕ → List (Placed (read.Note Span)) → List Note
left_in x ns = flat_map (λ n. left_by x n.place.file n.it) ns

-- ---- of a target that is removed

abbrev pub left_of : List HeldCall → List HeldCall → List (Placed (read.Note Span)) → List ℕ → List Spot → List Note
left_of calls by_name ns x spots = if is_read_outside calls by_name x spots then [] else left_in x ns

-- the first five, and how many others there are
abbrev pub few_left : List Note → List Note
few_left notes = take 5 notes ++ further (codes "further assignments to variables that nothing reads then") (length notes - 5)

abbrev pub left_named : Loaded → List HeldCall → List HeldCall → List (List ℕ) → List Note
left_named l calls by_name xs = flat_map (λ x. left_of calls by_name (notes (project l)) x (reads l x)) xs

abbrev pub all_left : Loaded → CallName → List Note
all_left l target = left_named l (calls_named l role.Target target) (readers l) (distinct (variables_at l target))

abbrev pub left_variables : Loaded → CallName → List Note
left_variables l target = if readers_known l then few_left (all_left l target) else []
