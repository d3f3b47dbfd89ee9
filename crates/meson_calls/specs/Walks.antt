-- Walks through trees: what is kept of the parts that are visited, one after another.
use Rattle.std.specs.Prelude.{◌≡◌, ℕ, Bool, true, false, List, [], ◌∷◌, ◌++◌, ◌||◌, bytes_eq, Option, Some, None, option_map, if◌then◌else◌}
use Rattle.std.specs.Borrow.{Bor}
use Rattle.std.specs.List.{fold, filter_map}
use Rattle.meson_lex.specs.declared.kinds.Span.{Span}
use Rattle.meson_syntax.specs.Paths.{list_span}
use Rattle.meson_syntax.specs.Tree.{Expression, identifier, array, dictionary}
use Rattle.meson_syntax.specs.View.{expr_view, stmt_view}
use Rattle.meson_calls.specs.declared.call.CallRef.{CallRef}
use Rattle.meson_calls.specs.declared.keeper.Keeper.{Keeper}
use Rattle.meson_calls.specs.declared.keeper.Keeper.TheVariants as keeper
use Rattle.meson_calls.specs.declared.keeper.Opened.{Opened}
use Rattle.meson_calls.specs.declared.kept.KeptAssignment.{KeptAssignment}
use Rattle.meson_calls.specs.declared.part.Part as rust_part
use Rattle.meson_calls.specs.declared.part.Part.TheVariants as rust
use Rattle.meson_calls.specs.declared.part.Walk.{Walk}
use Rattle.meson_calls.specs.Project.{Placed, placed, place}
use Rattle.meson_calls.specs.Parts.{Part, an_expression, a_statement}
use Rattle.meson_calls.specs.Notes.{Note, noted, taken_view}
use Rattle.meson_calls.specs.Setters.{assignments_in, is_loop, setters_in}

-- ---- where a variable is read

abbrev pub expression_reads : {S : Type 0} → List ℕ → Expression S → Bool
expression_reads x (identifier s y) = bytes_eq y x
expression_reads x _ = false

abbrev pub part_reads : {S : Type 0} → List ℕ → Part S → Bool
part_reads x (an_expression e) = expression_reads x e
part_reads x (a_statement s) = false

abbrev pub read_at : {S : Type 0} → List ℕ → Placed (Part S) → Option CallRef
read_at x q = if part_reads x q.it then Some q.place else None

-- the places of identifiers that are the variable
abbrev pub read_in : {S : Type 0} → List ℕ → List (Placed (Part S)) → List CallRef
read_in x ps = filter_map (read_at x) ps

-- ---- where arrays and dictionaries are

-- the offset of the opening bracket
abbrev pub bracket_of : Part Span → Option ℕ
bracket_of (an_expression (array l)) = Some (list_span l).from
bracket_of (an_expression (dictionary l)) = Some (list_span l).from
bracket_of _ = None

abbrev pub opened_at : CallRef → ℕ → Opened
opened_at p at_ = record { at = at_; place = p }

abbrev pub list_opened : Placed (Part Span) → Option Opened
list_opened q = option_map (opened_at q.place) (bracket_of q.it)

-- the arrays and dictionaries, with their offsets and places
abbrev pub lists_opened : List (Placed (Part Span)) → List Opened
lists_opened ps = filter_map list_opened ps

-- ---- what is kept: the notes, those of setters alone, whether there is a loop and the assignments, the places where a variable is read, or the arrays and
-- dictionaries

pub data KeptParts : Type 0 where
  notes_kept : List (Placed (Note Span)) → KeptParts
  setters_kept : List (Bor (List ℕ)) → List (Placed (Note Span)) → KeptParts
  assignments_kept : Bool → List KeptAssignment → KeptParts
  reads_kept : List ℕ → List CallRef → KeptParts
  lists_kept : List Opened → KeptParts

abbrev pub keeper_view : Keeper → KeptParts
keeper_view (keeper.Notes found) = notes_kept (taken_view found)
keeper_view (keeper.Setters s) = setters_kept s.names.now (taken_view s.found)
keeper_view (keeper.Assignments a) = assignments_kept a.loops a.found.items
keeper_view (keeper.Reads name found) = reads_kept name.now found.items
keeper_view (keeper.Lists found) = lists_kept found.items

-- if all notes are requested, or those of setters
abbrev pub kept_so_far : List (Bor (List ℕ)) → Bool → List (Placed (Note Span)) → KeptParts
kept_so_far names true ns = notes_kept ns
kept_so_far names false ns = setters_kept names ns

abbrev pub with_part : KeptParts → Placed (Part Span) → KeptParts
with_part (notes_kept ns) q = notes_kept (ns ++ noted (q ∷ []))
with_part (setters_kept names ns) q = setters_kept names (ns ++ setters_in names (noted (q ∷ [])))
with_part (assignments_kept loops ks) q = assignments_kept (is_loop q.it || loops) (ks ++ assignments_in (q ∷ []))
with_part (reads_kept x cs) q = reads_kept x (cs ++ read_in x (q ∷ []))
with_part (lists_kept ls) q = lists_kept (ls ++ lists_opened (q ∷ []))

abbrev pub with_parts : KeptParts → List (Placed (Part Span)) → KeptParts
with_parts kept ps = fold with_part kept ps

abbrev pub notes_of_kept : KeptParts → Option (List (Placed (Note Span)))
notes_of_kept (notes_kept ns) = Some ns
notes_of_kept (setters_kept names ns) = Some ns
notes_of_kept (assignments_kept loops ks) = None
notes_of_kept (reads_kept x cs) = None
notes_of_kept (lists_kept ls) = None

abbrev pub reads_of_kept : KeptParts → Option (List CallRef)
reads_of_kept (notes_kept ns) = None
reads_of_kept (setters_kept names ns) = None
reads_of_kept (assignments_kept loops ks) = None
reads_of_kept (reads_kept x cs) = Some cs
reads_of_kept (lists_kept ls) = None

abbrev pub lists_of_kept : KeptParts → Option (List Opened)
lists_of_kept (notes_kept ns) = None
lists_of_kept (setters_kept names ns) = None
lists_of_kept (assignments_kept loops ks) = None
lists_of_kept (reads_kept x cs) = None
lists_of_kept (lists_kept ls) = Some ls

-- the parts give what a keeper has
abbrev pub KeepsParts : Keeper → List (Placed (Part Span)) → Keeper → Type 0
KeepsParts before ps after = keeper_view after ≡ with_parts (keeper_view before) ps

-- ---- parts as the code visits them

abbrev pub part_view : List ℕ → rust_part.Part → Part Span
part_view source (rust.Expression e) = an_expression (expr_view source e.now)
part_view source (rust.Statement s) = a_statement (stmt_view source s.now)

-- what is at a path of a file
abbrev pub part_at : Walk → List ℕ → rust_part.Part → Placed (Part Span)
part_at walk path part = placed (place walk.file path) (part_view walk.source.now part)
