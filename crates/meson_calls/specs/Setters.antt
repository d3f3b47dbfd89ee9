-- Notes by which the values of some variables are known: all of a file in which a call may set one, only the setters of the others. What is kept of files.
use Rattle.std.specs.Prelude.{◌≡◌, ℕ, ◌+◌, ◌<◌, Bool, true, false, ◌||◌, List, [], ◌∷◌, ◌++◌, length, get_or, bytes_eq, codes, if◌then◌else◌, Option, Some, None, IsTrue}
use Rattle.std.specs.Borrow.{Bor}
use Rattle.std.specs.List.{filter, filter_map, list_any}
use Rattle.meson_lex.specs.declared.kinds.Span.{Span}
use Rattle.meson_splice.specs.declared.file_set.File.{File}
use Rattle.meson_splice.specs.Files.{bytes_at}
use Rattle.meson_syntax.specs.declared.tree.Parsed.{Parsed}
use Rattle.meson_syntax.specs.Tree.{assign, iteration}
use Rattle.meson_syntax.specs.View.{view}
use Rattle.meson_calls.specs.declared.call.CallRef.{CallRef}
use Rattle.meson_calls.specs.declared.kept.Kept.{Kept}
use Rattle.meson_calls.specs.declared.kept.Kept.TheVariants as entry
use Rattle.meson_calls.specs.declared.kept.KeptAssignment.{KeptAssignment}
use Rattle.meson_calls.specs.Calls.{calls_function}
use Rattle.meson_calls.specs.Notes.{Note, a_call, an_assignment, a_loop, is_set, noted}
use Rattle.meson_calls.specs.Parts.{Part, a_statement, parts_of_file}
use Rattle.meson_calls.specs.Project.{Placed, child}

-- whether a name is among the code's names
abbrev pub is_among : List (Bor (List ℕ)) → List ℕ → Bool
is_among names x = list_any (λ name. bytes_eq name.now x) names

-- whether it is an assignment to one of the variables, or a loop
abbrev pub is_setter : List (Bor (List ℕ)) → Note Span → Bool
is_setter names (a_call c) = false
is_setter names (an_assignment x sets e) = is_among names x
is_setter names (a_loop xs) = true

abbrev pub setters_in : List (Bor (List ℕ)) → List (Placed (Note Span)) → List (Placed (Note Span))
setters_in names ns = filter (λ n. is_setter names n.it) ns

-- the notes of the n-th file: all of them, or its setters
abbrev pub notes_asked : List (Bor (List ℕ)) → Bool → ℕ → List ℕ → Parsed → List (Placed (Note Span))
notes_asked names all n bytes t =
    let own = noted (parts_of_file n (view bytes t)) in
    if all then own else setters_in names own

-- ---- calls by which variables are set: of `set_variable`, and of `subdir`, after which another file may set them

abbrev pub sets_by_call : {S : Type 0} → Note S → Bool
sets_by_call (a_call c) = calls_function (codes "subdir") c || calls_function (codes "set_variable") c
sets_by_call (an_assignment x sets e) = false
sets_by_call (a_loop xs) = false

-- whether there is one among the notes; in the n-th file
abbrev pub any_sets_by_call : {S : Type 0} → List (Placed (Note S)) → Bool
any_sets_by_call ns = list_any (λ m. sets_by_call m.it) ns

abbrev pub file_sets_by_call : ℕ → List ℕ → Parsed → Bool
file_sets_by_call n bytes t = any_sets_by_call (noted (parts_of_file n (view bytes t)))

-- No call in the n-th file sets a variable.
abbrev pub NoCallSets : ℕ → List ℕ → Parsed → Type 0
NoCallSets n bytes t = file_sets_by_call n bytes t ≡ false

-- ---- what is kept of files

-- whether a loop is among the parts
abbrev pub is_loop : Part Span → Bool
is_loop (a_statement (iteration s xs e b)) = true
is_loop _ = false

abbrev pub has_loop : List (Placed (Part Span)) → Bool
has_loop ps = list_any (λ q. is_loop q.it) ps

-- The assignments among the parts: for each the place of the variable's name, whether it is set, and the path of the value.
abbrev pub assignment_at : CallRef → Part Span → Option KeptAssignment
assignment_at p (a_statement (assign s x a e)) = Some (record { name = x.place; sets = is_set a; value = (child p 0).path })
assignment_at p _ = None

abbrev pub assignments_in : List (Placed (Part Span)) → List KeptAssignment
assignments_in ps = filter_map (λ q. assignment_at q.place q.it) ps

-- In a file that has these parts no call sets a variable, and no loop does: these are its assignments.
pub record AreAssignments (ps : List (Placed (Part Span))) (ks : List KeptAssignment) : Type 0 where
  pub no_call : any_sets_by_call (noted ps) ≡ false
  pub no_loop : has_loop ps ≡ false
  pub are : ks ≡ assignments_in ps

-- What is kept of a file that has these parts is right. If it is not known, and if a call may set variables, nothing is said.
abbrev pub IsKept : Kept → List (Placed (Part Span)) → Type 0
IsKept entry.Unknown ps = Unit {0}
IsKept entry.Calls ps = Unit {0}
IsKept entry.Loops ps = any_sets_by_call (noted ps) ≡ false
IsKept (entry.Assignments ks) ps = AreAssignments ps ks.items

-- What is kept of files is right. An entry that is not there is not known.
abbrev pub AreKept : List Kept → List File → List Parsed → Type 0
AreKept kept files trees = (i : ℕ) (d : Parsed) → IsKept (get_or kept i entry.Unknown) (parts_of_file i (view (bytes_at i files) (get_or trees i d)))

abbrev pub is_known : Kept → Bool
is_known entry.Unknown = false
is_known _ = true

-- it is known of each of the files
abbrev pub AllKnown : List Kept → List File → Type 0
AllKnown kept files = (i : ℕ) → i < length files → IsTrue (is_known (get_or kept i entry.Unknown))

-- ---- notes of files

-- Notes begin with those of a file: with all of them, or with its setters, if no call in it sets a variable.
pub record BeginWithSetters (names : List (Bor (List ℕ))) (n : ℕ) (f : File) (t : Parsed)
    (Further : List (Placed (Note Span)) → Type 0) (ns : List (Placed (Note Span))) : Type 0 where
  pub all : Bool
  pub few : all ≡ false → NoCallSets n f.bytes t
  pub more : List (Placed (Note Span))
  pub further : Further more
  pub are : ns ≡ notes_asked names all n f.bytes t ++ more

-- Notes of files, of which the first has the number n.
abbrev pub AreSetters : List (Bor (List ℕ)) → ℕ → List File → List Parsed → List (Placed (Note Span)) → Type 0
AreSetters names n (f ∷ files) (t ∷ parsed) ns = BeginWithSetters names n f t (AreSetters names (n + 1) files parsed) ns
AreSetters names n _ _ ns = ns ≡ []
