-- The variables that assignments and loops of a project set have names that are identifiers.
use Rattle.std.proofs.Common.{◌≡◌, ℕ, zero, suc, ◌<◌, List, [], ◌∷◌, length, get_or, sym, subst, arith}
use Rattle.std.specs.Prelude.{option_map}
use Rattle.std.specs.List.{cons_option}
use Rattle.meson_lex.specs.declared.kinds.Span.{Span}
use Rattle.meson_lex.specs.Kinds.{IsIdentifier}
use Rattle.meson_splice.specs.declared.file_set.File.{File}
use Rattle.meson_syntax.specs.Grammar.{more_names_words, names_words}
use Rattle.meson_syntax.specs.Tree.{Name, assign, call, iteration}
use Rattle.meson_syntax.specs.View.{names_at, text_at}
use Rattle.meson_syntax.specs.declared.tree.Parsed.{Parsed}
use Rattle.meson_calls.specs.declared.call.CallRef.{CallRef}
use Rattle.meson_calls.specs.declared.note.Note as code
use Rattle.meson_calls.specs.Loading.{AreParsed, named_trees, views}
use Rattle.meson_calls.specs.NamedNotes.{AreIdentifiers, AreNamed, IsNamed}
use Rattle.meson_calls.specs.Notes.{Note, note_of, note_view, note_views, noted, notes}
use Rattle.meson_calls.specs.Parts.{Part, an_expression, a_statement, parts_from}
use Rattle.meson_calls.specs.Project.{Placed, placed}
use Rattle.meson_calls.specs.Strings.{AreGood, PartsGood, part_words}
use Rattle.meson_calls.proofs.GoodNotes.{parts_good}
use Rattle.meson_calls.proofs.GoodParts.{good_left}

more_named : {S : Type 0} (xs : List (Name S)) → AreGood (more_names_words xs) → AreIdentifiers xs
more_named [] good = tt
more_named (x ∷ xs) good = (good.1.0, more_named xs good.1.1)

all_named : {S : Type 0} (xs : List (Name S)) → AreGood (names_words xs) → AreIdentifiers xs
all_named [] good = tt
all_named (x ∷ xs) good = (good.0, more_named xs good.1)

note_named : (q : Part Span) (p : CallRef) (ns : List (Placed (Note Span))) → AreGood (part_words q) → AreNamed ns → AreNamed (cons_option (option_map (placed p) (note_of q)) ns)
note_named (an_expression (call s x l)) p ns good rest = (tt, rest)
note_named (an_expression _) p ns good rest = rest
note_named (a_statement (assign s x a e)) p ns good rest = (good.0, rest)
note_named (a_statement (iteration s xs e b)) p ns good rest = (all_named xs (good_left (names_words xs) _ good.1), rest)
note_named (a_statement _) p ns good rest = rest

noted_named : (ps : List (Placed (Part Span))) → PartsGood ps → AreNamed (noted ps)
noted_named [] good = tt
noted_named (q ∷ ps) good = note_named q.it q.place (noted ps) good.0 (noted_named ps good.1)

-- so it is with the notes of a project
pub taken_named : (files : List File) (parsed : List Parsed) → AreParsed files parsed → (taken : List (Placed (Note Span))) → taken ≡ notes (named_trees files (views files parsed)) → AreNamed taken
taken_named files parsed are taken is = subst AreNamed (sym is) (noted_named (parts_from 0 (named_trees files (views files parsed))) (parts_good 0 files parsed are))

pub named_at : (ns : List code.Note) (i : ℕ) (d : code.Note) → i < length ns → AreNamed (note_views ns) → IsNamed (note_view (get_or ns i d)).it
named_at [] i d within named = absurd (omega arith)
named_at (n ∷ ns) zero d within named = named.0
named_at (n ∷ ns) (suc i) d within named = let below : i < length ns = omega arith in named_at ns i d below named.1

pub identifier_at : (source : List ℕ) (xs : List Span) (i : ℕ) (d : Span) → i < length xs → AreIdentifiers (names_at source xs) → IsIdentifier (text_at source (get_or xs i d))
identifier_at source [] i d within named = absurd (omega arith)
identifier_at source (x ∷ xs) zero d within named = named.0
identifier_at source (x ∷ xs) (suc i) d within named = let below : i < length xs = omega arith in identifier_at source xs i d below named.1
