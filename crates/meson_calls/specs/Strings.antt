-- Trees whose strings are strings of their kind, and whose names are identifiers: those that a text parses as.
use Rattle.std.specs.Prelude.{ℕ, List, [], ◌∷◌}
use Rattle.meson_lex.specs.declared.kinds.Kind.{Kind}
use Rattle.meson_lex.specs.declared.kinds.Kind.TheVariants.{Identifier, PlainString, MultilineString, FormatString, FormatMultilineString}
use Rattle.meson_lex.specs.Kinds.{IsIdentifier, IsString}
use Rattle.meson_lex.specs.Significant.{Word}
use Rattle.meson_syntax.specs.declared.operator.Bracket.TheVariants as bracket
use Rattle.meson_syntax.specs.Grammar.{expression_words, listing_words, statement_words}
use Rattle.meson_calls.specs.Project.{Placed}
use Rattle.meson_calls.specs.Parts.{Part, an_expression, a_statement}
use Rattle.meson_calls.specs.Notes.{Note, a_call, an_assignment, a_loop}

abbrev pub IsGood : Kind → List ℕ → Type 0
IsGood PlainString text = IsString PlainString text
IsGood MultilineString text = IsString MultilineString text
IsGood FormatString text = IsString FormatString text
IsGood FormatMultilineString text = IsString FormatMultilineString text
IsGood Identifier text = IsIdentifier text
IsGood kind text = Unit {0}

abbrev pub AreGood : List Word → Type 0
AreGood [] = Unit {0}
AreGood (w ∷ words) = IsGood w.0 w.1 × AreGood words

abbrev pub part_words : {S : Type 0} → Part S → List Word
part_words (an_expression e) = expression_words e
part_words (a_statement s) = statement_words s

abbrev pub PartsGood : {S : Type 0} → List (Placed (Part S)) → Type 0
PartsGood [] = Unit {0}
PartsGood (q ∷ parts) = AreGood (part_words q.it) × PartsGood parts

abbrev pub note_words : {S : Type 0} → Note S → List Word
note_words (a_call c) = listing_words c.arguments bracket.Round
note_words (an_assignment x sets e) = expression_words e
note_words (a_loop xs) = []

abbrev pub NotesGood : {S : Type 0} → List (Placed (Note S)) → Type 0
NotesGood [] = Unit {0}
NotesGood (n ∷ notes) = AreGood (note_words n.it) × NotesGood notes
