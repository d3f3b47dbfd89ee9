-- Lines as they are written in another file: each with the indent of its place there, and with the line end of that file.
use Rattle.std.specs.Prelude.{◌≡◌, ℕ, Bool, true, false, not, ◌&&◌, List, [], ◌∷◌, ◌++◌, take}
use Rattle.std.specs.List.{list_all, prefix_len}
use Rattle.std.specs.Str.{IsUtf8}
use Rattle.meson_lex.specs.declared.kinds.Kind.{Kind}
use Rattle.meson_lex.specs.declared.kinds.Kind.TheVariants.{Blank, Continuation, LineEnd}
use Rattle.meson_lex.specs.Bytes.{is_blank, is_line_byte}
use Rattle.meson_lex.specs.Items.{Lexeme, joined, IsItemList}
use Rattle.meson_lex.specs.Kinds.{IsLineEnd}
use Rattle.meson_syntax.specs.Reads.{Spells}
use Rattle.meson_syntax.specs.Tree.{Plain}
use Rattle.meson_edit.specs.ExchangedLines.{IsLinesText, file_statements}

-- ---- items

abbrev pub lexeme : Kind → List ℕ → Lexeme
lexeme k bytes = record { kind = k; text = bytes }

-- an indent as an item, if it has a byte
abbrev pub indent_item : List ℕ → List Lexeme
indent_item [] = []
indent_item (b ∷ bs) = lexeme Blank (b ∷ bs) ∷ []

-- the number of bytes before a line end
abbrev pub line_len : List ℕ → ℕ
line_len text = prefix_len (λ b. not (is_line_byte b)) text

-- the bytes of a continuation before its line end
abbrev pub before_end : List ℕ → List ℕ
before_end text = take (line_len text) text

abbrev pub is_end : Kind → Bool
is_end LineEnd = true
is_end _ = false

-- whether the line has more: a token, a comment or a continuation is next, and no line end
abbrev pub goes_on : List Lexeme → Bool
goes_on [] = false
goes_on (x ∷ xs) = not (is_end x.kind)

-- ---- lines

-- where a line begins the indent
abbrev pub indent_if : (begins : Bool) → (indent : List ℕ) → List Lexeme
indent_if true indent = indent_item indent
indent_if false indent = []

-- Blanks that begin a line have the indent before them. On a line without text they go.
abbrev pub blanks_indented : (indent : List ℕ) → (begins more : Bool) → List ℕ → List Lexeme
blanks_indented indent true true bytes = lexeme Blank (indent ++ bytes) ∷ []
blanks_indented indent true false bytes = []
blanks_indented indent false more bytes = lexeme Blank bytes ∷ []

-- an item in its line, where `more` says that the line goes on after it
abbrev pub one_indented : (indent end : List ℕ) → (begins more : Bool) → Kind → List ℕ → List Lexeme
one_indented indent end begins more Blank bytes = blanks_indented indent begins more bytes
one_indented indent end begins more LineEnd bytes = lexeme LineEnd end ∷ []
one_indented indent end begins more Continuation bytes = indent_if begins indent ++ lexeme Continuation (before_end bytes ++ end) ∷ []
one_indented indent end begins more k bytes = indent_if begins indent ++ lexeme k bytes ∷ []

-- whether a line begins after it
abbrev pub begins_after : (begins more : Bool) → Kind → Bool
begins_after begins more Blank = begins && not more
begins_after begins more LineEnd = true
begins_after begins more Continuation = true
begins_after begins more k = false

-- The items of a text with an indent and a line end of its own for each line, and with a line end after the last one. `begins` says that a line begins with
-- them. A line without text stays empty.
abbrev pub indented : (indent end : List ℕ) → (begins : Bool) → List Lexeme → List Lexeme
indented indent end begins [] = lexeme LineEnd end ∷ []
indented indent end begins (x ∷ xs) =
    one_indented indent end begins (goes_on xs) x.kind x.text ++ indented indent end (begins_after begins (goes_on xs) x.kind) xs

-- spaces and TABs
abbrev pub is_indent : List ℕ → Bool
is_indent text = list_all is_blank text

-- ---- laws

-- The lines of a text, indented, are whole lines of its statements.
abbrev pub IndentedAreLines : Type 0
IndentedAreLines = (text : List ℕ) (t : Plain) → Spells text t → (items : List Lexeme) → IsItemList text items
    → (indent end : List ℕ) → is_indent indent ≡ true → IsLineEnd end → IsLinesText (joined (indented indent end true items)) (file_statements t)

-- They are UTF-8 if the text is.
abbrev pub IndentedAreUtf8 : Type 0
IndentedAreUtf8 = (text : List ℕ) → IsUtf8 text → (items : List Lexeme) → IsItemList text items
    → (indent end : List ℕ) → is_indent indent ≡ true → IsLineEnd end → IsUtf8 (joined (indented indent end true items))

-- tokens and comments
abbrev pub said_by : Kind → List ℕ → List Lexeme
said_by Blank bytes = []
said_by LineEnd bytes = []
said_by Continuation bytes = []
said_by k bytes = lexeme k bytes ∷ []

abbrev pub said : List Lexeme → List Lexeme
said [] = []
said (x ∷ xs) = said_by x.kind x.text ++ said xs

-- Each token and each comment stays as it is: also a string of more than one line.
abbrev pub IndentedSayTheSame : Type 0
IndentedSayTheSame = (indent end : List ℕ) (begins : Bool) (items : List Lexeme) → said (indented indent end begins items) ≡ said items
