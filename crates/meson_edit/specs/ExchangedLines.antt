-- Whole lines exchanged: a number of statements of a block, from the n-th on, become others. The laws say that the text then parses as the tree with that
-- change.
use Rattle.std.specs.Str.{IsUtf8}
use Rattle.std.specs.Prelude.{◌≡◌, ◌<◌, ◌≤◌, ◌+◌, ℕ, suc, List, [], ◌∷◌, ◌++◌, length, take, drop, Option, Some, option_map, ◌⊎◌}
use Rattle.meson_lex.specs.declared.kinds.Span.{Span}
use Rattle.meson_lex.specs.declared.kinds.Kind.TheVariants as k
use Rattle.meson_lex.specs.Items.{Lexeme, joined, IsItemList}
use Rattle.meson_lex.specs.Significant.{Word, Role, Gap, Ends, Opens, Closes, Other, role, start, emitted, significant}
use Rattle.meson_lex.specs.Words.{spoken, word}
use Rattle.meson_syntax.specs.declared.source.Limits.{Limits}
use Rattle.meson_syntax.specs.Tree.{Nowhere, Plain, Statement, statement_list, statements_of, Block, block, File, file, erase}
use Rattle.meson_syntax.specs.Grammar.{statements_words, LevelStatements, LevelFile, file_depth, statements_depth}
use Rattle.meson_syntax.specs.Reads.{Fits, Spells, ReadsWithin, IsSpannedWithin}
use Rattle.meson_syntax.specs.Paths.{of_block, nth, reach, block_of}
use Rattle.meson_edit.specs.Standing.{statement_span}
use Rattle.meson_edit.specs.Blocks.{BlockAt, block_at, statement_in, block_without, file_and_last, EndsItsLine, IsBreak}
use Rattle.meson_edit.specs.Lines.{HasNoLineEnd}

-- ---- trees

abbrev pub statements_in : {S : Type 0} → Block S → List (Statement S)
statements_in (block s list) = statement_list list

-- the block with these statements in place of its own
abbrev pub with_statements : {S : Type 0} → Block S → List (Statement S) → Block S
with_statements (block s list) new = block s (statements_of new)

abbrev pub file_statements : {S : Type 0} → File S → List (Statement S)
file_statements (file s b) = statements_in b

-- A number of statements, from the n-th on, become others. If the number is 0, the others come before the n-th. If there are no others, the statements go.
abbrev pub exchanged_statements : {S : Type 0} → (from many : ℕ) → (new list : List (Statement S)) → List (Statement S)
exchanged_statements from many new list = take from list ++ (new ++ drop (from + many) list)

-- the block with them exchanged
abbrev pub exchanged_in : {S : Type 0} → (from many : ℕ) → List (Statement S) → Block S → Block S
exchanged_in from many new b = with_statements b (exchanged_statements from many new (statements_in b))

-- the words of statements, each with its line end
abbrev pub statements_words_of : {S : Type 0} → List (Statement S) → List Word
statements_words_of list = statements_words (statements_of list)

-- the words of a file before the node that a path names
abbrev pub words_before : {S : Type 0} → File S → List ℕ → Option (List Word)
words_before {S} f path = option_map (λ h. h.before) (reach S of_block (block_of f) path)

-- ---- items

-- The items `was`, after the items `left`, stand for a number of statements of a block, from the n-th on: `left` has the words of all that is before these
-- statements, and `was` has their words. A line end that is missing at the end counts. So both end outside brackets. Blanks, comments and empty lines may be
-- among them, as these are no words.
pub record StandsFor (t : Plain) (path : List ℕ) (b : Block Nowhere) (from many : ℕ) (left was : List Lexeme) : Type 0 where
  pub before : List Word
  pub is_before : words_before t path ≡ Some before
  pub is_left : significant left ≡ before ++ statements_words_of (take from (statements_in b))
  pub is_was : significant was ≡ statements_words_of (take many (drop from (statements_in b)))

-- whole lines: the items before them end their line, and so do they, unless nothing is after them
abbrev pub AreLines : (left lines right : List Lexeme) → Type 0
AreLines left lines right = EndsItsLine left × (EndsItsLine lines ⊎ (right ≡ []))

-- the rest of a line: its one line end is its last item, or it has none and nothing is after it
abbrev pub IsRestOfLine : (rest right : List Lexeme) → Type 0
IsRestOfLine rest right =
    ((row : List Lexeme) × (end : Lexeme) × HasNoLineEnd row × (end.kind ≡ k.LineEnd) × (rest ≡ row ++ end ∷ [])) ⊎ (HasNoLineEnd rest × (right ≡ []))

-- the words of items with every line end, also within brackets: what is left out are blanks, comments and continuations, and how a line end is written
abbrev pub outright_by : Role → Word → List Word
outright_by Gap w = []
outright_by Ends w = w ∷ []
outright_by Opens w = w ∷ []
outright_by Closes w = w ∷ []
outright_by Other w = w ∷ []

abbrev pub outright : List Lexeme → List Word
outright [] = []
outright (x ∷ xs) = outright_by (role x.kind) (word x) ++ outright xs

-- The text is whole lines that have the words of these statements.
pub record IsLinesText (text : List ℕ) (new : List (Statement Nowhere)) : Type 0 where
  pub items : List Lexeme
  pub are_items : IsItemList text items
  pub is_words : emitted start items ≡ statements_words_of new
  pub ends : EndsItsLine items

-- The lines of the n-th statement of a block: they stand for it. Before them and after them is where others may be put.
pub record AreLinesOf (t : Plain) (path : List ℕ) (b : Block Nowhere) (n : ℕ) (left was right : List Lexeme) : Type 0 where
  pub lines : AreLines left was right
  pub itself : StandsFor t path b n 1 left was
  pub before : StandsFor t path b n 0 left []
  pub behind : StandsFor t path b (suc n) 0 (left ++ was) []

-- ---- laws of trees

-- Where statements are in a list once some became others. Those before them stay, the others are in their place, and those after them come after these.
pub record ExchangedStand (from many : ℕ) (new list : List (Statement Nowhere)) : Type 0 where
  pub before : (n : ℕ) → n < from → nth (exchanged_statements from many new list) n ≡ nth list n
  pub others : (n : ℕ) → n < length new → nth (exchanged_statements from many new list) (from + n) ≡ nth new n
  pub behind : (n : ℕ) → nth (exchanged_statements from many new list) (from + length new + n) ≡ nth list (from + many + n)

abbrev pub ExchangesStand : Type 0
ExchangesStand = (from many : ℕ) (new list : List (Statement Nowhere)) → from ≤ length list → ExchangedStand from many new list

-- A block without a statement has it exchanged for none, and a file with one more at its end has none exchanged for it.
abbrev pub RemovalsExchange : Type 0
RemovalsExchange = (b : Block Nowhere) (n : ℕ) → block_without b n ≡ exchanged_in n 1 [] b

abbrev pub AppendingExchanges : Type 0
AppendingExchanges = (t : Plain) (b : BlockAt Nowhere) → block_at t [] ≡ Some b → (x : Statement Nowhere)
    → file_and_last t x ≡ b.back (exchanged_in (length (statements_in b.inside)) 0 (x ∷ []) b.inside)

-- examples
pub record ExchangeRows (a b c x y : Statement Nowhere) : Type 0 where
  pub one : exchanged_statements 1 1 (x ∷ []) (a ∷ b ∷ c ∷ []) ≡ a ∷ x ∷ c ∷ []
  pub two : exchanged_statements 0 2 (x ∷ []) (a ∷ b ∷ c ∷ []) ≡ x ∷ c ∷ []
  pub come_before : exchanged_statements 1 0 (x ∷ y ∷ []) (a ∷ b ∷ []) ≡ a ∷ x ∷ y ∷ b ∷ []
  pub come_last : exchanged_statements 2 0 (x ∷ []) (a ∷ b ∷ []) ≡ a ∷ b ∷ x ∷ []
  pub come_alone : exchanged_statements 0 0 (x ∷ y ∷ []) [] ≡ x ∷ y ∷ []
  pub go : exchanged_statements 1 2 [] (a ∷ b ∷ c ∷ []) ≡ a ∷ []
  pub all_go : exchanged_statements 0 1 [] (a ∷ []) ≡ []

abbrev pub ExchangesComputed : Type 0
ExchangesComputed = (a b c x y : Statement Nowhere) → ExchangeRows a b c x y

-- The tree has its levels if the statements that come have them.
abbrev pub LinesLevel : Type 0
LinesLevel = (t : Plain) (path : List ℕ) (b : BlockAt Nowhere) → block_at t path ≡ Some b → LevelFile t
    → (from many : ℕ) (new : List (Statement Nowhere)) → LevelStatements (statements_of new) → LevelFile (b.back (exchanged_in from many new b.inside))

-- It is deeper by no more than those.
abbrev pub LinesDeepen : Type 0
LinesDeepen = (t : Plain) (path : List ℕ) (b : BlockAt Nowhere) → block_at t path ≡ Some b → (from many : ℕ) (new : List (Statement Nowhere))
    → file_depth (b.back (exchanged_in from many new b.inside)) ≤ file_depth t + statements_depth (statements_of new)

-- If neither the file nor the file whose block has those statements alone is deeper than a number, nor is the file with both.
abbrev pub RoomsSuffice : Type 0
RoomsSuffice = (t : Plain) (path : List ℕ) (b : BlockAt Nowhere) → block_at t path ≡ Some b → (most : ℕ) → file_depth t ≤ most
    → (from many : ℕ) (new : List (Statement Nowhere)) → file_depth (b.back (with_statements b.inside new)) ≤ most
    → file_depth (b.back (exchanged_in from many new b.inside)) ≤ most

-- ---- laws of texts

-- Items that stand for some statements are exchanged for whole lines that have the words of others. If the items before them do not end their line, a line
-- end is put between. Then the new text spells the tree with these statements exchanged.
abbrev pub LinesExchange : Type 0
LinesExchange = (bytes : List ℕ) (t : Plain) → Spells bytes t → (path : List ℕ) (b : BlockAt Nowhere) → block_at t path ≡ Some b
    → (from many : ℕ) (left was right : List Lexeme) → IsItemList bytes (left ++ (was ++ right)) → StandsFor t path b.inside from many left was
    → (break : List ℕ) → IsBreak left break
    → (new : List (Statement Nowhere)) (text : List ℕ) → IsLinesText text new → LevelStatements (statements_of new)
    → Spells (joined left ++ (break ++ (text ++ joined right))) (b.back (exchanged_in from many new b.inside))

-- And it parses as that tree, if its length and its depth allow it and the lines are UTF-8.
abbrev pub LinesReadAgain : Type 0
LinesReadAgain = (limits : Limits) (bytes : List ℕ) (t : Plain) → ReadsWithin limits bytes t → (path : List ℕ) (b : BlockAt Nowhere) → block_at t path ≡ Some b
    → (from many : ℕ) (left was right : List Lexeme) → IsItemList bytes (left ++ (was ++ right)) → StandsFor t path b.inside from many left was
    → (break : List ℕ) → IsBreak left break
    → (new : List (Statement Nowhere)) (text : List ℕ) → IsLinesText text new → LevelStatements (statements_of new)
    → IsUtf8 text → Fits limits.len (length (joined left ++ (break ++ (text ++ joined right))))
    → file_depth (b.back (exchanged_in from many new b.inside)) ≤ limits.depth
    → ReadsWithin limits (joined left ++ (break ++ (text ++ joined right))) (b.back (exchanged_in from many new b.inside))

-- A statement's lines are all from the line end before it to the line end after it, with a comment that is after it. `front` ends its line, `head` is before
-- the statement on its line, and `rest` after it.
abbrev pub StatementsHaveLines : Type 0
StatementsHaveLines = (limits : Limits) (bytes : List ℕ) (f : File Span) (s : IsSpannedWithin limits bytes f) (path : List ℕ) (b : BlockAt Span)
    → block_at f path ≡ Some b
    → (q : BlockAt Nowhere) → block_at (erase f) path ≡ Some q
    → (n : ℕ) (x : Statement Span) → statement_in b.inside n ≡ Some x
    → (left own right : List Lexeme) → IsItemList bytes (left ++ (own ++ right)) → length (joined left) ≡ (statement_span x).from
    → length (joined (left ++ own)) ≡ (statement_span x).to
    → (front head rest back : List Lexeme) → left ≡ front ++ head → EndsItsLine front → HasNoLineEnd head → right ≡ rest ++ back → IsRestOfLine rest back
    → AreLinesOf (erase f) path q.inside n front (head ++ (own ++ rest)) back

-- Each statement has such lines among the items of its text.
pub record HasLines (t : Plain) (path : List ℕ) (b : Block Nowhere) (n : ℕ) (s : Span) (items : List Lexeme) : Type 0 where
  pub front : List Lexeme
  pub head : List Lexeme
  pub own : List Lexeme
  pub rest : List Lexeme
  pub back : List Lexeme
  pub parts : items ≡ front ++ ((head ++ (own ++ rest)) ++ back)
  pub from : s.from ≡ length (joined (front ++ head))
  pub to : s.to ≡ length (joined (front ++ (head ++ own)))
  pub head_none : HasNoLineEnd head
  pub is_rest : IsRestOfLine rest back
  pub lines : AreLinesOf t path b n front (head ++ (own ++ rest)) back

abbrev pub LinesThere : Type 0
LinesThere = (limits : Limits) (bytes : List ℕ) (f : File Span) (s : IsSpannedWithin limits bytes f) (path : List ℕ) (b : BlockAt Span)
    → block_at f path ≡ Some b
    → (q : BlockAt Nowhere) → block_at (erase f) path ≡ Some q
    → (n : ℕ) (x : Statement Span) → statement_in b.inside n ≡ Some x
    → HasLines (erase f) path q.inside n (statement_span x) s.reads.spells.items

-- At the end of a file nothing stands for no statement after all others: there others may come.
abbrev pub FilesEndStand : Type 0
FilesEndStand = (bytes : List ℕ) (t : Plain) → Spells bytes t → (b : BlockAt Nowhere) → block_at t [] ≡ Some b → (items : List Lexeme)
    → IsItemList bytes items → StandsFor t [] b.inside (length (statements_in b.inside)) 0 items []

-- Others come before the lines of a statement, or after them, or the lines go. All other bytes stay.
pub record LinesComeAndGo (bytes : List ℕ) (t : Plain) (path : List ℕ) (b : BlockAt Nowhere) (n : ℕ) (left was right : List Lexeme) : Type 0 where
  pub before : (new : List (Statement Nowhere)) (text : List ℕ) → IsLinesText text new → LevelStatements (statements_of new)
      → Spells (joined left ++ (text ++ (joined was ++ joined right))) (b.back (exchanged_in n 0 new b.inside))
  pub behind : (break : List ℕ) → IsBreak (left ++ was) break → (new : List (Statement Nowhere)) (text : List ℕ) → IsLinesText text new
      → LevelStatements (statements_of new)
      → Spells (joined left ++ (joined was ++ (break ++ (text ++ joined right)))) (b.back (exchanged_in (suc n) 0 new b.inside))
  pub go : Spells (joined left ++ joined right) (b.back (block_without b.inside n))

abbrev pub StatementsComeAndGo : Type 0
StatementsComeAndGo = (bytes : List ℕ) (t : Plain) → Spells bytes t → (path : List ℕ) (b : BlockAt Nowhere) → block_at t path ≡ Some b
    → (n : ℕ) (left was right : List Lexeme) → IsItemList bytes (left ++ (was ++ right)) → AreLinesOf t path b.inside n left was right
    → LinesComeAndGo bytes t path b n left was right

-- Items without words, as comments and empty lines, may be counted with the lines after them or with those before them.
abbrev pub QuietBefore : Type 0
QuietBefore = (t : Plain) (path : List ℕ) (b : BlockAt Nowhere) → block_at t path ≡ Some b → (from many : ℕ) (left quiet was : List Lexeme) → spoken quiet ≡ []
    → StandsFor t path b.inside from many (left ++ quiet) was → StandsFor t path b.inside from many left (quiet ++ was)

abbrev pub QuietBehind : Type 0
QuietBehind = (t : Plain) (path : List ℕ) (b : BlockAt Nowhere) → block_at t path ≡ Some b → (from many : ℕ) (left was quiet : List Lexeme) → spoken quiet ≡ []
    → StandsFor t path b.inside from many left was → StandsFor t path b.inside from many left (was ++ quiet)

-- A file's text is whole lines that have the words of its statements, with a line end put after it if it does not end its line.
abbrev pub FilesAreLines : Type 0
FilesAreLines = (bytes : List ℕ) (t : Plain) → Spells bytes t → (items : List Lexeme) → IsItemList bytes items → (end : List ℕ) → IsBreak items end
    → IsLinesText (bytes ++ end) (file_statements t)

-- Lines stay lines of the same statements if their blanks, comments and continuations are others and their line ends are written otherwise: as in lines that are
-- indented, or have the line ends of another file.
abbrev pub LinesAlike : Type 0
LinesAlike = (text now : List ℕ) (new : List (Statement Nowhere)) (l : IsLinesText text new) (items : List Lexeme) → IsItemList now items
    → outright items ≡ outright l.items → EndsItsLine items → IsLinesText now new
