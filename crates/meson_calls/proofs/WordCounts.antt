-- How many words trees have: an expression one or more, what counts children at least as many, and a text that reads as a tree no more than its bytes and one.
use Rattle.meson_calls.proofs.Words.{false, ◌≡◌, ℕ, ◌<◌, ◌≤◌, ◌^◌, Bool, true, List, [], ◌∷◌, ◌++◌, length, ap, ◌∙◌, arith, length-append, Lexeme, joined}
use Rattle.meson_calls.proofs.Words.{AreItems, OfKind, Word, kept, Gap, Ends, Opens, Closes, Other, role, State, start, step, after, emit, emit_by, emitted}
use Rattle.meson_calls.proofs.Words.{only_if, ends_line, closing, new_line, Kind, mark, comma_words, expression_words, operands_words, tail_words, tails_words}
use Rattle.meson_calls.proofs.Words.{listing_words, argument_words, arguments_words, branches_words, file_words, closes, IsSpanned, Expression, identifier}
use Rattle.meson_calls.proofs.Words.{boolean, integer, string, paren, array, dictionary, call, unary, row, postfix, conditional, Tail, method, index, Listing}
use Rattle.meson_calls.proofs.Words.{listing, Argument, plain, named, pair, Arguments, no_arguments, argument, Branches, no_branches, branch, view, Bracket}
use Rattle.meson_calls.proofs.Words.{Parsed, file-words-erased, argument_child_count, arguments_child_count, tail_child_count}
use Rattle.meson_lex.specs.declared.kinds.Kind.TheVariants as k
use Rattle.meson_lex.specs.Significant.{Role}
use Rattle.meson_lex.proofs.ScanItems.{no_empty}
use Rattle.meson_syntax.specs.declared.operator.Bracket.TheVariants as bracket

-- ---- expressions, and what counts children

listing_some : {S : Type 0} (l : Listing S) (b : Bracket) → 1 ≤ length (listing_words l b)
listing_some (listing s trailing list) b = omega arith

pub expression_some : {S : Type 0} (e : Expression S) → 1 ≤ length (expression_words e)
expression_some (identifier s x) = omega arith
expression_some (boolean s b) = omega arith
expression_some (integer s x) = omega arith
expression_some (string s q x) = omega arith
expression_some (paren s e) = omega arith
expression_some (array l) = listing_some l bracket.Square
expression_some (dictionary l) = listing_some l bracket.Curly
expression_some (call s x l) = omega arith
expression_some (unary s o e) = omega arith
expression_some (row s e os) = omega (arith, expression_some e, length-append (expression_words e) (operands_words os))
expression_some (postfix s e ts) = omega (arith, expression_some e, length-append (expression_words e) (tails_words ts))
expression_some (conditional s c y n) =
    omega (arith, expression_some c, length-append (expression_words c) (mark k.Question ++ (expression_words y ++ (mark k.Colon ++ expression_words n))))

pub argument_enough : {S : Type 0} (a : Argument S) → argument_child_count a ≤ length (argument_words a)
argument_enough (plain e) = expression_some e
argument_enough (named s x e) = omega arith
argument_enough (pair s e f) = omega (arith, expression_some e, length-append (expression_words e) (mark k.Colon ++ expression_words f))

pub argument_some : {S : Type 0} (a : Argument S) → 1 ≤ length (argument_words a)
argument_some (plain e) = expression_some e
argument_some (named s x e) = omega arith
argument_some (pair s e f) = omega (arith, expression_some e, length-append (expression_words e) (mark k.Colon ++ expression_words f))

arguments_enough : {S : Type 0} (list : Arguments S) (trailing : Bool) → arguments_child_count list ≤ length (arguments_words list trailing)
arguments_enough no_arguments trailing = omega arith
arguments_enough (argument a more) trailing =
    omega (
      arith,
      argument_enough a,
      arguments_enough more trailing,
      length-append (argument_words a) (comma_words more trailing ++ arguments_words more trailing),
      length-append (comma_words more trailing) (arguments_words more trailing),
    )

pub tail_enough : {S : Type 0} (t : Tail S) → tail_child_count t ≤ length (tail_words t)
tail_enough (method s x (listing u trailing list)) = omega (arith, arguments_enough list trailing, length-append (arguments_words list trailing) (mark (closes bracket.Round)))
tail_enough (index s e) = omega arith

-- ---- without a trailing comma no more

comma_least : {S : Type 0} (list : Arguments S) (trailing : Bool) → length (comma_words list false) ≤ length (comma_words list trailing)
comma_least no_arguments true = omega arith
comma_least no_arguments false = omega arith
comma_least (argument a more) trailing = omega arith

pub arguments_least : {S : Type 0} (list : Arguments S) (trailing : Bool) → length (arguments_words list false) ≤ length (arguments_words list trailing)
arguments_least no_arguments trailing = omega arith
arguments_least (argument a more) trailing =
    omega (
      arith,
      comma_least more trailing,
      arguments_least more trailing,
      length-append (argument_words a) (comma_words more trailing ++ arguments_words more trailing),
      length-append (comma_words more trailing) (arguments_words more trailing),
      length-append (argument_words a) (comma_words more false ++ arguments_words more false),
      length-append (comma_words more false) (arguments_words more false),
    )

pub listing_holds : {S : Type 0} (l : Listing S) (b : Bracket) (s : S) (trailing : Bool) (list : Arguments S) → l ≡ listing s trailing list →
    length (arguments_words list false) ≤ length (listing_words l b)
listing_holds l b s trailing list is =
    omega (arith, ap (λ x. length (listing_words x b)) is, arguments_least list trailing, length-append (arguments_words list trailing) (mark (closes b)))

pub any_word : {S : Type 0} (bs : Branches S) (w v : Kind) → length (branches_words bs w) ≡ length (branches_words bs v)
any_word no_branches w v = omega arith
any_word (branch e b more) w v = omega arith

-- ---- of a text

only_few : (b : Bool) (w : Word) → length (only_if b w) ≤ 1
only_few true w = omega arith
only_few false w = omega arith

emit_few : (r : Role) (s : State) (w : Word) → length (emit_by r s w) ≤ 1
emit_few Gap s w = omega arith
emit_few Ends s w = only_few (ends_line s.depth s.fresh) new_line
emit_few Opens s w = omega arith
emit_few Closes s w = omega arith
emit_few Other s w = omega arith

item_some : (κ : Kind) (text : List ℕ) → OfKind κ text → 1 ≤ length text
item_some κ [] of = absurd (no_empty κ of)
item_some κ (b ∷ bs) of = omega arith

emitted_few : (s : State) (xs : List Lexeme) → AreItems xs [] → length (emitted s xs) ≤ length (joined xs)
emitted_few s [] items = omega arith
emitted_few s (x ∷ xs) items =
    omega (
      arith,
      emit_few (role x.kind) s (x.kind, kept x.kind x.text),
      item_some x.kind x.text items.0.0,
      emitted_few (step s x) xs items.1,
      length-append (emit s x) (emitted (step s x) xs),
      length-append x.text (joined xs),
    )

closing_few : (b : Bool) → length (closing b) ≤ 1
closing_few true = omega arith
closing_few false = omega arith

-- the words of a project's file are few enough to be counted
pub file_few : (bytes : List ℕ) (t : Parsed) → IsSpanned bytes (view bytes t) → length (file_words (view bytes t)) < 2 ^ 64
file_few bytes t spanned =
    let s = spanned.reads.spells in
    omega (
      arith,
      spanned.reads.source.fits,
      ap length (s.words ∙ file-words-erased (view bytes t)),
      emitted_few start s.items s.are_items.each,
      closing_few (after start s.items).fresh,
      length-append (emitted start s.items) (closing (after start s.items).fresh),
      ap length s.are_items.joins,
    )
