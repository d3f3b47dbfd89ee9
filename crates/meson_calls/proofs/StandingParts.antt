-- The parts of a tree that spans bytes have the texts that stand in them.
use Rattle.meson_calls.proofs.Words.{◌≡◌, ℕ, ◌+◌, List, [], refl, subst, Span, IsSpanned, of_files, texts_of, texts_of_expression, texts_of_operands}
use Rattle.meson_calls.proofs.Words.{texts_of_tail, texts_of_tails, texts_of_listing, texts_of_argument, texts_of_arguments, texts_of_statement}
use Rattle.meson_calls.proofs.Words.{texts_of_branches, texts_of_otherwise, texts_of_statements, texts_of_block, Expression, identifier, boolean, integer}
use Rattle.meson_calls.proofs.Words.{string, paren, array, dictionary, call, unary, row, postfix, conditional, Operands, no_operands, operand, Tail, method}
use Rattle.meson_calls.proofs.Words.{index, Tails, no_tails, tail, Listing, listing, Argument, plain, named, pair, Arguments, no_arguments, argument, Statement}
use Rattle.meson_calls.proofs.Words.{evaluate, assign, selection, iteration, breaks, continues, Branches, no_branches, branch, Otherwise, nothing_else}
use Rattle.meson_calls.proofs.Words.{otherwise, Statements, no_statements, statement, Block, block, file, Every, every-append, Part, parts_of_expression}
use Rattle.meson_calls.proofs.Words.{parts_of_operands, parts_of_tail, parts_of_tails, parts_of_listing, parts_of_argument, parts_of_arguments}
use Rattle.meson_calls.proofs.Words.{parts_of_statement, parts_of_branches, parts_of_otherwise, parts_of_statements, parts_of_block, parts_of_file}
use Rattle.meson_calls.proofs.Words.{argument_child_count, tail_child_count, branches_child_count, Placed, child, place, CallRef}
use Rattle.meson_syntax.specs.Tree.{File}
use Rattle.meson_syntax.proofs.texts.Spanned.{spanned-texts}
use Rattle.meson_calls.specs.Parts.{an_expression, a_statement}

module _ (bytes : List ℕ) where
  -- a part with its texts read off the bytes
  abbrev pub texts_of_part : Part Span → Part Span
  texts_of_part (an_expression e) = an_expression (texts_of_expression bytes e)
  texts_of_part (a_statement s) = a_statement (texts_of_statement bytes s)

  pub record IsRead (y : Part Span) : Type 0 where
    pub part : Part Span
    pub is : y ≡ texts_of_part part

  abbrev pub PartsStand : List (Placed (Part Span)) → Type 0
  PartsStand = Every (λ x. IsRead x.it)

  whole : (x : Part Span) → IsRead (texts_of_part x)
  whole x = record { part = x; is = refl }

  mutual
    in_expression : (c : CallRef) (e : Expression Span) → PartsStand (parts_of_expression c (texts_of_expression bytes e))
    in_expression c (identifier s x) = (whole (an_expression (identifier s x)), tt)
    in_expression c (boolean s b) = (whole (an_expression (boolean s b)), tt)
    in_expression c (integer s x) = (whole (an_expression (integer s x)), tt)
    in_expression c (string s q x) = (whole (an_expression (string s q x)), tt)
    in_expression c (paren s e) = (whole (an_expression (paren s e)), in_expression (child c 0) e)
    in_expression c (array l) = (whole (an_expression (array l)), in_listing c 0 l)
    in_expression c (dictionary l) = (whole (an_expression (dictionary l)), in_listing c 0 l)
    in_expression c (call s x l) = (whole (an_expression (call s x l)), in_listing c 0 l)
    in_expression c (unary s o e) = (whole (an_expression (unary s o e)), in_expression (child c 0) e)
    in_expression c (row s e os) = (whole (an_expression (row s e os)), every-append _ _ _ (in_expression (child c 0) e) (in_operands c 1 os))
    in_expression c (postfix s e ts) = (whole (an_expression (postfix s e ts)), every-append _ _ _ (in_expression (child c 0) e) (in_tails c 1 ts))
    in_expression c (conditional s e y n) =
        (whole (an_expression (conditional s e y n)), every-append _ _ _ (in_expression (child c 0) e) (every-append _ _ _ (in_expression (child c 1) y) (in_expression (child c 2) n)))

    in_operands : (c : CallRef) (n : ℕ) (os : Operands Span) → PartsStand (parts_of_operands c n (texts_of_operands bytes os))
    in_operands c n no_operands = tt
    in_operands c n (operand o e more) = every-append _ _ _ (in_expression (child c n) e) (in_operands c (n + 1) more)

    in_tail : (c : CallRef) (n : ℕ) (t : Tail Span) → PartsStand (parts_of_tail c n (texts_of_tail bytes t))
    in_tail c n (method s x l) = in_listing c n l
    in_tail c n (index s e) = in_expression (child c n) e

    in_tails : (c : CallRef) (n : ℕ) (ts : Tails Span) → PartsStand (parts_of_tails c n (texts_of_tails bytes ts))
    in_tails c n no_tails = tt
    in_tails c n (tail t more) = every-append _ _ _ (in_tail c n t) (in_tails c (n + tail_child_count (texts_of_tail bytes t)) more)

    in_listing : (c : CallRef) (n : ℕ) (l : Listing Span) → PartsStand (parts_of_listing c n (texts_of_listing bytes l))
    in_listing c n (listing s trailing list) = in_arguments c n list

    in_argument : (c : CallRef) (n : ℕ) (a : Argument Span) → PartsStand (parts_of_argument c n (texts_of_argument bytes a))
    in_argument c n (plain e) = in_expression (child c n) e
    in_argument c n (named s x e) = in_expression (child c n) e
    in_argument c n (pair s e f) = every-append _ _ _ (in_expression (child c n) e) (in_expression (child c (n + 1)) f)

    in_arguments : (c : CallRef) (n : ℕ) (list : Arguments Span) → PartsStand (parts_of_arguments c n (texts_of_arguments bytes list))
    in_arguments c n no_arguments = tt
    in_arguments c n (argument a more) = every-append _ _ _ (in_argument c n a) (in_arguments c (n + argument_child_count (texts_of_argument bytes a)) more)

  mutual
    in_statement : (c : CallRef) (s : Statement Span) → PartsStand (parts_of_statement c (texts_of_statement bytes s))
    in_statement c (evaluate e) = (whole (a_statement (evaluate e)), in_expression (child c 0) e)
    in_statement c (assign s x a e) = (whole (a_statement (assign s x a e)), in_expression (child c 0) e)
    in_statement c (selection s bs o) = (whole (a_statement (selection s bs o)), every-append _ _ _ (in_branches c 0 bs) (in_otherwise c (branches_child_count (texts_of_branches bytes bs)) o))
    in_statement c (iteration s xs e b) = (whole (a_statement (iteration s xs e b)), every-append _ _ _ (in_expression (child c 0) e) (in_block (child c 1) b))
    in_statement c (breaks s) = (whole (a_statement (breaks s)), tt)
    in_statement c (continues s) = (whole (a_statement (continues s)), tt)

    in_branches : (c : CallRef) (n : ℕ) (bs : Branches Span) → PartsStand (parts_of_branches c n (texts_of_branches bytes bs))
    in_branches c n no_branches = tt
    in_branches c n (branch e b more) = every-append _ _ _ (in_expression (child c n) e) (every-append _ _ _ (in_block (child c (n + 1)) b) (in_branches c (n + 2) more))

    in_otherwise : (c : CallRef) (n : ℕ) (o : Otherwise Span) → PartsStand (parts_of_otherwise c n (texts_of_otherwise bytes o))
    in_otherwise c n nothing_else = tt
    in_otherwise c n (otherwise b) = in_block (child c n) b

    in_statements : (c : CallRef) (n : ℕ) (list : Statements Span) → PartsStand (parts_of_statements c n (texts_of_statements bytes list))
    in_statements c n no_statements = tt
    in_statements c n (statement s more) = every-append _ _ _ (in_statement (child c n) s) (in_statements c (n + 1) more)

    in_block : (c : CallRef) (b : Block Span) → PartsStand (parts_of_block c (texts_of_block bytes b))
    in_block c (block s list) = in_statements c 0 list

  in_file : (n : ℕ) (f : File Span) → PartsStand (parts_of_file n (texts_of bytes f))
  in_file n (file s b) = in_block (place n []) b

pub parts_stand : (n : ℕ) (bytes : List ℕ) (f : File Span) → IsSpanned bytes f → PartsStand bytes (parts_of_file n f)
parts_stand n bytes f spanned = subst (λ g. PartsStand bytes (parts_of_file n g)) (spanned-texts of_files bytes f spanned) (in_file bytes n f)
