-- A tree that slices of a source spell has the texts that stand there at its spans.
use Rattle.std.specs.Prelude.{slice_range}
use Rattle.std.proofs.Common.{◌≡◌, ℕ, Bool, false, List, [], ◌∷◌, ◌++◌, map, refl, sym, ap, ap₂, ◌∙◌, subst}
use Rattle.meson_lex.specs.declared.kinds.Kind.{Kind}
use Rattle.meson_lex.specs.declared.kinds.Kind.TheVariants as k
use Rattle.meson_lex.specs.declared.kinds.Span.{Span}
use Rattle.meson_lex.specs.Located.{Token}
use Rattle.meson_syntax.specs.declared.operator.Bracket.{Bracket}
use Rattle.meson_syntax.specs.declared.operator.Bracket.TheVariants as bracket
use Rattle.meson_syntax.specs.Operators.{string_kind}
use Rattle.meson_syntax.specs.Tree.{Name, Expression, identifier, boolean, integer, string, paren, array, dictionary, call, unary, row, postfix, conditional, Operands, no_operands, operand, Tail, method, index, Tails, no_tails, tail, Listing, listing, Argument, plain, named, pair, is_named, Arguments, no_arguments, argument, Statement, evaluate, assign, selection, iteration, breaks, continues, Branches, no_branches, branch, Otherwise, nothing_else, otherwise, Statements, no_statements, statement, Block, block, file}
use Rattle.meson_syntax.specs.Grammar.{row_level}
use Rattle.meson_syntax.specs.Spelling.{Covers, IsOneToken, Then, Deeper, NewLine, SaysName, SaysMoreNames, SaysNames, SpellsExpression, SpellsOperands, SpellsTail, SpellsTails, SpellsListing, SpellsArguments, SpellsArgument, SpellsStatement, SpellsBranches, SpellsOtherwise, SpellsStatements, SpellsBlock}
use Rattle.meson_syntax.specs.View.{text_at}
use Rattle.meson_syntax.specs.Texts.{texts_of_name, texts_of_expression, texts_of_operands, texts_of_tail, texts_of_tails, texts_of_listing, texts_of_argument, texts_of_arguments, texts_of_statement, texts_of_branches, texts_of_otherwise, texts_of_statements, texts_of_block, AreSlices, SpelledTexts, ListSpelledTexts}

module _ (source : List ℕ) where
  -- slices that P takes tell A
  abbrev Tells : (P : List Token → Type 0) (A : Type 0) → Type 0
  Tells P A = (ts : List Token) → AreSlices source ts → P ts → A

  front : (a b : List Token) → AreSlices source (a ++ b) → AreSlices source a
  front [] b w = tt
  front (t ∷ a) b w = (w.0, front a b w.1)

  back : (a b : List Token) → AreSlices source (a ++ b) → AreSlices source b
  back [] b w = w
  back (t ∷ a) b w = back a b w.1

  first : {P Q : List Token → Type 0} {A : Type 0} → Tells P A → Tells (Then P Q) A
  first p ts w t = p t.front (front t.front t.back (subst (AreSlices source) t.joined w)) t.first

  second : {P Q : List Token → Type 0} {A : Type 0} → Tells Q A → Tells (Then P Q) A
  second q ts w t = q t.back (back t.front t.back (subst (AreSlices source) t.joined w)) t.second

  deeper : {P : ℕ → List Token → Type 0} {A : Type 0} → ((inner : ℕ) → Tells (P inner) A) → (d : ℕ) → Tells (Deeper P d) A
  deeper p d ts w h = p h.inner ts w h.spelled

  new_line : {P : ℕ → List Token → Type 0} {A : Type 0} → ((last : ℕ) → Tells (P last) A) → Tells (NewLine P) A
  new_line p ts w n = p n.token.to n.rest (subst (AreSlices source) n.joined w).1 n.second

  text : (s : Span) (κ : Kind) (x : List ℕ) (ts : List Token) → AreSlices source ts → Covers s ts → IsOneToken κ x ts → text_at source s ≡ x
  text s κ x ts w h o =
      let here = subst (Covers s) o.alone h in
      let slice = subst (AreSlices source) o.alone w in
      ap₂ (slice_range source) here.0 here.1 ∙ sym slice.0 ∙ o.says

  name : (x : Name Span) → Tells (SaysName x) (texts_of_name source x ≡ x)
  name x ts w h = ap (λ y. record { place = x.place; text = y }) (text x.place k.Identifier x.text ts w h.0 h.1)

  more_names : (xs : List (Name Span)) → Tells (SaysMoreNames xs) (map (texts_of_name source) xs ≡ xs)
  more_names [] ts w h = refl
  more_names (x ∷ xs) ts w h = ap₂ (λ y ys. y ∷ ys) (second (first (name x)) ts w h) (second (second (more_names xs)) ts w h)

  names : (xs : List (Name Span)) → Tells (SaysNames xs) (map (texts_of_name source) xs ≡ xs)
  names [] ts w h = absurd h
  names (x ∷ xs) ts w h = ap₂ (λ y ys. y ∷ ys) (first (name x) ts w h) (second (more_names xs) ts w h)

  mutual
    expression : (e : Expression Span) (d : ℕ) → Tells (SpellsExpression e d) (texts_of_expression source e ≡ e)
    expression (identifier s x) d ts w h = ap (identifier s) (text s k.Identifier x ts w h.0 h.1)
    expression (boolean s b) d ts w h = refl
    expression (integer s x) d ts w h = ap (integer s) (text s k.Integer x ts w h.0 h.1)
    expression (string s q x) d ts w h = ap (string s q) (text s (string_kind q) x ts w h.0 h.1)
    expression (paren s e) d ts w h = ap (paren s) (second (first (deeper (expression e) d)) ts w h.1)
    expression (array l) d ts w h = ap array (list l bracket.Square d ts w h)
    expression (dictionary l) d ts w h = ap dictionary (list l bracket.Curly d ts w h)
    expression (call s x l) d ts w h = ap₂ (call s) (first (name x) ts w h.1) (second (list l bracket.Round d) ts w h.1)
    expression (unary s o e) d ts w h = ap (unary s o) (second (expression e d) ts w h.2)
    expression (row s e os) d ts w h = ap₂ (row s) (first (expression e d) ts w h.3) (second (operands os (row_level os) d) ts w h.3)
    expression (postfix s e tails) d ts w h = ap₂ (postfix s) (first (expression e d) ts w h.3) (second (the_tails tails d) ts w h.3)
    expression (conditional s c y n) d ts w h =
        ap₂ (λ a b. conditional s a b (texts_of_expression source n)) (first (expression c d) ts w h.2)
        (second (second (first (deeper (expression y) d))) ts w h.2)
        ∙ ap (conditional s c y) (second (second (second (second (deeper (expression n) d)))) ts w h.2)

    operands : (os : Operands Span) (n d : ℕ) → Tells (SpellsOperands os n d) (texts_of_operands source os ≡ os)
    operands no_operands n d ts w h = refl
    operands (operand o e more) n d ts w h =
        ap₂ (operand o) (second (second (first (expression e d))) ts w h.2) (second (second (second (operands more n d))) ts w h.2)

    the_tail : (t : Tail Span) (d : ℕ) → Tells (SpellsTail t d) (texts_of_tail source t ≡ t)
    the_tail (method s x l) d ts w h = ap₂ (method s) (second (first (name x)) ts w h.1) (second (second (list l bracket.Round d)) ts w h.1)
    the_tail (index s e) d ts w h = ap (index s) (second (first (deeper (expression e) d)) ts w h.1)

    the_tails : (tails : Tails Span) (d : ℕ) → Tells (SpellsTails tails d) (texts_of_tails source tails ≡ tails)
    the_tails no_tails d ts w h = refl
    the_tails (tail t more) d ts w h = ap₂ tail (first (the_tail t d) ts w h) (second (the_tails more d) ts w h)

    list : (l : Listing Span) (b : Bracket) (d : ℕ) → Tells (SpellsListing l b d) (texts_of_listing source l ≡ l)
    list (listing s trailing items) b d ts w h = ap (listing s trailing) (second (first (arguments items trailing b false d)) ts w h.3)

    arguments : (items : Arguments Span) (trailing : Bool) (b : Bracket) (seen : Bool) (d : ℕ)
        → Tells (SpellsArguments items trailing b seen d) (texts_of_arguments source items ≡ items)
    arguments no_arguments trailing b seen d ts w h = refl
    arguments (argument a more) trailing b seen d ts w h =
        ap₂ argument (first (the_argument a b seen d) ts w h) (second (second (arguments more trailing b (is_named a) d)) ts w h)

    the_argument : (a : Argument Span) (b : Bracket) (seen : Bool) (d : ℕ) → Tells (SpellsArgument a b seen d) (texts_of_argument source a ≡ a)
    the_argument (plain e) b seen d ts w h = ap plain (deeper (expression e) d ts w h.2)
    the_argument (named s x e) b seen d ts w h = ap₂ (named s) (first (name x) ts w h.2) (second (second (deeper (expression e) d)) ts w h.2)
    the_argument (pair s e f) b seen d ts w h = ap₂ (pair s) (first (deeper (expression e) d) ts w h.2) (second (second (deeper (expression f) d)) ts w h.2)

  mutual
    the_statement : (s : Statement Span) (d : ℕ) → Tells (SpellsStatement s d) (texts_of_statement source s ≡ s)
    the_statement (evaluate e) d ts w h = ap evaluate (expression e d ts w h)
    the_statement (assign s x a e) d ts w h = ap₂ (λ y v. assign s y a v) (first (name x) ts w h.1) (second (second (expression e d)) ts w h.1)
    the_statement (selection s bs o) d ts w h =
        ap₂ (selection s) (deeper (λ inner. first (branches bs k.WordIf inner)) d ts w h.2)
        (deeper (λ inner. second (first (the_otherwise o inner))) d ts w h.2)
    the_statement (iteration s xs e b) d ts w h =
        ap₂ (λ ys v. iteration s ys v (texts_of_block source b)) (second (first (names xs)) ts w h.1)
        (second (second (second (deeper (λ inner. first (expression e inner)) d))) ts w h.1)
        ∙ ap (iteration s xs e) (second (second (second (deeper (λ inner. second (first (new_line (the_block b inner)))) d))) ts w h.1)
    the_statement (breaks s) d ts w h = refl
    the_statement (continues s) d ts w h = refl

    branches : (bs : Branches Span) (word : Kind) (d : ℕ) → Tells (SpellsBranches bs word d) (texts_of_branches source bs ≡ bs)
    branches no_branches word d ts w h = refl
    branches (branch e b more) word d ts w h =
        ap₂ (λ c a. branch c a (texts_of_branches source more)) (second (first (expression e d)) ts w h)
        (second (second (first (new_line (the_block b d)))) ts w h)
        ∙ ap (branch e b) (second (second (second (branches more k.WordElif d))) ts w h)

    the_otherwise : (o : Otherwise Span) (d : ℕ) → Tells (SpellsOtherwise o d) (texts_of_otherwise source o ≡ o)
    the_otherwise nothing_else d ts w h = refl
    the_otherwise (otherwise b) d ts w h = ap otherwise (second (new_line (the_block b d)) ts w h)

    statements : (list : Statements Span) (d : ℕ) → Tells (SpellsStatements list d) (texts_of_statements source list ≡ list)
    statements no_statements d ts w h = refl
    statements (statement s more) d ts w h = ap₂ statement (first (the_statement s d) ts w h) (second (second (statements more d)) ts w h)

    the_block : (b : Block Span) (d last : ℕ) → Tells (SpellsBlock b d last) (texts_of_block source b ≡ b)
    the_block (block s list) d last ts w h = ap (block s) (statements list d ts w h.1)

pub spelled-texts : SpelledTexts
spelled-texts source (file s b) len depth ts w h = ap (file s) (the_block source b depth 0 ts w h.2)

pub list-spelled-texts : ListSpelledTexts
list-spelled-texts source l b depth ts w h = list source l b depth ts w h
