-- What is spelled takes a token at least.
use Rattle.std.proofs.Common.{◌≡◌, ℕ, Bool, List, [], ◌∷◌, ◌++◌}
use Rattle.meson_lex.specs.declared.kinds.Kind.{Kind}
use Rattle.meson_lex.specs.declared.kinds.Span.{Span}
use Rattle.meson_lex.specs.Located.{Token}
use Rattle.meson_syntax.specs.declared.operator.Bracket.{Bracket}
use Rattle.meson_syntax.specs.declared.operator.Bracket.TheVariants as bracket
use Rattle.meson_syntax.specs.Tree.{Name, Expression, identifier, boolean, integer, string, paren, array, dictionary, call, unary, row, postfix, conditional, Tail, method, index, Listing, listing, Argument, plain, named, pair, Statement, evaluate, assign, selection, iteration, breaks, continues}
use Rattle.meson_syntax.specs.Spelling.{One, IsOneToken, SaysName, Then, SpellsExpression, SpellsTail, SpellsListing, SpellsArgument, SpellsStatement}

pub says-some : (κ : Kind) (x : List ℕ) → IsOneToken κ x [] → ⊥
says-some κ x w = let e = w.alone in absurd cc

pub name-some : (x : Name Span) → SaysName x [] → ⊥
name-some x w = w.0

pub one-some : (κ : Kind) → One κ [] → ⊥
one-some κ w = let e = w.alone in absurd cc

front-some : (P : List Token → Type 0) (front back : List Token) → (P [] → ⊥) → [] ≡ front ++ back → P front → ⊥
front-some P [] back some e p = some p
front-some P (t ∷ ts) back some e p = absurd cc

pub then-some : (P Q : List Token → Type 0) → (P [] → ⊥) → Then P Q [] → ⊥
then-some P Q some t = front-some P t.front t.back some t.joined t.first

pub listing-some : (l : Listing Span) (b : Bracket) (d : ℕ) → SpellsListing l b d [] → ⊥
listing-some (listing s trailing list) b d h = h.0

pub expression-some : (e : Expression Span) (d : ℕ) → SpellsExpression e d [] → ⊥
expression-some (identifier s x) d h = h.0
expression-some (boolean s b) d h = h.0
expression-some (integer s x) d h = h.0
expression-some (string s q x) d h = h.0
expression-some (paren s e) d h = h.0
expression-some (array l) d h = listing-some l bracket.Square d h
expression-some (dictionary l) d h = listing-some l bracket.Curly d h
expression-some (call s x l) d h = h.0
expression-some (unary s o e) d h = h.0
expression-some (row s e os) d h = h.0
expression-some (postfix s e ts) d h = h.0
expression-some (conditional s c y n) d h = h.0

pub tail-some : (t : Tail Span) (d : ℕ) → SpellsTail t d [] → ⊥
tail-some (method s x l) d h = h.0
tail-some (index s e) d h = h.0

pub argument-some : (a : Argument Span) (b : Bracket) (seen : Bool) (d : ℕ) → SpellsArgument a b seen d [] → ⊥
argument-some (plain e) b seen d h = expression-some e h.2.inner h.2.spelled
argument-some (named s x e) b seen d h = h.0
argument-some (pair s e f) b seen d h = h.0

pub statement-some : (s : Statement Span) (d : ℕ) → SpellsStatement s d [] → ⊥
statement-some (evaluate e) d h = expression-some e d h
statement-some (assign s x a e) d h = h.0
statement-some (selection s bs o) d h = h.0
statement-some (iteration s xs e b) d h = h.0
statement-some (breaks s) d h = h.0
statement-some (continues s) d h = h.0
