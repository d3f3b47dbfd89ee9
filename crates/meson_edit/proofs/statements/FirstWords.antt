-- An expression begins with a token that begins with no `=`.
use Rattle.meson_edit.proofs.Words.{◌≡◌, ℕ, Bool, true, false, List, [], ◌∷◌, ◌++◌, refl, sym, ap, subst, ◌∙◌, begins, OfKind, Kind, Word, kept, mark, Lexeme}
use Rattle.meson_edit.proofs.Words.{joined, AreItems, Role, Gap, Ends, Opens, Closes, Other, role, start, step, emit_by, emitted, speaks, IsTight, is_word_start, is_digit}
use Rattle.meson_edit.proofs.Words.{expression_words, Expression, identifier, boolean, integer, string, paren, array, dictionary, call, unary, row, postfix, conditional}
use Rattle.meson_edit.proofs.Words.{listing, Nowhere, boolean_kind, string_kind, unary_kind}
use Rattle.meson_lex.specs.Bytes.{is_equals}
use Rattle.meson_lex.specs.declared.kinds.Kind.TheVariants as k
use Rattle.meson_lex.proofs.FrontComplete.{apart, integer_parts}
use Rattle.meson_syntax.specs.declared.operator.StringKind.TheVariants as quotes
use Rattle.meson_syntax.specs.declared.operator.StringKind.{StringKind}
use Rattle.meson_syntax.specs.declared.operator.UnaryOperator.TheVariants as unaries
use Rattle.meson_syntax.specs.declared.operator.UnaryOperator.{UnaryOperator}

-- ---- the first word

abbrev begins_value : Kind → Bool
begins_value k.Identifier = true
begins_value k.WordTrue = true
begins_value k.WordFalse = true
begins_value k.WordNot = true
begins_value k.Integer = true
begins_value k.PlainString = true
begins_value k.MultilineString = true
begins_value k.FormatString = true
begins_value k.FormatMultilineString = true
begins_value k.OpenRound = true
begins_value k.OpenSquare = true
begins_value k.OpenCurly = true
begins_value k.Minus = true
begins_value _ = false

record FirstWord (words : List Word) : Type 0 where
  word : Word
  more : List Word
  is : words ≡ word ∷ more
  begins : begins_value word.0 ≡ true

first : (word : Word) (more : List Word) → begins_value word.0 ≡ true → FirstWord (word ∷ more)
first word more h = record { word = word; more = more; is = refl; begins = h }

then : (words more : List Word) → FirstWord words → FirstWord (words ++ more)
then words more f = record { word = f.word; more = f.more ++ more; is = ap (λ w. w ++ more) f.is; begins = f.begins }

first-boolean : (b : Bool) → FirstWord (mark (boolean_kind b))
first-boolean true = first _ _ refl
first-boolean false = first _ _ refl

first-string : (q : StringKind) (x : List ℕ) → FirstWord ((string_kind q, x) ∷ [])
first-string quotes.Plain x = first _ _ refl
first-string quotes.Multiline x = first _ _ refl
first-string quotes.Format x = first _ _ refl
first-string quotes.FormatMultiline x = first _ _ refl

first-unary : (o : UnaryOperator) (more : List Word) → FirstWord (mark (unary_kind o) ++ more)
first-unary unaries.Not more = first _ _ refl
first-unary unaries.Minus more = first _ _ refl

expression-first : (e : Expression Nowhere) → FirstWord (expression_words e)
expression-first (identifier s x) = first _ _ refl
expression-first (boolean s b) = first-boolean b
expression-first (integer s x) = first _ _ refl
expression-first (string s q x) = first-string q x
expression-first (paren s e) = first _ _ refl
expression-first (array (listing s trailing list)) = first _ _ refl
expression-first (dictionary (listing s trailing list)) = first _ _ refl
expression-first (call s x l) = first _ _ refl
expression-first (unary s o e) = first-unary o (expression_words e)
expression-first (row s e os) = then (expression_words e) _ (expression-first e)
expression-first (postfix s e ts) = then (expression_words e) _ (expression-first e)
expression-first (conditional s c y n) = then (expression_words c) _ (expression-first c)

-- ---- its first byte

no-equals : (κ : Kind) (text : List ℕ) → begins_value κ ≡ true → OfKind κ text → begins is_equals text ≡ false
no-equals k.Identifier [] h of = refl
no-equals k.Identifier (b ∷ bs) h of = apart is_word_start b 61 of.0.0 refl
no-equals k.Integer [] h of = refl
no-equals k.Integer (b ∷ bs) h of = apart is_digit b 61 (integer_parts b bs of).0 refl
no-equals k.PlainString text h of = ap (begins is_equals) (sym of.joins)
no-equals k.MultilineString text h of = ap (begins is_equals) (sym of.joins)
no-equals k.FormatString text h of = ap (begins is_equals) (sym of.joins)
no-equals k.FormatMultilineString text h of = ap (begins is_equals) (sym of.joins)
no-equals k.WordTrue text h of = ap (begins is_equals) of
no-equals k.WordFalse text h of = ap (begins is_equals) of
no-equals k.WordNot text h of = ap (begins is_equals) of
no-equals k.OpenRound text h of = ap (begins is_equals) of
no-equals k.OpenSquare text h of = ap (begins is_equals) of
no-equals k.OpenCurly text h of = ap (begins is_equals) of
no-equals k.Minus text h of = ap (begins is_equals) of
no-equals _ text h of = absurd cc

spoken-first : (r : Role) (w : Word) (more : List Word) → speaks r ≡ true → emit_by r start w ++ more ≡ w ∷ more
spoken-first Gap w more h = absurd cc
spoken-first Ends w more h = absurd cc
spoken-first Opens w more h = refl
spoken-first Closes w more h = refl
spoken-first Other w more h = refl

more-text : (text more : List ℕ) → (text ≡ [] → ⊥) → begins is_equals text ≡ false → begins is_equals (text ++ more) ≡ false
more-text [] more some h = absurd (some refl)
more-text (b ∷ bs) more some h = h

no-text : (κ : Kind) → begins_value κ ≡ true → OfKind κ [] → ⊥
no-text k.Identifier h of = absurd of.0
no-text k.Integer h of = absurd cc
no-text k.PlainString h of = absurd cc
no-text k.MultilineString h of = absurd cc
no-text k.FormatString h of = absurd cc
no-text k.FormatMultilineString h of = absurd cc
no-text _ h of = absurd cc

-- the text of an expression begins with no `=`
pub begins-no-equals : (e : Expression Nowhere) (text : List ℕ) (items : List Lexeme) → joined items ≡ text → AreItems items [] → IsTight items → emitted start items ≡ expression_words e
    → begins is_equals text ≡ false
begins-no-equals e text items is are t says =
    let x = t.first in
    let f = expression-first e in
    let told : emitted start items ≡ (x.kind, kept x.kind x.text) ∷ emitted (step start x) t.more =
    ap (emitted start) t.begins ∙ spoken-first (role x.kind) (x.kind, kept x.kind x.text) (emitted (step start x) t.more) t.first_speaks in
    let both : (x.kind, kept x.kind x.text) ∷ emitted (step start x) t.more ≡ f.word ∷ f.more = sym told ∙ says ∙ f.is in
    let same : (x.kind, kept x.kind x.text) ≡ f.word = cc in
    let kind : begins_value x.kind ≡ true = ap (λ (w : Word). begins_value w.0) same ∙ f.begins in
    let of : OfKind x.kind x.text = (subst (λ l. AreItems l []) t.begins are).0.0 in
    let some : x.text ≡ [] → ⊥ = λ none. no-text x.kind kind (subst (OfKind x.kind) none of) in
    ap (begins is_equals) (sym is ∙ ap joined t.begins) ∙ more-text x.text (joined t.more) some (no-equals x.kind x.text kind of)
