-- The tokens of an element's value, behind those of the element's name or key where it has one.
use Rattle.meson_edit.proofs.Words.{◌≡◌, ℕ, Bool, List, [], ◌∷◌, ◌++◌, Some, refl, sym, ap, subst, ◌∙◌, append_assoc, Token, words, Span, mark}
use Rattle.meson_edit.proofs.Words.{expression_words, argument_words, value_of, words_ahead, SpellsExpression, SpellsArgument, Expression, Argument, plain}
use Rattle.meson_edit.proofs.Words.{named, pair, Bracket, some-injective, expression-words, name-words, one-words, join-words, NoLine, front-no-line}
use Rattle.meson_edit.proofs.Words.{argument-no-line}
use Rattle.meson_lex.specs.declared.kinds.Kind.TheVariants as k

-- the tokens of the value, where those of its element are ts
pub record ValueSpelled (a : Argument Span) (v : Expression Span) (ts : List Token) : Type 0 where
  pub depth : ℕ
  pub ahead : List Token
  pub own : List Token
  pub parts : ts ≡ ahead ++ own
  pub is_ahead : words ahead ≡ words_ahead a
  pub spelled : SpellsExpression v depth own

pub value-spelled : (a : Argument Span) (v : Expression Span) (b : Bracket) (seen : Bool) (d : ℕ) (ts : List Token) → value_of a ≡ Some v → SpellsArgument a b seen d ts → ValueSpelled a v ts
value-spelled (plain e) v b seen d ts h sp =
    subst (λ v. ValueSpelled (plain e) v ts) (some-injective _ _ h) (record { depth = sp.2.inner; ahead = []; own = ts; parts = refl; is_ahead = refl; spelled = sp.2.spelled })
value-spelled (named s x e) v b seen d ts h sp =
    let name = sp.2 in
    let colon = name.second in
    subst (λ v. ValueSpelled (named s x e) v ts) (some-injective _ _ h) (record {
      depth = colon.second.inner;
      ahead = name.front ++ colon.front;
      own = colon.back;
      parts = name.joined ∙ ap (λ z. name.front ++ z) colon.joined ∙ sym (append_assoc name.front colon.front colon.back);
      is_ahead = join-words name.front colon.front ((k.Identifier, x.text) ∷ []) (mark k.Colon) (name-words x name.front name.first) (one-words k.Colon colon.front (λ y. refl) colon.first);
      spelled = colon.second.spelled;
    })
value-spelled (pair s e f) v b seen d ts h sp =
    let key = sp.2 in
    let colon = key.second in
    subst (λ v. ValueSpelled (pair s e f) v ts) (some-injective _ _ h) (record {
      depth = colon.second.inner;
      ahead = key.front ++ colon.front;
      own = colon.back;
      parts = key.joined ∙ ap (λ z. key.front ++ z) colon.joined ∙ sym (append_assoc key.front colon.front colon.back);
      is_ahead = join-words key.front colon.front (expression_words e) (mark k.Colon) (expression-words e key.first.inner key.front key.first.spelled) (one-words k.Colon colon.front (λ y. refl) colon.first);
      spelled = colon.second.spelled;
    })

-- ---- words

value-words : (S : Type 0) (a : Argument S) (v : Expression S) → value_of a ≡ Some v → argument_words a ≡ words_ahead a ++ expression_words v
value-words S (plain e) v h = ap expression_words (some-injective _ _ h)
value-words S (named s x e) v h = ap (λ v. (k.Identifier, x.text) ∷ (mark k.Colon ++ expression_words v)) (some-injective _ _ h)
value-words S (pair s e f) v h =
    ap (λ v. expression_words e ++ (mark k.Colon ++ expression_words v)) (some-injective _ _ h) ∙ sym (append_assoc (expression_words e) (mark k.Colon) (expression_words v))

-- the words before a value are no line ends
pub ahead-no-line : (S : Type 0) (a : Argument S) (v : Expression S) → value_of a ≡ Some v → NoLine (words_ahead a)
ahead-no-line S a v h = front-no-line (words_ahead a) (expression_words v) (subst NoLine (value-words S a v h) (argument-no-line S a))

pub apart : {A : Type 0} (a b c d : List A) → a ++ ((b ++ c) ++ d) ≡ (a ++ b) ++ (c ++ d)
apart a b c d = simp append_assoc
