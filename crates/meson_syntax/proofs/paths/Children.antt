-- The children of expressions fit into them.
use Rattle.std.specs.Prelude.{⊤}
use Rattle.std.proofs.Common.{◌≡◌, ℕ, ◌+◌, ◌<◌, Bool, false, List, [], ◌∷◌, ◌++◌, refl, ap, sym, subst, ◌∙◌, append_assoc, arith}
use Rattle.std.proofs.lemmas.List.{append-nil}
use Rattle.meson_lex.specs.declared.kinds.Kind.TheVariants as k
use Rattle.meson_lex.specs.Significant.{Word}
use Rattle.meson_syntax.specs.declared.operator.Bracket.{Bracket}
use Rattle.meson_syntax.specs.declared.operator.Bracket.TheVariants as bracket
use Rattle.meson_syntax.specs.Operators.{opens, closes, unary_kind}
use Rattle.meson_syntax.specs.Tree.{Expression, identifier, boolean, integer, string, paren, array, dictionary, call, unary, row, postfix, conditional, Operands, no_operands, operand, Tail, method, index, Tails, no_tails, tail, Listing, listing, Argument, plain, named, pair, is_named, Arguments, no_arguments, argument}
use Rattle.meson_syntax.specs.Grammar.{mark, comma_words, operator_words, expression_words, operands_words, tail_words, tails_words, listing_words, argument_words, arguments_words, looseness, row_level, HasOperand, HasTail, Flagged, LevelExpression, LevelOperands, LevelTail, LevelTails, LevelListing, LevelArgument, LevelArguments}
use Rattle.meson_syntax.specs.Paths.{Hole, all_around, argument_children, arguments_children, listing_children, operands_children, tail_children, tails_children, expression_children}
use Rattle.meson_syntax.proofs.paths.Every.{Every, every-append, every-around}
use Rattle.meson_syntax.proofs.paths.Fits.{Fits, around-fits}

pub regroup : {A : Type 0} (x y z : List A) → x ++ (y ++ z) ≡ (x ++ y) ++ (z ++ [])
regroup x y z = ap (λ w. x ++ (y ++ w)) (sym (append-nil z)) ∙ sym (append_assoc x y (z ++ []))

third : {A : Type 0} (c q y m x : List A) → c ++ (q ++ (y ++ (m ++ x))) ≡ (c ++ (q ++ (y ++ m))) ++ (x ++ [])
third c q y m x = ap (λ w. c ++ (q ++ (y ++ (m ++ w)))) (sym (append-nil x)) ∙ group c q y m (x ++ []) where
  group : {A : Type 0} (c q y m x : List A) → c ++ (q ++ (y ++ (m ++ x))) ≡ (c ++ (q ++ (y ++ m))) ++ x
  group c q y m x = simp append_assoc

module _ (S : Type 0) where
  -- ---- what keeps its place

  abbrev pub LikeExpression : Expression S → Expression S → Type 0
  LikeExpression e x = looseness x ≡ looseness e

  abbrev LikeArgument : Argument S → Argument S → Type 0
  LikeArgument a x = is_named x ≡ is_named a

  record LikeArguments (list x : Arguments S) : Type 0 where
    comma : (trailing : Bool) → comma_words x trailing ≡ comma_words list trailing
    flag : (trailing : Bool) → Flagged trailing list → Flagged trailing x

  record LikeOperands (os x : Operands S) : Type 0 where
    level : row_level x ≡ row_level os
    some : HasOperand os → HasOperand x

  abbrev LikeTails : Tails S → Tails S → Type 0
  LikeTails ts x = HasTail ts → HasTail x

  abbrev LikeAny : {T : Type 0} → T → T → Type 0
  LikeAny t x = ⊤

  -- ---- holes of each kind of thing

  abbrev FitsExpression : Expression S → Hole S (Expression S) → Type 0
  FitsExpression e h = Fits S (Expression S) expression_words LevelExpression LikeExpression e h

  abbrev FitsArgument : Argument S → Bracket → Bool → Hole S (Argument S) → Type 0
  FitsArgument a b seen h = Fits S (Argument S) argument_words (λ x. LevelArgument x b seen) LikeArgument a h

  abbrev FitsArguments : Arguments S → Bool → Bracket → Bool → Hole S (Arguments S) → Type 0
  FitsArguments list trailing b seen h = Fits S (Arguments S) (λ x. arguments_words x trailing) (λ x. LevelArguments x b seen) LikeArguments list h

  abbrev FitsListing : Listing S → Bracket → Hole S (Listing S) → Type 0
  FitsListing l b h = Fits S (Listing S) (λ x. listing_words x b) (λ x. LevelListing x b) LikeAny l h

  abbrev FitsOperands : Operands S → ℕ → Hole S (Operands S) → Type 0
  FitsOperands os n h = Fits S (Operands S) operands_words (λ x. LevelOperands x n) LikeOperands os h

  abbrev FitsTail : Tail S → Hole S (Tail S) → Type 0
  FitsTail t h = Fits S (Tail S) tail_words LevelTail LikeAny t h

  abbrev FitsTails : Tails S → Hole S (Tails S) → Type 0
  FitsTails ts h = Fits S (Tails S) tails_words LevelTails LikeTails ts h

  -- ---- lists

  argument-fits : (a : Argument S) (b : Bracket) (seen : Bool) → Every (FitsArgument a b seen) (argument_children a)
  argument-fits (plain e) b seen = (
    record {
      same = refl;
      put = λ y. sym (append-nil (expression_words y));
      like = λ y. refl;
      inside = λ l. l.2;
      outside = λ l y t ly. (l.0, l.1, ly);
    },
    tt,
  )
  argument-fits (named s x e) b seen = (
    record {
      same = refl;
      put = λ y. ap (λ w. (k.Identifier, x.text) ∷ (mark k.Colon ++ w)) (sym (append-nil (expression_words y)));
      like = λ y. refl;
      inside = λ l. l.1;
      outside = λ l y t ly. (l.0, ly);
    },
    tt,
  )
  argument-fits (pair s e f) b seen = (
    record {
      same = refl;
      put = λ y. refl;
      like = λ y. refl;
      inside = λ l. l.1;
      outside = λ l y t ly. (l.0, ly, l.2);
    },
    (
      record {
        same = refl;
        put = λ y. regroup (expression_words e) (mark k.Colon) (expression_words y);
        like = λ y. refl;
        inside = λ l. l.2;
        outside = λ l y t ly. (l.0, l.1, ly);
      },
      tt,
    ),
  )

  arguments-fit : (list : Arguments S) (trailing : Bool) (b : Bracket) (seen : Bool) → Every (FitsArguments list trailing b seen) (arguments_children list trailing)
  arguments-fit no_arguments trailing b seen = tt
  arguments-fit (argument a more) trailing b seen =
      every-append (FitsArguments (argument a more) trailing b seen) _ _
      (every-around (FitsArgument a b seen) (FitsArguments (argument a more) trailing b seen) [] (comma_words more trailing ++ arguments_words more trailing) (λ x. argument x more)
      (λ h f. around-fits S (Argument S) (Arguments S) argument_words (λ x. arguments_words x trailing) (λ x. LevelArgument x b seen) (λ x. LevelArguments x b seen) LikeArgument LikeArguments
      [] (comma_words more trailing ++ arguments_words more trailing) (λ x. argument x more) a
      (λ z like. refl) (λ z like. record { comma = λ u. refl; flag = λ u g. tt }) (λ l. l.0) (λ l z like lz. (lz, subst (LevelArguments more b) (sym like) l.1)) h f)
      (argument_children a) (argument-fits a b seen))
      (every-around (FitsArguments more trailing b (is_named a)) (FitsArguments (argument a more) trailing b seen) (argument_words a ++ comma_words more trailing) [] (argument a)
      (λ h f. around-fits S (Arguments S) (Arguments S) (λ x. arguments_words x trailing) (λ x. arguments_words x trailing) (λ x. LevelArguments x b (is_named a)) (λ x. LevelArguments x b seen) LikeArguments LikeArguments
      (argument_words a ++ comma_words more trailing) [] (argument a) more
      (λ z like. ap (λ w. argument_words a ++ (w ++ arguments_words z trailing)) (like.comma trailing) ∙ regroup (argument_words a) (comma_words more trailing) (arguments_words z trailing))
      (λ z like. record { comma = λ u. refl; flag = λ u g. tt }) (λ l. l.1) (λ l z like lz. (l.0, lz)) h f)
      (arguments_children more trailing) (arguments-fit more trailing b (is_named a)))

  listing-fits : (l : Listing S) (b : Bracket) → Every (FitsListing l b) (listing_children l b)
  listing-fits (listing s trailing list) b =
      every-around (FitsArguments list trailing b false) (FitsListing (listing s trailing list) b) (mark (opens b)) (mark (closes b)) (listing s trailing)
      (λ h f. around-fits S (Arguments S) (Listing S) (λ x. arguments_words x trailing) (λ x. listing_words x b) (λ x. LevelArguments x b false) (λ x. LevelListing x b) LikeArguments LikeAny
      (mark (opens b)) (mark (closes b)) (listing s trailing) list
      (λ z like. refl) (λ z like. tt) (λ l. l.1) (λ l z like lz. (like.flag trailing l.0, lz)) h f)
      (arguments_children list trailing) (arguments-fit list trailing b false)

  -- ---- operands and tails

  operands-fit : (os : Operands S) (n : ℕ) → Every (FitsOperands os n) (operands_children os)
  operands-fit no_operands n = tt
  operands-fit (operand o e more) n = (
    record {
      same = refl;
      put = λ y. refl;
      like = λ y. record { level = refl; some = λ h. tt };
      inside = λ l. l.2;
      outside = λ l y t ly. (l.0, omega (arith, l.1, t), ly, l.3);
    },
    every-around (FitsOperands more n) (FitsOperands (operand o e more) n) (operator_words o ++ expression_words e) [] (operand o e)
        (λ h f. around-fits S (Operands S) (Operands S) operands_words operands_words (λ x. LevelOperands x n) (λ x. LevelOperands x n) LikeOperands LikeOperands
        (operator_words o ++ expression_words e) [] (operand o e) more
        (λ z like. regroup (operator_words o) (expression_words e) (operands_words z)) (λ z like. record { level = refl; some = λ h. tt }) (λ l. l.3) (λ l z like lz. (l.0, l.1, l.2, lz)) h f)
        (operands_children more) (operands-fit more n),
  )

  tail-fits : (t : Tail S) → Every (FitsTail t) (tail_children t)
  tail-fits (method s x l) =
      every-around (FitsListing l bracket.Round) (FitsTail (method s x l)) (mark k.Dot ++ (k.Identifier, x.text) ∷ []) [] (method s x)
      (λ h f. around-fits S (Listing S) (Tail S) (λ y. listing_words y bracket.Round) tail_words (λ y. LevelListing y bracket.Round) LevelTail LikeAny LikeAny
      (mark k.Dot ++ (k.Identifier, x.text) ∷ []) [] (method s x) l
      (λ z like. regroup (mark k.Dot) ((k.Identifier, x.text) ∷ []) (listing_words z bracket.Round)) (λ z like. tt) (λ l. l) (λ l z like lz. lz) h f)
      (listing_children l bracket.Round) (listing-fits l bracket.Round)
  tail-fits (index s e) = (
    record {
      same = refl;
      put = λ y. refl;
      like = λ y. tt;
      inside = λ l. l;
      outside = λ l y t ly. ly;
    },
    tt,
  )

  tails-fit : (ts : Tails S) → Every (FitsTails ts) (tails_children ts)
  tails-fit no_tails = tt
  tails-fit (tail t more) =
      every-append (FitsTails (tail t more)) _ _
      (every-around (FitsTail t) (FitsTails (tail t more)) [] (tails_words more) (λ x. tail x more)
      (λ h f. around-fits S (Tail S) (Tails S) tail_words tails_words LevelTail LevelTails LikeAny LikeTails
      [] (tails_words more) (λ x. tail x more) t
      (λ z like. refl) (λ z like h. tt) (λ l. l.0) (λ l z like lz. (lz, l.1)) h f)
      (tail_children t) (tail-fits t))
      (every-around (FitsTails more) (FitsTails (tail t more)) (tail_words t) [] (tail t)
      (λ h f. around-fits S (Tails S) (Tails S) tails_words tails_words LevelTails LevelTails LikeTails LikeTails
      (tail_words t) [] (tail t) more
      (λ z like. ap (λ w. tail_words t ++ w) (sym (append-nil (tails_words z)))) (λ z like h. tt) (λ l. l.1) (λ l z like lz. (l.0, lz)) h f)
      (tails_children more) (tails-fit more))

  -- ---- expressions

  lists-fit : (l : Listing S) (b : Bracket) (before : List Word) (make : Listing S → Expression S)
      → ((z : Listing S) → expression_words (make z) ≡ before ++ listing_words z b) → ((z : Listing S) → looseness (make z) ≡ looseness (make l))
      → ((z : Listing S) → LevelExpression (make z) ≡ LevelListing z b) → Every (FitsExpression (make l)) (all_around before [] make (listing_children l b))
  lists-fit l b before make told loose level =
      every-around (FitsListing l b) (FitsExpression (make l)) before [] make
      (λ h f. around-fits S (Listing S) (Expression S) (λ y. listing_words y b) expression_words (λ y. LevelListing y b) LevelExpression LikeAny LikeExpression before [] make l
      (λ z like. told z ∙ ap (λ w. before ++ w) (sym (append-nil (listing_words z b)))) (λ z like. loose z) (λ g. subst (λ A. A) (level l) g) (λ g z like lz. subst (λ A. A) (sym (level z)) lz) h f)
      (listing_children l b) (listing-fits l b)

  pub expression-fits : (e : Expression S) → Every (FitsExpression e) (expression_children e)
  expression-fits (identifier s x) = tt
  expression-fits (boolean s b) = tt
  expression-fits (integer s x) = tt
  expression-fits (string s q x) = tt
  expression-fits (paren s e) = (record { same = refl; put = λ y. refl; like = λ y. refl; inside = λ l. l; outside = λ l y t ly. ly }, tt)
  expression-fits (array l) = lists-fit l bracket.Square [] array (λ z. refl) (λ z. refl) (λ z. refl)
  expression-fits (dictionary l) = lists-fit l bracket.Curly [] dictionary (λ z. refl) (λ z. refl) (λ z. refl)
  expression-fits (call s x l) = lists-fit l bracket.Round ((k.Identifier, x.text) ∷ []) (call s x) (λ z. refl) (λ z. refl) (λ z. refl)
  expression-fits (unary s o e) = (
    record {
      same = refl;
      put = λ y. ap (λ w. mark (unary_kind o) ++ w) (sym (append-nil (expression_words y)));
      like = λ y. refl;
      inside = λ l. l.1;
      outside = λ l y t ly. (omega (arith, l.0, t), ly);
    },
    tt,
  )
  expression-fits (row s e os) = (
    record {
      same = refl;
      put = λ y. refl;
      like = λ y. refl;
      inside = λ l. l.2;
      outside = λ l y t ly. (l.0, omega (arith, l.1, t), ly, l.3);
    },
    every-around (FitsOperands os (row_level os)) (FitsExpression (row s e os)) (expression_words e) [] (row s e)
        (λ h f. around-fits S (Operands S) (Expression S) operands_words expression_words (λ x. LevelOperands x (row_level os)) LevelExpression LikeOperands LikeExpression
        (expression_words e) [] (row s e) os
        (λ z like. ap (λ w. expression_words e ++ w) (sym (append-nil (operands_words z)))) (λ z like. ap (λ n. 2 + n) like.level) (λ l. l.3)
        (λ l z like lz. (like.some l.0, subst (λ n. looseness e < 2 + n) (sym like.level) l.1, l.2, subst (LevelOperands z) (sym like.level) lz)) h f)
        (operands_children os) (operands-fit os (row_level os)),
  )
  expression-fits (postfix s e ts) = (
    record {
      same = refl;
      put = λ y. refl;
      like = λ y. refl;
      inside = λ l. l.2;
      outside = λ l y t ly. (l.0, omega (arith, l.1, t), ly, l.3);
    },
    every-around (FitsTails ts) (FitsExpression (postfix s e ts)) (expression_words e) [] (postfix s e)
        (λ h f. around-fits S (Tails S) (Expression S) tails_words expression_words LevelTails LevelExpression LikeTails LikeExpression
        (expression_words e) [] (postfix s e) ts
        (λ z like. ap (λ w. expression_words e ++ w) (sym (append-nil (tails_words z)))) (λ z like. refl) (λ l. l.3) (λ l z like lz. (like l.0, l.1, l.2, lz)) h f)
        (tails_children ts) (tails-fit ts),
  )
  expression-fits (conditional s c y n) = (
    record {
      same = refl;
      put = λ x. refl;
      like = λ x. refl;
      inside = λ l. l.1;
      outside = λ l x t lx. (omega (arith, l.0, t), lx, l.2, l.3);
    },
    (
      record {
        same = refl;
        put = λ x. sym (append_assoc (expression_words c) (mark k.Question) (expression_words x ++ (mark k.Colon ++ expression_words n)));
        like = λ x. refl;
        inside = λ l. l.2;
        outside = λ l x t lx. (l.0, l.1, lx, l.3);
      },
      (
        record {
          same = refl;
          put = λ x. third (expression_words c) (mark k.Question) (expression_words y) (mark k.Colon) (expression_words x);
          like = λ x. refl;
          inside = λ l. l.3;
          outside = λ l x t lx. (l.0, l.1, l.2, lx);
        },
        tt,
      ),
    ),
  )
