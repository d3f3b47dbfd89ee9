-- The children of an expression stay where they are when another node is put in the place of one.
use Rattle.meson_edit.proofs.Words.{⊤, ◌≡◌, ℕ, Bool, List, [], ◌∷◌, ◌++◌, length, refl, ap, sym, ◌∙◌, arith, append-nil, Word, mark, comma_words}
use Rattle.meson_edit.proofs.Words.{operator_words, expression_words, operands_words, tail_words, tails_words, argument_words, arguments_words, opens, closes}
use Rattle.meson_edit.proofs.Words.{Hole, all_around, expression_in, argument_children, arguments_children, listing_children, operands_children, tail_children}
use Rattle.meson_edit.proofs.Words.{tails_children, expression_children, Expression, identifier, boolean, integer, string, paren, array, dictionary, call}
use Rattle.meson_edit.proofs.Words.{unary, row, postfix, conditional, Operands, no_operands, operand, Tail, method, index, Tails, no_tails, tail, Listing}
use Rattle.meson_edit.proofs.Words.{listing, Argument, plain, named, pair, Arguments, no_arguments, argument, Bracket}
use Rattle.meson_lex.specs.declared.kinds.Kind.TheVariants as k
use Rattle.meson_syntax.specs.declared.operator.Bracket.TheVariants as bracket
use Rattle.meson_edit.proofs.paths.Positions.{EveryAt, every-at-append, length-around, Stays, part-stays}

module _ (S : Type 0) where
  abbrev pub AnyLike : {T : Type 0} → T → Type 0
  AnyLike x = ⊤

  -- a hole that stays, where nothing else is asked of the thing around it
  abbrev pub StaysIn : (T : Type 0) → (T → List (Hole S T)) → ℕ → Hole S T → Type 0
  StaysIn T holes = Stays S T holes AnyLike

  -- the commas of a list do not change with its elements
  abbrev LikeArguments : Arguments S → Bool → Arguments S → Type 0
  LikeArguments list trailing z = comma_words z trailing ≡ comma_words list trailing

  abbrev StaysInArguments : Arguments S → Bool → ℕ → Hole S (Arguments S) → Type 0
  StaysInArguments list trailing = Stays S (Arguments S) (λ x. arguments_children x trailing) (LikeArguments list trailing)

  -- ---- lists

  argument-stays : (a : Argument S) → EveryAt (StaysIn (Argument S) argument_children) 0 (argument_children a)
  argument-stays (plain e) = (record { found = λ y. refl; like = λ y. tt }, tt)
  argument-stays (named s x e) = (record { found = λ y. refl; like = λ y. tt }, tt)
  argument-stays (pair s e f) = (record { found = λ y. refl; like = λ y. tt }, (record { found = λ y. refl; like = λ y. tt }, tt))

  arguments-stay : (list : Arguments S) (trailing : Bool) → EveryAt (StaysInArguments list trailing) 0 (arguments_children list trailing)
  arguments-stay no_arguments trailing = tt
  arguments-stay (argument a more) trailing =
      let Children : Type 0 = List (Hole S (Arguments S)) in
      let ahead : Arguments S → Children = λ z. all_around [] (comma_words z trailing ++ arguments_words z trailing) (λ x. argument x z) (argument_children a) in
      let others : Argument S → Children = λ z. all_around (argument_words z ++ comma_words more trailing) [] (argument z) (arguments_children more trailing) in
      let count = length (argument_children a) in
      every-at-append (StaysInArguments (argument a more) trailing) 0 count (ahead more) (others a)
      (omega (arith, length-around [] (comma_words more trailing ++ arguments_words more trailing) (λ x. argument x more) (argument_children a)))
      (part-stays S (Argument S) (Arguments S) argument_children (λ x. arguments_children x trailing) AnyLike (LikeArguments (argument a more) trailing)
      [] (comma_words more trailing ++ arguments_words more trailing) (λ x. argument x more) 0 (λ z. []) others (λ z like. refl) (λ z. refl) (λ z like. refl)
      0 0 (omega arith) (argument_children a) (argument-stays a))
      (part-stays S (Arguments S) (Arguments S) (λ x. arguments_children x trailing) (λ x. arguments_children x trailing) (LikeArguments more trailing) (LikeArguments (argument a more) trailing)
      (argument_words a ++ comma_words more trailing) [] (argument a) count ahead (λ z. [])
      (λ z like. ap (λ w. ahead z ++ all_around (argument_words a ++ w) [] (argument a) (arguments_children z trailing)) like ∙ ap (λ hs. ahead z ++ hs) (sym (append-nil _)))
      (λ z. length-around [] (comma_words z trailing ++ arguments_words z trailing) (λ x. argument x z) (argument_children a)) (λ z like. refl)
      0 count (omega arith) (arguments_children more trailing) (arguments-stay more trailing))

  listing-stays : (l : Listing S) (b : Bracket) → EveryAt (StaysIn (Listing S) (λ x. listing_children x b)) 0 (listing_children l b)
  listing-stays (listing s trailing list) b =
      part-stays S (Arguments S) (Listing S) (λ x. arguments_children x trailing) (λ x. listing_children x b) (LikeArguments list trailing) AnyLike
      (mark (opens b)) (mark (closes b)) (listing s trailing) 0 (λ z. []) (λ z. []) (λ z like. sym (append-nil _)) (λ z. refl) (λ z like. tt)
      0 0 (omega arith) (arguments_children list trailing) (arguments-stay list trailing)

  -- ---- operands and tails

  operands-stay : (os : Operands S) → EveryAt (StaysIn (Operands S) operands_children) 0 (operands_children os)
  operands-stay no_operands = tt
  operands-stay (operand o e more) = (
    record { found = λ y. refl; like = λ y. tt },
    part-stays S (Operands S) (Operands S) operands_children operands_children AnyLike AnyLike (operator_words o ++ expression_words e) [] (operand o e) 1
        (λ z. expression_in (operator_words o) e (operands_words z) (λ x. operand o x z) ∷ []) (λ z. [])
        (λ z like. ap (λ hs. expression_in (operator_words o) e (operands_words z) (λ x. operand o x z) ∷ hs) (sym (append-nil _))) (λ z. refl) (λ z like. tt)
        0 1 (omega arith) (operands_children more) (operands-stay more),
  )

  tail-stays : (t : Tail S) → EveryAt (StaysIn (Tail S) tail_children) 0 (tail_children t)
  tail-stays (method s x l) =
      part-stays S (Listing S) (Tail S) (λ z. listing_children z bracket.Round) tail_children AnyLike AnyLike (mark k.Dot ++ (k.Identifier, x.text) ∷ []) [] (method s x) 0 (λ z. []) (λ z. [])
      (λ z like. sym (append-nil _)) (λ z. refl) (λ z like. tt)
      0 0 (omega arith) (listing_children l bracket.Round) (listing-stays l bracket.Round)
  tail-stays (index s e) = (record { found = λ y. refl; like = λ y. tt }, tt)

  tails-stay : (ts : Tails S) → EveryAt (StaysIn (Tails S) tails_children) 0 (tails_children ts)
  tails-stay no_tails = tt
  tails-stay (tail t more) =
      let Children : Type 0 = List (Hole S (Tails S)) in
      let ahead : Tails S → Children = λ z. all_around [] (tails_words z) (λ x. tail x z) (tail_children t) in
      let others : Tail S → Children = λ z. all_around (tail_words z) [] (tail z) (tails_children more) in
      let count = length (tail_children t) in
      every-at-append (StaysIn (Tails S) tails_children) 0 count (ahead more) (others t)
      (omega (arith, length-around [] (tails_words more) (λ x. tail x more) (tail_children t)))
      (part-stays S (Tail S) (Tails S) tail_children tails_children AnyLike AnyLike [] (tails_words more) (λ x. tail x more) 0 (λ z. []) others (λ z like. refl) (λ z. refl) (λ z like. tt)
      0 0 (omega arith) (tail_children t) (tail-stays t))
      (part-stays S (Tails S) (Tails S) tails_children tails_children AnyLike AnyLike (tail_words t) [] (tail t) count ahead (λ z. [])
      (λ z like. ap (λ hs. ahead z ++ hs) (sym (append-nil _))) (λ z. length-around [] (tails_words z) (λ x. tail x z) (tail_children t)) (λ z like. tt)
      0 count (omega arith) (tails_children more) (tails-stay more))

  -- ---- expressions

  abbrev StaysInExpression : ℕ → Hole S (Expression S) → Type 0
  StaysInExpression = StaysIn (Expression S) expression_children

  lists-stay : (l : Listing S) (b : Bracket) (before : List Word) (make : Listing S → Expression S) → ((z : Listing S) → expression_children (make z) ≡ all_around before [] make (listing_children z b))
      → EveryAt StaysInExpression 0 (all_around before [] make (listing_children l b))
  lists-stay l b before make are =
      part-stays S (Listing S) (Expression S) (λ z. listing_children z b) expression_children AnyLike AnyLike before [] make 0 (λ z. []) (λ z. [])
      (λ z like. are z ∙ sym (append-nil _)) (λ z. refl) (λ z like. tt)
      0 0 (omega arith) (listing_children l b) (listing-stays l b)

  pub expression-stays : (e : Expression S) → EveryAt StaysInExpression 0 (expression_children e)
  expression-stays (identifier s x) = tt
  expression-stays (boolean s b) = tt
  expression-stays (integer s x) = tt
  expression-stays (string s q x) = tt
  expression-stays (paren s e) = (record { found = λ y. refl; like = λ y. tt }, tt)
  expression-stays (array l) = lists-stay l bracket.Square [] array (λ z. refl)
  expression-stays (dictionary l) = lists-stay l bracket.Curly [] dictionary (λ z. refl)
  expression-stays (call s x l) = lists-stay l bracket.Round ((k.Identifier, x.text) ∷ []) (call s x) (λ z. refl)
  expression-stays (unary s o e) = (record { found = λ y. refl; like = λ y. tt }, tt)
  expression-stays (row s e os) = (
    record { found = λ y. refl; like = λ y. tt },
    part-stays S (Operands S) (Expression S) operands_children expression_children AnyLike AnyLike (expression_words e) [] (row s e) 1
        (λ z. expression_in [] e (operands_words z) (λ x. row s x z) ∷ []) (λ z. [])
        (λ z like. ap (λ hs. expression_in [] e (operands_words z) (λ x. row s x z) ∷ hs) (sym (append-nil _))) (λ z. refl) (λ z like. tt)
        0 1 (omega arith) (operands_children os) (operands-stay os),
  )
  expression-stays (postfix s e ts) = (
    record { found = λ y. refl; like = λ y. tt },
    part-stays S (Tails S) (Expression S) tails_children expression_children AnyLike AnyLike (expression_words e) [] (postfix s e) 1
        (λ z. expression_in [] e (tails_words z) (λ x. postfix s x z) ∷ []) (λ z. [])
        (λ z like. ap (λ hs. expression_in [] e (tails_words z) (λ x. postfix s x z) ∷ hs) (sym (append-nil _))) (λ z. refl) (λ z like. tt)
        0 1 (omega arith) (tails_children ts) (tails-stay ts),
  )
  expression-stays (conditional s c y n) = (
    record { found = λ z. refl; like = λ z. tt },
    (record { found = λ z. refl; like = λ z. tt }, (record { found = λ z. refl; like = λ z. tt }, tt)),
  )
