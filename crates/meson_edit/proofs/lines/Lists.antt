-- Lists of statements of which some became others: where each of them is, their words and their levels.
use Rattle.meson_edit.proofs.Words.{◌≡◌, ℕ, zero, suc, ◌+◌, ◌<◌, ◌≤◌, List, [], ◌∷◌, ◌++◌, length, take, drop, Some, refl, sym, ap, subst, ◌∙◌, append_assoc, arith}
use Rattle.meson_edit.proofs.Words.{new_line, statement_words, statements_words, block_words, LevelStatements, LevelBlock, nth, Nowhere, Plain, Statement}
use Rattle.meson_edit.proofs.Words.{Statements, no_statements, statement, statement_list, statements_of, Block, block, file, some-injective, BlockAt}
use Rattle.meson_edit.proofs.Words.{block_at, all_but, and_last, block_without, file_and_last}
use Rattle.std.proofs.lemmas.List.{take-append-drop, length-take-le, drop-drop}
use Rattle.meson_syntax.proofs.parsing.CompleteFiles.{list-of-statements}
use Rattle.meson_edit.specs.ExchangedLines.{statements_in, exchanged_in, statements_words_of, ExchangedStand, ExchangeRows}

-- ---- the n-th of a list

nth-front : {A : Type 0} (xs ys : List A) (n : ℕ) → n < length xs → nth (xs ++ ys) n ≡ nth xs n
nth-front [] ys n less = absurd (omega (arith, less))
nth-front (x ∷ xs) ys zero less = refl
nth-front (x ∷ xs) ys (suc n) less = nth-front xs ys n (omega (arith, less))

nth-back : {A : Type 0} (xs ys : List A) (n m : ℕ) → m ≡ length xs + n → nth (xs ++ ys) m ≡ nth ys n
nth-back [] ys n m is = let same : m ≡ n = omega (arith, is) in ap (nth ys) same
nth-back (x ∷ xs) ys n zero is = absurd (omega (arith, is))
nth-back (x ∷ xs) ys n (suc m) is = nth-back xs ys n m (omega (arith, is))

nth-take : {A : Type 0} (many : ℕ) (xs : List A) (n : ℕ) → n < many → nth (take many xs) n ≡ nth xs n
nth-take zero xs n less = absurd (omega (arith, less))
nth-take (suc many) [] n less = refl
nth-take (suc many) (x ∷ xs) zero less = refl
nth-take (suc many) (x ∷ xs) (suc n) less = nth-take many xs n (omega (arith, less))

nth-drop : {A : Type 0} (many : ℕ) (xs : List A) (n m : ℕ) → m ≡ many + n → nth (drop many xs) n ≡ nth xs m
nth-drop zero xs n m is = let same : n ≡ m = omega (arith, is) in ap (nth xs) same
nth-drop (suc many) [] n m is = refl
nth-drop (suc many) (x ∷ xs) n zero is = absurd (omega (arith, is))
nth-drop (suc many) (x ∷ xs) n (suc m) is = nth-drop many xs n m (omega (arith, is))

pub exchanged-stand : (from many : ℕ) (new list : List (Statement Nowhere)) → from ≤ length list → ExchangedStand from many new list
exchanged-stand from many new list within =
    let front = take from list in
    let back = drop (from + many) list in
    let long : length front ≡ from = length-take-le from list within in
    record {
      before = λ n less. nth-front front (new ++ back) n (omega (arith, less, long)) ∙ nth-take from list n less;
      others = λ n less. nth-back front (new ++ back) n (from + n) (omega (arith, long)) ∙ nth-front new back n less;
      behind = λ n.
          nth-back front (new ++ back) (length new + n) (from + length new + n) (omega (arith, long)) ∙ nth-back new back n (length new + n) refl
          ∙ nth-drop (from + many) list n (from + many + n) refl;
    }

pub rows-computed : (a b c x y : Statement Nowhere) → ExchangeRows a b c x y
rows-computed a b c x y = record { one = refl; two = refl; come_before = refl; come_last = refl; come_alone = refl; go = refl; all_go = refl }

-- ---- one statement goes or comes

all-but-is : {S : Type 0} (list : Statements S) (n m : ℕ) → m ≡ suc n → all_but list n ≡ statements_of (take n (statement_list list) ++ drop m (statement_list list))
all-but-is no_statements zero m is = ap (λ m. statements_of (drop m [])) (sym is)
all-but-is no_statements (suc n) m is = ap (λ m. statements_of (drop m [])) (sym is)
all-but-is (statement s more) zero m is = sym (list-of-statements more) ∙ ap (λ m. statements_of (drop m (s ∷ statement_list more))) (sym is)
all-but-is (statement s more) (suc n) zero is = absurd (omega (arith, is))
all-but-is (statement s more) (suc n) (suc m) is = ap (statement s) (all-but-is more n m (omega (arith, is)))

pub removal-exchanges : (b : Block Nowhere) (n : ℕ) → block_without b n ≡ exchanged_in n 1 [] b
removal-exchanges (block s list) n = ap (block s) (all-but-is list n (n + 1) (omega arith))

and-last-is : {S : Type 0} (list : Statements S) (x : Statement S) (m : ℕ) → m ≡ length (statement_list list)
    → and_last list x ≡ statements_of (take (length (statement_list list)) (statement_list list) ++ x ∷ drop m (statement_list list))
and-last-is no_statements x m is = ap (λ m. statement x (statements_of (drop m []))) (sym is)
and-last-is (statement s more) x zero is = absurd (omega (arith, is))
and-last-is (statement s more) x (suc m) is = ap (statement s) (and-last-is more x m (omega (arith, is)))

pub appending-exchanges : (t : Plain) (b : BlockAt Nowhere) → block_at t [] ≡ Some b → (x : Statement Nowhere)
    → file_and_last t x ≡ b.back (exchanged_in (length (statements_in b.inside)) 0 (x ∷ []) b.inside)
appending-exchanges (file s (block c list)) b is x =
    ap (λ l. file s (block c l)) (and-last-is list x (length (statement_list list) + 0) (omega arith))
    ∙ ap (λ (b : BlockAt Nowhere). b.back (exchanged_in (length (statements_in b.inside)) 0 (x ∷ []) b.inside)) (some-injective _ _ is)

-- ---- words

pub words-of-append : {S : Type 0} (xs ys : List (Statement S)) → statements_words_of (xs ++ ys) ≡ statements_words_of xs ++ statements_words_of ys
words-of-append [] ys = refl
words-of-append (x ∷ xs) ys =
    ap (λ w. statement_words x ++ (new_line ∷ w)) (words-of-append xs ys)
    ∙ sym (append_assoc (statement_words x) (new_line ∷ statements_words_of xs) (statements_words_of ys))

pub words-of-block : {S : Type 0} (b : Block S) → block_words b ≡ statements_words_of (statements_in b)
words-of-block (block s list) = ap statements_words (sym (list-of-statements list))

-- the words of statements in three parts
pub words-in-three : {S : Type 0} (from many : ℕ) (list : List (Statement S))
    → statements_words_of list ≡ statements_words_of (take from list) ++ (statements_words_of (take many (drop from list)) ++ statements_words_of (drop (from + many) list))
words-in-three from many list =
    ap statements_words_of (sym (take-append-drop from list)) ∙ words-of-append (take from list) (drop from list)
    ∙ ap (λ w. statements_words_of (take from list) ++ w)
    (ap statements_words_of (sym (take-append-drop many (drop from list))) ∙ words-of-append (take many (drop from list)) (drop many (drop from list))
    ∙ ap (λ l. statements_words_of (take many (drop from list)) ++ statements_words_of l) (drop-drop many from list))

pub words-exchanged : {S : Type 0} (from many : ℕ) (new : List (Statement S)) (b : Block S)
    → block_words (exchanged_in from many new b)
    ≡ statements_words_of (take from (statements_in b)) ++ (statements_words_of new ++ statements_words_of (drop (from + many) (statements_in b)))
words-exchanged from many new (block s list) =
    let xs = statement_list list in
    words-of-append (take from xs) (new ++ drop (from + many) xs)
    ∙ ap (λ w. statements_words_of (take from xs) ++ w) (words-of-append new (drop (from + many) xs))

-- ---- levels

abbrev Level : {S : Type 0} → List (Statement S) → Type 0
Level list = LevelStatements (statements_of list)

level-append : {S : Type 0} (xs ys : List (Statement S)) → Level xs → Level ys → Level (xs ++ ys)
level-append [] ys l m = m
level-append (x ∷ xs) ys l m = (l.0, level-append xs ys l.1 m)

level-take : {S : Type 0} (many : ℕ) (xs : List (Statement S)) → Level xs → Level (take many xs)
level-take zero xs l = tt
level-take (suc many) [] l = tt
level-take (suc many) (x ∷ xs) l = (l.0, level-take many xs l.1)

level-drop : {S : Type 0} (many : ℕ) (xs : List (Statement S)) → Level xs → Level (drop many xs)
level-drop zero xs l = l
level-drop (suc many) [] l = tt
level-drop (suc many) (x ∷ xs) l = level-drop many xs l.1

pub exchanged-level : {S : Type 0} (from many : ℕ) (new : List (Statement S)) (b : Block S) → LevelBlock b → LevelStatements (statements_of new)
    → LevelBlock (exchanged_in from many new b)
exchanged-level from many new (block s list) l m =
    let xs = statement_list list in
    let k : Level xs = subst LevelStatements (sym (list-of-statements list)) l in
    level-append (take from xs) (new ++ drop (from + many) xs) (level-take from xs k) (level-append new (drop (from + many) xs) m (level-drop (from + many) xs k))
