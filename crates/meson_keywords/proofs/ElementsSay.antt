-- What the elements of a list say, one after another.
use Rattle.meson_keywords.proofs.Words.{rules, ◌≡◌, ℕ, ◌+◌, ◌<◌, ◌≤◌, true, false, List, [], ◌∷◌, ◌++◌, length, get_or, drop, map, Option, Some, None, refl}
use Rattle.meson_keywords.proofs.Words.{sym, ap, ◌∙◌, subst, arith, add-one, append_assoc, Bool, ◌&&◌, ◌||◌, bytes_eq, is_some, reverse, if◌then◌else◌, Ok}
use Rattle.meson_keywords.proofs.Words.{cons_option, filter_map, list_any, drop-cons, reverse-append, bytes_eq-Decides, Span, argument_words, expression_words}
use Rattle.meson_keywords.proofs.Words.{mark, Expression, Argument, dictionary, pair, arg_view, args_view, expr_view, list_view, Arg, Numbered, value_with_name}
use Rattle.meson_keywords.proofs.Words.{GoodArgs, IsFirstNamed, kept_args, one_of, AreGood, plain_view, good_left, good_arg, distinct_by, all_of_kind}
use Rattle.meson_keywords.proofs.Words.{element_text, one_at_most, passing, says, key_text, keys_known, ElementKind}
use Rattle.std.proofs.lemmas.List.Folds.{list_any-append}
use Rattle.std.proofs.lemmas.List.Sorted.{list_any-IsPermutation, IsPermutation-reverse}
use Rattle.meson_lex.specs.declared.kinds.Kind.TheVariants as k
use Rattle.meson_syntax.specs.declared.tree.Arg.TheVariants as arg
use Rattle.meson_syntax.specs.declared.tree.Arg.TheFolds.{the_lemmas}
use Rattle.meson_syntax.specs.declared.tree.Expr.{Expr}
use Rattle.meson_syntax.specs.declared.tree.Expr.TheVariants as expr
use Rattle.meson_syntax.specs.declared.tree.List as rust
use Rattle.meson_calls.specs.Calls as calls
use Rattle.meson_keywords.specs.KeywordEdits.{the_value}

-- ---- views

pub pair_view : (source : List ℕ) (s : Span) (k v : Expr) → arg_view source (arg.Pair s k v) ≡ pair s (expr_view source k) (expr_view source v)
pair_view source s k v = search (rules, the_lemmas)

pub dictionary_view : (source : List ℕ) (l : rust.List) → expr_view source (expr.Dictionary l) ≡ dictionary (list_view source l)
dictionary_view source l = search (rules, the_lemmas)

pub good_plain : (source : List ℕ) (args : List Arg) (i : ℕ) (d : Arg) (e : Expr) → i < length args → GoodArgs source args → get_or args i d ≡ arg.Plain e → AreGood (expression_words (expr_view source e))
good_plain source args i d e within good is = subst (λ a. AreGood (argument_words a)) (ap (arg_view source) is ∙ plain_view source e) (good_arg source args i d within good)

pub good_key : (source : List ℕ) (a : Arg) (s : Span) (key value : Expr) → AreGood (argument_words (arg_view source a)) → a ≡ arg.Pair s key value → AreGood (expression_words (expr_view source key))
good_key source a s key value good is =
    good_left (expression_words (expr_view source key)) (mark k.Colon ++ expression_words (expr_view source value)) (subst (λ x. AreGood (argument_words x)) (ap (arg_view source) is ∙ pair_view source s key value) good)

module _ (source : List ℕ) (args : List Arg) (i : ℕ) (d : Arg) (within : i < length args) where
  pub rest_is : args_view source (drop i args) ≡ arg_view source (get_or args i d) ∷ args_view source (drop (i + 1) args)
  rest_is = ap (args_view source) (drop-cons args i d within ∙ ap (λ n. get_or args i d ∷ drop n args) (sym (add-one i)))

  -- ---- all of a kind

  module _ (k : ElementKind) where
    pub known_more : is_some (element_text k (arg_view source (get_or args i d))) ≡ true → all_of_kind k (args_view source (drop i args)) ≡ all_of_kind k (args_view source (drop (i + 1) args))
    known_more holds = ap (all_of_kind k) rest_is ∙ ap (λ b. b && all_of_kind k (args_view source (drop (i + 1) args))) holds

    pub known_not : is_some (element_text k (arg_view source (get_or args i d))) ≡ false → all_of_kind k (args_view source (drop i args)) ≡ false
    known_not fails = ap (all_of_kind k) rest_is ∙ ap (λ b. b && all_of_kind k (args_view source (drop (i + 1) args))) fails

  -- ---- all with a literal as the key

  pub keys_more : is_some (key_text (arg_view source (get_or args i d))) ≡ true → keys_known (args_view source (drop i args)) ≡ keys_known (args_view source (drop (i + 1) args))
  keys_more holds = ap keys_known rest_is ∙ ap (λ b. b && keys_known (args_view source (drop (i + 1) args))) holds

  pub keys_not : is_some (key_text (arg_view source (get_or args i d))) ≡ false → keys_known (args_view source (drop i args)) ≡ false
  keys_not fails = ap keys_known rest_is ∙ ap (λ b. b && keys_known (args_view source (drop (i + 1) args))) fails

  -- ---- those that pass

  module _ (test : Argument Span → Bool) where
    pub any_here : test (arg_view source (get_or args i d)) ≡ true → list_any test (args_view source (drop i args)) ≡ true
    any_here holds = ap (list_any test) rest_is ∙ ap (λ b. b || list_any test (args_view source (drop (i + 1) args))) holds

    pub any_more : test (arg_view source (get_or args i d)) ≡ false → list_any test (args_view source (drop i args)) ≡ list_any test (args_view source (drop (i + 1) args))
    any_more fails = ap (list_any test) rest_is ∙ ap (λ b. b || list_any test (args_view source (drop (i + 1) args))) fails

    abbrev later : List ℕ
    later = passing test (i + 1) (args_view source (drop (i + 1) args))

    here : (b : Bool) → test (arg_view source (get_or args i d)) ≡ b → passing test i (args_view source (drop i args)) ≡ (if b then i ∷ later else later)
    here b is =
        ap (passing test i) rest_is
        ∙ ap (λ n. if test (arg_view source (get_or args i d)) then i ∷ passing test n (args_view source (drop (i + 1) args)) else passing test n (args_view source (drop (i + 1) args))) (sym (add-one i))
        ∙ ap (λ c. if c then i ∷ later else later) is

    pub passing_here : (all : List ℕ) → test (arg_view source (get_or args i d)) ≡ true → (all ++ i ∷ []) ++ later ≡ all ++ passing test i (args_view source (drop i args))
    passing_here all holds = append_assoc all (i ∷ []) later ∙ ap (λ ns. all ++ ns) (sym (here true holds))

    pub passing_more : (all : List ℕ) → test (arg_view source (get_or args i d)) ≡ false → all ++ later ≡ all ++ passing test i (args_view source (drop i args))
    passing_more all fails = ap (λ ns. all ++ ns) (sym (here false fails))

-- ---- new values

same_truth : (a b : Bool) → (a ≡ true → b ≡ true) → (b ≡ true → a ≡ true) → a ≡ b
same_truth true b there back = sym (there refl)
same_truth false true there back = back refl
same_truth false false there back = refl

pub turned : (x y : List ℕ) → bytes_eq x y ≡ bytes_eq y x
turned x y =
    same_truth (bytes_eq x y) (bytes_eq y x)
    (λ holds. (bytes_eq-Decides y x).1 (sym ((bytes_eq-Decides x y).0 holds)))
    (λ holds. (bytes_eq-Decides x y).1 (sym ((bytes_eq-Decides y x).0 holds)))

one_told : (x : List ℕ) (o : Option (List ℕ)) (ys : List (List ℕ)) → one_of (cons_option o ys) x ≡ (calls.is x o || one_of ys x)
one_told x None ys = refl
one_told x (Some y) ys = ap (λ b. b || one_of ys x) (turned y x)

pub told : (k : ElementKind) (x : List ℕ) (es : List (Argument Span)) → one_of (filter_map (element_text k) es) x ≡ list_any (says k x) es
told k x [] = refl
told k x (e ∷ es) = one_told x (element_text k e) (filter_map (element_text k) es) ∙ ap (λ b. says k x e || b) (told k x es)

module _ (known all : List (List ℕ)) (x : List ℕ) (xs : List (List ℕ)) where
  among : one_of (reverse all ++ known) x ≡ (one_of all x || one_of known x)
  among =
      list_any-append (λ y. bytes_eq y x) (reverse all) known
      ∙ ap (λ b. b || one_of known x) (sym (list_any-IsPermutation (λ y. bytes_eq y x) all (reverse all) (IsPermutation-reverse all)))

  pub seen_same : (one_of all x || one_of known x) ≡ true → all ++ distinct_by (reverse all ++ known) xs ≡ all ++ distinct_by (reverse all ++ known) (x ∷ xs)
  seen_same seen = ap (λ b. all ++ (if b then distinct_by (reverse all ++ known) xs else x ∷ distinct_by (x ∷ (reverse all ++ known)) xs)) (sym (among ∙ seen))

  pub unseen_more : (one_of all x || one_of known x) ≡ false → (all ++ x ∷ []) ++ distinct_by (reverse (all ++ x ∷ []) ++ known) xs ≡ all ++ distinct_by (reverse all ++ known) (x ∷ xs)
  unseen_more unseen =
      ap (λ r. (all ++ x ∷ []) ++ distinct_by (r ++ known) xs) (reverse-append all (x ∷ []))
      ∙ append_assoc all (x ∷ []) (distinct_by (x ∷ (reverse all ++ known)) xs)
      ∙ ap (λ b. all ++ (if b then distinct_by (reverse all ++ known) xs else x ∷ distinct_by (x ∷ (reverse all ++ known)) xs)) (sym (among ∙ unseen))

-- ---- the keyword argument in hand

only_one : (key : List ℕ) (xs : List (Numbered (Expression Span))) (v : Numbered (Expression Span)) (more : List (Numbered (Expression Span))) → xs ≡ v ∷ more → length xs ≤ 1 → one_at_most key xs ≡ Ok (Some v)
only_one key xs v [] is few = ap (one_at_most key) is
only_one key xs v (w ∷ more) is few = absurd (omega (arith, few, ap length is))

pub one_there : (source key : List ℕ) (args : List Arg) (n : ℕ) (first : IsFirstNamed source key args n) (count : ℕ) → count ≡ length (kept_args source (value_with_name key) 0 args) → count ≤ 1
    → (e : Expression Span) → first.value ≡ e → the_value key (args_view source args) ≡ Ok (Some (record { number = n; value = e }))
one_there source key args n first count is few e same =
    only_one key (kept_args source (value_with_name key) 0 args) (record { number = n; value = first.value }) first.more first.is_first (omega (arith, is, few))
    ∙ ap (λ x. Ok (Some (record { number = n; value = x }))) same

-- ---- a list of references from its i-th element on

pub rest_mapped : {X : Type 0} (f : X → List ℕ) (xs : List X) (i : ℕ) (d : X) → i < length xs → d ≡ get_or xs i d → map f (drop i xs) ≡ f d ∷ map f (drop (i + 1) xs)
rest_mapped f xs i d within is =
    ap (map f) (drop-cons xs i d within ∙ ap (λ n. get_or xs i d ∷ drop n xs) (sym (add-one i))) ∙ ap (λ y. f y ∷ map f (drop (i + 1) xs)) (sym is)

or_nothing : (b : Bool) → b || false ≡ b
or_nothing true = refl
or_nothing false = refl

pub lone_told : (x text : List ℕ) (o : Option (List ℕ)) → o ≡ Some text → one_of (text ∷ []) x ≡ calls.is x o
lone_told x text o is = or_nothing (bytes_eq text x) ∙ turned text x ∙ ap (calls.is x) (sym is)
